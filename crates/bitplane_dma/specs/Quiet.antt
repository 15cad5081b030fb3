-- Clocks at which the planes need no slot.
use Rattle.std.specs.Prelude.{◌≡◌, ◌≤◌, ◌<◌, ℕ, suc, ◌+◌, Option, Some, None}
use Rattle.ocs_base.specs.declared.beam.Beam.{Beam}
use Rattle.serial_model.specs.PlaneFetch.{fetched_plane}
use Rattle.serial_model.specs.Registers.{Registers}
use Rattle.quiet_clocks.specs.Plan.{unit_on}

-- no plane is fetched k clocks on, where the line's last unit began at `last`, while the registers stay
abbrev pub FetchesNothing : ℕ → Beam → Registers → Option ℕ → Type 0
FetchesNothing k b registers last = fetched_plane (b.h + k) registers (unit_on (suc k) b registers last) ≡ None

-- the line's last unit began at `start`, and runs at clock h
pub record IsUnitAt (start h : ℕ) (last : Option ℕ) : Type 0 where
  pub began : last ≡ Some start
  pub low : start ≤ h
  pub high : h < start + 8
