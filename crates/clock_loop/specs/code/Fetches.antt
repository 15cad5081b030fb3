-- Clocks at which everybody but the bitplanes rests, made one behind the other: at each of them a plane is fetched at most.
use Rattle.std.specs.Prelude.{◌≡◌, ℕ, zero, suc, ◌+◌, Option, Some, None}
use Rattle.ocs_base.specs.declared.beam.Beam.{Beam}
use Rattle.serial_model.specs.declared.fetch.PlaneAsk.{PlaneAsk}
use Rattle.serial_model.specs.declared.picture.Touch.TheVariants as T
use Rattle.quiet_clocks.specs.FetchClocks.{Fetching, fetching_on, ask_of_fetching}
use Rattle.serial_model.specs.Beam.{later_beam}
use Rattle.chip_set.specs.Quiet.{fetching_in, with_fetching, HaveFetched}
use Rattle.picture_log.specs.Log.{with_access_touch}
use Rattle.picture_log.specs.declared.log.Log.{Log}
use Rattle.machine.specs.declared.machine.Machine.{Machine}

-- the fetch of clock c, where there is one, is an event at once
abbrev pub with_fetch : ℕ → Option PlaneAsk → Log → Log
with_fetch c None log = log
with_fetch c (Some ask) log = with_access_touch c (Some (T.Plane ask.plane ask.at)) log

-- the fetches of n clocks from clock c on, with the beam there
unfoldable pub with_fetches : ℕ → Beam → ℕ → Fetching → Log → Log
with_fetches zero b c f log = log
with_fetches (suc n) b c f log = with_fetch (c + n) (ask_of_fetching (later_beam n b) (fetching_on n b f)) (with_fetches n b c f log)

-- the machine n clocks on of which only the planes' part was made
abbrev pub clocks_of_planes : {S : Type 0} → ℕ → Machine S → Machine S
clocks_of_planes n m = record m {
  t = m.t + n;
  beam = later_beam n m.beam;
  chips = with_fetching (fetching_on n m.beam (fetching_in m.chips)) m.chips;
}

-- n clocks were made whole: everybody else has waited
pub record HasFetched {S : Type 0} (n : ℕ) (old new : Machine S) : Type 0 where
  pub chips : HaveFetched old.beam old.t n old.chips new.chips
  pub same : new ≡ record old { t = old.t + n; beam = later_beam n old.beam; chips = new.chips }
