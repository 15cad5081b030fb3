-- Clocks at which the Copper does nothing, whether or not its DMA is on.
use Rattle.std.specs.Prelude.{◌≡◌, ℕ, ◌⊎◌, ◌%◌, ◌==◌, Bool, true, false}
use Rattle.ocs_base.specs.declared.beam.Beam.{Beam}
use Rattle.serial_model.specs.Copper.{is_stopped, comparison_holds}
use Rattle.serial_model.specs.declared.copper.CopperPhase.TheVariants.{Waiting}
use Rattle.serial_model.specs.declared.copper.CopperState.{CopperState}

-- the clock is odd, or the comparison of a WAIT with these words does not hold
abbrev pub HoldsNot : Beam → Bool → ℕ → ℕ → Type 0
HoldsNot b busy first second = ((b.h % 2 == 0) ≡ false) ⊎ (comparison_holds b busy first second ≡ false)

-- the clock is odd, or the Copper is stopped, or it waits and its comparison does not hold
abbrev pub DoesNothing : Beam → Bool → CopperState → Type 0
DoesNothing b busy c =
    ((b.h % 2 == 0) ≡ false)
    ⊎ ((is_stopped c ≡ true) ⊎ ((c.phase ≡ Waiting) × (comparison_holds b busy c.first c.second ≡ false)))
