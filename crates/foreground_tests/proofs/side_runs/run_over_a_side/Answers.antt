-- Where the side asks, and its image of eight bytes, are in chip memory of either size.
use Rattle.std.proofs.Common.{◌≡◌, ◌==◌, ℕ, Bool, true, false, nat_le, if◌then◌else◌, refl, arith}
use Rattle.ocs_base.specs.AddressOf.{addr_at}
use Rattle.ocs_base.specs.Sizes.{bytes_of}
use Rattle.ocs_base.specs.declared.chip_size.ChipSize.{ChipSize}
use Rattle.ocs_base.specs.declared.chip_size.ChipSize.TheVariants.{Kib512, Mib1}
use Rattle.serial_model.specs.declared.bus.SideAsk.TheVariants.{Nothing, Disk, Audio}
use Rattle.serial_model.specs.Side.{FitsSide, IsBelow}
use Rattle.foreground_tests.specs.Recorder.{recorder, written_then}
use Rattle.foreground_tests.proofs.side_runs.run_over_a_side.Goals as goal

below : (size : ChipSize) (stores reads : Bool) (written : ℕ)
    → IsBelow (bytes_of size) (if stores then Disk (addr_at Kib512 64) written else if reads then Audio 0 (addr_at Kib512 64) else Nothing)
below Kib512 true reads written = omega arith
below Kib512 false true written = omega arith
below Kib512 false false written = tt
below Mib1 true reads written = omega arith
below Mib1 false true written = omega arith
below Mib1 false false written = tt

recorder_fits : (size : ChipSize) (written given : ℕ) → FitsSide (bytes_of size) (recorder written given)
recorder_fits size written given later b dmacon = below size (b.h == 7) (b.h == 13) (written_then later written)

pub over-requires-clause-side : goal.over-requires-clause-side
over-requires-clause-side c = recorder_fits _ c.fresh_side.result.written c.fresh_side.result.given
