use Rattle.std.proofs.Common.{◌≡◌, subst, sym}
use Rattle.run_side.proofs.side.RunSideSide.skip.Goals as goal
use Rattle.run_side.specs.Side.{side_of}
use Rattle.run_side.specs.declared.side.RunSide.{RunSide}
use Rattle.serial_model.proofs.SideLaws.{no_side_stays}
use Rattle.serial_model.specs.Side.{later_side}

pub returns-in-Nothing : goal.returns-in-Nothing
returns-in-Nothing c =
    subst (λ (side : RunSide). side_of side ≡ later_side c.args.clocks c.args.beam.now c.args.dmacon (side_of side)) (sym c.in-Nothing.is)
    (sym (no_side_stays c.args.clocks c.args.beam.now c.args.dmacon))
