use Rattle.std.proofs.Common.{subst, sym}
use Rattle.run_side.proofs.side.RunSideSide.quiet.Goals as goal
use Rattle.run_side.specs.Side.{side_of}
use Rattle.run_side.specs.declared.side.RunSide.{RunSide}
use Rattle.serial_model.proofs.SideLaws.{no_side_is_quiet}
use Rattle.serial_model.specs.Side.{IsQuietSide}

pub returns-in-Nothing-clause-quiet : goal.returns-in-Nothing-clause-quiet
returns-in-Nothing-clause-quiet c =
    subst (λ (side : RunSide). IsQuietSide c.args.beam.now c.args.dmacon c.args.most (side_of side)) (sym c.in-Nothing.is)
    (no_side_is_quiet c.args.beam.now c.args.dmacon c.args.most)
