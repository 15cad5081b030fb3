use Rattle.std.proofs.Common.{subst}
use Rattle.disk_dma.specs.Disk.{DiskValue, disk_side}
use Rattle.disk_dma.proofs.QuietLaws.{quiet_empty, quiet_behind}
use Rattle.disk_dma.proofs.disk.Disk.still.Goals as goal
use Rattle.serial_model.specs.Side.{IsQuietSide}

pub returns-then-is_empty-clause-quiet : goal.returns-then-is_empty-clause-quiet
returns-then-is_empty-clause-quiet c =
    subst (λ (d : DiskValue). IsQuietSide c.args.beam.now c.args.dmacon c.before_arrival-clocks.result (disk_side d)) c.self.view_is
    (quiet_empty c.args.beam.now c.args.dmacon c.before_arrival-clocks.result _ c.if-self.false c.before_arrival-clocks.ensures.none
    (c.is_empty.ensures c.if-is_empty.true))

pub returns-clause-quiet : goal.returns-clause-quiet
returns-clause-quiet c =
    subst (λ (d : DiskValue). IsQuietSide c.args.beam.now c.args.dmacon c.before_arrival-clocks.result (disk_side d)) c.self.view_is
    (quiet_behind c.args.beam.now c.args.dmacon c.before_arrival-clocks.result _ c.if-self.false c.before_arrival-clocks.ensures.none
    c.if-beam-le-LAST_CLOCK.false)
