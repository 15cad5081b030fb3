use Rattle.slots_run.proofs.SlotRunLaws.{goes_to_line}
use Rattle.slots_run.proofs.slot_run.SlotRun.go_to_line.Goals as goal

pub returns : goal.returns
returns c =
    let ran = c.in_ok-run_to.ensures in
    let so = ran.clocks c.requires.stands.first c.requires.stands.stands in
    goes_to_line _ _ c.requires.stands (record { first = so.until; stands = so.stands; fresh = ran.fresh }) ran.run _ _ _ c.requires.running
    c.next_line-limit.ensures ran.clocks ran.come
