use Rattle.slot_log.proofs.RecordLaws.{tell}
use Rattle.slot_log.proofs.record.records_tell.Goals as goal

pub returns : goal.returns
returns c = tell
