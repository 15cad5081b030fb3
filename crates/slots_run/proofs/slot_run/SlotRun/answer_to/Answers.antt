use Rattle.slots_run.proofs.SlotRunLaws.{stands_read}
use Rattle.slots_run.proofs.slot_run.SlotRun.answer_to.Goals as goal

-- a word that is read changes the count of reads alone
pub returns-in-Some-clause-stands : goal.returns-in-Some-clause-stands
returns-in-Some-clause-stands c = stands_read c.args.self.now c.word.new.self 1 c.requires c.word.ensures.same
