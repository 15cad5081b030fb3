use Rattle.std.proofs.Common.{ap}
use Rattle.std.proofs.lemmas.Result.{on_ok_weaker}
use Rattle.foreground.specs.Fore.{over}
use Rattle.foreground.proofs.ScriptLaws.{lines_same}
use Rattle.foreground.proofs.MadeLaws.{some_state_asked, lines_of_access, makes_quietly_of, quiet_part, on_err}
use Rattle.machine.proofs.BusLaws.{fetch_reads_no_bits}
use Rattle.foreground.proofs.fore.Fore.make_fetch.Goals as goal

pub answer_fetch-requires-clause-asked : goal.answer_fetch-requires-clause-asked
answer_fetch-requires-clause-asked g c = some_state_asked _ _ c.args.ask.now (ap (over g.S.Side.seen) c.self.view_is) c.requires.can.1.asked

pub returns-in_err-made-clause-part : goal.returns-in_err-made-clause-part
returns-in_err-made-clause-part g c =
    on_err c.from_residual.result (λ seen. quiet_part (over g.S.Side.seen c.args.self.now) seen _ _ (lines_same _ _ c.in_err-made.ensures.refused))

pub returns-clause-makes : goal.returns-clause-makes
returns-clause-makes g c =
    on_ok_weaker c.note_access.result (λ notes. λ seen. makes_quietly_of _ _ c.args.ask.now _ _ _ _ seen _ _ (ap (over g.S.Side.seen) c.self.view_is)
    c.requires.can.1.asked (fetch_reads_no_bits c.args.ask.now c.requires.fetch) c.in_ok-made.ensures.access c.in_ok-made.ensures.able
    c.in_ok-made.ensures.place c.in_ok-made.ensures.memory
    c.touch_of.ensures.touch c.touch_of.ensures.range notes)
    c.note_access.ensures

pub returns-clause-part : goal.returns-clause-part
returns-clause-part g c =
    on_err c.note_access.result (λ seen. quiet_part (over g.S.Side.seen c.args.self.now) seen _ _ (lines_of_access _ _ _ c.args.ask.now _ _ _
    (ap (over g.S.Side.seen) c.self.view_is) c.requires.can.1.asked (fetch_reads_no_bits c.args.ask.now c.requires.fetch) c.in_ok-made.ensures.access))
