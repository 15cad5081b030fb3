use Rattle.std.proofs.Common.{rules, sym, subst, ap}
use Rattle.machine.specs.Machine.{HasAskedOf}
use Rattle.serial_bands.specs.Access.{access_state}
use Rattle.foreground.specs.Fore.{ForeValue, over}
use Rattle.foreground.proofs.MadeLaws.{stands_at_read, asked_after_read, makes_with_read_of, part_of_read}
use Rattle.foreground.proofs.RefusalLaws.{no_value}
use Rattle.foreground.proofs.fore.Fore.read_clxdat_by.Goals as goal

pub gather_clxdat-requires : goal.gather_clxdat-requires
gather_clxdat-requires g c = stands_at_read _ c.args.ask.now _ c.requires.can.asked c.requires.read c.requires.can.logged

pub answer-requires-clause-asked : goal.answer-requires-clause-asked
answer-requires-clause-asked g c = (
  access_state (over g.S.Side.seen c.args.self.now).run c.args.self.now.machine.t,
  c.requires.can.asked.asks,
  subst (λ (f : ForeValue). HasAskedOf f.machine (access_state (over g.S.Side.seen c.args.self.now).run c.args.self.now.machine.t))
      (sym (ap (over g.S.Side.seen) c.self.view_is))
      (asked_after_read _ _ _ _ c.args.ask.now _ _ _ _ (c.in_ok-clx.ensures.bits c.requires.can.logged.0 c.requires.can.logged.1) c.requires.can.asked),
)

pub returns-in_err-answer-clause-access : goal.returns-in_err-answer-clause-access
returns-in_err-answer-clause-access g c =
    let part = part_of_read _ _ _ _ _ _ _ _ c.in_ok-clx.ensures.bits c.in_err-answer.ensures.refused in
    search (rules, part)

pub returns-clause-access : goal.returns-clause-access
returns-clause-access g c =
    let makes = makes_with_read_of _ _ _ _ c.args.ask.now _ _ _ _ _ _ _ (ap (over g.S.Side.seen) c.self.view_is) c.in_ok-clx.ensures.bits
    c.requires.can.asked c.requires.read c.in_ok-answer.ensures.access c.answer.ensures.place c.in_ok-answer.ensures.memory in
    search (rules, makes)

pub returns-clause-word : goal.returns-clause-word
returns-clause-word g c =
    let read = c.in_ok-clx.ensures.bits c.requires.can.logged.0 c.requires.can.logged.1 in
    c.register_word-word.ensures (access_state (over g.S.Side.seen c.args.self.now).run c.args.self.now.machine.t)
    (subst (λ (f : ForeValue). HasAskedOf f.machine (access_state (over g.S.Side.seen c.args.self.now).run c.args.self.now.machine.t))
    (sym (ap (over g.S.Side.seen) c.self.view_is)) (asked_after_read _ _ _ _ c.args.ask.now _ _ _ _ read c.requires.can.asked))
    c.requires.can.asked.asks (λ is. read.bits)

pub returns-in_err-clx-clause-word : goal.returns-in_err-clx-clause-word
returns-in_err-clx-clause-word g c = no_value c.from_residual.result _ c.from_residual.ensures.0

pub returns-in_err-answer-clause-word : goal.returns-in_err-answer-clause-word
returns-in_err-answer-clause-word g c = no_value c.from_residual-in_err-answer.result _ c.from_residual-in_err-answer.ensures.0
