use Rattle.std.proofs.Common.{sym, subst, ap, ◌∙◌}
use Rattle.std.proofs.lemmas.Bool.{false≢true}
use Rattle.machine.specs.Machine.{HasAskedOf}
use Rattle.serial_bands.specs.Access.{access_state}
use Rattle.foreground.specs.Fore.{ForeValue, over}
use Rattle.foreground.proofs.RefusalLaws.{no_value}
use Rattle.foreground.proofs.fore.Fore.access_with_word.Goals as goal

pub returns-clause-word : goal.returns-clause-word
returns-clause-word g c =
    c.register_word-word.ensures (access_state (over g.S.Side.seen c.args.self.now).run c.args.self.now.machine.t)
    (subst (λ (f : ForeValue). HasAskedOf f.machine (access_state (over g.S.Side.seen c.args.self.now).run c.args.self.now.machine.t))
    (sym (ap (over g.S.Side.seen) c.self.view_is)) c.requires.can.asked.asked)
    c.requires.can.asked.asks (λ is. absurd (false≢true (sym c.if-is_clx_ask.false ∙ c.is_clx_ask.ensures ∙ is)))

pub is_clx_ask-requires : goal.is_clx_ask-requires
is_clx_ask-requires g c = tt

pub read_clxdat_by-requires-clause-can : goal.read_clxdat_by-requires-clause-can
read_clxdat_by-requires-clause-can g c = c.requires.can

pub returns-then-is_clx_ask-clause-access : goal.returns-then-is_clx_ask-clause-access
returns-then-is_clx_ask-clause-access g c = c.read_clxdat_by.ensures.access

pub returns-then-is_clx_ask-clause-word : goal.returns-then-is_clx_ask-clause-word
returns-then-is_clx_ask-clause-word g c = c.read_clxdat_by.ensures.word

pub is_fetch_ask-requires : goal.is_fetch_ask-requires
is_fetch_ask-requires g c = tt

pub make_fetch-requires-clause-can : goal.make_fetch-requires-clause-can
make_fetch-requires-clause-can g c = (_, c.requires.can)

pub make_fetch-requires-clause-room : goal.make_fetch-requires-clause-room
make_fetch-requires-clause-room g c = c.requires.room

pub returns-in_err-make_fetch-clause-word : goal.returns-in_err-make_fetch-clause-word
returns-in_err-make_fetch-clause-word g c = no_value c.from_residual.result _ c.from_residual.ensures.0

pub access_by-requires-clause-can : goal.access_by-requires-clause-can
access_by-requires-clause-can g c = c.requires.can

pub access_by-requires-clause-room : goal.access_by-requires-clause-room
access_by-requires-clause-room g c = c.requires.room

pub returns-in_err-access_by-clause-word : goal.returns-in_err-access_by-clause-word
returns-in_err-access_by-clause-word g c = no_value c.from_residual-in_err-access_by.result _ c.from_residual-in_err-access_by.ensures.0
