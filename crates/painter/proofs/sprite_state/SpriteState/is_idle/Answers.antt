use Rattle.std.proofs.Common.{◌≡◌, ◌+◌, ◌*◌, true, false, nat_eq, nat_le, refl, ◌∙◌, sym, ap, subst, arith}
use Rattle.std.proofs.lemmas.Bool.Decides.{nat_tests}
use Rattle.painter.specs.code.SpriteState.{SpriteRegisters, IsQuiet}
use Rattle.painter.proofs.Beginning.{idle, none_armed, none_starts, none_there, known_by, not_true}
use Rattle.painter.proofs.sprite_state.SpriteState.is_idle.Goals as goal

pub returns-then-self-eq0-clause-known : goal.returns-then-self-eq0-clause-known
returns-then-self-eq0-clause-known c =
    let unarmed : nat_eq c.self.inside.armed 0 ≡ true = grind (arith, nat_tests) in
    unarmed
    ∙ known_by c.args.h c.args.self.now true true _
    (ap (λ (s : SpriteRegisters). nat_le s.quiet_from (2 * c.args.h)) (sym c.self.view_is) ∙ (grind (arith, nat_tests)))
    (ap (λ (s : SpriteRegisters). nat_eq s.armed 0) (sym c.self.view_is) ∙ unarmed) refl

pub returns-else-self-eq0-clause-known : goal.returns-else-self-eq0-clause-known
returns-else-self-eq0-clause-known c =
    known_by c.args.h c.args.self.now true false _
    (ap (λ (s : SpriteRegisters). nat_le s.quiet_from (2 * c.args.h)) (sym c.self.view_is) ∙ (grind (arith, nat_tests)))
    (ap (λ (s : SpriteRegisters). nat_eq s.armed 0) (sym c.self.view_is) ∙ (grind (arith, nat_tests)))
    (sym c.may_begin.ensures)

pub returns-then-self-eq0-clause-idle : goal.returns-then-self-eq0-clause-idle
returns-then-self-eq0-clause-idle c none =
    let q = c.self.inside.quiet_from in
    let quiet : IsQuiet c.self.inside.quiet_from c.args.self.now.runs =
    subst (λ (s : SpriteRegisters). IsQuiet q s.runs) c.self.view_is c.self.invariant.still in
    let unarmed : c.args.self.now.armed ≡ 0 = ap (λ (s : SpriteRegisters). s.armed) (sym c.self.view_is) ∙ (grind (arith, nat_tests)) in
    idle c.args.h q c.args.self.now quiet (omega (arith, c.requires)) (omega arith) (none_armed (2 * c.args.h) c.args.self.now unarmed)
    (none_armed (2 * c.args.h + 1) c.args.self.now unarmed)

pub returns-else-self-eq0-clause-idle : goal.returns-else-self-eq0-clause-idle
returns-else-self-eq0-clause-idle c none =
    let q = c.self.inside.quiet_from in
    let quiet : IsQuiet c.self.inside.quiet_from c.args.self.now.runs =
    subst (λ (s : SpriteRegisters). IsQuiet q s.runs) c.self.view_is c.self.invariant.still in
    let elsewhere = none_there c.args.h c.args.self.now (sym c.may_begin.ensures ∙ not_true c.may_begin.result none) in
    idle c.args.h q c.args.self.now quiet (omega (arith, c.requires)) (omega arith)
    (none_starts (2 * c.args.h) c.args.h c.args.self.now (omega arith) elsewhere)
    (none_starts (2 * c.args.h + 1) c.args.h c.args.self.now (omega arith) elsewhere)
