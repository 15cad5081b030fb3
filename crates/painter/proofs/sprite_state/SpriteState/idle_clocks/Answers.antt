use Rattle.std.proofs.Common.{◌≡◌, ◌+◌, ◌*◌, ◌∙◌, sym, ap, subst, arith}
use Rattle.painter.specs.code.SpriteState.{SpriteRegisters, IsQuiet}
use Rattle.painter.proofs.Beginning.{idle, none_armed, none_starts}
use Rattle.painter.proofs.sprite_state.SpriteState.idle_clocks.Goals as goal

pub returns-then-self-eq0-clause-idle : goal.returns-then-self-eq0-clause-idle
returns-then-self-eq0-clause-idle c k lt =
    let q = c.self.inside.quiet_from in
    let quiet : IsQuiet c.self.inside.quiet_from c.args.self.now.runs =
    subst (λ (s : SpriteRegisters). IsQuiet q s.runs) c.self.view_is c.self.invariant.still in
    let unarmed : c.args.self.now.armed ≡ 0 = ap (λ (s : SpriteRegisters). s.armed) (sym c.self.view_is) ∙ (grind arith) in
    idle (c.args.h + k) q c.args.self.now quiet (omega (arith, c.requires)) (omega (arith, lt))
    (none_armed (2 * (c.args.h + k)) c.args.self.now unarmed) (none_armed (2 * (c.args.h + k) + 1) c.args.self.now unarmed)

pub returns-clause-idle : goal.returns-clause-idle
returns-clause-idle c k lt =
    let q = c.self.inside.quiet_from in
    let quiet : IsQuiet c.self.inside.quiet_from c.args.self.now.runs =
    subst (λ (s : SpriteRegisters). IsQuiet q s.runs) c.self.view_is c.self.invariant.still in
    idle (c.args.h + k) q c.args.self.now quiet (omega (arith, c.requires)) (omega (arith, lt))
    (none_starts (2 * (c.args.h + k)) (c.args.h + k) c.args.self.now (omega arith) (λ n few. c.clocks_before_start.ensures.before n k few lt))
    (none_starts (2 * (c.args.h + k) + 1) (c.args.h + k) c.args.self.now (omega arith) (λ n few. c.clocks_before_start.ensures.before n k few lt))
