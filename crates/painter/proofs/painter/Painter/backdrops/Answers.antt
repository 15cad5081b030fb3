use Rattle.std.proofs.Common.{◌∙◌, ◌+◌, ◌*◌, ℕ, arith}
use Rattle.painter.specs.code.Overlay.{quiet_collisions}
use Rattle.painter.proofs.Showing.{unset_clock, border_clock}
use Rattle.painter.proofs.Overlays.{inside_same, same_bits, clock_outside}
use Rattle.painter.proofs.Clocks.{gathered_already}
use Rattle.painter.proofs.painter.Painter.backdrops.Goals as goal

pub returns-then-idle-eq0-clause-known : goal.returns-then-idle-eq0-clause-known
returns-then-idle-eq0-clause-known c = record {
  idle = λ k lt. absurd (omega (arith, lt));
  pixels = λ k held q lt stands. absurd (omega (arith, lt));
}

pub returns-then-idle-eq0-clause-clx : goal.returns-then-idle-eq0-clause-clx
returns-then-idle-eq0-clause-clx c p stands =
    gathered_already (λ (k : ℕ). quiet_collisions c.args.v (c.args.h + k) p) c.args.clx 0 (λ k lt. absurd (omega (arith, lt))) 0 (omega arith)

pub returns-then-has_gathered-clause-known : goal.returns-then-has_gathered-clause-known
returns-then-has_gathered-clause-known c =
    let blank = c.is_blank_from.ensures.blank c.if-is_blank_from.true in
    record {
      idle = λ k lt. c.requires.idle k lt;
      pixels = λ k held q lt stands.
          unset_clock c.args.v (c.args.h + k) (record c.args.self.now { held = held }) q stands
          (omega (arith, lt, c.requires.place)) (λ x from. blank x (omega (arith, from)));
    }

pub returns-then-has_gathered-clause-clx : goal.returns-then-has_gathered-clause-clx
returns-then-has_gathered-clause-clx c p stands =
    let blank = c.is_blank_from.ensures.blank c.if-is_blank_from.true in
    gathered_already (λ (k : ℕ). quiet_collisions c.args.v (c.args.h + k) p) c.args.clx c.args.idle
    (λ k lt. c.has_gathered.ensures c.if-has_gathered.true c.args.v (c.args.h + k) p
    (omega (arith, lt, c.requires.place)) stands (λ x from. blank x (omega (arith, from))))
    c.args.idle (omega arith)

pub returns-clause-known : goal.returns-clause-known
returns-clause-known c = record {
  idle = λ k lt. c.requires.idle k (omega (arith, lt, c.clocks_outside.ensures.most));
  pixels = λ k held q lt stands.
      border_clock c.args.v (c.args.h + k) (record c.args.self.now { held = held }) q stands
      (c.clocks_outside.ensures.first k lt) (c.clocks_outside.ensures.second k lt);
}

pub returns-clause-clx : goal.returns-clause-clx
returns-clause-clx c p stands =
    gathered_already (λ (k : ℕ). quiet_collisions c.args.v (c.args.h + k) p) c.args.clx c.clocks_outside.result
    (λ k lt. same_bits c.args.clx _ (clock_outside c.args.v (c.args.h + k) p
    (inside_same c.args.v (2 * (c.args.h + k)) c.args.self.now p stands ∙ c.clocks_outside.ensures.first k lt)
    (inside_same c.args.v (2 * (c.args.h + k) + 1) c.args.self.now p stands ∙ c.clocks_outside.ensures.second k lt)))
    c.clocks_outside.result (omega arith)
