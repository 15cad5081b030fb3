use Rattle.std.proofs.Common.{◌≡◌, ◌≢◌, ◌≤◌, ◌<◌, ◌+◌, ◌%◌, ℕ, List, Bool, true, false, nat_eq, slice_index, refl, ap, sym, ◌∙◌, arith}
use Rattle.std.proofs.lemmas.Bool.Decides.{nat_tests}
use Rattle.painter.specs.code.SpriteState.{SpriteRegisters}
use Rattle.painter.proofs.sprite_state.SpriteState.clocks_before_start.Goals as goal

one_more : (f : ℕ → ℕ) (h n now next : ℕ) → next ≤ now → ((sprite k : ℕ) → sprite < n → k < now → f sprite ≢ h + k) →
    ((k : ℕ) → k < next → f n ≢ h + k) → (sprite k : ℕ) → sprite < n + 1 → k < next → (b : Bool) → nat_eq sprite n ≡ b → f sprite ≢ h + k
one_more f h n now next le before here sprite k lt within true is =
    let same : sprite ≡ n = grind (arith, nat_tests) in
    λ e. here k within (ap f (sym same) ∙ e)
one_more f h n now next le before here sprite k lt within false is =
    let less : sprite < n = grind (arith, nat_tests) in
    before sprite k less (omega arith)

pub loop-sprite-init : goal.loop-sprite-init
loop-sprite-init c = record { most = omega arith; before = λ sprite k lt within. absurd (omega (arith, lt)) }

pub loop-sprite-preserved : goal.loop-sprite-preserved
loop-sprite-preserved c = record {
  most = omega (arith, c.clocks_before-least.ensures.most, c.loop-sprite.invariant.most);
  before = λ sprite k lt within.
      let same : c.self.inside.pos ≡ c.args.self.now.pos = ap (λ (s : SpriteRegisters). s.pos) c.self.view_is in
      one_more (λ (n : ℕ). slice_index c.args.self.now.pos n % 256) c.args.h c.loop-sprite.sprite c.loop-sprite.least c.clocks_before-least.result
      c.clocks_before-least.ensures.most c.loop-sprite.invariant.before
      (λ j below e. c.clocks_before-least.ensures.before j below (ap (λ (l : List ℕ). slice_index l c.loop-sprite.sprite % 256) same ∙ e))
      sprite k lt within (nat_eq sprite c.loop-sprite.sprite) refl;
}

pub returns-clause-before : goal.returns-clause-before
returns-clause-before c sprite k lt within = c.loop-sprite.invariant.before sprite k (omega (arith, lt, c.loop-sprite-test.false)) within
