use Rattle.std.proofs.Common.{◌≡◌, ◌<◌, ◌+◌, ◌∙◌, ℕ, Bool, true, false, nat_eq, List, length, slice_index, refl, arith}
use Rattle.std.proofs.Math.ListN.{set, length-set}
use Rattle.std.proofs.lemmas.List.{get_or-set_same, get_or-set_other}
use Rattle.std.proofs.lemmas.Bool.Decides.{nat_tests}
use Rattle.painter.specs.Inks.{first_hidden}
use Rattle.painter.proofs.names.hidden_by.Goals as goal

written : (f : ℕ → ℕ) (now : List ℕ) (at value k : ℕ) → at < length now → value ≡ f at → (k < at → slice_index now k ≡ f k) →
    k < at + 1 → (b : Bool) → nat_eq k at ≡ b → slice_index (set now at value) k ≡ f k
written f now at value k within is before h true same =
    let here : k ≡ at = grind (arith, nat_tests) in
    rw here (get_or-set_same now at value 0 within ∙ is)
written f now at value k within is before h false other =
    let differ : k ≡ at → ⊥ = λ e. grind (arith, nat_tests) in
    let lt : k < at = grind (arith, nat_tests) in
    get_or-set_other now at k value 0 differ ∙ before lt

pub loop-bits-preserved : goal.loop-bits-preserved
loop-bits-preserved c =
    let long : length c.loop-bits.hidden ≡ 64 = c.loop-bits.invariant.0 in (
      length-set c.loop-bits.hidden c.loop-bits.bits c.hidden_of.result ∙ long,
      λ k h. written (first_hidden c.args.con0 c.args.con2) c.loop-bits.hidden c.loop-bits.bits c.hidden_of.result k (omega arith)
          c.hidden_of.ensures (c.loop-bits.invariant.1 k) h (nat_eq k c.loop-bits.bits) refl,
    )
