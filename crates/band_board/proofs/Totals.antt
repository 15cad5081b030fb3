-- Sums over the views of a board.
use Rattle.std.proofs.Common.{◌≡◌, ◌≢◌, ℕ, zero, suc, ◌+◌, ◌≤◌, List, [], ◌∷◌, ◌++◌, set, sym, refl, ap, ◌∙◌, arith}
use mathlib.Core.Option.{some, some-injective, some-ne-none}
use lib.ListN.{get_elem?}
use Rattle.band_board.specs.declared.view.View.{View}
use Rattle.band_board.specs.BoardRule.{total, list_count, claim_count, Tally}

module _ {A : Type 0} where
  pub set_at : (l : List A) (i : ℕ) (a b : A) → get_elem? l i ≡ some a → get_elem? (set l i b) i ≡ some b
  set_at [] i a b e = absurd (some-ne-none a (sym e))
  set_at (x ∷ xs) zero a b e = refl
  set_at (x ∷ xs) (suc i) a b e = set_at xs i a b e

module _ {R : Type 0} where
  pub total_set : (f : View R → ℕ) (l : List (View R)) (i : ℕ) (a b : View R) → get_elem? l i ≡ some a → total f (set l i b) + f a ≡ total f l + f b
  total_set f [] i a b e = absurd (some-ne-none a (sym e))
  total_set f (x ∷ xs) zero a b e = let q : f x ≡ f a = ap f (some-injective x a e) in omega arith
  total_set f (x ∷ xs) (suc i) a b e = let h = total_set f xs i a b e in omega arith

  pub total_same : (f : View R → ℕ) (l : List (View R)) (i : ℕ) (a b : View R) → get_elem? l i ≡ some a → f b ≡ f a → total f (set l i b) ≡ total f l
  total_same f l i a b e same = let h = total_set f l i a b e in omega arith

  pub total_at : (f : View R → ℕ) (l : List (View R)) (i : ℕ) (a : View R) → get_elem? l i ≡ some a → f a ≤ total f l
  total_at f [] i a e = absurd (some-ne-none a (sym e))
  total_at f (x ∷ xs) zero a e = let q : f x ≡ f a = ap f (some-injective x a e) in omega arith
  total_at f (x ∷ xs) (suc i) a e = let h = total_at f xs i a e in omega arith

  pub total_more : (f : View R → ℕ) (l : List (View R)) (b : View R) → total f (l ++ b ∷ []) ≡ total f l + f b
  total_more f [] b = omega arith
  total_more f (x ∷ xs) b = let h = total_more f xs b in omega arith

  -- a band of which a step does not speak is told of as before
  pub tally_same : (n p q : ℕ) (l : List (View R)) (i : ℕ) (a b : View R) → get_elem? l i ≡ some a → list_count n b ≡ list_count n a
      → claim_count n b ≡ claim_count n a → Tally l n p q → Tally (set l i b) n p q
  tally_same n p q l i a b e x y t = record {
    lists_are = total_same (list_count n) l i a b e x
        ∙ t.lists_are;
    claims_are = total_same (claim_count n) l i a b e y ∙ t.claims_are;
  }

  pub total_two : (f : View R → ℕ) (l : List (View R)) (i j : ℕ) (a b : View R) → i ≢ j → get_elem? l i ≡ some a → get_elem? l j ≡ some b
      → f a + f b ≤ total f l
  total_two f [] i j a b ne e d = absurd (some-ne-none a (sym e))
  total_two f (x ∷ xs) zero zero a b ne e d = absurd (ne refl)
  total_two f (x ∷ xs) zero (suc j) a b ne e d = let q : f x ≡ f a = ap f (some-injective x a e) in let h = total_at f xs j b d in omega arith
  total_two f (x ∷ xs) (suc i) zero a b ne e d = let q : f x ≡ f b = ap f (some-injective x b d) in let h = total_at f xs i a e in omega arith
  total_two f (x ∷ xs) (suc i) (suc j) a b ne e d = let h = total_two f xs i j a b (λ k. ne (ap suc k)) e d in omega arith

  pub total_none : (f : View R → ℕ) (l : List (View R)) → ((j : ℕ) (u : View R) → get_elem? l j ≡ some u → f u ≡ 0) → total f l ≡ 0
  total_none f [] none = refl
  total_none f (x ∷ xs) none = let h = none 0 x refl in let k = total_none f xs (λ j u e. none (suc j) u e) in omega arith

  -- where only one view counts
  pub total_only : (f : View R → ℕ) (l : List (View R)) (i : ℕ) (a : View R) → get_elem? l i ≡ some a → ((j : ℕ) (u : View R) → j ≢ i
      → get_elem? l j ≡ some u → f u ≡ 0) → total f l ≡ f a
  total_only f [] i a e none = absurd (some-ne-none a (sym e))
  total_only f (x ∷ xs) zero a e none = let q : f x ≡ f a = ap f (some-injective x a e) in
      let h = total_none f xs (λ j u d. none (suc j) u (λ k. omega arith) d) in omega arith
  total_only f (x ∷ xs) (suc i) a e none = let q = none 0 x (λ k. omega arith) refl in
      let h = total_only f xs i a e (λ j u ne d. none (suc j) u (λ k. ne (omega arith)) d) in omega arith
