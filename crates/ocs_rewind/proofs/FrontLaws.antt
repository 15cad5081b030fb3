-- Laws of filters that pass the front of a list.
use Rattle.std.proofs.Common.{◌≡◌, ℕ, ◌+◌, ◌<◌, ◌≤◌, Bool, true, false, cond, List, [], ◌∷◌, ◌++◌, length}
use Rattle.std.proofs.Common.{All, take, drop, get_or, refl, sym, ap, ◌∙◌, arith, length-take, length-drop}
use Rattle.std.specs.List.{filter}
use Rattle.std.proofs.lemmas.List.{take-append-drop, get_or-take, get_or-drop, append-nil}
use Rattle.std.proofs.lemmas.List.Elements.{All-head, All-tail, filter-append}

pub filter-all : {X : Type 0} (p : X → Bool) (xs : List X) → All (λ x. p x ≡ true) xs → filter p xs ≡ xs
filter-all p [] each = refl
filter-all p (x ∷ xs) each =
    ap (λ (b : Bool). cond b (x ∷ filter p xs) (filter p xs)) (All-head (λ x. p x ≡ true) x xs each)
    ∙ ap (λ ys. x ∷ ys) (filter-all p xs (All-tail (λ x. p x ≡ true) x xs each))

filter-none : {X : Type 0} (p : X → Bool) (xs : List X) → All (λ x. p x ≡ false) xs → filter p xs ≡ []
filter-none p [] each = refl
filter-none p (x ∷ xs) each =
    ap (λ (b : Bool). cond b (x ∷ filter p xs) (filter p xs)) (All-head (λ x. p x ≡ false) x xs each)
    ∙ filter-none p xs (All-tail (λ x. p x ≡ false) x xs each)

-- what holds of the elements below an index holds of all before it
All-front : {X : Type 0} (P : X → Type 0) (xs : List X) (n : ℕ) → ((k : ℕ) (d : X) → k < n → k < length xs → P (get_or xs k d)) → All P (take n xs)
All-front P xs n each k d within =
    let inside : k < n = omega (arith, length-take n xs) in
    let whole : k < length xs = omega (arith, length-take n xs) in
    rw (get_or-take n xs k d inside) (each k d inside whole)

-- what holds of the elements from an index on holds of all behind it
All-back : {X : Type 0} (P : X → Type 0) (xs : List X) (n : ℕ) → ((k : ℕ) (d : X) → n ≤ k → k < length xs → P (get_or xs k d)) → All P (drop n xs)
All-back P xs n each k d within =
    let whole : n + k < length xs = omega (arith, length-drop n xs) in
    rw (get_or-drop n xs k d) (each (n + k) d (omega arith) whole)

-- the first elements, where these pass and no other does
pub filter-front : {X : Type 0} (p : X → Bool) (xs : List X) (n : ℕ) → ((k : ℕ) (d : X) → k < n → k < length xs → p (get_or xs k d) ≡ true) →
    ((k : ℕ) (d : X) → n ≤ k → k < length xs → p (get_or xs k d) ≡ false) → take n xs ≡ filter p xs
filter-front p xs n passes fails =
    sym (ap (filter p) (sym (take-append-drop n xs)) ∙ filter-append p (take n xs) (drop n xs)
    ∙ ap (λ ys. ys ++ filter p (drop n xs)) (filter-all p (take n xs) (All-front (λ x. p x ≡ true) xs n passes))
    ∙ ap (λ ys. take n xs ++ ys) (filter-none p (drop n xs) (All-back (λ x. p x ≡ false) xs n fails))
    ∙ append-nil (take n xs))
