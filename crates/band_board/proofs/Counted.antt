-- How often numbers stand in lists.
use Rattle.std.proofs.Common.{◌≡◌, ◌≢◌, ℕ, zero, suc, ◌+◌, ◌<◌, ◌≤◌, ◌==◌, Bool, true, false, List, []}
use Rattle.std.proofs.Common.{◌∷◌, ◌++◌, length, sym, refl, ap, ◌∙◌, eq-eqb, ne_eqb, lt_of_not-le, arith}
use mathlib.Core.Logic.{dite}
use native.Mathlib.Decide.{ℕ_discrete}
use Rattle.std.specs.Prelude.{Option, Some, None}
use Rattle.band_board.specs.Steps.{band_count, HoldsEachOnce}
use Rattle.band_board.specs.BoardRule.{one_if, times, times_joined, joined_count}

pub at_most_one : (b : Bool) → one_if b ≤ 1
at_most_one true = omega arith
at_most_one false = omega arith

pub one_if_same : (a b : ℕ) → a ≡ b → one_if (a == b) ≡ 1
one_if_same a b e = ap one_if (eq-eqb a b e)

pub one_if_other : (a b : ℕ) → a ≢ b → one_if (a == b) ≡ 0
one_if_other a b ne = ap one_if (ne_eqb a b ne)

abbrev code : Option ℕ → ℕ
code None = 0
code (Some n) = suc n

pub some_is : (a b : ℕ) → Some a ≡ Some b → a ≡ b
some_is a b e = let h : ◌≡◌ {A = ℕ} (suc a) (suc b) = ap code e in omega arith

pub none_no_some : (a : ℕ) → None ≡ Some a → ⊥
none_no_some a e = let h : ◌≡◌ {A = ℕ} 0 (suc a) = ap code e in absurd (omega arith)

pub times_more : (n m : ℕ) (xs : List ℕ) → times n (xs ++ m ∷ []) ≡ times n xs + one_if (m == n)
times_more n m [] = omega arith
times_more n m (x ∷ xs) = let h = times_more n m xs in omega arith

-- the sum of f below n
abbrev pub sum_below : ℕ → (ℕ → ℕ) → ℕ
sum_below zero f = 0
sum_below (suc n) f = f n + sum_below n f

pub sum_below_plus : (n : ℕ) (f g : ℕ → ℕ) → sum_below n (λ m. f m + g m) ≡ sum_below n f + sum_below n g
sum_below_plus zero f g = refl
sum_below_plus (suc n) f g = let h = sum_below_plus n f g in omega arith

pub sum_below_none : (n : ℕ) (f : ℕ → ℕ) → ((m : ℕ) → m < n → f m ≡ 0) → sum_below n f ≡ 0
sum_below_none zero f e = refl
sum_below_none (suc n) f e = let h = sum_below_none n f (λ m l. e m (omega arith)) in let k = e n (omega arith) in omega arith

pub sum_below_most : (n : ℕ) (f : ℕ → ℕ) → ((m : ℕ) → m < n → f m ≤ 1) → sum_below n f ≤ n
sum_below_most zero f e = omega arith
sum_below_most (suc n) f e = let h = sum_below_most n f (λ m l. e m (omega arith)) in let k = e n (omega arith) in omega arith

pub sum_below_one : (x n : ℕ) → x < n → sum_below n (λ m. one_if (x == m)) ≡ 1
sum_below_one x zero l = absurd (omega arith)
sum_below_one x (suc n) l = dite (ℕ_discrete x n)
    (λ e. let here = one_if_same x n e in let below = sum_below_none n (λ m. one_if (x == m)) (λ m k. one_if_other x m (λ d. omega arith)) in omega arith)
    (λ ne. let here = one_if_other x n ne in let below = sum_below_one x n (omega arith) in omega arith)

-- a list of numbers below n is as long as they stand in it
pub length_counted : (n : ℕ) (xs : List ℕ) → ((m : ℕ) → n ≤ m → times m xs ≡ 0) → sum_below n (λ m. times m xs) ≡ length xs
length_counted n [] e = sum_below_none n (λ m. 0) (λ m l. refl)
length_counted n (x ∷ xs) e = let here = one_if_same x x refl in let low : x < n = lt_of_not-le (λ le. let h = e x le in absurd (omega arith)) in
    let rest = length_counted n xs (λ m le. let h = e m le in omega arith) in let one = sum_below_one x n low in
    let both = sum_below_plus n (λ m. one_if (x == m)) (λ m. times m xs) in omega arith

-- and so no longer than n, where none stands twice
pub length_below : (n : ℕ) (xs : List ℕ) → ((m : ℕ) → times m xs ≤ 1) → ((m : ℕ) → n ≤ m → times m xs ≡ 0) → length xs ≤ n
length_below n xs once none = let h = length_counted n xs none in let k = sum_below_most n (λ m. times m xs) (λ m l. once m) in omega arith

-- where n numbers of at most 1 come to n, each is 1
pub sum_full : (n : ℕ) (f : ℕ → ℕ) → ((m : ℕ) → m < n → f m ≤ 1) → sum_below n f ≡ n → (m : ℕ) → m < n → f m ≡ 1
sum_full zero f most full m l = absurd (omega arith)
sum_full (suc n) f most full m l = let top = most n (omega arith) in let others = sum_below_most n f (λ k b. most k (omega arith)) in
    dite (ℕ_discrete m n) (λ e. let h : f n ≡ 1 = omega arith in ap f e ∙ h) (λ ne. sum_full n f (λ k b. most k (omega arith)) (omega arith) m (omega arith))

-- the numbers of joined hands
abbrev pub numbers_of : List (ℕ × List ℕ) → List ℕ
numbers_of [] = []
numbers_of (x ∷ xs) = x.0 ∷ numbers_of xs

pub joined_times : (k : ℕ) (xs : List (ℕ × List ℕ)) → times k (numbers_of xs) ≡ joined_count k xs
joined_times k [] = refl
joined_times k (x ∷ xs) = let h = joined_times k xs in omega arith

pub length-numbers_of : (xs : List (ℕ × List ℕ)) → length (numbers_of xs) ≡ length xs
length-numbers_of [] = refl
length-numbers_of (x ∷ xs) = ap suc (length-numbers_of xs)

-- where each of n numbers is that of at most one joined hand, and n hands were joined, each is that of one
pub each_joined : (n : ℕ) (xs : List (ℕ × List ℕ)) → ((k : ℕ) → k < n → joined_count k xs ≤ 1) → ((k : ℕ) → n ≤ k → joined_count k xs ≡ 0)
    → length xs ≡ n → (k : ℕ) → k < n → joined_count k xs ≡ 1
each_joined n xs most none all k l = sym (joined_times k xs) ∙ sum_full n (λ m. times m (numbers_of xs)) (λ m b. let h = most m b in
    let e = joined_times m xs in omega arith)
    (length_counted n (numbers_of xs) (λ m le. joined_times m xs ∙ none m le) ∙ length-numbers_of xs ∙ all) k l

pub times_joined_more : (n hand : ℕ) (bands : List ℕ) (xs : List (ℕ × List ℕ)) → times_joined n (xs ++ (hand, bands) ∷ []) ≡ times_joined n xs + times n bands
times_joined_more n hand bands [] = omega arith
times_joined_more n hand bands (x ∷ xs) = let h = times_joined_more n hand bands xs in omega arith

pub joined_count_more : (k hand : ℕ) (bands : List ℕ) (xs : List (ℕ × List ℕ))
    → joined_count k (xs ++ (hand, bands) ∷ []) ≡ joined_count k xs + one_if (hand == k)
joined_count_more k hand bands [] = omega arith
joined_count_more k hand bands (x ∷ xs) = let h = joined_count_more k hand bands xs in omega arith

sum_below_ones : (n : ℕ) (f : ℕ → ℕ) → ((m : ℕ) → m < n → f m ≡ 1) → sum_below n f ≡ n
sum_below_ones zero f one = refl
sum_below_ones (suc n) f one = let h = sum_below_ones n f (λ m l. one m (omega arith)) in let k = one n (omega arith) in omega arith

joined_counted : (n : ℕ) (joined : List (ℕ × List ℕ)) → ((m : ℕ) → n ≤ m → times_joined m joined ≡ 0)
    → sum_below n (λ m. times_joined m joined) ≡ band_count joined
joined_counted n [] none = sum_below_none n (λ m. 0) (λ m l. refl)
joined_counted n (x ∷ xs) none = let first = length_counted n x.1 (λ m le. let h = none m le in omega arith) in
    let rest = joined_counted n xs (λ m le. let h = none m le in omega arith) in
    let both = sum_below_plus n (λ m. times m x.1) (λ m. times_joined m xs) in omega arith

-- lists that hold each number below n once hold n numbers in all
pub band_count-each_once : (n : ℕ) (joined : List (ℕ × List ℕ)) → HoldsEachOnce n joined → band_count joined ≡ n
band_count-each_once n joined each = sym (joined_counted n joined each.1) ∙ sum_below_ones n (λ m. times_joined m joined) each.0
