-- A mark names one table and one number of hands.
use Rattle.std.proofs.Common.{◌≡◌, ℕ, suc, ◌+◌, ◌*◌, ◌<◌, ◌≤◌, List, [], ◌∷◌, ap, refl, arith}
use Rattle.std.proofs.lemmas.Nat.{mul-le}
use Rattle.std.proofs.lemmas.Bool.{cases_order}
use Rattle.std.proofs.Common.{inl, inr}
use Rattle.std.proofs.Math.Nat.{mul-suc, suc-mul}
use Rattle.atomic_table.specs.Seated.{TableId}
use Rattle.crew.specs.Parts.{pair, number_of_list, mark_of}

-- there is no room for another square between the square of s and s more
square_apart : (s t : ℕ) → s < t → s * s + s < t * t
square_apart s t less =
    let wide : suc s * suc s ≤ t * t = mul-le (suc s) (suc s) t t (omega arith) (omega arith) in
    let next : ◌≡◌ {A = ℕ} (suc s * suc s) (suc s * s + suc s) = mul-suc (suc s) s in
    let inner : ◌≡◌ {A = ℕ} (suc s * s) (s * s + s) = suc-mul s s in
    omega arith

same_parts : (s t a c : ℕ) → a ≤ s → c ≤ t → s * s + a ≡ t * t + c → (s ≡ t) × (a ≡ c)
same_parts s t a c low high same = elim (cases_order s t) [
  | inl root ↦ (root, (let square = ap (λ n. n * n) root in omega arith))
  | inr other ↦ absurd (elim other as (λ _. ⊥) [
    | inl less ↦ (let apart = square_apart s t less in absurd (omega arith))
    | inr more ↦ (let apart = square_apart t s more in absurd (omega arith))
  ])
]

-- two numbers are known from their pair
pair_parts : (a b c d : ℕ) → pair a b ≡ pair c d → (a ≡ c) × (b ≡ d)
pair_parts a b c d same =
    let parts = same_parts (a + b) (c + d) a c (omega arith) (omega arith) same in
    let first = parts.1 in
    let sum = parts.0 in
    (first, omega arith)

suc_same : (a b : ℕ) → ◌≡◌ {A = ℕ} (suc a) (suc b) → a ≡ b
suc_same a b same = omega arith

-- a list is known from its number
same_list : (xs ys : List ℕ) → number_of_list xs ≡ number_of_list ys → xs ≡ ys
same_list [] [] same = refl
same_list [] (y ∷ ys) same = let never : ◌≡◌ {A = ℕ} 0 (suc (pair y (number_of_list ys))) = same in absurd (omega arith)
same_list (x ∷ xs) [] same = let never : ◌≡◌ {A = ℕ} (suc (pair x (number_of_list xs))) 0 = same in absurd (omega arith)
same_list (x ∷ xs) (y ∷ ys) same =
    let inner : pair x (number_of_list xs) ≡ pair y (number_of_list ys) = suc_same _ _ same in
    let parts = pair_parts x (number_of_list xs) y (number_of_list ys) inner in
    let rest = same_list xs ys parts.1 in
    λ i. parts.0 i ∷ rest i

-- two crews of one mark have one table and one number of hands
pub same_table : (z z' : TableId) (hands hands' : ℕ) → mark_of z hands ≡ mark_of z' hands' → (z ≡ z') × (hands ≡ hands')
unfolding mark_of
same_table z z' hands hands' same =
    let p0 = pair_parts hands _ hands' _ same in
    let p1 = pair_parts z.words _ z'.words _ p0.1 in
    let p2 = pair_parts z.slots _ z'.slots _ p1.1 in
    let p3 = pair_parts z.views_name _ z'.views_name _ p2.1 in
    let p4 = pair_parts z.atom _ z'.atom _ p3.1 in
    let p5 = pair_parts z.block _ z'.block _ p4.1 in
    let p6 = pair_parts z.offset _ z'.offset _ p5.1 in
    let names = same_list z.slot_names z'.slot_names p6.1 in
    ((λ i. record { words = p1.0 i; slots = p2.0 i; views_name = p3.0 i; atom = p4.0 i; block = p5.0 i; offset = p6.0 i; slot_names = names i }), p0.0)
