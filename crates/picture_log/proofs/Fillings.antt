-- Fillings one by one: which are fetches, what is found, and the count of reads.
use Rattle.std.proofs.Common.{◌≡◌, ◌≤◌, ◌<◌, ℕ, zero, suc, ◌+◌, ◌-◌, ◌^◌, min, Bool, true, false, if◌then◌else◌, List}
use Rattle.std.proofs.Common.{[], ◌∷◌, ◌++◌, length, get_or, set, take, drop, map, count_by, refl, ap, ◌∙◌, arith}
use Rattle.std.proofs.lemmas.List.Sums.{sum_by-append, sum_by_more, get_or-le-sum_by}
use Rattle.mem_versions.specs.Chip.{ChipValue, after_reads}
use Rattle.serial_bands.specs.declared.shadow.Filling.{Filling}
use Rattle.serial_bands.specs.Shadows.{IsOfRange, AreOfRange}

-- one more word of a list is written over with what is made of it
pub map_into : {X Y : Type 0} (f : X → Y) (xs : List X) (ys : List Y) (i : ℕ) (d : X) → i < length xs → length ys ≡ length xs
    → set (map f (take i xs) ++ drop i ys) i (f (get_or xs i d)) ≡ map f (take (suc i) xs) ++ drop (suc i) ys
map_into f [] ys i d within same = absurd (omega (arith, within))
map_into f (x ∷ xs) [] i d within same = absurd (omega (arith, same))
map_into f (x ∷ xs) (y ∷ ys) zero d within same = refl
map_into f (x ∷ xs) (y ∷ ys) (suc i) d within same =
    ap (λ l. f x ∷ l) (map_into f xs ys i d (omega (arith, within)) (omega (arith, same)))

-- those behind are as they were
pub untouched : {X : Type 0} (f : X → X) (xs : List X) (i : ℕ) (d : X) → i < length xs
    → get_or (map f (take i xs) ++ drop i xs) i d ≡ get_or xs i d
untouched f [] i d within = absurd (omega (arith, within))
untouched f (x ∷ xs) zero d within = refl
untouched f (x ∷ xs) (suc i) d within = untouched f xs i d (omega (arith, within))

pub range_at : (from to : ℕ) (fillings : List Filling) (i : ℕ) (d : Filling) → i < length fillings → AreOfRange from to fillings
    → IsOfRange from to (get_or fillings i d)
range_at from to [] i d within are = absurd (omega (arith, within))
range_at from to (filling ∷ fillings) zero d within are = are.0
range_at from to (filling ∷ fillings) (suc i) d within are = range_at from to fillings i d (omega (arith, within)) are.1

-- a count of one more
abbrev pub one_if : Bool → ℕ
one_if counted = if counted then 1 else 0

pub count_more : {X : Type 0} (p : X → Bool) (xs : List X) (i : ℕ) (d : X) → i < length xs
    → count_by p (take (i + 1) xs) ≡ count_by p (take i xs) + one_if (p (get_or xs i d))
count_more p xs i d within = sum_by_more (λ x. one_if (p x)) xs i d within

not_one : (counted : Bool) → one_if counted ≤ 0 → counted ≡ false
not_one true least = absurd (omega (arith, least))
not_one false least = refl

pub none_counted : {X : Type 0} (p : X → Bool) (xs : List X) (i : ℕ) (d : X) → i < length xs → count_by p xs ≡ 0
    → p (get_or xs i d) ≡ false
none_counted p xs i d within none =
    let least : one_if (p (get_or xs i d)) ≤ count_by p xs = get_or-le-sum_by (λ x. one_if (p x)) xs i d within in
    not_one (p (get_or xs i d)) (omega (arith, least, none))

-- reads that follow one another
min_twice : (r a b m : ℕ) → min (min (r + a) m + b) m ≡ min (r + (a + b)) m
min_twice r a b m = omega arith

pub reads_twice : (chip : ChipValue) (a b : ℕ) → after_reads (after_reads chip a) b ≡ after_reads chip (a + b)
reads_twice chip a b = ap (λ r. record chip { reads = r }) (min_twice chip.reads a b (2 ^ 64 - 1))

no_more : (r m : ℕ) → r ≤ m → r ≡ min (r + 0) m
no_more r m most = omega (arith, most)

pub no_reads : (chip : ChipValue) → chip.reads ≤ 2 ^ 64 - 1 → chip ≡ after_reads chip 0
no_reads chip most = ap (λ r. record chip { reads = r }) (no_more chip.reads (2 ^ 64 - 1) most)

pub count_of_three : {X : Type 0} (p : X → Bool) (xs ys zs : List X)
    → count_by p (xs ++ (ys ++ zs)) ≡ count_by p xs + (count_by p ys + count_by p zs)
count_of_three {X} p xs ys zs =
    let count : List X → ℕ = count_by p in
    sum_by-append (λ x. one_if (p x)) xs (ys ++ zs)
    ∙ ap (λ n. count xs + n) (sum_by-append (λ x. one_if (p x)) ys zs)
