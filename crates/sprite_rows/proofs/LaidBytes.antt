-- Values laid over a row one by one.
use Rattle.std.proofs.Common.{◌≡◌, ℕ, ◌+◌, ◌-◌, ◌<◌, ◌≤◌, Bool, true, false, ◌&&◌, nat_eq, nat_lt}
use Rattle.std.proofs.Common.{nat_le, List, length, get_or, slice_index, refl, sym, ◌∙◌, ap, arith}
use Rattle.std.specs.Bool.{if◌then◌else◌}
use Rattle.std.proofs.Math.ListN.{set}
use Rattle.std.proofs.lemmas.List.{get_or-set_same, get_or-set_other}
use Rattle.std.proofs.lemmas.Bool.Decides.{nat_tests}
use Rattle.sprite_rows.specs.Laid.{with_value, laid_byte}

-- whether a place is among the first so many from a position on
abbrev pub is_among : ℕ → ℕ → ℕ → Bool
is_among x count k = nat_le x k && nat_lt k (x + count)

-- no value is laid yet
pub laid_none : (put : ℕ → ℕ → ℕ) (row : List ℕ) (x : ℕ) (values : List ℕ) (k : ℕ) → slice_index row k ≡ laid_byte put row x values 0 k
laid_none put row x values k =
    let none : is_among x 0 k ≡ false = grind (arith, nat_tests) in
    rw none refl

laid_by : (put : ℕ → ℕ → ℕ) (old now values : List ℕ) (x n value k : ℕ) → x + n < length now →
    ((j : ℕ) → slice_index now j ≡ laid_byte put old x values n j) → value ≡ put (slice_index now (x + n)) (slice_index values n) →
    (b : Bool) → nat_eq k (x + n) ≡ b → slice_index (set now (x + n) value) k ≡ laid_byte put old x values (n + 1) k
laid_by put old now values x n value k lt so is true here =
    let at : k ≡ x + n = grind (arith, nat_tests) in
    let yet : is_among x n (x + n) ≡ false = grind (arith, nat_tests) in
    let now_is : slice_index now (x + n) ≡ slice_index old (x + n) = so (x + n) ∙ (rw yet refl) in
    let place : x + n - x ≡ n = omega arith in
    let among : is_among x (n + 1) (x + n) ≡ true = grind (arith, nat_tests) in
    let want : laid_byte put old x values (n + 1) (x + n) ≡ put (slice_index old (x + n)) (slice_index values n) = rw (among, place) refl in
    ap (λ (j : ℕ). get_or (set now (x + n) value) j 0) at
    ∙ get_or-set_same now (x + n) value 0 lt
    ∙ is
    ∙ ap (λ (m : ℕ). put m (slice_index values n)) now_is
    ∙ sym want
    ∙ ap (laid_byte put old x values (n + 1)) (sym at)
laid_by put old now values x n value k lt so is false here =
    let other : k ≡ x + n → ⊥ = λ e. grind (arith, nat_tests) in
    let same : is_among x (n + 1) k ≡ is_among x n k = grind (arith, nat_tests) in
    get_or-set_other now (x + n) k value 0 other ∙ so k
    ∙ ap (λ (t : Bool). if t then put (slice_index old k) (slice_index values (k - x)) else slice_index old k) (sym same)

-- one value more
pub laid_more : (put : ℕ → ℕ → ℕ) (old now values : List ℕ) (x n value k : ℕ) → x + n < length now →
    ((j : ℕ) → slice_index now j ≡ laid_byte put old x values n j) → value ≡ put (slice_index now (x + n)) (slice_index values n) →
    slice_index (set now (x + n) value) k ≡ laid_byte put old x values (n + 1) k
laid_more put old now values x n value k lt so is = laid_by put old now values x n value k lt so is (nat_eq k (x + n)) refl

-- a value laid over a byte of two keeps it one
with_value-le : (is_even : Bool) (byte value : ℕ) → byte ≤ 15 → value ≤ 3 → with_value is_even byte value ≤ 15
with_value-le true byte value few small = omega arith
with_value-le false byte value few small = omega arith

either-le : (b : Bool) (m n : ℕ) → m ≤ 15 → n ≤ 15 → (if b then m else n) ≤ 15
either-le true m n hm hn = hm
either-le false m n hm hn = hn

pub laid-le : (is_even : Bool) (row : List ℕ) (x : ℕ) (values : List ℕ) (n k : ℕ) → slice_index row k ≤ 15 →
    slice_index values (k - x) ≤ 3 → laid_byte (with_value is_even) row x values n k ≤ 15
laid-le is_even row x values n k few small =
    either-le (is_among x n k) (with_value is_even (slice_index row k) (slice_index values (k - x))) (slice_index row k)
    (with_value-le is_even (slice_index row k) (slice_index values (k - x)) few small) few
