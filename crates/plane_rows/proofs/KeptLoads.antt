-- The bytes of a row, looked up in loads.
use Rattle.std.proofs.Common.{◌≡◌, ℕ, ◌+◌, ◌*◌, ◌/◌, ◌%◌, ◌≤◌, ◌<◌, Bool, true, false, nat_eq, nat_lt, List, length, slice_index, refl, ◌∙◌, arith}
use Rattle.std.proofs.Math.ListN.{set, get_or-eq_default}
use Rattle.std.proofs.lemmas.List.{get_or-set_same, get_or-set_other}
use Rattle.std.proofs.lemmas.Bool.Decides.{nat_tests}
use Rattle.planes.specs.declared.load.Load.{Load}
use Rattle.planes.specs.PlaneBit.{plane_bit, all_bits}
use Rattle.planes.proofs.Searching.{plane_bit-lt}
use Rattle.plane_rows.specs.Line.{three_planes}

-- every second one of six bits
odd_bits : (a b c d e f : ℕ) → a < 2 → b < 2 → c < 2 → d < 2 → e < 2 → f < 2 →
    let bits = a + 2 * b + 4 * c + 8 * d + 16 * e + 32 * f in
    bits / 1 % 2 + 4 * (bits / 1 / 4 % 2) + 16 * (bits / 1 / 16 % 2) ≡ a + 4 * c + 16 * e
odd_bits a b c d e f ha hb hc hd he hf = omega (arith, ha, hb, hc, hd, he, hf)

even_bits : (a b c d e f : ℕ) → a < 2 → b < 2 → c < 2 → d < 2 → e < 2 → f < 2 →
    let bits = a + 2 * b + 4 * c + 8 * d + 16 * e + 32 * f in
    bits / 2 % 2 + 4 * (bits / 2 / 4 % 2) + 16 * (bits / 2 / 16 % 2) ≡ b + 4 * d + 16 * f
even_bits a b c d e f ha hb hc hd he hf = omega (arith, ha, hb, hc, hd, he, hf)

pub odd_of : (x : ℕ) (loads : List Load) →
    let bits = all_bits x 6 loads in bits / 1 % 2 + 4 * (bits / 1 / 4 % 2) + 16 * (bits / 1 / 16 % 2) ≡ three_planes 1 x loads
unfolding all_bits three_planes
odd_of x loads =
    odd_bits (plane_bit 1 x loads) (plane_bit 2 x loads) (plane_bit 3 x loads) (plane_bit 4 x loads) (plane_bit 5 x loads) (plane_bit 6 x loads)
    (plane_bit-lt 1 x loads) (plane_bit-lt 2 x loads) (plane_bit-lt 3 x loads) (plane_bit-lt 4 x loads) (plane_bit-lt 5 x loads)
    (plane_bit-lt 6 x loads)

pub even_of : (x : ℕ) (loads : List Load) →
    let bits = all_bits x 6 loads in bits / 2 % 2 + 4 * (bits / 2 / 4 % 2) + 16 * (bits / 2 / 16 % 2) ≡ three_planes 2 x loads
unfolding all_bits three_planes
even_of x loads =
    even_bits (plane_bit 1 x loads) (plane_bit 2 x loads) (plane_bit 3 x loads) (plane_bit 4 x loads) (plane_bit 5 x loads) (plane_bit 6 x loads)
    (plane_bit-lt 1 x loads) (plane_bit-lt 2 x loads) (plane_bit-lt 3 x loads) (plane_bit-lt 4 x loads) (plane_bit-lt 5 x loads)
    (plane_bit-lt 6 x loads)

parity_by : (first x : ℕ) (loads : List Load) → 1 ≤ first → first ≤ 2 → (b : Bool) → nat_eq first 1 ≡ b →
    let bits = all_bits x 6 loads / first in bits % 2 + 4 * (bits / 4 % 2) + 16 * (bits / 16 % 2) ≡ three_planes first x loads
parity_by first x loads least most true is =
    let one : first ≡ 1 = grind (arith, nat_tests) in
    rw one (odd_of x loads)
parity_by first x loads least most false is =
    let two : first ≡ 2 = grind (arith, nat_tests) in
    rw two (even_of x loads)

pub parity_of : (first x : ℕ) (loads : List Load) → 1 ≤ first → first ≤ 2 →
    let bits = all_bits x 6 loads / first in bits % 2 + 4 * (bits / 4 % 2) + 16 * (bits / 16 % 2) ≡ three_planes first x loads
parity_of first x loads least most = parity_by first x loads least most (nat_eq first 1) refl

-- one byte more is written
written_by : (f : ℕ → ℕ) (now : List ℕ) (at value k : ℕ) → at < length now → value ≡ f at → (k < at → slice_index now k ≡ f k) →
    k < at + 1 → (b : Bool) → nat_eq k at ≡ b → slice_index (set now at value) k ≡ f k
written_by f now at value k within is before h true same =
    let here : k ≡ at = grind (arith, nat_tests) in
    rw here (get_or-set_same now at value 0 within ∙ is)
written_by f now at value k within is before h false other =
    let differ : k ≡ at → ⊥ = λ e. grind (arith, nat_tests) in
    let lt : k < at = grind (arith, nat_tests) in
    get_or-set_other now at k value 0 differ ∙ before lt

pub one_written : (f : ℕ → ℕ) (now : List ℕ) (at value k : ℕ) → at < length now → value ≡ f at → (k < at → slice_index now k ≡ f k) →
    k < at + 1 → slice_index (set now at value) k ≡ f k
one_written f now at value k within is before h = written_by f now at value k within is before h (nat_eq k at) refl

-- the bytes are few, and past them is none
pub three_few : (p x : ℕ) (loads : List Load) → three_planes p x loads ≤ 21
unfolding three_planes
three_few p x loads = omega (arith, plane_bit-lt p x loads, plane_bit-lt (p + 2) x loads, plane_bit-lt (p + 4) x loads)

row_few_by : (p : ℕ) (row : List ℕ) (loads : List Load) → length row ≡ 1024 → ((x : ℕ) → x < 1024 → slice_index row x ≡ three_planes p x loads) →
    (x : ℕ) (b : Bool) → nat_lt x 1024 ≡ b → slice_index row x ≤ 21
row_few_by p row loads long shows x true is =
    let within : x < 1024 = grind (arith, nat_tests) in
    omega (arith, shows x within, three_few p x loads)
row_few_by p row loads long shows x false is =
    let past : 1024 ≤ x = grind (arith, nat_tests) in
    let none : slice_index row x ≡ 0 = get_or-eq_default row 0 {n = x} (omega (arith, long)) in
    omega (arith, none)

pub row_few : (p : ℕ) (row : List ℕ) (loads : List Load) → length row ≡ 1024 → ((x : ℕ) → x < 1024 → slice_index row x ≡ three_planes p x loads) →
    (x : ℕ) → slice_index row x ≤ 21
row_few p row loads long shows x = row_few_by p row loads long shows x (nat_lt x 1024) refl

pub row_ends : (row : List ℕ) → length row ≡ 1024 → (x : ℕ) → 1024 ≤ x → slice_index row x ≡ 0
row_ends row long x past = get_or-eq_default row 0 {n = x} (omega (arith, long))
