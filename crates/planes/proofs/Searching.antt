-- The last load that has started, looked for from the end of the list.
use Rattle.std.proofs.Common.{◌≡◌, ℕ, ◌+◌, ◌-◌, ◌*◌, ◌/◌, ◌%◌, ◌^◌, ◌≤◌, ◌<◌, zero, bit_and, List, [], ◌∷◌, ◌++◌, Bool, true}
use Rattle.std.proofs.Common.{false, Option, None, Some, length, take, drop, get_or, sym, ◌∙◌, ap, nat_le, suc, refl, arith}
use Rattle.std.specs.Bool.{if◌then◌else◌}
use Rattle.std.specs.Option.{option_map, unwrap_or}
use Rattle.std.specs.Prelude.{slice_index}
use Rattle.std.proofs.lemmas.Nat.Bits.{and_high}
use Rattle.std.proofs.Math.Pow.{pow_mono}
use Rattle.std.proofs.Math.Seq.{drop-cons}
use Rattle.std.proofs.lemmas.List.{take-append-drop}
use Rattle.std.proofs.lemmas.Bool.Decides.{nat_tests}
use Rattle.planes.specs.declared.load.Load.{Load}
use Rattle.planes.specs.PlaneBit.{start_of, shown_load, word_bit, load_bit, plane_bit, all_bits}
use Rattle.planes.proofs.Showing.{later, shown-append, one_there}

at_place : (loads : List Load) (i : ℕ) (d e : Load) → i < length loads → e ≡ get_or loads i d →
    drop i loads ≡ (e ∷ []) ++ drop (suc i) loads
at_place loads i d e lt is = drop-cons loads i d lt ∙ ap (λ (l : Load). l ∷ drop (suc i) loads) (sym is)

-- the one that is found
pub found : (p x : ℕ) (loads : List Load) (at i : ℕ) (d e : Load) → at ≡ suc i → at ≤ length loads → e ≡ get_or loads i d →
    start_of p e ≤ x → shown_load p x (drop at loads) ≡ None → plane_bit p x loads ≡ load_bit p x e
unfolding plane_bit
found p x loads at i d e place within is started none =
    let there : nat_le (start_of p e) x ≡ true = grind (arith, nat_tests) in
    let lt : i < length loads = omega arith in
    let next : shown_load p x (drop (suc i) loads) ≡ None = ap (λ (n : ℕ). shown_load p x (drop n loads)) (sym place) ∙ none in
    let here : shown_load p x (drop i loads) ≡ Some e =
    ap (shown_load p x) (at_place loads i d e lt is)
    ∙ shown-append p x (e ∷ []) (drop (suc i) loads)
    ∙ ap (later (shown_load p x (e ∷ []))) next
    ∙ one_there p x e there in
    let whole : shown_load p x loads ≡ Some e =
    ap (shown_load p x) (sym (take-append-drop i loads))
    ∙ shown-append p x (take i loads) (drop i loads)
    ∙ ap (later (shown_load p x (take i loads))) here in
    ap (λ (o : Option Load). unwrap_or (option_map (load_bit p x) o) 0) whole

pub none_at_all : (p x : ℕ) (loads : List Load) (at : ℕ) → at ≡ 0 → shown_load p x (drop at loads) ≡ None → plane_bit p x loads ≡ 0
unfolding plane_bit
none_at_all p x loads at start none =
    let none : shown_load p x loads ≡ None = ap (λ (n : ℕ). shown_load p x (drop n loads)) (sym start) ∙ none in
    ap (λ (o : Option Load). unwrap_or (option_map (load_bit p x) o) 0) none

-- what is shown is a bit
cut_bit : (b : Bool) (n : ℕ) → (if b then n % 2 else 0) < 2
cut_bit true n = omega arith
cut_bit false n = omega arith

pub word_bit-lt : (hires : Bool) (passed word : ℕ) → word_bit hires passed word < 2
word_bit-lt hires passed word =
    let place : ℕ = if hires then passed else passed / 2 in
    cut_bit (nat_le place 15) (word / 2 ^ (15 - place))

option_bit : (p x : ℕ) (shown : Option Load) → unwrap_or (option_map (load_bit p x) shown) 0 < 2
option_bit p x None = omega arith
option_bit p x (Some load) = word_bit-lt load.hires (x - start_of p load) (slice_index load.words (p - 1))

pub plane_bit-lt : (p x : ℕ) (loads : List Load) → plane_bit p x loads < 2
unfolding plane_bit
plane_bit-lt p x loads = option_bit p x (shown_load p x loads)

-- the bits of the lowest planes
pub cut : (a b c d e f count : ℕ) → a < 2 → b < 2 → c < 2 → d < 2 → e < 2 → f < 2 → count < 6 →
    bit_and ((a + 4 * c + 16 * e) + 2 * (b + 4 * d + 16 * f)) (1 * 2 ^ count % 256 - 1)
    ≡ (if nat_le 1 count then a else 0) + 2 * (if nat_le 2 count then b else 0) + 4 * (if nat_le 3 count then c else 0)
    + 8 * (if nat_le 4 count then d else 0) + 16 * (if nat_le 5 count then e else 0) + 32 * (if nat_le 6 count then f else 0)
cut a b c d e f zero ha hb hc hd he hf h = and_high _ 0 0 ∙ omega arith
cut a b c d e f (suc zero) ha hb hc hd he hf h = and_high _ 1 0 ∙ omega arith
cut a b c d e f (suc (suc zero)) ha hb hc hd he hf h = and_high _ 2 0 ∙ omega arith
cut a b c d e f (suc (suc (suc zero))) ha hb hc hd he hf h = and_high _ 3 0 ∙ omega arith
cut a b c d e f (suc (suc (suc (suc zero)))) ha hb hc hd he hf h = and_high _ 4 0 ∙ omega arith
cut a b c d e f (suc (suc (suc (suc (suc zero))))) ha hb hc hd he hf h = and_high _ 5 0 ∙ omega arith
cut a b c d e f (suc (suc (suc (suc (suc (suc n)))))) ha hb hc hd he hf h = absurd (omega arith)

pub whole : (a b c d e f count : ℕ) → 6 ≤ count →
    (a + 4 * c + 16 * e) + 2 * (b + 4 * d + 16 * f)
    ≡ (if nat_le 1 count then a else 0) + 2 * (if nat_le 2 count then b else 0) + 4 * (if nat_le 3 count then c else 0)
    + 8 * (if nat_le 4 count then d else 0) + 16 * (if nat_le 5 count then e else 0) + 32 * (if nat_le 6 count then f else 0)
whole a b c d e f count h = grind (arith, nat_tests)

-- the bits of the lowest planes are below 2 to their number
few : (a b c d e f count : ℕ) → a < 2 → b < 2 → c < 2 → d < 2 → e < 2 → f < 2 → count < 6 →
    (if nat_le 1 count then a else 0) + 2 * (if nat_le 2 count then b else 0) + 4 * (if nat_le 3 count then c else 0)
    + 8 * (if nat_le 4 count then d else 0) + 16 * (if nat_le 5 count then e else 0) + 32 * (if nat_le 6 count then f else 0)
    < 2 ^ count
few a b c d e f zero ha hb hc hd he hf h = omega arith
few a b c d e f (suc zero) ha hb hc hd he hf h = omega arith
few a b c d e f (suc (suc zero)) ha hb hc hd he hf h = omega arith
few a b c d e f (suc (suc (suc zero))) ha hb hc hd he hf h = omega arith
few a b c d e f (suc (suc (suc (suc zero)))) ha hb hc hd he hf h = omega arith
few a b c d e f (suc (suc (suc (suc (suc zero))))) ha hb hc hd he hf h = omega arith
few a b c d e f (suc (suc (suc (suc (suc (suc n)))))) ha hb hc hd he hf h = absurd (omega arith)

pub bits_below_count : (x count : ℕ) (loads : List Load) → all_bits x count loads < 2 ^ count
unfolding all_bits
bits_below_count x count loads = by_count (nat_le 6 count) refl
  where
    bit : ℕ → ℕ
    bit p = plane_bit p x loads

    by_count : (t : Bool) → nat_le 6 count ≡ t → all_bits x count loads < 2 ^ count
    by_count true is =
        let enough : 6 ≤ count = grind (arith, nat_tests) in
        let all = whole (bit 1) (bit 2) (bit 3) (bit 4) (bit 5) (bit 6) count enough in
        omega (
          arith,
          all,
          pow_mono enough,
          plane_bit-lt 1 x loads,
          plane_bit-lt 2 x loads,
          plane_bit-lt 3 x loads,
          plane_bit-lt 4 x loads,
          plane_bit-lt 5 x loads,
          plane_bit-lt 6 x loads,
        )
    by_count false is =
        let less : count < 6 = grind (arith, nat_tests) in
        few (bit 1) (bit 2) (bit 3) (bit 4) (bit 5) (bit 6) count
        (plane_bit-lt 1 x loads) (plane_bit-lt 2 x loads) (plane_bit-lt 3 x loads)
        (plane_bit-lt 4 x loads) (plane_bit-lt 5 x loads) (plane_bit-lt 6 x loads) less
