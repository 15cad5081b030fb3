-- The words of a load, laid over a row, against the planes.
use Rattle.std.proofs.Common.{◌≡◌, ℕ, ◌+◌, ◌-◌, ◌*◌, ◌/◌, ◌≤◌, ◌<◌, Bool, true, false, nat_le, nat_lt, List}
use Rattle.std.proofs.Common.{[], ◌∷◌, ◌++◌, length, map, slice_index, Option, Some, refl, sym, ◌∙◌, ap, arith}
use Rattle.std.specs.Bool.{if◌then◌else◌}
use Rattle.std.specs.List.{range_with_len}
use Rattle.std.specs.Option.{option_map, unwrap_or}
use Rattle.std.proofs.Math.ListN.{get_or-eq_default}
use Rattle.std.proofs.lemmas.List.FromFn.{get_or-map-range_with_len, length-map-range_with_len}
use Rattle.std.proofs.lemmas.Bool.Decides.{nat_tests}
use Rattle.planes.specs.declared.load.Load.{Load}
use Rattle.planes.specs.PlaneBit.{start_of, shown_load, word_bit, load_bit, plane_bit}
use Rattle.planes.proofs.Showing.{later, shown-append, one_there, one_not}
use Rattle.planes.proofs.Searching.{word_bit-lt}
use Rattle.plane_rows.specs.code.Words.{three_bits, spread_bits}
use Rattle.plane_rows.specs.Row.{laid}
use Rattle.plane_rows.specs.Line.{three_planes, Shows}

-- past bit 0 a word shows 0
past_word : (hires : Bool) (passed word : ℕ) → 32 ≤ passed → word_bit hires passed word ≡ 0
past_word true passed word h = grind (arith, nat_tests)
past_word false passed word h =
    let place : 16 ≤ passed / 2 = omega arith in
    grind (arith, nat_tests)

-- all places of three words
spread_by : (hires : Bool) (a b c x : ℕ) (t : Bool) → nat_lt x 32 ≡ t → slice_index (spread_bits hires a b c) x ≡ three_bits hires x a b c
unfolding spread_bits
spread_by hires a b c x true is =
    let within : x < 32 = grind (arith, nat_tests) in
    get_or-map-range_with_len (λ (passed : ℕ). three_bits hires passed a b c) 0 32 x x 0 within (omega arith)
spread_by hires a b c x false is =
    let past : 32 ≤ x = grind (arith, nat_tests) in
    let bits : ℕ → ℕ = λ passed. three_bits hires passed a b c in
    let long : length (map bits (range_with_len 0 32)) ≡ 32 = length-map-range_with_len bits 0 32 in
    let none : three_bits hires x a b c ≡ 0 = omega (arith, past_word hires x a past, past_word hires x b past, past_word hires x c past) in
    get_or-eq_default (map bits (range_with_len 0 32)) 0 {n = x} (omega arith) ∙ sym none

pub spread_at : (hires : Bool) (a b c x : ℕ) → slice_index (spread_bits hires a b c) x ≡ three_bits hires x a b c
spread_at hires a b c x = spread_by hires a b c x (nat_lt x 32) refl

pub spread_few : (hires : Bool) (a b c x : ℕ) → slice_index (spread_bits hires a b c) x ≤ 21
spread_few hires a b c x =
    omega (arith, spread_at hires a b c x, word_bit-lt hires x a, word_bit-lt hires x b, word_bit-lt hires x c)

-- a plane from the start of a load on, and before it
plane_there : (q x start : ℕ) (loads : List Load) (load : Load) → start_of q load ≡ start → nat_le start x ≡ true →
    plane_bit q x (loads ++ load ∷ []) ≡ word_bit load.hires (x - start) (slice_index load.words (q - 1))
unfolding plane_bit
plane_there q x start loads load at is =
    let there : nat_le (start_of q load) x ≡ true = ap (λ (n : ℕ). nat_le n x) at ∙ is in
    let shown : shown_load q x (loads ++ load ∷ []) ≡ Some load =
    shown-append q x loads (load ∷ []) ∙ ap (later (shown_load q x loads)) (one_there q x load there) in
    ap (λ (o : Option Load). unwrap_or (option_map (load_bit q x) o) 0) shown
    ∙ ap (λ (n : ℕ). word_bit load.hires (x - n) (slice_index load.words (q - 1))) at

plane_before : (q x start : ℕ) (loads : List Load) (load : Load) → start_of q load ≡ start → nat_le start x ≡ false →
    plane_bit q x (loads ++ load ∷ []) ≡ plane_bit q x loads
unfolding plane_bit
plane_before q x start loads load at is =
    let before : nat_le (start_of q load) x ≡ false = ap (λ (n : ℕ). nat_le n x) at ∙ is in
    let shown : shown_load q x (loads ++ load ∷ []) ≡ shown_load q x loads =
    shown-append q x loads (load ∷ []) ∙ ap (later (shown_load q x loads)) (one_not q x load before) in
    ap (λ (o : Option Load). unwrap_or (option_map (load_bit q x) o) 0) shown

three_sum : (a b c d e f : ℕ) → a ≡ d → b ≡ e → c ≡ f → a + 4 * b + 16 * c ≡ d + 4 * e + 16 * f
three_sum a b c d e f = omega arith

-- the row over which the words are laid
pub record IsLaid (p start : ℕ) (load : Load) (bytes row now : List ℕ) : Type 0 where
  pub first : start_of p load ≡ start
  pub second : start_of (p + 2) load ≡ start
  pub third : start_of (p + 4) load ≡ start
  pub spread : (x : ℕ) → slice_index bytes x
      ≡ three_bits load.hires x (slice_index load.words (p - 1)) (slice_index load.words (p + 2 - 1)) (slice_index load.words (p + 4 - 1))
  pub over : (x : ℕ) → slice_index now x ≡ laid row start bytes x

laid_at : (p start : ℕ) (loads : List Load) (load : Load) (bytes row now : List ℕ) → IsLaid p start load bytes row now →
    Shows row p loads → (x : ℕ) → x < 1024 → (t : Bool) → nat_le start x ≡ t → slice_index now x ≡ three_planes p x (loads ++ load ∷ [])
unfolding Shows three_planes
laid_at p start loads load bytes row now is shows x h true from =
    is.over x
    ∙ ap (λ (t : Bool). if t then slice_index bytes (x - start) else slice_index row x) from
    ∙ is.spread (x - start)
    ∙ sym (three_sum _ _ _ _ _ _
    (plane_there p x start loads load is.first from)
    (plane_there (p + 2) x start loads load is.second from)
    (plane_there (p + 4) x start loads load is.third from))
laid_at p start loads load bytes row now is shows x h false from =
    is.over x
    ∙ ap (λ (t : Bool). if t then slice_index bytes (x - start) else slice_index row x) from
    ∙ shows x h
    ∙ sym (three_sum _ _ _ _ _ _
    (plane_before p x start loads load is.first from)
    (plane_before (p + 2) x start loads load is.second from)
    (plane_before (p + 4) x start loads load is.third from))

pub laid_shows : (p start : ℕ) (loads : List Load) (load : Load) (bytes row now : List ℕ) → IsLaid p start load bytes row now →
    Shows row p loads → Shows now p (loads ++ load ∷ [])
unfolding Shows
laid_shows p start loads load bytes row now is shows x h =
    laid_at p start loads load bytes row now is shows x h (nat_le start x) refl

-- with no load a row is blank
pub blank_shows : (p : ℕ) (row : List ℕ) → ((x : ℕ) → slice_index row x ≡ 0) → Shows row p []
unfolding Shows three_planes plane_bit
blank_shows p row blank x h = blank x
