-- The order of bands.
use Rattle.std.proofs.Common.{◌≡◌, ◌<◌, ◌≤◌, ℕ, zero, suc, ◌+◌, ◌-◌, Bool, true, false, if◌then◌else◌}
use Rattle.std.proofs.Common.{refl, ap, ◌∙◌, sym, subst, arith, inl, inr, ◌++◌, bit_or, lit<}
use Rattle.std.proofs.lemmas.Bool.{cases_eq}
use Rattle.serial_model.specs.Serial.{state_over}
use Rattle.serial_model.specs.State.{reset}
use Rattle.serial_bands.specs.Run.{RunValue, state_of, beam_at, run_memory}
use Rattle.serial_bands.specs.Clock.{opening_at, closing_at, bus_touch_at, write_alone}
use Rattle.serial_model.specs.Made.{word_of}
use Rattle.serial_model.specs.Picture.{clear_line, touch_if_any}
use Rattle.serial_bands.proofs.NextClock.{next_opening}
use Rattle.serial_bands.specs.Bands.{begins, begun, IsBand, AreBands}
use Rattle.serial_bands.specs.BandShown.{bytes_from, clx_from}
use Rattle.serial_bands.specs.BandLaws.{FirstBand, NextBand, OneBand, BegunInBand, OneBandMore, BytesOfBands}
use Rattle.serial_bands.specs.BandLaws.{ClxOfBands, OpeningOfNextBand, ShownByBands, ReadAfterBands, PeekAfterBands}
use Rattle.serial_bands.proofs.Ranges.{bytes_of_two, clx_of_two, shown_in_range, read_by_access, read_by_script}

-- the count of begins rises by one where a band begins
pub begun_more : (run : RunValue) (c : ℕ) → begins run c ≡ true → begun run (suc c) ≡ begun run c + 1
unfolding begun
begun_more run c here = ap (λ b. begun run c + (if b then 1 else 0)) here

none_more : (n : ℕ) → n + 0 ≡ n
none_more n = omega arith

pub begun_same : (run : RunValue) (c : ℕ) → begins run c ≡ false → begun run (suc c) ≡ begun run c
unfolding begun
begun_same run c none = ap (λ b. begun run c + (if b then 1 else 0)) none ∙ none_more (begun run c)

zero_least : (n : ℕ) → 0 ≤ n
zero_least n = omega arith

abbrev one_or_none : Bool → ℕ
one_or_none b = if b then 1 else 0

at_most_one : (b : Bool) → one_or_none b ≤ 1
at_most_one true = lit< {m = 0} {n = 1} tt
at_most_one false = zero_least 1

risen : (run : RunValue) (c : ℕ) → begun run c ≤ begun run (suc c)
unfolding begun
risen run c = omega arith

later : (c n : ℕ) → c + suc n ≡ suc (c + n)
later c n = omega arith

pub grown : (run : RunValue) (c n : ℕ) → begun run c ≤ begun run (c + n)
grown run c zero = omega (arith, ap (λ k. begun run k) (none_more c))
grown run c (suc n) = omega (arith, ap (λ k. begun run k) (later c n), grown run c n, risen run (c + n))

pub grown_to : (run : RunValue) (c d : ℕ) → c ≤ d → begun run c ≤ begun run d
grown_to run c d order =
    let there : c + (d - c) ≡ d = omega arith in
    subst (λ k. begun run c ≤ begun run k) there (grown run c (d - c))

pub kept : (run : RunValue) (c n : ℕ) → ((k : ℕ) → c ≤ k → k < c + n → begins run k ≡ false) → begun run (c + n) ≡ begun run c
kept run c zero none = ap (λ k. begun run k) (none_more c)
kept run c (suc n) none =
    ap (λ k. begun run k) (later c n)
    ∙ begun_same run (c + n) (none (c + n) (omega arith) (omega arith))
    ∙ kept run c n (λ k least less. none k least (omega arith))

pub counted : (run : RunValue) (c : ℕ) → begun run c ≤ c
unfolding begun
counted run zero = omega arith
counted run (suc c) = omega (arith, counted run c, at_most_one (begins run c))

-- where a band begins, no clock with as small a count comes later
pub not_later : (run : RunValue) (x y : ℕ) → begins run x ≡ true → begun run y ≤ begun run x → y ≤ x
not_later run x zero here few = omega arith
not_later run x (suc k) here few =
    elim (cases_eq k x) [
      | inl e ↦ absurd (omega (arith, few, begun_more run x here, ap (λ c. begun run (suc c)) e))
      | inr other ↦ (
          let o : k ≡ x → ⊥ = other in
          let below : k ≤ x = not_later run x k here (omega (arith, few, risen run k)) in
          omega arith)
    ]

pub one_place : (run : RunValue) (x y : ℕ) → begins run x ≡ true → begins run y ≡ true → begun run x ≡ begun run y → x ≡ y
one_place run x y here there same =
    let low : y ≤ x = not_later run x y here (omega arith) in
    let high : x ≤ y = not_later run y x there (omega arith) in
    omega arith

pub first_begins : (run : RunValue) → begins run 0 ≡ true
unfolding begins state_over reset
first_begins run = refl

-- how many have begun within a band
pub begun_in_band : BegunInBand
begun_in_band run n from to c band after until =
    let count : ℕ = c - suc from in
    let there : suc from + count ≡ c = omega arith in
    ap (λ k. begun run k) (sym there)
    ∙ kept run (suc from) count (λ k least less. band.inner k (omega arith) (omega arith))
    ∙ begun_more run from band.begin
    ∙ ap (λ k. k + 1) band.number

pub first_band : FirstBand
unfolding begun
first_band run from to band = one_place run from 0 band.begin (first_begins run) band.number

pub next_band : NextBand
next_band run n from to next end band after =
    one_place run next to after.begin band.end
    (after.number ∙ sym (begun_in_band run n from to to band band.order (omega arith)))

pub one_band : OneBand
one_band run n from to other end band twin =
    let here : from ≡ other = one_place run from other band.begin twin.begin (band.number ∙ sym twin.number) in
    let there : to ≡ end =
    one_place run to end band.end twin.end
    (begun_in_band run n from to to band band.order (omega arith)
    ∙ sym (begun_in_band run n other end end twin twin.order (omega arith))) in
    (here, there)

-- bands one after another
pub bands_order : (run : RunValue) (n count from to : ℕ) → AreBands run n count from to → from ≤ to
bands_order run n zero from to bands = omega (arith, bands)
bands_order run n (suc count) from to bands = omega (arith, bands.1.order, bands_order run (n + 1) count bands.0 to bands.2)

moved : (n count : ℕ) → n + suc count ≡ n + 1 + count
moved n count = omega arith

more : (count : ℕ) → count + 1 ≡ suc count
more count = omega arith

joined : (run : RunValue) (n count from to end : ℕ) → AreBands run n count from to → IsBand run (n + count) to end →
    AreBands run n (suc count) from end
joined run n zero from to end bands band =
    (end, subst (λ a. IsBand run n a end) (sym bands) (subst (λ k. IsBand run k to end) (none_more n) band), refl)
joined run n (suc count) from to end bands band =
    (bands.0, bands.1, joined run (n + 1) count bands.0 to end bands.2 (subst (λ k. IsBand run k to end) (moved n count) band))

pub one_band_more : OneBandMore
one_band_more run n count from to end bands band =
    subst (λ k. AreBands run n k from end) (sym (more count)) (joined run n count from to end bands band)

pub bytes_of_all : BytesOfBands
unfolding bytes_from
bytes_of_all run n zero from to bands =
    let count : 0 ≡ to - from = omega (arith, bands) in
    ap (λ k. bytes_from run from k) count
bytes_of_all run n (suc count) from to bands =
    let middle : ℕ = bands.0 in
    let order : middle ≤ to = bands_order run (n + 1) count middle to bands.2 in
    let first : from < middle = bands.1.order in
    let there : from + (middle - from) ≡ middle = omega arith in
    let whole : middle - from + (to - middle) ≡ to - from = omega arith in
    ap (λ l. bytes_from run from (middle - from) ++ l) (bytes_of_all run (n + 1) count middle to bands.2)
    ∙ ap (λ c. bytes_from run from (middle - from) ++ bytes_from run c (to - middle)) (sym there)
    ∙ sym (bytes_of_two run from (middle - from) (to - middle))
    ∙ ap (λ k. bytes_from run from k) whole

pub clx_of_all : ClxOfBands
unfolding clx_from
clx_of_all run n zero from to bands =
    let count : 0 ≡ to - from = omega (arith, bands) in
    ap (λ k. clx_from run from k) count
clx_of_all run n (suc count) from to bands =
    let middle : ℕ = bands.0 in
    let order : middle ≤ to = bands_order run (n + 1) count middle to bands.2 in
    let first : from < middle = bands.1.order in
    let there : from + (middle - from) ≡ middle = omega arith in
    let whole : middle - from + (to - middle) ≡ to - from = omega arith in
    ap (λ l. bit_or (clx_from run from (middle - from)) l) (clx_of_all run (n + 1) count middle to bands.2)
    ∙ ap (λ c. bit_or (clx_from run from (middle - from)) (clx_from run c (to - middle))) (sym there)
    ∙ sym (clx_of_two run from (middle - from) (to - middle))
    ∙ ap (λ k. clx_from run from k) whole

-- what follows a band, and what bands show
last_but : (from to : ℕ) → from < to → suc (to - 1) ≡ to
last_but from to order = omega arith

pub opening_of_next : OpeningOfNextBand
opening_of_next run n from to band =
    subst (λ k. opening_at run k ≡ clear_line (beam_at run k) (touch_if_any (beam_at run (to - 1)).h (word_of (run_memory run (to - 1)))
    (write_alone (bus_touch_at run (to - 1))) (closing_at run (to - 1)))) (last_but from to band.order) (next_opening run (to - 1))

none_before : (n : ℕ) → n ≡ 0 + n
none_before n = omega arith

none_less : (n : ℕ) → n ≡ n - 0
none_less n = omega arith

pub shown_by_bands : ShownByBands
unfolding state_over reset
shown_by_bands run count to bands =
    ap (λ k. (state_of run k).shown) (none_before to)
    ∙ shown_in_range run 0 to
    ∙ ap (λ k. bytes_from run 0 k) (none_less to)
    ∙ sym (bytes_of_all run 0 count 0 to bands)

last_one : (from to : ℕ) → from < to → to - 1 + 1 - from ≡ to - from
last_one from to some = omega arith

pub read_after_bands : ReadAfterBands
read_after_bands run n count from to bands some since =
    read_by_access run from (to - 1) (omega arith) since
    ∙ ap (λ k. clx_from run from k) (last_one from to some)
    ∙ sym (clx_of_all run n count from to bands)

whole : (from to : ℕ) → from < to → to ≡ to - 1 + 1
whole from to some = omega arith

pub peek_after_bands : PeekAfterBands
peek_after_bands run n count from to bands some since none =
    ap (λ k. (state_of run k).clx) (whole from to some)
    ∙ read_by_script run from (to - 1) (omega arith) since none
    ∙ ap (λ k. clx_from run from k) (last_one from to some)
    ∙ sym (clx_of_all run n count from to bands)
