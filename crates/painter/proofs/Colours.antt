-- Inks against the colours of the playfields.
use Rattle.std.proofs.Common.{◌≡◌, ℕ, zero, ◌+◌, ◌-◌, ◌/◌, ◌%◌, ◌^◌, ◌≤◌, ◌<◌, ◌==◌, Bool, true, false, not, ◌&&◌}
use Rattle.std.proofs.Common.{nat_le, nat_lt, nat_eq, min, List, [], length, slice_index, slice_index_or, slice_set, replicate}
use Rattle.std.proofs.Common.{refl, sym, ◌∙◌, ap, arith}
use Rattle.std.specs.Bool.{if◌then◌else◌}
use Rattle.std.proofs.Math.Pow.{pow_mono}
use Rattle.std.proofs.Math.ListN.{length-set}
use Rattle.std.proofs.lemmas.List.{get_or-replicate, get_or-set_same, get_or-set_other}
use Rattle.std.proofs.lemmas.Bool.Decides.{nat_tests}
use Rattle.serial_model.specs.Picture.{colour_bytes}
use Rattle.priority_ham.specs.PlaneCount.{planes_of, is_hires, is_hold_and_modify, is_dual_playfield}
use Rattle.priority_ham.specs.PixelColour.{Mode, DualPlayfield, HoldAndModify, ExtraHalfBrite, Plain, colour_in, dual_number, value_of_two}
use Rattle.priority_ham.specs.PixelColour.{hides, playfield_value, priority_code}
use Rattle.priority_ham.specs.PixelColour.{value_of_one, is_two_chosen, half_brite, modified, playfield_colour, red, green, blue, colour_of}
use Rattle.priority_ham.proofs.Within.{below, at_most_six}
use Rattle.painter.specs.Inks.{ink, ink_number, counted_bits, first_hidden, is_held, halved, two_pixels, HasTables}
use Rattle.plane_rows.proofs.Rows.{zeros}

black_by : (n : ℕ) (b : Bool) → (if b then slice_index (replicate 32 0) n else halved (slice_index (replicate 32 0) (n - 32))) ≡ zero
black_by n true = zeros 32 n
black_by n false = ap halved (zeros 32 (n - 32))

no_planes : (bits : ℕ) → 0 ≡ bits % 1
no_planes bits = omega arith

-- the bytes of two pixels
abbrev twos : ℕ → List ℕ
twos colour = two_pixels (colour_bytes colour)

-- the tables at reset
pub reset_tables : HasTables (replicate 32 0) 0 0 (replicate 64 (replicate 8 0)) (replicate 64 0) (replicate 64 4)
reset_tables = record {
  twos = λ n h. get_or-replicate 64 n (replicate 8 0) [] h ∙ sym (ap (λ (c : ℕ). twos c) (black_by n (nat_lt n 32)));
  numbers = λ bits h. zeros 64 bits ∙ no_planes bits;
  pairs = λ bits h. get_or-replicate 64 bits 4 0 h
      ∙ ap (λ (n : ℕ). if n == 0 then 4 else priority_code 0 0 (counted_bits 0 bits)) (no_planes bits);
}

-- the first pair that is hidden tells which are
hidden_by_value : (value code pair : ℕ) → pair ≤ 3 → (none : Bool) →
    nat_le (if none then 4 else code) pair ≡ (not none && nat_le code pair)
hidden_by_value value code pair few true = grind (arith, nat_tests)
hidden_by_value value code pair few false = refl

pub hidden_first : (con0 con2 bits pair : ℕ) → pair ≤ 3 →
    nat_le (first_hidden con0 con2 bits) pair ≡ hides con0 con2 (counted_bits con0 bits) pair
hidden_first con0 con2 bits pair few =
    let counted = counted_bits con0 bits in
    hidden_by_value (playfield_value con0 con2 counted) (priority_code con0 con2 counted) pair few
    (playfield_value con0 con2 counted == 0)

-- the first 32 inks are the colours
pub ink_low : (palette : List ℕ) (n : ℕ) → n < 32 → ink palette n ≡ slice_index palette n
ink_low palette n h =
    let low : nat_lt n 32 ≡ true = grind (arith, nat_tests) in
    ap (λ (b : Bool). if b then slice_index palette n else halved (slice_index palette (n - 32))) low

-- the others are halved
ink_half : (palette : List ℕ) (n : ℕ) → n < 64 → (b : Bool) → nat_lt n 32 ≡ b → ink palette n ≡ half_brite n palette
ink_half palette n h true is =
    let low : n < 32 = grind (arith, nat_tests) in
    let same : n % 32 ≡ n = omega arith in
    let clear : n / 32 % 2 == 1 ≡ false = grind (arith, nat_tests) in
    ink_low palette n low ∙ ap (slice_index palette) (sym same)
    ∙ ap (λ (b : Bool). if b then halved (slice_index palette (n % 32)) else slice_index palette (n % 32)) (sym clear)
ink_half palette n h false is =
    let high : 32 ≤ n = grind (arith, nat_tests) in
    let same : n % 32 ≡ n - 32 = omega arith in
    let set : n / 32 % 2 == 1 ≡ true = grind (arith, nat_tests) in
    ap (λ (b : Bool). if b then slice_index palette n else halved (slice_index palette (n - 32))) is
    ∙ ap (λ (m : ℕ). halved (slice_index palette m)) (sym same)
    ∙ ap (λ (b : Bool). if b then halved (slice_index palette (n % 32)) else slice_index palette (n % 32)) (sym set)

-- a colour and what it is halved, put into the table of inks
abbrev two_put : List (List ℕ) → ℕ → List ℕ → List ℕ → List (List ℕ)
two_put doubled n one two = slice_set (slice_set doubled n one) (n + 32) two

low_put : (palette : List ℕ) (n colour k : ℕ) (low : Bool) → length palette ≡ 32 → n < 32 → k ≡ n → nat_lt k 32 ≡ low →
    twos colour
    ≡ twos (if low then slice_index (slice_set palette n colour) k else halved (slice_index (slice_set palette n colour) (k - 32)))
low_put palette n colour k true long few here is =
    sym (ap (λ (c : ℕ). twos c)
    (ap (λ (m : ℕ). slice_index (slice_set palette n colour) m) here ∙ get_or-set_same palette n colour 0 (omega (arith, long, few))))
low_put palette n colour k false long few here is = grind (arith, nat_tests)

high_put : (palette : List ℕ) (n colour k : ℕ) (low : Bool) → length palette ≡ 32 → n < 32 → k ≡ n + 32 → nat_lt k 32 ≡ low →
    twos (halved colour)
    ≡ twos (if low then slice_index (slice_set palette n colour) k else halved (slice_index (slice_set palette n colour) (k - 32)))
high_put palette n colour k true long few here is = grind (arith, nat_tests)
high_put palette n colour k false long few here is =
    let back : k - 32 ≡ n = omega (arith, here) in
    sym (ap (λ (c : ℕ). twos (halved c))
    (ap (λ (m : ℕ). slice_index (slice_set palette n colour) m) back ∙ get_or-set_same palette n colour 0 (omega (arith, long, few))))

other_put : (palette : List ℕ) (n colour k : ℕ) (low : Bool) → (k ≡ n → ⊥) → (k ≡ n + 32 → ⊥) → nat_lt k 32 ≡ low →
    (if low then slice_index palette k else halved (slice_index palette (k - 32)))
    ≡ (if low then slice_index (slice_set palette n colour) k else halved (slice_index (slice_set palette n colour) (k - 32)))
other_put palette n colour k true one two is = sym (get_or-set_other palette n k colour 0 one)
other_put palette n colour k false one two is =
    let high : 32 ≤ k = grind (arith, nat_tests) in
    sym (ap halved (get_or-set_other palette n (k - 32) colour 0 (λ same. two (omega (arith, high, same)))))

put_by : (palette : List ℕ) (doubled : List (List ℕ)) (n colour k : ℕ) (one two : List ℕ) (a b : Bool) → length palette ≡ 32 → length doubled ≡ 64 →
    n < 32 → k < 64 → slice_index_or doubled k [] ≡ twos (ink palette k) → one ≡ twos colour → two ≡ twos (halved colour) →
    nat_eq k n ≡ a → nat_eq k (n + 32) ≡ b →
    slice_index_or (two_put doubled n one two) k [] ≡ twos (ink (slice_set palette n colour) k)
put_by palette doubled n colour k one two a true long size few room old first second other same =
    let here : k ≡ n + 32 = grind (arith, nat_tests) in
    ap (λ (m : ℕ). slice_index_or (two_put doubled n one two) m []) here
    ∙ get_or-set_same (slice_set doubled n one) (n + 32) two [] (omega (arith, length-set doubled n one, size, few))
    ∙ second ∙ high_put palette n colour k (nat_lt k 32) long few here refl
put_by palette doubled n colour k one two true false long size few room old first second same other =
    let here : k ≡ n = grind (arith, nat_tests) in
    let differ : k ≡ n + 32 → ⊥ = λ e. omega (arith, e, here) in
    get_or-set_other (slice_set doubled n one) (n + 32) k two [] differ
    ∙ ap (λ (m : ℕ). slice_index_or (slice_set doubled n one) m []) here
    ∙ get_or-set_same doubled n one [] (omega (arith, size, few))
    ∙ first ∙ low_put palette n colour k (nat_lt k 32) long few here refl
put_by palette doubled n colour k one two false false long size few room old first second not_one not_two =
    let one_differs : k ≡ n → ⊥ = λ e. grind (arith, nat_tests) in
    let two_differs : k ≡ n + 32 → ⊥ = λ e. grind (arith, nat_tests) in
    get_or-set_other (slice_set doubled n one) (n + 32) k two [] two_differs
    ∙ get_or-set_other doubled n k one [] one_differs
    ∙ old ∙ ap (λ (c : ℕ). twos c) (other_put palette n colour k (nat_lt k 32) one_differs two_differs refl)

pub colour_put : (palette : List ℕ) (doubled : List (List ℕ)) (n colour k : ℕ) (one two : List ℕ) → length palette ≡ 32 → length doubled ≡ 64 →
    n < 32 → k < 64 → slice_index_or doubled k [] ≡ twos (ink palette k) → one ≡ twos colour → two ≡ twos (halved colour) →
    slice_index_or (two_put doubled n one two) k [] ≡ twos (ink (slice_set palette n colour) k)
colour_put palette doubled n colour k one two long size few room old first second =
    put_by palette doubled n colour k one two (nat_eq k n) (nat_eq k (n + 32)) long size few room old first second refl refl

-- two playfields have the first sixteen colours
dual_by : (one two : ℕ) (chosen none : Bool) → one < 8 → two < 8 → (if chosen then (if none then 0 else 8 + two) else one) < 32
dual_by one two true true h k = omega arith
dual_by one two true false h k = omega arith
dual_by one two false none h k = omega arith

dual_few : (con2 bits : ℕ) → dual_number con2 bits < 32
dual_few con2 bits =
    let first : value_of_one bits < 8 = omega arith in
    let second : value_of_two bits < 8 = omega arith in
    dual_by (value_of_one bits) (value_of_two bits) (is_two_chosen con2 bits) (value_of_two bits == 0) first second

-- which way the planes name a colour, by the bits of BPLCON0
abbrev mode_by : Bool → Bool → Bool → Bool → Mode
mode_by dual hires holds six =
    if dual then DualPlayfield else if hires then Plain else if holds then HoldAndModify else if six then ExtraHalfBrite else Plain

ink_in : (dual hires holds six : Bool) (con2 n held : ℕ) (palette : List ℕ) → (holds && not dual && not hires) ≡ false →
    n < 64 → (hires ≡ true → n < 16) → (six ≡ false → n < 32) →
    ink palette (if dual then dual_number con2 n else n) ≡ colour_in (mode_by dual hires holds six) con2 n held palette
ink_in true hires holds six con2 n held palette plain few some most = ink_low palette (dual_number con2 n) (dual_few con2 n)
ink_in false true holds six con2 n held palette plain few some most =
    let low : n < 16 = some refl in
    ink_low palette n (omega arith)
ink_in false false true six con2 n held palette plain few some most = cc
ink_in false false false true con2 n held palette plain few some most = ink_half palette n few (nat_lt n 32) refl
ink_in false false false false con2 n held palette plain few some most = ink_low palette n (most refl)

counted_few : (con0 bits k : ℕ) → planes_of con0 ≤ k → counted_bits con0 bits < 2 ^ k
counted_few con0 bits k le =
    let positive : 1 ≤ 2 ^ planes_of con0 = pow_mono {i = 0} {j = planes_of con0} (omega arith) in
    below (counted_bits con0 bits) (planes_of con0) k le (omega arith)

hires_few : (con0 : ℕ) → is_hires con0 ≡ true → planes_of con0 ≤ 4
hires_few con0 is = few (con0 / 2 ^ 12 % 8) (is_hires con0) is
  where
    few : (n : ℕ) (hires : Bool) → hires ≡ true → min n (if hires then 4 else 6) ≤ 4
    few n true is = omega arith
    few n false is = cc

not_six : (con0 : ℕ) → planes_of con0 == 6 ≡ false → planes_of con0 ≤ 5
not_six con0 is = fewer (planes_of con0) (at_most_six con0) is
  where
    fewer : (n : ℕ) → n ≤ 6 → n == 6 ≡ false → n ≤ 5
    fewer n le is = grind (arith, nat_tests)

-- where no colour is held, the ink that the bits name is the playfields' colour
pub ink_colour : (con0 con2 bits held : ℕ) (palette : List ℕ) → is_held con0 ≡ false →
    ink palette (ink_number con0 con2 bits) ≡ playfield_colour con0 con2 (counted_bits con0 bits) held palette
unfolding playfield_colour
ink_colour con0 con2 bits held palette plain =
    ink_in (is_dual_playfield con0) (is_hires con0) (is_hold_and_modify con0) (planes_of con0 == 6) con2 (counted_bits con0 bits) held palette
    plain
    (counted_few con0 bits 6 (at_most_six con0))
    (λ is. counted_few con0 bits 4 (hires_few con0 is))
    (λ is. counted_few con0 bits 5 (not_six con0 is))

-- where it is held, they modify it
held_in : (dual hires holds six : Bool) (con2 n held : ℕ) (palette : List ℕ) → (holds && not dual && not hires) ≡ true →
    modified (if dual then dual_number con2 n else n) held palette ≡ colour_in (mode_by dual hires holds six) con2 n held palette
held_in true hires true six con2 n held palette is = cc
held_in true hires false six con2 n held palette is = cc
held_in false true true six con2 n held palette is = cc
held_in false true false six con2 n held palette is = cc
held_in false false true six con2 n held palette is = refl
held_in false false false six con2 n held palette is = cc

pub held_colour : (con0 con2 bits held : ℕ) (palette : List ℕ) → is_held con0 ≡ true →
    modified (ink_number con0 con2 bits) held palette ≡ playfield_colour con0 con2 (counted_bits con0 bits) held palette
unfolding playfield_colour
held_colour con0 con2 bits held palette is =
    held_in (is_dual_playfield con0) (is_hires con0) (is_hold_and_modify con0) (planes_of con0 == 6) con2 (counted_bits con0 bits) held palette is

-- what the same bits make of what they made
part_red : (r g b : ℕ) → r < 16 → g < 16 → b < 16 → red (colour_of r g b) ≡ r
part_red r g b hr hg hb = omega arith

part_green : (r g b : ℕ) → r < 16 → g < 16 → b < 16 → green (colour_of r g b) ≡ g
part_green r g b hr hg hb = omega arith

part_blue : (r g b : ℕ) → r < 16 → g < 16 → b < 16 → blue (colour_of r g b) ≡ b
part_blue r g b hr hg hb = omega arith

modified_by : Bool → Bool → Bool → ℕ → ℕ → ℕ → ℕ
modified_by named lowest highest colour low held =
    if named then colour
    else if lowest then colour_of (red held) (green held) low
    else if highest then colour_of low (green held) (blue held)
    else colour_of (red held) low (blue held)

again_by : (named lowest highest : Bool) (colour low held : ℕ) → low < 16 →
    modified_by named lowest highest colour low (modified_by named lowest highest colour low held)
    ≡ modified_by named lowest highest colour low held
unfolding modified_by
again_by true lowest highest colour low held few = refl
again_by false true highest colour low held few =
    let r : red held < 16 = omega arith in
    let g : green held < 16 = omega arith in
    rw (part_red (red held) (green held) low r g few, part_green (red held) (green held) low r g few) refl
again_by false false true colour low held few =
    let g : green held < 16 = omega arith in
    let b : blue held < 16 = omega arith in
    rw (part_green low (green held) (blue held) few g b, part_blue low (green held) (blue held) few g b) refl
again_by false false false colour low held few =
    let r : red held < 16 = omega arith in
    let b : blue held < 16 = omega arith in
    rw (part_red (red held) low (blue held) r few b, part_blue (red held) low (blue held) r few b) refl

pub modified_again : (bits held : ℕ) (palette : List ℕ) → modified bits (modified bits held palette) palette ≡ modified bits held palette
unfolding modified_by
modified_again bits held palette =
    again_by (bits / 16 % 4 == 0) (bits / 16 % 4 == 1) (bits / 16 % 4 == 2) (slice_index palette (bits % 16)) (bits % 16) held (omega arith)
