-- A held colour as the word of the bytes of two pixels, of which the bits of a pixel change a component.
use Rattle.std.proofs.Common.{◌≡◌, ℕ, ◌+◌, ◌*◌, ◌/◌, ◌%◌, ◌^◌, ◌≤◌, ◌<◌, ◌==◌, Bool, true, false, if◌then◌else◌, bit_and, slice_index, slice_index_or}
use Rattle.std.proofs.Common.{List, [], ◌∷◌, refl, sym, ◌∙◌, ap, arith, w64}
use Rattle.std.specs.Int.{to_le_bytes, from_le_bytes}
use Rattle.std.specs.Int.Bits.{and_zero_r}
use Rattle.std.proofs.lemmas.Nat.{and_block, and_mask, from_le_bytes-to_le_bytes_8}
use Rattle.std.proofs.lemmas.Bool.Decides.{nat_tests}
use Rattle.serial_model.specs.Picture.{colour_bytes}
use Rattle.priority_ham.specs.PixelColour.{modified, red, green, blue, colour_of}
use Rattle.painter.specs.Inks.{two_pixels, ink}
use Rattle.painter.specs.code.Held.{word_by, colour_word, kept_by, kept_bytes, new_by, new_bytes}
use Rattle.plane_rows.proofs.Spreading.{pixel_bytes}
use Rattle.painter.proofs.Colours.{ink_low}

-- two pixels are the bytes of the word
pub word_bytes : (colour : ℕ) → to_le_bytes w64 (colour_word colour) ≡ two_pixels (colour_bytes colour)
word_bytes colour = pixel_bytes (red colour) (green colour) (blue colour) (omega arith) (omega arith) (omega arith)

few_words : (colour : ℕ) → colour_word colour < 2 ^ 64
few_words colour =
    let r : red colour < 16 = omega arith in
    let g : green colour < 16 = omega arith in
    let b : blue colour < 16 = omega arith in
    omega (arith, r, g, b)

pub word_read : (colour : ℕ) (bytes : List ℕ) → bytes ≡ two_pixels (colour_bytes colour) → from_le_bytes w64 bytes ≡ colour_word colour
word_read colour bytes is =
    ap (from_le_bytes w64) (is ∙ sym (word_bytes colour)) ∙ from_le_bytes-to_le_bytes_8 (colour_word colour) (few_words colour)

-- three bytes of a mask
three_and : (a b c d e f : ℕ) → a < 256 → b < 256 → d < 256 → e < 256 →
    bit_and ((c * 256 + b) * 256 + a) ((f * 256 + e) * 256 + d) ≡ (bit_and c f * 256 + bit_and b e) * 256 + bit_and a d
three_and a b c d e f la lb ld le =
    and_block 8 (c * 256 + b) (f * 256 + e) a d la ld
    ∙ ap (λ (n : ℕ). n * 256 + bit_and a d) (and_block 8 c f b e lb le)

two_and : (a b : ℕ) → a < 16777216 → b < 16777216 → bit_and (a * 16777216 + a) (b * 16777216 + b) ≡ bit_and a b * 16777216 + bit_and a b
two_and a b la lb = and_block 24 a b a b la lb

-- the bytes of a pixel, and the word of two
pixel : ℕ → ℕ → ℕ → ℕ
pixel r g b = (17 * b * 256 + 17 * g) * 256 + 17 * r

few_pixels : (r g b : ℕ) → r < 16 → g < 16 → b < 16 → pixel r g b < 16777216
unfolding pixel
few_pixels r g b lr lg lb = omega (arith, lr, lg, lb)

word_is : (r g b : ℕ) → word_by r g b ≡ pixel r g b * 16777216 + pixel r g b
unfolding pixel
word_is r g b = omega arith

whole : (n : ℕ) → n < 16 → bit_and (17 * n) 255 ≡ 17 * n
whole n few = and_mask (17 * n) 8 ∙ small n few
  where
    small : (n : ℕ) → n < 16 → 17 * n % 256 ≡ 17 * n
    small n few = omega (arith, few)

none : (n : ℕ) → bit_and (17 * n) 0 ≡ 0
none n = and_zero_r (17 * n)

-- all but blue stay, all but red, and all but green
keep_blue : (r g b : ℕ) → r < 16 → g < 16 → b < 16 → bit_and (pixel r g b) 65535 ≡ pixel r g 0
unfolding pixel
keep_blue r g b lr lg lb =
    three_and (17 * r) (17 * g) (17 * b) 255 255 0 (omega (arith, lr)) (omega (arith, lg)) (omega arith) (omega arith)
    ∙ rw (whole r lr, whole g lg, none b) refl

keep_red : (r g b : ℕ) → r < 16 → g < 16 → b < 16 → bit_and (pixel r g b) 16776960 ≡ pixel 0 g b
unfolding pixel
keep_red r g b lr lg lb =
    three_and (17 * r) (17 * g) (17 * b) 0 255 255 (omega (arith, lr)) (omega (arith, lg)) (omega arith) (omega arith)
    ∙ rw (none r, whole g lg, whole b lb) refl

keep_green : (r g b : ℕ) → r < 16 → g < 16 → b < 16 → bit_and (pixel r g b) 16711935 ≡ pixel r 0 b
unfolding pixel
keep_green r g b lr lg lb =
    three_and (17 * r) (17 * g) (17 * b) 255 0 255 (omega (arith, lr)) (omega (arith, lg)) (omega arith) (omega arith)
    ∙ rw (whole r lr, none g, whole b lb) refl

-- a mask of both pixels
masked : (r g b m kept : ℕ) → r < 16 → g < 16 → b < 16 → m < 16777216 → bit_and (pixel r g b) m ≡ kept
    → bit_and (word_by r g b) (m * 16777216 + m) ≡ kept * 16777216 + kept
masked r g b m kept lr lg lb few is =
    ap (λ (n : ℕ). bit_and n (m * 16777216 + m)) (word_is r g b)
    ∙ two_and (pixel r g b) m (few_pixels r g b lr lg lb) few
    ∙ ap (λ (n : ℕ). n * 16777216 + n) is

put_blue : (r g b c : ℕ) → r < 16 → g < 16 → b < 16 → bit_and (word_by r g b) 0xffff00ffff + word_by 0 0 c ≡ word_by r g c
unfolding pixel
put_blue r g b c lr lg lb =
    ap (λ (n : ℕ). n + word_by 0 0 c) (masked r g b 65535 (pixel r g 0) lr lg lb (omega arith) (keep_blue r g b lr lg lb)) ∙ omega arith

put_red : (r g b c : ℕ) → r < 16 → g < 16 → b < 16 → bit_and (word_by r g b) 0xffff00ffff00 + word_by c 0 0 ≡ word_by c g b
unfolding pixel
put_red r g b c lr lg lb =
    ap (λ (n : ℕ). n + word_by c 0 0) (masked r g b 16776960 (pixel 0 g b) lr lg lb (omega arith) (keep_red r g b lr lg lb)) ∙ omega arith

put_green : (r g b c : ℕ) → r < 16 → g < 16 → b < 16 → bit_and (word_by r g b) 0xff00ffff00ff + word_by 0 c 0 ≡ word_by r c b
unfolding pixel
put_green r g b c lr lg lb =
    ap (λ (n : ℕ). n + word_by 0 c 0) (masked r g b 16711935 (pixel r 0 b) lr lg lb (omega arith) (keep_green r g b lr lg lb)) ∙ omega arith

-- the components of a colour that is made of three
of_three : (r g b : ℕ) → r < 16 → g < 16 → b < 16 → colour_word (colour_of r g b) ≡ word_by r g b
of_three r g b lr lg lb =
    let one : red (colour_of r g b) ≡ r = omega (arith, lr, lg, lb) in
    let two : green (colour_of r g b) ≡ g = omega (arith, lr, lg, lb) in
    let three : blue (colour_of r g b) ≡ b = omega (arith, lr, lg, lb) in
    rw (one, two, three) refl

abbrev changed_by : Bool → Bool → Bool → ℕ → ℕ → ℕ → ℕ
changed_by a b c named low held =
    if a then named
    else if b then colour_of (red held) (green held) low
    else if c then colour_of low (green held) (blue held)
    else colour_of (red held) low (blue held)

word_changed : (a b c : Bool) (named low held : ℕ) → low < 16 → a ≡ false →
    bit_and (colour_word held) (kept_by a b c) + new_by a b c low ≡ colour_word (changed_by a b c named low held)
word_changed true b c named low held few is = cc
word_changed false true c named low held few is =
    put_blue (red held) (green held) (blue held) low (omega arith) (omega arith) (omega arith)
    ∙ sym (of_three (red held) (green held) low (omega arith) (omega arith) few)
word_changed false false true named low held few is =
    put_red (red held) (green held) (blue held) low (omega arith) (omega arith) (omega arith)
    ∙ sym (of_three low (green held) (blue held) few (omega arith) (omega arith))
word_changed false false false named low held few is =
    put_green (red held) (green held) (blue held) low (omega arith) (omega arith) (omega arith)
    ∙ sym (of_three (red held) low (blue held) (omega arith) few (omega arith))

pub word_modified : (bits colour : ℕ) (palette : List ℕ) → 16 ≤ bits → bits < 64 →
    bit_and (colour_word colour) (kept_bytes bits) + new_bytes bits ≡ colour_word (modified bits colour palette)
word_modified bits colour palette least most =
    let not_zero : bits / 16 % 4 == 0 ≡ false = grind (arith, nat_tests) in
    word_changed (bits / 16 % 4 == 0) (bits / 16 % 4 == 1) (bits / 16 % 4 == 2) (slice_index palette (bits % 16)) (bits % 16) colour
    (omega arith) not_zero

-- a colour that is named
pub word_named : (bits colour : ℕ) (palette : List ℕ) → bits < 16 → colour_word (ink palette bits) ≡ colour_word (modified bits colour palette)
word_named bits colour palette few =
    let zero_control : bits / 16 % 4 == 0 ≡ true = grind (arith, nat_tests) in
    let low : bits % 16 ≡ bits = omega (arith, few) in
    ap (λ (n : ℕ). colour_word n) (ink_low palette bits (omega (arith, few)) ∙ ap (slice_index palette) (sym low))
    ∙ ap (λ (a : Bool). colour_word (changed_by a (bits / 16 % 4 == 1) (bits / 16 % 4 == 2) (slice_index palette (bits % 16)) (bits % 16) colour))
    (sym zero_control)

-- the bytes of a held colour as a word, and back
pub bytes_word : (r g b colour : ℕ) → r ∷ g ∷ b ∷ [] ≡ colour_bytes colour → (r + g * 256 + b * 65536) * 16777217 ≡ colour_word colour
bytes_word r g b colour is =
    let one : r ≡ 17 * red colour = ap (λ (l : List ℕ). slice_index_or l 0 0) is in
    let two : g ≡ 17 * green colour = ap (λ (l : List ℕ). slice_index_or l 1 0) is in
    let three : b ≡ 17 * blue colour = ap (λ (l : List ℕ). slice_index_or l 2 0) is in
    rw (one, two, three) (omega arith)

three_bytes : (n r g b : ℕ) → n ≡ word_by r g b → r < 16 → g < 16 → b < 16
    → n % 256 ∷ n / 256 % 256 ∷ n / 65536 % 256 ∷ [] ≡ 17 * r ∷ 17 * g ∷ 17 * b ∷ []
three_bytes n r g b is lr lg lb =
    let one : n % 256 ≡ 17 * r = omega (arith, is, lr, lg, lb) in
    let two : n / 256 % 256 ≡ 17 * g = omega (arith, is, lr, lg, lb) in
    let three : n / 65536 % 256 ≡ 17 * b = omega (arith, is, lr, lg, lb) in
    rw (one, two, three) refl

pub word_held : (word colour : ℕ) → word ≡ colour_word colour
    → word % 256 ∷ word / 256 % 256 ∷ word / 65536 % 256 ∷ [] ≡ colour_bytes colour
word_held word colour is = three_bytes word (red colour) (green colour) (blue colour) is (omega arith) (omega arith) (omega arith)
