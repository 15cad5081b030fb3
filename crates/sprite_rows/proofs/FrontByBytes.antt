-- The pixel in front by the bytes is that by the values.
use Rattle.std.proofs.Common.{◌≡◌, ◌≢◌, ℕ, zero, suc, ◌+◌, ◌*◌, ◌/◌, ◌%◌, ◌^◌, ◌≤◌, ◌<◌, Bool, true, false, nat_eq}
use Rattle.std.proofs.Common.{bit_or, List, Option, None, Some, slice_index, refl, sym, ◌∙◌, ap, arith}
use Rattle.std.specs.Bool.{if◌then◌else◌}
use Rattle.std.specs.Option.{option_or}
use Rattle.std.proofs.lemmas.Nat.{le_or_l, le_or_r}
use Rattle.sprites.specs.declared.pixel.SpritePixel.{SpritePixel}
use Rattle.sprites.specs.SpriteFront.{pixel_of, pair_pixel, front_pixel}
use Rattle.sprite_rows.specs.PairFront.{colour_of_byte, pixel_of_byte, front_of_bytes}

-- a pair's pixel, by the values of its sprites and whether it is attached
abbrev pub pixel_by_values : Bool → ℕ → ℕ → ℕ → Option SpritePixel
pixel_by_values attached pair even odd =
    if attached then pixel_of pair 16 (4 * odd + even)
    else option_or (pixel_of pair (16 + 4 * pair) even) (pixel_of pair (16 + 4 * pair) odd)

abbrev pub pixel_by_byte : Bool → ℕ → ℕ → Option SpritePixel
pixel_by_byte attached pair byte =
    if nat_eq byte 0 then None
    else Some (record { pair = pair; colour = if attached then 16 + byte else 16 + 4 * pair + (if nat_eq (byte % 4) 0 then byte / 4 else byte % 4) })

small_pairs : (attached : Bool) (pair even odd : ℕ) → even ≤ 3 → odd ≤ 3 → pixel_by_values attached pair even odd ≡ pixel_by_byte attached pair (4 * odd + even)
small_pairs true pair zero zero he ho = refl
small_pairs true pair (suc zero) zero he ho = refl
small_pairs true pair (suc (suc zero)) zero he ho = refl
small_pairs true pair (suc (suc (suc zero))) zero he ho = refl
small_pairs true pair zero (suc zero) he ho = refl
small_pairs true pair (suc zero) (suc zero) he ho = refl
small_pairs true pair (suc (suc zero)) (suc zero) he ho = refl
small_pairs true pair (suc (suc (suc zero))) (suc zero) he ho = refl
small_pairs true pair zero (suc (suc zero)) he ho = refl
small_pairs true pair (suc zero) (suc (suc zero)) he ho = refl
small_pairs true pair (suc (suc zero)) (suc (suc zero)) he ho = refl
small_pairs true pair (suc (suc (suc zero))) (suc (suc zero)) he ho = refl
small_pairs true pair zero (suc (suc (suc zero))) he ho = refl
small_pairs true pair (suc zero) (suc (suc (suc zero))) he ho = refl
small_pairs true pair (suc (suc zero)) (suc (suc (suc zero))) he ho = refl
small_pairs true pair (suc (suc (suc zero))) (suc (suc (suc zero))) he ho = refl
small_pairs false pair zero zero he ho = refl
small_pairs false pair (suc zero) zero he ho = refl
small_pairs false pair (suc (suc zero)) zero he ho = refl
small_pairs false pair (suc (suc (suc zero))) zero he ho = refl
small_pairs false pair zero (suc zero) he ho = refl
small_pairs false pair (suc zero) (suc zero) he ho = refl
small_pairs false pair (suc (suc zero)) (suc zero) he ho = refl
small_pairs false pair (suc (suc (suc zero))) (suc zero) he ho = refl
small_pairs false pair zero (suc (suc zero)) he ho = refl
small_pairs false pair (suc zero) (suc (suc zero)) he ho = refl
small_pairs false pair (suc (suc zero)) (suc (suc zero)) he ho = refl
small_pairs false pair (suc (suc (suc zero))) (suc (suc zero)) he ho = refl
small_pairs false pair zero (suc (suc (suc zero))) he ho = refl
small_pairs false pair (suc zero) (suc (suc (suc zero))) he ho = refl
small_pairs false pair (suc (suc zero)) (suc (suc (suc zero))) he ho = refl
small_pairs false pair (suc (suc (suc zero))) (suc (suc (suc zero))) he ho = refl
small_pairs attached pair (suc (suc (suc (suc n)))) odd he ho = absurd (omega arith)
small_pairs attached pair even (suc (suc (suc (suc n)))) he ho = absurd (omega arith)

-- a pair's pixel by its byte
pub pair_by_byte : (values : List ℕ) (attached pair byte : ℕ) →
    slice_index values (2 * pair) ≤ 3 → slice_index values (2 * pair + 1) ≤ 3 →
    byte ≡ 4 * slice_index values (2 * pair + 1) + slice_index values (2 * pair) →
    pixel_of_byte pair byte attached ≡ pair_pixel values attached pair
pair_by_byte values attached pair byte even odd is =
    ap (λ (n : ℕ). pixel_of_byte pair n attached) is
    ∙ sym (small_pairs (nat_eq (attached / 2 ^ pair % 2) 1) pair (slice_index values (2 * pair)) (slice_index values (2 * pair + 1)) even odd)

-- the pixel in front by the four bytes
pub front_by_bytes : (values : List ℕ) (attached a b c d : ℕ) → ((k : ℕ) → slice_index values k ≤ 3) →
    a ≡ 4 * slice_index values 1 + slice_index values 0 → b ≡ 4 * slice_index values 3 + slice_index values 2 →
    c ≡ 4 * slice_index values 5 + slice_index values 4 → d ≡ 4 * slice_index values 7 + slice_index values 6 →
    front_of_bytes a b c d attached ≡ front_pixel values attached
unfolding front_pixel
front_by_bytes values attached a b c d few a_is b_is c_is d_is =
    rw (
      pair_by_byte values attached 0 a (few 0) (few 1) a_is,
      pair_by_byte values attached 1 b (few 2) (few 3) b_is,
      pair_by_byte values attached 2 c (few 4) (few 5) c_is,
      pair_by_byte values attached 3 d (few 6) (few 7) d_is,
    ) refl

-- four bytes that are 0 together are 0 each
or-left : (m n : ℕ) → bit_or m n ≡ 0 → m ≡ 0
or-left m n none = omega (arith, le_or_l m n)

or-right : (m n : ℕ) → bit_or m n ≡ 0 → n ≡ 0
or-right m n none = omega (arith, le_or_r m n)

pub record AreZero (a b c d : ℕ) : Type 0 where
  pub first : a ≡ 0
  pub second : b ≡ 0
  pub third : c ≡ 0
  pub fourth : d ≡ 0

pub are_zero : (a b c d : ℕ) → bit_or (bit_or (bit_or a b) c) d ≡ 0 → AreZero a b c d
are_zero a b c d none =
    let abc : bit_or (bit_or a b) c ≡ 0 = or-left (bit_or (bit_or a b) c) d none in
    let ab : bit_or a b ≡ 0 = or-left (bit_or a b) c abc in
    record {
      first = or-left a b ab;
      second = or-right a b ab;
      third = or-right (bit_or a b) c abc;
      fourth = or-right (bit_or (bit_or a b) c) d none;
    }

pub none_in_front : (a b c d attached : ℕ) → bit_or (bit_or (bit_or a b) c) d ≡ 0 → None ≡ front_of_bytes a b c d attached
none_in_front a b c d attached none =
    let zeros : AreZero a b c d = are_zero a b c d none in
    rw (zeros.first, zeros.second, zeros.third, zeros.fourth) refl

-- one pair alone
or_none : (o : Option SpritePixel) → o ≡ option_or o None
or_none None = refl
or_none (Some s) = refl

pub alone_in_front : (bytes : ℕ → ℕ) (pair attached : ℕ) → pair ≤ 3 → ((q : ℕ) → q < 4 → q ≢ pair → bytes q ≡ 0) →
    pixel_of_byte pair (bytes pair) attached ≡ front_of_bytes (bytes 0) (bytes 1) (bytes 2) (bytes 3) attached
alone_in_front bytes zero attached few none =
    let b : bytes 1 ≡ 0 = none 1 (omega arith) (λ e. omega (arith, e)) in
    let c : bytes 2 ≡ 0 = none 2 (omega arith) (λ e. omega (arith, e)) in
    let d : bytes 3 ≡ 0 = none 3 (omega arith) (λ e. omega (arith, e)) in
    or_none (pixel_of_byte 0 (bytes 0) attached) ∙ (rw (b, c, d) refl)
alone_in_front bytes (suc zero) attached few none =
    let a : bytes 0 ≡ 0 = none 0 (omega arith) (λ e. omega (arith, e)) in
    let c : bytes 2 ≡ 0 = none 2 (omega arith) (λ e. omega (arith, e)) in
    let d : bytes 3 ≡ 0 = none 3 (omega arith) (λ e. omega (arith, e)) in
    or_none (pixel_of_byte 1 (bytes 1) attached) ∙ (rw (a, c, d) refl)
alone_in_front bytes (suc (suc zero)) attached few none =
    let a : bytes 0 ≡ 0 = none 0 (omega arith) (λ e. omega (arith, e)) in
    let b : bytes 1 ≡ 0 = none 1 (omega arith) (λ e. omega (arith, e)) in
    let d : bytes 3 ≡ 0 = none 3 (omega arith) (λ e. omega (arith, e)) in
    or_none (pixel_of_byte 2 (bytes 2) attached) ∙ (rw (a, b, d) refl)
alone_in_front bytes (suc (suc (suc zero))) attached few none =
    let a : bytes 0 ≡ 0 = none 0 (omega arith) (λ e. omega (arith, e)) in
    let b : bytes 1 ≡ 0 = none 1 (omega arith) (λ e. omega (arith, e)) in
    let c : bytes 2 ≡ 0 = none 2 (omega arith) (λ e. omega (arith, e)) in
    rw (a, b, c) refl
alone_in_front bytes (suc (suc (suc (suc n)))) attached few none = absurd (omega (arith, few))

pub some_pixel : (pair byte attached : ℕ) (s : SpritePixel) → nat_eq byte 0 ≡ false → s.pair ≡ pair → s.colour ≡ colour_of_byte pair byte attached →
    Some s ≡ pixel_of_byte pair byte attached
some_pixel pair byte attached s is one two =
    let same : s ≡ record { pair = pair; colour = colour_of_byte pair byte attached } =
    ap (λ (n : ℕ). record { pair = n; colour = s.colour }) one ∙ ap (λ (n : ℕ). record { pair = pair; colour = n }) two in
    rw is (ap (λ (p : SpritePixel). Some p) same)
