-- Writes to Denise's registers, by the register.
use Rattle.std.proofs.Common.{◌≡◌, ◌≢◌, ℕ, ◌+◌, ◌*◌, ◌-◌, ◌/◌, ◌%◌, ◌≤◌, ◌<◌, ◌∙◌, Bool, true, false, slice_set, ap, arith}
use Rattle.std.proofs.lemmas.Bool.Decides.{nat_tests}
use Rattle.serial_model.specs.declared.picture.Denise.{Denise}
use Rattle.serial_model.specs.Picture.{add_load, set_picture, set_sprite, sprite_data}

pub latch_set : (h offset word : ℕ) (p : Denise) → 274 ≤ offset → offset ≤ 282
    → set_picture h offset word p ≡ record p { latches = slice_set p.latches ((offset - 272) / 2) word }
unfolding set_picture
latch_set h offset word p least most = grind (arith, nat_tests)

-- the numbers between those of Denise's registers
pub none_set : (h offset word : ℕ) (p : Denise) → 282 < offset → offset < 320 → set_picture h offset word p ≡ p
unfolding set_picture
none_set h offset word p least most = grind (arith, nat_tests)

pub none_between : (h offset word : ℕ) (p : Denise) → 382 < offset → offset < 384 → set_picture h offset word p ≡ p
unfolding set_picture
none_between h offset word p least most = grind (arith, nat_tests)

pub none_after : (h offset word : ℕ) (p : Denise) → 446 < offset → set_picture h offset word p ≡ p
unfolding set_picture
none_after h offset word p least = grind (arith, nat_tests)

-- and those below that none of them has
pub none_before : (h offset word : ℕ) (p : Denise) → offset < 274 → offset ≢ 142 → offset ≢ 144 → offset ≢ 152 → offset ≢ 256 → offset ≢ 258 →
    offset ≢ 260 → offset ≢ 272 → set_picture h offset word p ≡ p
unfolding set_picture
none_before h offset word p most a b c d e f g = grind (arith, nat_tests)

-- a sprite's register, and a colour
pub sprite_set : (h offset word : ℕ) (p : Denise) → 320 ≤ offset → offset ≤ 382
    → set_picture h offset word p ≡ set_sprite ((offset - 320) / 8) ((offset - 320) % 8) word p
unfolding set_picture
sprite_set h offset word p least most = grind (arith, nat_tests)

pub colour_set : (h offset word : ℕ) (p : Denise) → 384 ≤ offset → offset ≤ 446
    → set_picture h offset word p ≡ record p { palette = slice_set p.palette ((offset - 384) / 2) (word % 4096) }
unfolding set_picture
colour_set h offset word p least most = grind (arith, nat_tests)

-- BPL1DAT, which makes a load
pub load_set : (h offset word : ℕ) (p : Denise) → offset ≡ 272 →
    set_picture h offset word p ≡ add_load h (record p { latches = slice_set p.latches 0 word })
unfolding set_picture
load_set h offset word p is = ap (λ (o : ℕ). set_picture h o word p) is

-- the words that are fetched for a sprite, by where their registers lie behind the first sprite's first
pub sprite_from : (h offset from word : ℕ) (p : Denise) → from ≤ 62 → from + 320 ≡ offset
    → set_picture h offset word p ≡ set_sprite (from / 8) (from % 8) word p
sprite_from h offset from word p most is =
    let behind : offset - 320 ≡ from = omega (arith, is) in
    sprite_set h offset word p (omega (arith, is)) (omega (arith, is, most))
    ∙ ap (λ (n : ℕ). set_sprite (n / 8) (n % 8) word p) behind

pub second_word : (sprite : ℕ) (second : Bool) → second ≡ true → 8 * sprite + 6 + 320 ≡ sprite_data sprite second
second_word sprite true is = omega arith
second_word sprite false is = cc

pub first_word : (sprite : ℕ) (second : Bool) → second ≡ false → 8 * sprite + 4 + 320 ≡ sprite_data sprite second
first_word sprite false is = omega arith
first_word sprite true is = cc
