-- The code's ways to find a register agree with the table of registers: computed over all offsets.
use Rattle.std.proofs.Common.{◌≡◌, ℕ, Bool, true, not, subst, nat_lt, ◌*◌, ◌/◌, ◌%◌, ◌<◌, ◌==◌}
use Rattle.std.proofs.Common.{◌||◌, if◌then◌else◌, List, get_or, map, refl, ap, sym, ◌∙◌, arith}
use Rattle.std.specs.List.{range_with_len}
use Rattle.std.proofs.lemmas.Bool.{ltb-true}
use Rattle.std.proofs.lemmas.List.FromFn.{get_or-map-range_with_len}
use Rattle.serial_model.specs.declared.registers.Reading.{Reading}
use Rattle.serial_model.specs.declared.registers.Reading.TheVariants as R
use Rattle.serial_model.specs.declared.registers.Writing.{Writing}
use Rattle.serial_model.specs.declared.registers.Writing.TheVariants as W
use Rattle.serial_model.specs.RegisterTable.{rows, row_at, reading_at, writing_at, kept_bits_at, is_pointer_high}
use Rattle.reg_file.specs.code.Table.{is_within, is_pointer_word, pointer_writing, whole_word_in}

-- a function's values at all registers
abbrev pub at_all : {A : Type 0} → (ℕ → A) → List A
at_all f = map (λ k. f (2 * k)) (range_with_len 0 256)

pub from_all : {A : Type 0} (f : ℕ → A) (n : ℕ) → n % 2 ≡ 0 → n < 512 → get_or (at_all f) (n / 2) (f 0) ≡ f n
from_all f n even below =
    let e : 2 * (n / 2) ≡ n = omega arith in
    get_or-map-range_with_len (λ k. f (2 * k)) 0 256 (n / 2) (n / 2) (f 0) (omega arith) (omega arith) ∙ ap f e

pub law : {A : Type 0} (f g : ℕ → A) → at_all f ≡ at_all g → f 0 ≡ g 0 → (n : ℕ) → n % 2 ≡ 0 → n < 512 → f n ≡ g n
law f g same first n even below =
    sym (from_all f n even below) ∙ ap (λ l. get_or l (n / 2) (f 0)) same ∙ ap (λ d. get_or (at_all g) (n / 2) d) first ∙ from_all g n even below

-- what the code finds, in the order of its tests
abbrev pub reading_found : ℕ → Reading
reading_found n =
    if n == 0x002 then R.DmaAndBlitter
    else (if n == 0x004 then R.FieldAndLine
    else (if n == 0x006 then R.LineAndClock
    else (if n == 0x00a then R.Joystick 0
    else (if n == 0x00c then R.Joystick 1
    else (if n == 0x00e || n == 0x01c || n == 0x01e then R.Elsewhere else R.Zero)))))

abbrev pub writing_found : ℕ → Writing
writing_found n =
    if is_within 0x180 0x1be n then W.Picture
    else (if is_pointer_word n then pointer_writing n
    else (if n == 0x02a then W.Field
    else (if n == 0x058 then W.Blit
    else (if n == 0x088 then W.Jump 1
    else (if n == 0x08a then W.Jump 2
    else (if n == 0x096 then W.SetOrClear
    else (if n == 0x09a || n == 0x09c then W.Interrupt
    else (if n == 0x02e || is_within 0x040 0x046 n || is_within 0x060 0x066 n || is_within 0x070 0x074 n then W.Plain
    else (if is_within 0x092 0x094 n || n == 0x108 || n == 0x10a then W.Plain
    else (if is_within 0x08e 0x090 n || n == 0x098 || is_within 0x100 0x104 n || is_within 0x110 0x11a n then W.Picture
    else (if is_within 0x140 0x17e n then W.Picture else W.Ignored)))))))))))

-- of a pointer's high word or low word
abbrev pub pointer_bits : ℕ → ℕ
pointer_bits n = if n % 4 == 0 then 0 else 65534

abbrev pub bits_found : ℕ → ℕ
bits_found n =
    if is_within 0x180 0x1be n then 0x0fff
    else (if is_within 0x048 0x050 n || is_within 0x054 0x056 n || is_within 0x080 0x086 n then pointer_bits n
    else (if is_within 0x0e0 0x0f6 n || is_within 0x120 0x13e n then pointer_bits n
    else (if n == 0x096 then 0x07ff else whole_word_in (writing_at n))))

pub readings_agree : at_all reading_at ≡ at_all reading_found
unfolding row_at rows
readings_agree = refl

pub writings_agree : at_all writing_at ≡ at_all writing_found
unfolding row_at rows
writings_agree = refl

pub bits_agree : at_all kept_bits_at ≡ at_all bits_found
unfolding row_at rows
bits_agree = refl

pub reading_law : (n : ℕ) → n % 2 ≡ 0 → n < 512 → (row_at n).reading ≡ reading_found n
unfolding row_at rows
reading_law = law reading_at reading_found readings_agree refl

pub writing_law : (n : ℕ) → n % 2 ≡ 0 → n < 512 → (row_at n).writing ≡ writing_found n
unfolding row_at rows
writing_law = law writing_at writing_found writings_agree refl

pub bits_law : (n : ℕ) → n % 2 ≡ 0 → n < 512 → (row_at n).kept_bits ≡ bits_found n
unfolding row_at rows
bits_law = law kept_bits_at bits_found bits_agree refl

-- the high word of a pointer is not the last register
abbrev pub has_low : ℕ → Bool
has_low n = not (is_pointer_high n) || nat_lt n 510

pub lows_follow : at_all has_low ≡ at_all (λ n. true)
unfolding row_at rows
lows_follow = refl

pub low_follows : (n : ℕ) → n % 2 ≡ 0 → n < 512 → is_pointer_high n ≡ true → n < 510
unfolding row_at rows
low_follows n even below high =
    let e : has_low n ≡ true = law has_low (λ m. true) lows_follow refl n even below in
    ltb-true n 510 (subst (λ b. not b || nat_lt n 510 ≡ true) high e)
