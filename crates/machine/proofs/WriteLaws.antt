-- While a blit is under way its registers are closed to writes, which do not reach LOF.
use Rattle.std.proofs.Common.{◌≡◌, ℕ, ◌%◌, ◌<◌, Bool, true, false, not, ◌&&◌, ◌||◌, nat_le, if◌then◌else◌, refl}
use Rattle.std.proofs.lemmas.Bool.{false≢true, true≢false}
use Rattle.ocs_base.specs.declared.reg.Reg.{Reg}
use Rattle.reg_file.proofs.TableLaws.{at_all, law}
use Rattle.serial_model.specs.declared.registers.Effect.TheVariants as E
use Rattle.serial_model.specs.declared.registers.Writing.{Writing}
use Rattle.serial_model.specs.declared.registers.Writing.TheVariants as W
use Rattle.serial_model.specs.RegisterTable.{rows, row_at, writing_at}
use Rattle.serial_model.specs.Registers.{effect_in, effect_of, is_closed}
use Rattle.serial_model.specs.Write.{lof_of}

-- a write that LOF has
abbrev is_field : Writing → Bool
is_field W.Ignored = false
is_field W.Plain = false
is_field W.PointerHigh = false
is_field W.SetOrClear = false
is_field (W.Jump list) = false
is_field W.Blit = false
is_field W.Picture = false
is_field W.Interrupt = false
is_field W.Field = true

-- no register of the blitter has one: computed over all offsets
abbrev has_no_field : ℕ → Bool
has_no_field n = not (nat_le 0x40 n && nat_le n 0x74) || not (is_field (writing_at n))

none_field : at_all has_no_field ≡ at_all (λ n. true)
unfolding row_at rows
none_field = refl

blitter_has_none : (n : ℕ) → n % 2 ≡ 0 → n < 512 → has_no_field n ≡ true
unfolding row_at rows
blitter_has_none n even below = law has_no_field (λ m. true) none_field refl n even below

closed_has_none : (busy low high field : Bool) → (not (low && high) || not field) ≡ true → (busy && low && high) ≡ true → field ≡ false
closed_has_none true true true true none closed = absurd (false≢true none)
closed_has_none true true true false none closed = refl
closed_has_none true true false field none closed = absurd (false≢true closed)
closed_has_none true false high field none closed = absurd (false≢true closed)
closed_has_none false low high field none closed = absurd (false≢true closed)

lof_by : (closed : Bool) (way : Writing) (word : ℕ) (lof : Bool) → (closed ≡ true → is_field way ≡ false)
    → lof_of (if closed then E.Nothing else effect_in way word) lof ≡ lof_of (effect_in way word) lof
lof_by false way word lof field = refl
lof_by true W.Ignored word lof field = refl
lof_by true W.Plain word lof field = refl
lof_by true W.PointerHigh word lof field = refl
lof_by true W.SetOrClear word lof field = refl
lof_by true (W.Jump list) word lof field = refl
lof_by true W.Blit word lof field = refl
lof_by true W.Picture word lof field = refl
lof_by true W.Interrupt word lof field = refl
lof_by true W.Field word lof field = absurd (true≢false (field refl))

-- so a write's effect on LOF is the same while a blit is under way
pub lof_open : (busy : Bool) (reg : Reg) (word : ℕ) (lof : Bool)
    → lof_of (effect_of busy reg.offset word) lof ≡ lof_of (effect_of false reg.offset word) lof
unfolding effect_of
lof_open busy reg word lof =
    lof_by (is_closed busy reg.offset) (writing_at reg.offset) word lof
    (closed_has_none busy (nat_le 0x40 reg.offset) (nat_le reg.offset 0x74) (is_field (writing_at reg.offset))
    (blitter_has_none reg.offset reg.even reg.below))
