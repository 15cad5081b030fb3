-- Denise's registers are those whose write has the effect of the picture.
use Rattle.std.proofs.Common.{◌≡◌, ℕ, Bool, true, false, refl}
use Rattle.serial_model.specs.declared.registers.Effect.{Effect}
use Rattle.serial_model.specs.declared.registers.Effect.TheVariants.{Kept, Nothing, Jump, Blit, Picture, Interrupt, Lof}
use Rattle.serial_model.specs.declared.registers.Writing.{Writing}
use Rattle.serial_model.specs.declared.registers.Writing.TheVariants as W
use Rattle.serial_model.specs.RegisterTable.{writing_at}
use Rattle.serial_model.specs.Registers.{effect_in, effect_of, is_picture_kind, is_picture_register}

abbrev pub is_picture_effect : Effect → Bool
is_picture_effect Kept = false
is_picture_effect Nothing = false
is_picture_effect (Jump list) = false
is_picture_effect Blit = false
is_picture_effect Picture = true
is_picture_effect Interrupt = false
is_picture_effect (Lof long) = false

kind : (way : Writing) (word : ℕ) → is_picture_kind way ≡ is_picture_effect (effect_in way word)
kind W.Ignored word = refl
kind W.Plain word = refl
kind W.PointerHigh word = refl
kind W.SetOrClear word = refl
kind (W.Jump list) word = refl
kind W.Blit word = refl
kind W.Picture word = refl
kind W.Interrupt word = refl
kind W.Field word = refl

pub picture_register : (offset word : ℕ) → is_picture_register offset ≡ is_picture_effect (effect_of false offset word)
unfolding is_picture_register effect_of
picture_register offset word = kind (writing_at offset) word
