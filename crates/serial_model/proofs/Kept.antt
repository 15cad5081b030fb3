-- What stands for a picture state goes on to do so.
use Rattle.std.proofs.Common.{◌≡◌, ℕ, ◌*◌, refl, subst, sym, slice_set}
use Rattle.serial_model.specs.declared.picture.Denise.{Denise}
use Rattle.serial_model.specs.Picture.{set_picture, add_load}
use Rattle.serial_model.specs.StandsFor.{StandsFor}
use Rattle.serial_model.proofs.Standing.{stands_for_itself, stands_later, stands_on, stands_written}
use Rattle.serial_model.specs.Keeps.{Keeps}

-- by a state that stands for the old one with the write made
pub kept_write : (h offset word : ℕ) (old new : Denise) → StandsFor (4 * h) new (set_picture h offset word old)
    → Keeps (4 * h) (set_picture h offset word) old new
kept_write h offset word old new made from p later stands =
    stands_on from new (set_picture h offset word old) (set_picture h offset word p)
    (stands_later (4 * h) from new (set_picture h offset word old) later made)
    (stands_written from h offset word old p stands)

pub kept_same : (h offset word : ℕ) (old new : Denise) → new ≡ set_picture h offset word old
    → Keeps (4 * h) (set_picture h offset word) old new
kept_same h offset word old new same =
    kept_write h offset word old new
    (subst (λ q. StandsFor (4 * h) q (set_picture h offset word old)) (sym same) (stands_for_itself (4 * h) (set_picture h offset word old)))

-- a write to BPL1DAT
first_write : (h word : ℕ) (old : Denise) → set_picture h 0x110 word old ≡ add_load h (record old { latches = slice_set old.latches 0 word })
unfolding set_picture
first_write h word old = refl

pub kept_load : (h offset word : ℕ) (old new : Denise) → offset ≡ 0x110
    → StandsFor (4 * h) new (add_load h (record old { latches = slice_set old.latches 0 word }))
    → Keeps (4 * h) (set_picture h offset word) old new
kept_load h offset word old new first made =
    subst (λ o. Keeps (4 * h) (set_picture h o word) old new) (sym first)
    (kept_write h 0x110 word old new (subst (λ q. StandsFor (4 * h) new q) (sym (first_write h word old)) made))
