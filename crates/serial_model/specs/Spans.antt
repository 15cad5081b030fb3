-- Picture steps of clocks of a line one behind the other, between which nothing touches the picture state.
use Rattle.std.specs.Prelude.{ℕ, zero, suc, ◌+◌, List, [], ◌++◌, bit_or}
use Rattle.ocs_base.specs.declared.system.System.{System}
use Rattle.serial_model.specs.declared.picture.Denise.{Denise}
use Rattle.serial_model.specs.Picture.{step_of, after_step}

-- the picture state after so many picture steps from clock h of line v on
unfoldable pub after_shows : System → ℕ → ℕ → ℕ → Denise → Denise
after_shows system v h zero p = p
after_shows system v h (suc n) p =
    let before = after_shows system v h n p in after_step (step_of system v (h + n) before) before

-- their bytes
unfoldable pub shown_bytes : System → ℕ → ℕ → ℕ → Denise → List ℕ
shown_bytes system v h zero p = []
shown_bytes system v h (suc n) p =
    shown_bytes system v h n p ++ (step_of system v (h + n) (after_shows system v h n p)).bytes

-- their collision bits
unfoldable pub shown_clx : System → ℕ → ℕ → ℕ → Denise → ℕ
shown_clx system v h zero p = 0
shown_clx system v h (suc n) p =
    bit_or (shown_clx system v h n p) (step_of system v (h + n) (after_shows system v h n p)).clx
