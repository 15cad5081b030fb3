-- The display window's registers, and the bounds that they say.
use Rattle.std.specs.Prelude.{◌≡◌, ℕ}
use Rattle.serial_model.specs.Window.{window_start, window_stop, window_left, window_right}

pub record WindowRegisters : Type 0 where
  pub diwstrt : ℕ
  pub diwstop : ℕ

abbrev pub no_window : WindowRegisters
no_window = record { diwstrt = 0; diwstop = 0 }

-- the bounds are those of the registers
pub record HasBounds (diwstrt diwstop top bottom left right : ℕ) : Type 0 where
  pub first_line : top ≡ window_start diwstrt
  pub line_behind : bottom ≡ window_stop diwstop
  pub first_column : left ≡ window_left diwstrt
  pub column_behind : right ≡ window_right diwstop
