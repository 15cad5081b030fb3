-- A data path by which each word of A is the result as it is.
use Rattle.std.specs.Prelude.{◌≡◌, ℕ}

-- the minterm is A, which has neither a shift nor a mask with a 0
pub record IsCopy (lf shift first last : ℕ) : Type 0 where
  pub minterm : lf ≡ 240
  pub no_shift : shift ≡ 0
  pub first_mask : first ≡ 65535
  pub last_mask : last ≡ 65535
