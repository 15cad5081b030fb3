-- Even numbers below a span.
use Rattle.std.specs.Prelude.{◌≡◌, ℕ, ◌%◌, ◌/◌, ◌*◌, ℤ, pos}
use Rattle.std.specs.Int.{int_rem_euclid}

-- the even address that a number names: what the span leaves of it, without its bit 0
abbrev pub even_address : ℕ → ℕ → ℕ
even_address span raw = raw % span / 2 * 2

abbrev pub IsEven : ℤ → Type 0
IsEven z = int_rem_euclid z (pos 2) ≡ pos 0
