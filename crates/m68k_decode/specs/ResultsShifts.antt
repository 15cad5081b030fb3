-- The outcomes of shifts and rotations, in closed form: a shift by n is a product with 2 to the n or a quotient by it.
use Rattle.std.specs.Prelude.{ℕ, ◌+◌, ◌-◌, ◌*◌, ◌/◌, ◌%◌, ◌^◌, Bool, false, not, ◌&&◌, if◌then◌else◌, ◌==◌, ◌≡◌, ◌≤◌, ◌≢◌, ℤ, pos, ◌*ℤ◌}
use Rattle.std.specs.Int.{int_div_euclid}
use Rattle.m68k_opcodes.specs.declared.operand.Size.{Size}
use Rattle.m68k_decode.specs.declared.outcome.Flags.{Flags}
use Rattle.m68k_decode.specs.declared.outcome.Outcome.{Outcome}
use Rattle.m68k_decode.specs.Results.{bits, span, half, low, is_negative, signed, is_signed, wrapped, one_if, outcome}

-- the count of a shift
abbrev pub shift_count : ℕ → ℕ
shift_count b = b % 64

-- N and Z are those of the result, C is the last bit out (none at count 0), X is C where the count is not 0
abbrev pub shift_outcome : Size → (value : ℕ) (last overflow : Bool) (count : ℕ) → Flags → Outcome
shift_outcome s value last overflow count f =
    outcome value (if count == 0 then f.x else last) (is_negative s value) (value == 0) overflow last

-- ---- shifts of a number n of the size by k

abbrev pub shifted_left : Size → ℕ → ℕ → ℕ
shifted_left s n k = n * 2 ^ k % span s

-- the last bit out to the left is the one above the size; at k = 0 that is 0
abbrev pub last_out_left : Size → ℕ → ℕ → Bool
last_out_left s n k = n * 2 ^ k / span s % 2 == 1

-- The top bit changes at some step of a shift to the left by k: the number with its sign, doubled k times, leaves the
-- size. (Once it has left it stays outside, since the next doubling is farther from 0.) ASL promises that this is
-- ChangesAtSomeStep.
abbrev pub top_bit_changes : Size → ℕ → ℕ → Bool
top_bit_changes s n k = not (is_signed s (signed s n *ℤ pos (2 ^ k)))

-- some j of the k steps leaves a top bit that is not the first
abbrev pub ChangesAtSomeStep : Size → ℕ → ℕ → Type 0
ChangesAtSomeStep s n k = (j : ℕ) × ((j ≤ k) × (is_negative s (shifted_left s n j) ≢ is_negative s n))

abbrev pub shifted_right : ℕ → ℕ → ℕ
shifted_right n k = n / 2 ^ k

-- the last bit out to the right is bit k - 1; none is at k = 0
abbrev pub last_out_right : ℕ → ℕ → Bool
last_out_right n k = not (k == 0) && (n / 2 ^ (k - 1) % 2 == 1)

-- the number with its sign, shifted to the right: its quotient, rounded down
abbrev pub shifted_right_signed : Size → ℤ → ℕ → ℕ
shifted_right_signed s z k = wrapped s (int_div_euclid z (pos (2 ^ k)))

-- the last bit out is bit k - 1 of the number extended with its sign
abbrev pub last_out_right_signed : Size → ℤ → ℕ → Bool
last_out_right_signed s z k = not (k == 0) && (shifted_right_signed s z (k - 1) % 2 == 1)

abbrev pub asl_of : Size → ℕ → ℕ → Flags → Outcome
asl_of s a b f =
    let n = low s a in
    let k = shift_count b in
    shift_outcome s (shifted_left s n k) (last_out_left s n k) (top_bit_changes s n k) k f

abbrev pub asr_of : Size → ℕ → ℕ → Flags → Outcome
asr_of s a b f =
    let z = signed s (low s a) in
    let k = shift_count b in
    shift_outcome s (shifted_right_signed s z k) (last_out_right_signed s z k) false k f

abbrev pub lsl_of : Size → ℕ → ℕ → Flags → Outcome
lsl_of s a b f =
    let n = low s a in
    let k = shift_count b in
    shift_outcome s (shifted_left s n k) (last_out_left s n k) false k f

abbrev pub lsr_of : Size → ℕ → ℕ → Flags → Outcome
lsr_of s a b f =
    let n = low s a in
    let k = shift_count b in
    shift_outcome s (shifted_right n k) (last_out_right n k) false k f

-- ---- rotations

-- a number of `width` bits rotated to the left by k, at most the width; to the right by k is to the left by width - k
abbrev pub rotated : (width k n : ℕ) → ℕ
rotated width k n = n * 2 ^ k % 2 ^ width + n * 2 ^ k / 2 ^ width

-- the numbers of the size rotated by k modulo its bits
abbrev pub rotated_left : Size → ℕ → ℕ → ℕ
rotated_left s n k = rotated (bits s) (k % bits s) n

abbrev pub rotated_right : Size → ℕ → ℕ → ℕ
rotated_right s n k = rotated (bits s) (bits s - k % bits s) n

-- One step of a rotation: to the left the top bit becomes the lowest, to the right the lowest the top bit.
abbrev pub one_left : Size → ℕ → ℕ
one_left s n = n * 2 % span s + n * 2 / span s

abbrev pub one_right : Size → ℕ → ℕ
one_right s n = n / 2 + n % 2 * half s

-- A rotation by k, for every k: by none it leaves n, and one more is one step. ROL and ROR promise this of theirs.
abbrev pub GoesByStep : (by : ℕ → ℕ) (step : ℕ → ℕ) (n : ℕ) → Type 0
GoesByStep by step n = (by 0 ≡ n) × ((k : ℕ) → by (1 + k) ≡ step (by k))

-- X stays; C is the last bit out, which is now the lowest or the highest of the result, and 0 at count 0
abbrev pub rotation_outcome : Size → (value : ℕ) (last : Bool) (count : ℕ) → Flags → Outcome
rotation_outcome s value last count f =
    outcome value f.x (is_negative s value) (value == 0) false (not (count == 0) && last)

abbrev pub rol_of : Size → ℕ → ℕ → Flags → Outcome
rol_of s a b f =
    let k = shift_count b in
    let value = rotated_left s (low s a) k in
    rotation_outcome s value (value % 2 == 1) k f

abbrev pub ror_of : Size → ℕ → ℕ → Flags → Outcome
ror_of s a b f =
    let k = shift_count b in
    let value = rotated_right s (low s a) k in
    rotation_outcome s value (is_negative s value) k f

-- ROXL and ROXR rotate X and the number as one number of one more bit, of which X is the top bit
abbrev pub with_x : Size → ℕ → Bool → ℕ
with_x s n x = one_if x * span s + n

abbrev pub extended_rotation_outcome : Size → ℕ → Outcome
extended_rotation_outcome s n =
    let value = n % span s in
    let x = n / span s == 1 in
    outcome value x (is_negative s value) (value == 0) false x

abbrev pub roxl_of : Size → ℕ → ℕ → Flags → Outcome
roxl_of s a b f =
    let width = bits s + 1 in
    extended_rotation_outcome s (rotated width (shift_count b % width) (with_x s (low s a) f.x))

abbrev pub roxr_of : Size → ℕ → ℕ → Flags → Outcome
roxr_of s a b f =
    let width = bits s + 1 in
    extended_rotation_outcome s (rotated width (width - shift_count b % width) (with_x s (low s a) f.x))
