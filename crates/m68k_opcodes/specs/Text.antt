-- The patterns of opcodes, as text: 0 and 1 stand for themselves, a letter for a digit of the field that it names, and a
-- space for nothing.
use Rattle.std.specs.Prelude.{ℕ, Bool, List, [], ◌∷◌, ◌==◌, ◌+◌, ◌*◌, ◌/◌, ◌%◌, ◌^◌, ◌||◌, if◌then◌else◌, bit_and}

-- the codes of a space and of the digits
abbrev pub space : ℕ
space = 32

abbrev pub zero_digit : ℕ
zero_digit = 48

abbrev pub one_digit : ℕ
one_digit = 49

-- the codes of the letters that say a size (s and z), the mode of an operand (e), and the mode and the register of MOVE's
-- destination (M and R)
abbrev pub letter_s : ℕ
letter_s = 115

abbrev pub letter_z : ℕ
letter_z = 122

abbrev pub letter_e : ℕ
letter_e = 101

abbrev pub letter_M : ℕ
letter_M = 77

abbrev pub letter_R : ℕ
letter_R = 82

-- the number that begins with n and goes on, at each place, with the binary digit that d makes of what stands there
abbrev pub digits : (ℕ → ℕ) → ℕ → List ℕ → ℕ
digits d n [] = n
digits d n (c ∷ cs) = if c == space then digits d n cs else digits d (2 * n + d c) cs

-- how many places hold c
abbrev pub places : ℕ → List ℕ → ℕ
places c [] = 0
places c (x ∷ xs) = if x == c then 1 + places c xs else places c xs

-- how many places stand below the last that holds c
abbrev pub below_last : ℕ → ℕ → List ℕ → ℕ
below_last c n [] = n
below_last c n (x ∷ xs) =
    if x == space then below_last c n xs else (if x == c then below_last c 0 xs else below_last c (1 + n) xs)

-- the bits that a pattern fixes, and what they are
abbrev pub mask : List ℕ → ℕ
mask text = digits (λ c. if (c == zero_digit) || (c == one_digit) then 1 else 0) 0 text

abbrev pub value : List ℕ → ℕ
value text = digits (λ c. if c == one_digit then 1 else 0) 0 text

abbrev pub fits : List ℕ → ℕ → Bool
fits text opcode = bit_and opcode (mask text) == value text

-- the number in the places that hold the letter c
abbrev pub field : ℕ → List ℕ → ℕ → ℕ
field c text opcode = opcode / 2 ^ below_last c 0 text % 2 ^ places c text
