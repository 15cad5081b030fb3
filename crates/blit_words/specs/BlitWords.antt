-- The words that a blit makes of words: minterms, shifts, masks and fill. Bits are the numbers 0 and 1.
use Rattle.std.specs.Prelude.{ℕ, zero, suc, ◌+◌, ◌-◌, ◌*◌, ◌/◌, ◌%◌, ◌^◌, max, Bool, ◌==◌, if◌then◌else◌, bit_and, count_ones}
use Rattle.std.specs.Int.{bit_at}

-- the number of so many binary digits, the lowest first
unfoldable pub number_of : ℕ → (ℕ → ℕ) → ℕ
number_of zero digit = 0
number_of (suc n) digit = digit 0 + 2 * number_of n (λ i. digit (suc i))

-- the word with these bits, bit 0 first
abbrev pub word_with : (ℕ → ℕ) → ℕ
word_with digit = number_of 16 digit

-- whether a bit of a word is set
abbrev pub is_set : ℕ → ℕ → Bool
is_set word i = bit_at word i == 1

abbrev pub one_if : Bool → ℕ
one_if b = if b then 1 else 0

-- The minterm: three words joined bit by bit. LF has a bit for each choice of the three input bits a, b and c, at the place
-- 4a + 2b + c, and the result has that bit.
unfoldable pub minterm_of : ℕ → ℕ → ℕ → ℕ → ℕ
minterm_of lf a b c = word_with (λ i. bit_at lf (4 * bit_at a i + 2 * bit_at b i + bit_at c i))

-- The barrel shifter: the word with the word before it shifted in, to the right, or to the left in descending mode.
abbrev pub shifted_input : Bool → ℕ → ℕ → ℕ → ℕ
shifted_input descending shift before word =
    if descending
    then (65536 * word + before) / 2 ^ (16 - shift) % 65536
    else (65536 * before + word) / 2 ^ shift % 65536

-- the word in column c of a row of so many words, under the mask of the first word and that of the last
abbrev pub masked_word : ℕ → ℕ → ℕ → ℕ → ℕ → ℕ
masked_word first last width c word =
    let a = if c == 0 then bit_and word first else word in
    if c + 1 == width then bit_and a last else a

-- how many of the bits below bit i are set
abbrev pub ones_right_of : ℕ → ℕ → ℕ
ones_right_of i word = count_ones (word % 2 ^ i)

-- The fill of a word, where n is FCI plus the number of 1 bits to the right of the word in its row. The carry before a bit
-- is that number and the 1 bits to the right within the word, modulo 2. The filled bit is carry XOR bit in exclusive mode
-- and carry OR bit in inclusive mode.
unfoldable pub filled_word : Bool → ℕ → ℕ → ℕ
filled_word exclusive n word =
    word_with (λ i.
    let carry = (n + ones_right_of i word) % 2 in
    if exclusive then (carry + bit_at word i) % 2 else max carry (bit_at word i))
