-- Laws of the words that bytes make.
use Rattle.std.proofs.Common.{◌≡◌, ℕ, Bool, true, false, cond, ◌==◌, ◌||◌, refl, ◌+◌, ◌-◌, ◌*◌, ◌/◌, ◌%◌, ◌<◌, ◌≤◌, List, []}
use Rattle.std.proofs.Common.{◌∷◌, ◌++◌, length, replicate, take, drop, get_or, ap, ◌∙◌, arith, append_assoc, length-append}
use Rattle.std.proofs.lemmas.Bool.Decides.{nat_tests}
use Rattle.std.proofs.lemmas.List.{take_all, append-nil, length-replicate}
use Rattle.ocs_base.specs.Memory.{words, memory_of}
use Rattle.ocs_base.specs.Sizes.{bytes_of, is_chip_size, size_of_bytes}
use Rattle.ocs_base.specs.declared.chip_size.ChipSize.{ChipSize}
use Rattle.ocs_base.specs.declared.chip_size.ChipSize.TheVariants.{Kib512, Mib1}

-- the words of a text of two bytes and more: its first word, and those of the rest
pub words-more : (before rest : List ℕ) → 2 ≤ length rest
    → (before ++ (256 * get_or rest 0 0 + get_or rest 1 0) ∷ []) ++ words (take (length rest - 2) (drop 2 rest)) ≡ before ++ words rest
unfolding words
words-more before [] two = absurd (omega arith)
words-more before (a ∷ []) two = absurd (omega arith)
words-more before (a ∷ b ∷ bytes) two =
    let all : take (length (a ∷ b ∷ bytes) - 2) bytes ≡ bytes = take_all (length (a ∷ b ∷ bytes) - 2) bytes (omega arith) in
    append_assoc before ((256 * a + b) ∷ []) (words (take (length (a ∷ b ∷ bytes) - 2) bytes)) ∙ ap (λ (xs : List ℕ). before ++ (256 * a + b) ∷ words xs) all

pub words-end : (before rest : List ℕ) → length rest < 2 → before ++ words rest ≡ before
unfolding words
words-end before [] short = append-nil before
words-end before (a ∷ []) short = append-nil before
words-end before (a ∷ b ∷ bytes) short = absurd (omega arith)

pub length-words : (bytes : List ℕ) → length (words bytes) ≡ length bytes / 2
unfolding words
length-words [] = omega arith
length-words (a ∷ []) = omega arith
length-words (a ∷ b ∷ bytes) = omega (arith, length-words bytes)

-- the words of an image that fits, filled up with zeros
pub memory_of-filled : (size : ChipSize) (image : List ℕ) (count : ℕ) → length image ≤ bytes_of size → count ≡ bytes_of size / 2 →
    take count (words image) ++ replicate (count - length (words image)) 0 ≡ memory_of size image
unfolding memory_of
memory_of-filled size image count fits half =
    let all : take count (words image) ≡ words image = take_all count (words image) (omega (arith, length-words image)) in
    let left : count - length (words image) ≡ bytes_of size / 2 - length image / 2 = omega (arith, length-words image) in
    ap (λ (xs : List ℕ). xs ++ replicate (count - length (words image)) 0) all ∙ ap (λ (n : ℕ). words image ++ replicate n 0) left

pub length-memory_of : (size : ChipSize) (image : List ℕ) → length image ≤ bytes_of size → length (memory_of size image) ≡ bytes_of size / 2
unfolding memory_of
length-memory_of size image fits =
    omega (
      arith,
      length-append (words image) (replicate (bytes_of size / 2 - length image / 2) 0),
      length-words image,
      length-replicate {A = ℕ} (bytes_of size / 2 - length image / 2) 0,
    )

-- a memory has whole groups of pages
pub whole-groups : (size : ChipSize) (image : List ℕ) → length image ≤ bytes_of size → length (memory_of size image) % 8192 ≡ 0
whole-groups Kib512 image fits = ap (λ (n : ℕ). n % 8192) (length-memory_of Kib512 image fits)
whole-groups Mib1 image fits = ap (λ (n : ℕ). n % 8192) (length-memory_of Mib1 image fits)

-- each size has words
pub some-words : (size : ChipSize) (count : ℕ) → count ≡ bytes_of size / 2 → 0 < count
some-words Kib512 count is = omega (arith, is)
some-words Mib1 count is = omega (arith, is)

-- and no more than 1 MiB has
pub few-words : (size : ChipSize) (count : ℕ) → count ≡ bytes_of size / 2 → count ≤ 524288
few-words Kib512 count is = omega (arith, is)
few-words Mib1 count is = omega (arith, is)

-- the bytes of the size that a number of bytes names
pub bytes-named : (bytes : ℕ) → is_chip_size bytes ≡ true → bytes_of (size_of_bytes bytes) ≡ bytes
bytes-named bytes named = by_case (bytes == 1048576) (bytes == 524288) refl refl named
  where
    by_case : (wide small : Bool) → wide ≡ (bytes == 1048576) → small ≡ (bytes == 524288) → (small || wide) ≡ true → bytes_of (cond wide Mib1 Kib512) ≡ bytes
    by_case true small is other named = grind (arith, nat_tests)
    by_case false true is other named = grind (arith, nat_tests)
    by_case false false is other named = cc

pub length-sized : (bytes : ℕ) (image : List ℕ) → is_chip_size bytes ≡ true → length image ≤ bytes → length (memory_of (size_of_bytes bytes) image) ≡ bytes / 2
length-sized bytes image named fits =
    let is : bytes_of (size_of_bytes bytes) ≡ bytes = bytes-named bytes named in
    length-memory_of (size_of_bytes bytes) image (omega arith) ∙ ap (λ (n : ℕ). n / 2) is
