-- Blocks laid one after another, with zeros between them, are the bytes that the table of the blocks names.
use Rattle.std.proofs.Common.{◌≡◌, ℕ, zero, suc, ◌+◌, ◌-◌, ◌<◌, ◌≤◌, true, false, ◌&&◌, cond, nat_lt, nat_le, List, [], ◌∷◌, ◌++◌, length, get_or}
use Rattle.std.proofs.Common.{map, replicate, refl, sym, ap, ◌∙◌, arith, append_assoc, append-nil, length-append, zero-add, add-zero, suc-add}
use Rattle.std.specs.List.{range_with_len}
use borrow.Author.Tests.{le-leb, lt-leb, lt-ltb, le-ltb}
use Rattle.std.proofs.lemmas.List.{ext_get_or, length-replicate, get_or-replicate}
use Rattle.std.proofs.lemmas.List.FromFn.{length-map-range_with_len, get_or-map-range_with_len}
use Rattle.scene_gen.specs.Blocks.{Block, bytes_by, byte_at}
use Rattle.scene_gen.proofs.Growth.{length-bytes_by, bytes_by-none}

-- the blocks stand from an address on, in order, and end at another
abbrev pub AreApart : ℕ → List Block → ℕ → Type 0
AreApart from [] end = from ≡ end
AreApart from (block ∷ blocks) end = (from ≤ block.address) × AreApart (block.address + length block.bytes) blocks end

-- an image, zeros up to an address, and bytes from there on
abbrev pub placed : List ℕ → ℕ → List ℕ → List ℕ
placed image address bytes = image ++ replicate (address - length image) 0 ++ bytes

-- an image and blocks, each placed behind the one before
abbrev pub laid_after : List ℕ → List Block → List ℕ
laid_after image [] = image
laid_after image (block ∷ blocks) = laid_after (placed image block.address block.bytes) blocks

-- ---- bytes by a rule

bytes_by-is : (byte : ℕ → ℕ) (a : ℕ) (bytes : List ℕ) → ((i : ℕ) → i < length bytes → byte (a + i) ≡ get_or bytes i 0)
    → bytes_by byte a (length bytes) ≡ bytes
unfolding bytes_by
bytes_by-is byte a bytes each =
    ext_get_or 0 (map byte (range_with_len a (length bytes))) bytes (length-map-range_with_len byte a (length bytes))
    (λ i h.
    let within : i < length bytes = omega (arith, length-map-range_with_len byte a (length bytes)) in
    get_or-map-range_with_len byte a (length bytes) i (a + i) 0 within refl ∙ each i within)

bytes_by-zero : (byte : ℕ → ℕ) (a n : ℕ) → ((b : ℕ) → b < a + n → byte b ≡ 0) → bytes_by byte a n ≡ replicate n 0
bytes_by-zero byte a n none =
    ap (bytes_by byte a) (sym (length-replicate {A = ℕ} n 0))
    ∙ bytes_by-is byte a (replicate n 0)
    (λ i h.
    let within : i < n = omega (arith, length-replicate {A = ℕ} n 0) in
    none (a + i) (omega arith) ∙ sym (get_or-replicate n i 0 0 within))

bytes_by-same : (f g : ℕ → ℕ) (a n : ℕ) → ((b : ℕ) → a ≤ b → f b ≡ g b) → bytes_by f a n ≡ bytes_by g a n
unfolding bytes_by
bytes_by-same f g a n same =
    ap (bytes_by f a) (sym (length-bytes_by g a n))
    ∙ bytes_by-is f a (bytes_by g a n) (λ i h. same (a + i) (omega arith) ∙ sym (at i (omega (arith, length-bytes_by g a n))))
  where
    at : (i : ℕ) → i < n → get_or (map g (range_with_len a n)) i 0 ≡ g (a + i)
    at i within = get_or-map-range_with_len g a n i (a + i) 0 within refl

bytes_by-split : (byte : ℕ → ℕ) (a n m : ℕ) → bytes_by byte a (n + m) ≡ bytes_by byte a n ++ bytes_by byte (a + n) m
unfolding bytes_by
bytes_by-split byte a zero m = ap (λ k. map byte (range_with_len a k)) (zero-add m) ∙ ap (λ k. map byte (range_with_len k m)) (sym (add-zero a))
bytes_by-split byte a (suc n) m =
    ap (λ k. map byte (range_with_len a k)) (suc-add n m)
    ∙ ap (λ rest. byte a ∷ rest) (bytes_by-split byte (a + 1) n m)
    ∙ ap (λ k. byte a ∷ (map byte (range_with_len (a + 1) n) ++ map byte (range_with_len k m))) (omega arith)

-- ---- the table

below_all : (from a end : ℕ) (blocks : List Block) → AreApart from blocks end → a < from → byte_at blocks a ≡ 0
unfolding byte_at
below_all from a end [] apart below = refl
below_all from a end (block ∷ blocks) apart below =
    ap (λ t. cond (t && nat_lt a (block.address + length block.bytes)) (get_or block.bytes (a - block.address) 0) (byte_at blocks a))
    (lt-leb block.address a (omega (arith, apart.0)))
    ∙ below_all (block.address + length block.bytes) a end blocks apart.1 (omega (arith, apart.0))

in_block : (block : Block) (blocks : List Block) (i : ℕ) → i < length block.bytes
    → byte_at (block ∷ blocks) (block.address + i) ≡ get_or block.bytes i 0
unfolding byte_at
in_block block blocks i within =
    let from : nat_le block.address (block.address + i) ≡ true = le-leb _ _ (omega arith) in
    let to : nat_lt (block.address + i) (block.address + length block.bytes) ≡ true = lt-ltb _ _ (omega arith) in
    let place : block.address + i - block.address ≡ i = omega arith in
    rw (from, to, place) refl

past_block : (block : Block) (blocks : List Block) (a : ℕ) → block.address + length block.bytes ≤ a
    → byte_at (block ∷ blocks) a ≡ byte_at blocks a
unfolding byte_at
past_block block blocks a past =
    let from : nat_le block.address a ≡ true = le-leb _ _ (omega arith) in
    let to : nat_lt a (block.address + length block.bytes) ≡ false = le-ltb _ _ past in
    rw (from, to) refl

before_block : (block : Block) (blocks : List Block) (end a : ℕ) → AreApart (block.address + length block.bytes) blocks end → a < block.address
    → byte_at (block ∷ blocks) a ≡ 0
before_block block blocks end a apart before = below_all block.address a end (block ∷ blocks) (omega arith, apart) before

-- ---- all of them

end_above : (from end : ℕ) (blocks : List Block) → AreApart from blocks end → from ≤ end
end_above from end [] apart = omega (arith, apart)
end_above from end (block ∷ blocks) apart =
    let rest = end_above (block.address + length block.bytes) end blocks apart.1 in omega (arith, apart.0, rest)

-- from one block's gap to the end
one_block : (from end : ℕ) (block : Block) (blocks : List Block) → AreApart from (block ∷ blocks) end
    → bytes_by (byte_at (block ∷ blocks)) from (end - from)
    ≡ replicate (block.address - from) 0 ++ block.bytes
    ++ bytes_by (byte_at blocks) (block.address + length block.bytes) (end - (block.address + length block.bytes))
one_block from end block blocks apart =
    let byte : ℕ → ℕ = byte_at (block ∷ blocks) in
    let next : ℕ = block.address + length block.bytes in
    let above : next ≤ end = end_above next end blocks apart.1 in
    let gap : ℕ = block.address - from in
    let sizes : end - from ≡ gap + length block.bytes + (end - next) = omega (arith, apart.0) in
    let there : from + gap ≡ block.address = omega (arith, apart.0) in
    let behind : from + (gap + length block.bytes) ≡ next = omega (arith, apart.0) in
    ap (bytes_by byte from) sizes
    ∙ bytes_by-split byte from (gap + length block.bytes) (end - next)
    ∙ ap (λ front. front ++ bytes_by byte (from + (gap + length block.bytes)) (end - next))
    (bytes_by-split byte from gap (length block.bytes)
    ∙ ap (λ zeros. zeros ++ bytes_by byte (from + gap) (length block.bytes))
    (bytes_by-zero byte from gap (λ a below. before_block block blocks end a apart.1 (omega (arith, there))))
    ∙ ap (λ a. replicate gap 0 ++ bytes_by byte a (length block.bytes)) there
    ∙ ap (λ bytes. replicate gap 0 ++ bytes) (bytes_by-is byte block.address block.bytes (in_block block blocks)))
    ∙ ap (λ a. replicate gap 0 ++ block.bytes ++ bytes_by byte a (end - next)) behind
    ∙ ap (λ rest. replicate gap 0 ++ block.bytes ++ rest)
    (bytes_by-same byte (byte_at blocks) next (end - next) (λ a past. past_block block blocks a past))

pub laid_is : (from end : ℕ) (image : List ℕ) (blocks : List Block) → length image ≡ from → AreApart from blocks end
    → laid_after image blocks ≡ image ++ bytes_by (byte_at blocks) from (end - from)
laid_is from end image [] size apart =
    let none : end - from ≡ 0 = omega (arith, apart) in
    let nothing : bytes_by (byte_at []) from (end - from) ≡ [] = ap (bytes_by (byte_at []) from) none ∙ bytes_by-none (byte_at []) from in
    sym (append-nil image) ∙ ap (λ rest. image ++ rest) (sym nothing)
laid_is from end image (block ∷ blocks) size apart =
    let next : ℕ = block.address + length block.bytes in
    let after : List ℕ = placed image block.address block.bytes in
    let zeros : ℕ = block.address - length image in
    let gap : length image + zeros ≡ block.address = omega (arith, size, apart.0) in
    let longer : length after ≡ next = length-append (image ++ replicate zeros 0) block.bytes
    ∙ ap (λ n. n + length block.bytes)
    (length-append image (replicate zeros 0) ∙ ap (λ n. length image + n) (length-replicate {A = ℕ} zeros 0) ∙ gap) in
    laid_is next end after blocks longer apart.1
    ∙ ap (λ n. image ++ replicate (block.address - n) 0 ++ block.bytes ++ bytes_by (byte_at blocks) next (end - next)) size
    ∙ append_assoc (image ++ replicate (block.address - from) 0) block.bytes (bytes_by (byte_at blocks) next (end - next))
    ∙ append_assoc image (replicate (block.address - from) 0) (block.bytes ++ bytes_by (byte_at blocks) next (end - next))
    ∙ ap (λ rest. image ++ rest)
    (sym (append_assoc (replicate (block.address - from) 0) block.bytes (bytes_by (byte_at blocks) next (end - next)))
    ∙ sym (one_block from end block blocks apart))
