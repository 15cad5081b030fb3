-- The bytes of words that grow at the end, and the count of their reads.
use Rattle.std.proofs.Common.{◌≡◌, ℕ, ◌+◌, ◌*◌, ◌/◌, ◌%◌, ◌<◌, List, [], ◌∷◌, ◌++◌, length, take, drop}
use Rattle.std.proofs.Common.{get_or, zero, suc, ◌^◌, ◌-◌, min, arith, refl, ap, ◌∙◌, sym, append_assoc}
use Rattle.std.proofs.lemmas.List.{take_more, take-append-drop, take-take, drop-take}
use Rattle.serial_model.specs.MemoryText.{word_bytes, memory_text}
use Rattle.mem_versions.specs.Chip.{ChipValue, after_reads}

pub memory_text-append : (xs ys : List ℕ) → memory_text (xs ++ ys) ≡ memory_text xs ++ memory_text ys
unfolding memory_text
memory_text-append [] ys = refl
memory_text-append (x ∷ xs) ys =
    ap (λ (text : List ℕ). x / 256 ∷ x % 256 ∷ text) (memory_text-append xs ys)

-- one word more
pub memory_text-more : (words : List ℕ) (i : ℕ) → i < length words → memory_text (take (i + 1) words) ≡ memory_text (take i words)
    ++ word_bytes (get_or words i 0)
unfolding memory_text
memory_text-more words i here =
    ap memory_text (take_more words i 0 here) ∙ memory_text-append (take i words) (get_or words i 0 ∷ [])

pub ruleset words_laws = (memory_text-append, memory_text-more)

take-add : (n m : ℕ) (xs : List ℕ) → take (n + m) xs ≡ take n xs ++ take m (drop n xs)
take-add n m xs =
    sym (take-append-drop n (take (n + m) xs))
    ∙ ap (λ (front : List ℕ). front ++ drop n (take (n + m) xs)) (take-take n (n + m) xs (omega arith))
    ∙ ap (λ (back : List ℕ). take n xs ++ back) (drop-take n m xs)

-- one page more
pub page-more : (start text now page words : List ℕ) (n : ℕ) → now ≡ text ++ memory_text page → page ≡ take 256 (drop (256 * n) words) →
    text ≡ start ++ memory_text (take (256 * n) words) → now ≡ start ++ memory_text (take (256 * (n + 1)) words)
page-more start text now page words n grown this before =
    let so_far = take (256 * n) words in
    let more : 256 * (n + 1) ≡ 256 * n + 256 = omega arith in
    grown
    ∙ ap (λ (bytes : List ℕ). bytes ++ memory_text page) before
    ∙ append_assoc start (memory_text so_far) (memory_text page)
    ∙ ap (λ (bytes : List ℕ). start ++ bytes)
    (ap (λ (words : List ℕ). memory_text so_far ++ memory_text words) this
    ∙ sym (memory_text-append so_far (take 256 (drop (256 * n) words)))
    ∙ ap memory_text (sym (take-add (256 * n) 256 words))
    ∙ ap (λ (k : ℕ). memory_text (take k words)) (sym more))

-- the reads of one page more
pub reads-more : (first now next : ChipValue) (n : ℕ) → (n ≡ 0 → now ≡ first) → (0 < n → now ≡ after_reads first (256 * n)) →
    next ≡ after_reads now 256 → next ≡ after_reads first (256 * (n + 1))
reads-more first now next zero same counted read = read ∙ ap (λ (c : ChipValue). after_reads c 256) (same refl)
reads-more first now next (suc n) same counted read =
    let count : min (min (first.reads + 256 * suc n) (2 ^ 64 - 1) + 256) (2 ^ 64 - 1) ≡ min (first.reads + 256 * (suc n + 1)) (2 ^ 64 - 1) = omega arith in
    read ∙ ap (λ (c : ChipValue). after_reads c 256) (counted (omega arith))
    ∙ ap (λ (reads : ℕ). let c : ChipValue = record first { reads = reads } in c) count

-- reads leave the words as they are
pub words-read : (first now : ChipValue) (n : ℕ) → (n ≡ 0 → now ≡ first) → (0 < n → now ≡ after_reads first (256 * n)) → now.words ≡ first.words
words-read first now zero same counted = ap (λ (c : ChipValue). c.words) (same refl)
words-read first now (suc n) same counted = ap (λ (c : ChipValue). c.words) (counted (omega arith))

-- nothing but the count of reads changes
pub only-reads : (first now : ChipValue) (n : ℕ) → (n ≡ 0 → now ≡ first) → (0 < n → now ≡ after_reads first (256 * n))
    → now ≡ record first { reads = now.reads }
only-reads first now zero same counted =
    let e : now ≡ first = same refl in
    e ∙ ap (λ (reads : ℕ). let c : ChipValue = record first { reads = reads } in c) (sym (ap (λ (c : ChipValue). c.reads) e))
only-reads first now (suc n) same counted =
    let e : now ≡ after_reads first (256 * suc n) = counted (omega arith) in
    e ∙ ap (λ (reads : ℕ). let c : ChipValue = record first { reads = reads } in c) (sym (ap (λ (c : ChipValue). c.reads) e))
