-- Lists that grow step by step.
use Rattle.std.proofs.Common.{◌≡◌, ℕ, ◌+◌, ◌*◌, ◌-◌, ◌<◌, ◌≤◌, List, [], ◌∷◌, ◌++◌, length, take, get_or, flat_map, map, replicate}
use Rattle.std.proofs.Common.{refl, sym, ap, ◌∙◌, arith, append_assoc, append-nil, length-append, Result, Ok, Err, OnOk}
use Rattle.std.specs.List.{concat, range_with_len}
use Rattle.std.specs.Int.{w16, to_be_bytes}
use Rattle.std.proofs.lemmas.List.{take_more, replicate_more, length-replicate}
use Rattle.std.proofs.lemmas.List.FromFn.{map-range_with_len_more, length-map-range_with_len}
use Rattle.std.proofs.lemmas.List.Concat.{concat_is, flat_map-append}
use Rattle.scene_gen.specs.Blocks.{bytes_of, bytes_by}

pub joined : {A : Type 0} (a b c p q : List A) → b ≡ a ++ p → c ≡ b ++ q → c ≡ a ++ (p ++ q)
joined a b c p q first second = second ∙ ap (λ m. m ++ q) first ∙ append_assoc a p q

map_id : (xs : List ℕ) → map (λ (x : ℕ). x) xs ≡ xs
map_id [] = refl
map_id (x ∷ xs) = ap (λ rest. x ∷ rest) (map_id xs)

range_more : (a n j : ℕ) → a + n ≡ j → range_with_len a (n + 1) ≡ range_with_len a n ++ j ∷ []
range_more a n j e =
    sym (map_id (range_with_len a (n + 1))) ∙ map-range_with_len_more (λ (x : ℕ). x) a n j e
    ∙ ap (λ m. m ++ j ∷ []) (map_id (range_with_len a n))

-- the parts for the numbers from `a` on, and one part more
pub parts_more : {A : Type 0} (f : ℕ → List A) (a n j : ℕ) → a + n ≡ j
    → flat_map f (range_with_len a (n + 1)) ≡ flat_map f (range_with_len a n) ++ f j
parts_more f a n j e =
    ap (flat_map f) (range_more a n j e) ∙ flat_map-append f (range_with_len a n) (j ∷ [])
    ∙ ap (λ m. flat_map f (range_with_len a n) ++ m) (append-nil (f j))

-- a step of a loop that appends a part for each number
pub next_part : {A : Type 0} (f : ℕ → List A) (a n m j : ℕ) (start before after : List A) → a + n ≡ j → n + 1 ≡ m
    → before ≡ start ++ flat_map f (range_with_len a n) → after ≡ before ++ f j → after ≡ start ++ flat_map f (range_with_len a m)
next_part f a n m j start before after at more so_far step =
    joined start before after (flat_map f (range_with_len a n)) (f j) so_far step
    ∙ ap (λ m. start ++ m) (sym (parts_more f a n j at) ∙ ap (λ k. flat_map f (range_with_len a k)) more)

pub next_word : (words start before after : List ℕ) (i : ℕ) → i < length words → before ≡ start ++ bytes_of (take i words)
    → after ≡ before ++ to_be_bytes w16 (get_or words i 0) → after ≡ start ++ bytes_of (take (i + 1) words)
unfolding bytes_of
next_word words start before after i h so_far step =
    joined start before after (flat_map (to_be_bytes w16) (take i words)) (to_be_bytes w16 (get_or words i 0)) so_far step
    ∙ ap (λ m. start ++ m)
    (sym (ap (flat_map (to_be_bytes w16)) (take_more words i 0 h)
    ∙ flat_map-append (to_be_bytes w16) (take i words) (get_or words i 0 ∷ [])
    ∙ ap (λ m. flat_map (to_be_bytes w16) (take i words) ++ m) (append-nil (to_be_bytes w16 (get_or words i 0)))))

pub next_byte : (byte : ℕ → ℕ) (a n m j : ℕ) (start before after : List ℕ) → a + n ≡ j → n + 1 ≡ m
    → before ≡ start ++ bytes_by byte a n → after ≡ before ++ byte j ∷ [] → after ≡ start ++ bytes_by byte a m
unfolding bytes_by
next_byte byte a n m j start before after at more so_far step =
    joined start before after (map byte (range_with_len a n)) (byte j ∷ []) so_far step
    ∙ ap (λ m. start ++ m) (sym (map-range_with_len_more byte a n j at) ∙ ap (λ k. map byte (range_with_len a k)) more)

pub next_zero : (n m : ℕ) (start before after : List ℕ) → n + 1 ≡ m
    → before ≡ start ++ replicate n 0 → after ≡ before ++ 0 ∷ [] → after ≡ start ++ replicate m 0
next_zero n m start before after more so_far step =
    joined start before after (replicate n 0) (0 ∷ []) so_far step
    ∙ ap (λ m. start ++ m) (replicate_more n 0 ∙ ap (λ k. replicate k 0) more)

pub bytes_of-nil : bytes_of [] ≡ []
unfolding bytes_of
bytes_of-nil = refl

pub bytes_by-none : (byte : ℕ → ℕ) (a : ℕ) → bytes_by byte a 0 ≡ []
unfolding bytes_by
bytes_by-none byte a = refl

pub length-bytes_of : (words : List ℕ) → length (bytes_of words) ≡ 2 * length words
unfolding bytes_of
length-bytes_of [] = refl
length-bytes_of (word ∷ words) = let rest : length (bytes_of words) ≡ 2 * length words = length-bytes_of words in omega (arith, rest)

pub length-bytes_by : (byte : ℕ → ℕ) (a n : ℕ) → length (bytes_by byte a n) ≡ n
unfolding bytes_by
length-bytes_by byte a n = length-map-range_with_len byte a n

-- sixteen times the same, say
pub next_copy : (part : List ℕ) (n : ℕ) (start before after : List ℕ) → before ≡ start ++ concat (replicate n part) → after ≡ before ++ part
    → after ≡ start ++ concat (replicate (n + 1) part)
next_copy part n start before after so_far step =
    joined start before after (concat (replicate n part)) part so_far step ∙ ap (λ m. start ++ m) (sym more)
  where
    more : concat (replicate (n + 1) part) ≡ concat (replicate n part) ++ part
    more =
        ap concat (sym (replicate_more n part)) ∙ concat_is (replicate n part ++ part ∷ [])
        ∙ flat_map-append (λ (x : List ℕ). x) (replicate n part) (part ∷ [])
        ∙ ap (λ m. flat_map (λ (x : List ℕ). x) (replicate n part) ++ m) (append-nil part)
        ∙ ap (λ m. m ++ part) (sym (concat_is (replicate n part)))

-- where words end that were placed at an address
pub end_after : {T E : Type 0} (result : Result T E) (address : ℕ) (image between after words : List ℕ) → length image ≤ address
    → between ≡ image ++ replicate (address - length image) 0 → OnOk result (after ≡ between ++ bytes_of words)
    → OnOk result (length after ≡ address + 2 * length words)
end_after (Err e) address image between after words fits padded placed = tt
end_after (Ok x) address image between after words fits padded placed =
    let zeros : length (replicate (address - length image) 0) ≡ address - length image = length-replicate {A = ℕ} (address - length image) 0 in
    let gap : length image + (address - length image) ≡ address = omega arith in
    ap length placed ∙ length-append between (bytes_of words)
    ∙ ap (λ n. n + length (bytes_of words))
    (ap length padded ∙ length-append image (replicate (address - length image) 0) ∙ ap (λ n. length image + n) zeros ∙ gap)
    ∙ ap (λ n. address + n) (length-bytes_of words)
