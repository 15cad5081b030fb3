-- Eight bytes put at once, of which those behind the first three or six are put over.
use Rattle.std.proofs.Common.{◌≡◌, ℕ, ◌+◌, ◌≤◌, ◌<◌, List, [], ◌∷◌, ◌++◌, length, slice_index_or, slice_set, take, flat_map, refl, sym, ◌∙◌, ap, arith, append_assoc}
use Rattle.std.proofs.Math.ListN.{length-set}
use Rattle.std.proofs.lemmas.List.{append-nil, take-set-le}
use Rattle.std.proofs.lemmas.Grind.{take-set_at}
use Rattle.serial_model.specs.Picture.{colour_bytes}
use Rattle.painter.specs.Inks.{two_pixels}

-- one byte more is put
next_put : (before some now : List ℕ) (at n place byte : ℕ) → place ≡ at + n → place < length now
    → take (at + n) now ≡ before ++ some → take (at + (n + 1)) (slice_set now place byte) ≡ before ++ (some ++ byte ∷ [])
next_put before some now at n place byte is room so =
    let there : at + (n + 1) ≡ place + 1 = omega (arith, is) in
    take-set_at now place (at + (n + 1)) byte there room
    ∙ ap (λ (l : List ℕ). l ++ byte ∷ []) (ap (λ (k : ℕ). take k now) is ∙ so)
    ∙ append_assoc before some (byte ∷ [])

-- the list after the first three, and after all eight
abbrev three_set : List ℕ → ℕ → ℕ → ℕ → ℕ → List ℕ
three_set room at a b c = slice_set (slice_set (slice_set room at a) (at + 1) b) (at + 2) c

abbrev six_set : List ℕ → ℕ → ℕ → ℕ → ℕ → ℕ → ℕ → ℕ → List ℕ
six_set room at a b c d e f = three_set (three_set room at a b c) (at + 3) d e f

three_long : (room : List ℕ) (at a b c : ℕ) → length (three_set room at a b c) ≡ length room
three_long room at a b c =
    length-set (slice_set (slice_set room at a) (at + 1) b) (at + 2) c
    ∙ length-set (slice_set room at a) (at + 1) b ∙ length-set room at a

three_more : (before some now : List ℕ) (at n place a b c : ℕ) → place ≡ at + n → place + 3 ≤ length now
    → take (at + n) now ≡ before ++ some
    → take (at + (n + 1 + 1 + 1)) (three_set now place a b c) ≡ before ++ (((some ++ a ∷ []) ++ b ∷ []) ++ c ∷ [])
three_more before some now at n place a b c is room so =
    let one : List ℕ = slice_set now place a in
    let two : List ℕ = slice_set one (place + 1) b in
    next_put before ((some ++ a ∷ []) ++ b ∷ []) two at (n + 1 + 1) (place + 2) c (omega (arith, is))
    (omega (arith, room, length-set one (place + 1) b, length-set now place a))
    (next_put before (some ++ a ∷ []) one at (n + 1) (place + 1) b (omega (arith, is))
    (omega (arith, room, length-set now place a))
    (next_put before some now at n place a is (omega (arith, room)) so))

first_three : (room : List ℕ) (at a b c : ℕ) → at + 3 ≤ length room → take (at + 3) (three_set room at a b c) ≡ take at room ++ a ∷ b ∷ c ∷ []
first_three room at a b c long =
    let none : at ≡ at + 0 = omega arith in
    three_more (take at room) [] room at 0 at a b c none long (ap (λ (k : ℕ). take k room) (sym none) ∙ sym (append-nil (take at room)))

first_six : (room : List ℕ) (at a b c d e f : ℕ) → at + 6 ≤ length room
    → take (at + 6) (six_set room at a b c d e f) ≡ take at room ++ a ∷ b ∷ c ∷ d ∷ e ∷ f ∷ []
first_six room at a b c d e f long =
    three_more (take at room) (a ∷ b ∷ c ∷ []) (three_set room at a b c) at 3 (at + 3) d e f refl
    (omega (arith, long, three_long room at a b c)) (first_three room at a b c (omega (arith, long)))

taken_three : (bytes : List ℕ) → length bytes ≡ 8 → slice_index_or bytes 0 0 ∷ slice_index_or bytes 1 0 ∷ slice_index_or bytes 2 0 ∷ [] ≡ take 3 bytes
taken_three [] is = cc
taken_three (a ∷ []) is = cc
taken_three (a ∷ b ∷ []) is = cc
taken_three (a ∷ b ∷ c ∷ bytes) is = refl

taken_six : (bytes : List ℕ) → length bytes ≡ 8 → slice_index_or bytes 0 0 ∷ slice_index_or bytes 1 0 ∷ slice_index_or bytes 2 0
    ∷ slice_index_or bytes 3 0 ∷ slice_index_or bytes 4 0 ∷ slice_index_or bytes 5 0 ∷ [] ≡ take 6 bytes
taken_six [] is = cc
taken_six (a ∷ []) is = cc
taken_six (a ∷ b ∷ []) is = cc
taken_six (a ∷ b ∷ c ∷ []) is = cc
taken_six (a ∷ b ∷ c ∷ d ∷ []) is = cc
taken_six (a ∷ b ∷ c ∷ d ∷ e ∷ []) is = cc
taken_six (a ∷ b ∷ c ∷ d ∷ e ∷ f ∷ bytes) is = refl

-- what is put behind them leaves them
behind_three : (room : List ℕ) (at d e f g h : ℕ) →
    take (at + 3) (slice_set (slice_set (slice_set (slice_set (slice_set room (at + 3) d) (at + 4) e) (at + 5) f) (at + 6) g) (at + 7) h) ≡ take (at + 3) room
behind_three room at d e f g h =
    let four : List ℕ = slice_set room (at + 3) d in
    let five : List ℕ = slice_set four (at + 4) e in
    let six : List ℕ = slice_set five (at + 5) f in
    take-set-le (at + 3) (slice_set six (at + 6) g) (at + 7) h (omega arith)
    ∙ take-set-le (at + 3) six (at + 6) g (omega arith)
    ∙ take-set-le (at + 3) five (at + 5) f (omega arith)
    ∙ take-set-le (at + 3) four (at + 4) e (omega arith)
    ∙ take-set-le (at + 3) room (at + 3) d (omega arith)

pub three_of_eight : (room bytes : List ℕ) (at d e f g h : ℕ) → length bytes ≡ 8 → at + 8 ≤ length room →
    take (at + 3) (slice_set (slice_set (slice_set (slice_set (slice_set (three_set room at
    (slice_index_or bytes 0 0) (slice_index_or bytes 1 0) (slice_index_or bytes 2 0)) (at + 3) d) (at + 4) e) (at + 5) f) (at + 6) g) (at + 7) h)
    ≡ take at room ++ take 3 bytes
three_of_eight room bytes at d e f g h is long =
    behind_three (three_set room at (slice_index_or bytes 0 0) (slice_index_or bytes 1 0) (slice_index_or bytes 2 0)) at d e f g h
    ∙ first_three room at (slice_index_or bytes 0 0) (slice_index_or bytes 1 0) (slice_index_or bytes 2 0) (omega (arith, long))
    ∙ ap (λ (l : List ℕ). take at room ++ l) (taken_three bytes is)

-- the places of the second three
same_places : (room : List ℕ) (at a b c d e f : ℕ) →
    slice_set (slice_set (slice_set (three_set room at a b c) (at + 3) d) (at + 4) e) (at + 5) f ≡ six_set room at a b c d e f
same_places room at a b c d e f =
    let four : at + 4 ≡ at + 3 + 1 = omega arith in
    let five : at + 5 ≡ at + 3 + 2 = omega arith in
    ap (λ (k : ℕ). slice_set (slice_set (slice_set (three_set room at a b c) (at + 3) d) k e) (at + 5) f) four
    ∙ ap (λ (k : ℕ). slice_set (slice_set (slice_set (three_set room at a b c) (at + 3) d) (at + 3 + 1) e) k f) five

pub first_six_of : (room bytes : List ℕ) (at : ℕ) → length bytes ≡ 8 → at + 6 ≤ length room →
    take (at + 6) (slice_set (slice_set (slice_set (three_set room at
    (slice_index_or bytes 0 0) (slice_index_or bytes 1 0) (slice_index_or bytes 2 0)) (at + 3) (slice_index_or bytes 3 0))
    (at + 4) (slice_index_or bytes 4 0)) (at + 5) (slice_index_or bytes 5 0))
    ≡ take at room ++ take 6 bytes
first_six_of room bytes at is long =
    let a : ℕ = slice_index_or bytes 0 0 in
    let b : ℕ = slice_index_or bytes 1 0 in
    let c : ℕ = slice_index_or bytes 2 0 in
    let d : ℕ = slice_index_or bytes 3 0 in
    let e : ℕ = slice_index_or bytes 4 0 in
    let f : ℕ = slice_index_or bytes 5 0 in
    ap (λ (l : List ℕ). take (at + 6) l) (same_places room at a b c d e f)
    ∙ first_six room at a b c d e f long
    ∙ ap (λ (l : List ℕ). take at room ++ l) (taken_six bytes is)

pub six_of_eight : (room bytes : List ℕ) (at g h : ℕ) → length bytes ≡ 8 → at + 8 ≤ length room →
    take (at + 6) (slice_set (slice_set (slice_set (slice_set (slice_set (three_set room at
    (slice_index_or bytes 0 0) (slice_index_or bytes 1 0) (slice_index_or bytes 2 0)) (at + 3) (slice_index_or bytes 3 0))
    (at + 4) (slice_index_or bytes 4 0)) (at + 5) (slice_index_or bytes 5 0)) (at + 6) g) (at + 7) h)
    ≡ take at room ++ take 6 bytes
six_of_eight room bytes at g h is long =
    let a : ℕ = slice_index_or bytes 0 0 in
    let b : ℕ = slice_index_or bytes 1 0 in
    let c : ℕ = slice_index_or bytes 2 0 in
    let d : ℕ = slice_index_or bytes 3 0 in
    let e : ℕ = slice_index_or bytes 4 0 in
    let f : ℕ = slice_index_or bytes 5 0 in
    let six : List ℕ = slice_set (slice_set (slice_set (three_set room at a b c) (at + 3) d) (at + 4) e) (at + 5) f in
    take-set-le (at + 6) (slice_set six (at + 6) g) (at + 7) h (omega arith)
    ∙ take-set-le (at + 6) six (at + 6) g (omega arith)
    ∙ first_six_of room bytes at is (omega (arith, long))

-- two pixels twice, and four pixels
pub pairs_put : (at a b : ℕ) (room first last one two : List ℕ) → one ≡ two_pixels (colour_bytes a) → two ≡ two_pixels (colour_bytes b)
    → take (at + 6) first ≡ take at room ++ take 6 one → take (at + 6 + 6) last ≡ take (at + 6) first ++ take 6 two
    → take (at + 12) last ≡ take at room
    ++ flat_map (λ (x : List ℕ). x) (colour_bytes a ∷ colour_bytes a ∷ colour_bytes b ∷ colour_bytes b ∷ [])
pairs_put at a b room first last one two is_one is_two put_one put_two =
    let there : at + 12 ≡ at + 6 + 6 = omega arith in
    ap (λ (k : ℕ). take k last) there
    ∙ put_two
    ∙ ap (λ (l : List ℕ). l ++ take 6 two) put_one
    ∙ append_assoc (take at room) (take 6 one) (take 6 two)
    ∙ ap (λ (l : List ℕ). take at room ++ (take 6 l ++ take 6 two)) is_one
    ∙ ap (λ (l : List ℕ). take at room ++ (take 6 (two_pixels (colour_bytes a)) ++ take 6 l)) is_two

single_put : (at n a : ℕ) (room before after one some : List ℕ) → one ≡ two_pixels (colour_bytes a)
    → take (at + n) before ≡ take at room ++ some → take (at + n + 3) after ≡ take (at + n) before ++ take 3 one
    → take (at + (n + 3)) after ≡ take at room ++ (some ++ colour_bytes a)
single_put at n a room before after one some is so put =
    let there : at + (n + 3) ≡ at + n + 3 = omega arith in
    ap (λ (k : ℕ). take k after) there
    ∙ put
    ∙ ap (λ (l : List ℕ). l ++ take 3 one) so
    ∙ append_assoc (take at room) some (take 3 one)
    ∙ ap (λ (l : List ℕ). take at room ++ (some ++ take 3 l)) is

pub singles_put : (at a b c d : ℕ) (room r1 r2 r3 r4 one two three four : List ℕ) → one ≡ two_pixels (colour_bytes a)
    → two ≡ two_pixels (colour_bytes b) → three ≡ two_pixels (colour_bytes c) → four ≡ two_pixels (colour_bytes d)
    → take (at + 3) r1 ≡ take at room ++ take 3 one → take (at + 3 + 3) r2 ≡ take (at + 3) r1 ++ take 3 two
    → take (at + 6 + 3) r3 ≡ take (at + 6) r2 ++ take 3 three → take (at + 9 + 3) r4 ≡ take (at + 9) r3 ++ take 3 four
    → take (at + 12) r4 ≡ take at room
    ++ flat_map (λ (x : List ℕ). x) (colour_bytes a ∷ colour_bytes b ∷ colour_bytes c ∷ colour_bytes d ∷ [])
singles_put at a b c d room r1 r2 r3 r4 one two three four is_a is_b is_c is_d put_a put_b put_c put_d =
    let first : take (at + 3) r1 ≡ take at room ++ colour_bytes a = put_a ∙ ap (λ (l : List ℕ). take at room ++ take 3 l) is_a in
    let second = single_put at 3 b room r1 r2 two (colour_bytes a) is_b first put_b in
    let third = single_put at 6 c room r2 r3 three (colour_bytes a ++ colour_bytes b) is_c second put_c in
    single_put at 9 d room r3 r4 four ((colour_bytes a ++ colour_bytes b) ++ colour_bytes c) is_d third put_d
