-- Clocks that all show the same pixels, many at once.
use Rattle.std.proofs.Common.{◌≡◌, ℕ, zero, suc, ◌+◌, ◌*◌, List, [], ◌∷◌, ◌++◌, take, flat_map, sym, ◌∙◌, ap, arith, append_assoc, add-zero}
use Rattle.std.proofs.lemmas.List.{append-nil}
use Rattle.std.proofs.lemmas.Grind.{flat_map-append}
use Rattle.painter.specs.SpanParts.{bytes_of_clocks}

abbrev bytes_of : List (List ℕ) → List ℕ
bytes_of pixels = flat_map (λ (x : List ℕ). x) pixels

abbrev four_times : List (List ℕ) → List (List ℕ)
four_times pixels = flat_map (λ (x : List (List ℕ)). x) (pixels ∷ pixels ∷ pixels ∷ pixels ∷ [])

-- so many clocks, and so many more
pub same_clocks : (pixels : List (List ℕ)) (n m : ℕ) →
    bytes_of_clocks (λ (k : ℕ). pixels) (n + m) ≡ bytes_of_clocks (λ (k : ℕ). pixels) n ++ bytes_of_clocks (λ (k : ℕ). pixels) m
unfolding bytes_of_clocks
same_clocks pixels n zero =
    ap (bytes_of_clocks (λ (k : ℕ). pixels)) (add-zero n) ∙ sym (append-nil (bytes_of_clocks (λ (k : ℕ). pixels) n))
same_clocks pixels n (suc m) =
    let next : n + suc m ≡ suc (n + m) = omega arith in
    ap (bytes_of_clocks (λ (k : ℕ). pixels)) next
    ∙ ap (λ (l : List ℕ). l ++ bytes_of pixels) (same_clocks pixels n m)
    ∙ append_assoc (bytes_of_clocks (λ (k : ℕ). pixels) n) (bytes_of_clocks (λ (k : ℕ). pixels) m) (bytes_of pixels)

-- four of them
four_clocks : (pixels : List (List ℕ)) →
    bytes_of_clocks (λ (k : ℕ). pixels) 4 ≡ bytes_of (four_times pixels)
unfolding bytes_of_clocks
four_clocks pixels =
    let one = bytes_of pixels in
    let last : bytes_of (pixels ++ []) ≡ bytes_of pixels = ap bytes_of (append-nil pixels) in
    append_assoc (one ++ one) one one ∙ append_assoc one one (one ++ one)
    ∙ ap (λ (l : List ℕ). one ++ (one ++ (one ++ l))) (sym last)
    ∙ ap (λ (l : List ℕ). one ++ (one ++ l)) (sym (flat_map-append (λ (x : List ℕ). x) pixels (pixels ++ [])))
    ∙ ap (λ (l : List ℕ). one ++ l) (sym (flat_map-append (λ (x : List ℕ). x) pixels (pixels ++ (pixels ++ []))))
    ∙ sym (flat_map-append (λ (x : List ℕ). x) pixels (pixels ++ (pixels ++ (pixels ++ []))))

four_more : (pixels : List (List ℕ)) (blocks : ℕ) →
    bytes_of_clocks (λ (k : ℕ). pixels) (4 * (blocks + 1))
    ≡ bytes_of_clocks (λ (k : ℕ). pixels) (4 * blocks) ++ bytes_of (four_times pixels)
four_more pixels blocks =
    let next : 4 * (blocks + 1) ≡ 4 * blocks + 4 = omega arith in
    ap (bytes_of_clocks (λ (k : ℕ). pixels)) next
    ∙ same_clocks pixels (4 * blocks) 4
    ∙ ap (λ (l : List ℕ). bytes_of_clocks (λ (k : ℕ). pixels) (4 * blocks) ++ l) (four_clocks pixels)

-- one more block is put
pub four_put : (at n place : ℕ) (pixels : List (List ℕ)) (first now new : List ℕ) (four : List (List (List ℕ))) → place ≡ at + 48 * n →
    take place now ≡ first ++ bytes_of_clocks (λ (k : ℕ). pixels) (4 * n) →
    take (place + 48) new ≡ take place now ++ bytes_of (flat_map (λ (x : List (List ℕ)). x) four) →
    four ≡ pixels ∷ pixels ∷ pixels ∷ pixels ∷ [] →
    take (at + 48 * (n + 1)) new ≡ first ++ bytes_of_clocks (λ (k : ℕ). pixels) (4 * (n + 1))
four_put at n place pixels first now new four is before put same =
    let there : at + 48 * (n + 1) ≡ place + 48 = omega arith in
    ap (λ (k : ℕ). take k new) there
    ∙ put
    ∙ ap (λ (l : List ℕ). l ++ bytes_of (flat_map (λ (x : List (List ℕ)). x) four)) before
    ∙ ap (λ (l : List (List (List ℕ))). first ++ bytes_of_clocks (λ (k : ℕ). pixels) (4 * n) ++ bytes_of (flat_map (λ (x : List (List ℕ)). x) l)) same
    ∙ append_assoc first (bytes_of_clocks (λ (k : ℕ). pixels) (4 * n)) (bytes_of (four_times pixels))
    ∙ ap (λ (l : List ℕ). first ++ l) (sym (four_more pixels n))
