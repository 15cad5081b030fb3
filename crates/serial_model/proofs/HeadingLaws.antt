-- The frames text of pixel bytes that grow at the end.
use Rattle.std.proofs.Common.{◌≡◌, ℕ, ◌+◌, ◌%◌, ◌<◌, ◌≤◌, List, [], ◌∷◌, ◌++◌, length, if◌then◌else◌, arith, refl, ap, ◌∙◌, sym, append_assoc, ◌==◌}
use Rattle.std.proofs.lemmas.Bool.Decides.{nat_tests}
use Rattle.ocs_base.specs.Systems.{frame_bytes}
use Rattle.ocs_base.specs.declared.system.System.{System}
use Rattle.ocs_base.specs.declared.system.System.TheVariants.{Pal, Ntsc}
use Rattle.serial_model.specs.Outputs.{heading, heading_at, with_headings}

-- a piece is with_headings by itself, from the number of its first byte on
pub with_headings-append : (system : System) (n : ℕ) (xs ys : List ℕ)
    → with_headings system n (xs ++ ys) ≡ with_headings system n xs ++ with_headings system (n + length xs) ys
unfolding with_headings
with_headings-append system n [] ys = let e : n + 0 ≡ n = omega arith in ap (λ m. with_headings system m ys) (sym e)
with_headings-append system n (x ∷ xs) ys =
    let e : n + 1 + length xs ≡ n + length (x ∷ xs) = omega arith in
    ap (λ rest. heading_at system n ++ x ∷ rest)
    (with_headings-append system (n + 1) xs ys ∙ ap (λ m. with_headings system (n + 1) xs ++ with_headings system m ys) e)
    ∙ sym (append_assoc (heading_at system n) (x ∷ with_headings system (n + 1) xs) (with_headings system (n + length (x ∷ xs)) ys))

-- the next byte's place in a frame follows from this one's
next_byte : (system : System) (n m : ℕ) → n % frame_bytes system ≡ m % frame_bytes system → (n + 1) % frame_bytes system ≡ (m + 1) % frame_bytes system
next_byte Pal n m e = omega (arith, e)
next_byte Ntsc n m e = omega (arith, e)

-- only the place in the frame counts
pub with_headings-place : (system : System) (n m : ℕ) (xs : List ℕ) → n % frame_bytes system ≡ m % frame_bytes system
    → with_headings system n xs ≡ with_headings system m xs
unfolding with_headings
with_headings-place system n m [] e = refl
with_headings-place system n m (x ∷ xs) e =
    let here : heading_at system n ≡ heading_at system m = ap (λ k. if k == 0 then heading system else []) e in
    ap (λ rest. heading_at system n ++ x ∷ rest) (with_headings-place system (n + 1) (m + 1) xs (next_byte system n m e))
    ∙ ap (λ first. first ++ x ∷ with_headings system (m + 1) xs) here

-- no heading stands inside a frame
inner_byte : (system : System) (n : ℕ) → 0 < n → n < frame_bytes system → heading_at system n ≡ []
inner_byte Pal n low high = grind (arith, nat_tests)
inner_byte Ntsc n low high = grind (arith, nat_tests)

inside : (system : System) (n : ℕ) (xs : List ℕ) → 0 < n → n + length xs ≤ frame_bytes system → with_headings system n xs ≡ xs
unfolding with_headings
inside system n [] low high = refl
inside system n (x ∷ xs) low high =
    let none : heading_at system n ≡ [] = inner_byte system n low (omega (arith, high)) in
    let rest : with_headings system (n + 1) xs ≡ xs = inside system (n + 1) xs (omega arith) (omega (arith, high)) in
    ap (λ first. first ++ x ∷ with_headings system (n + 1) xs) none ∙ ap (λ more. x ∷ more) rest

-- a piece that stays inside a frame has at most one heading, before it
pub with_headings-within : (system : System) (n : ℕ) (xs : List ℕ) → 0 < length xs → n + length xs ≤ frame_bytes system
    → with_headings system n xs ≡ heading_at system n ++ xs
unfolding with_headings
with_headings-within system n [] some high = absurd (omega arith)
with_headings-within system n (x ∷ xs) some high =
    ap (λ rest. heading_at system n ++ x ∷ rest) (inside system (n + 1) xs (omega arith) (omega (arith, high)))
