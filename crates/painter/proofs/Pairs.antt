-- Positions of a line whose bits come in pairs.
use Rattle.std.proofs.Common.{◌≡◌, ◌≤◌, ℕ, ◌+◌, ◌-◌, ◌*◌, List, [], ◌∷◌, sym, ◌∙◌, ap, arith}
use Rattle.serial_model.specs.Picture.{colour_bytes}
use Rattle.plane_rows.specs.declared.line.Line.{Line}
use Rattle.painter.specs.Inks.{InkRegisters, ink, ink_number}
use Rattle.plane_rows.specs.Line.{row_bits, ArePaired}
use Rattle.painter.specs.code.Pixels.{ink_at}
use Rattle.painter.specs.SpanParts.{ink_pixels}

-- the pairs of a clock, and of a later one
pub first_pair : (line : Line) (x : ℕ) → ArePaired line x → row_bits line x ≡ row_bits line (x + 1)
first_pair line x pairs =
    let here : x + 2 * 0 ≡ x = omega arith in
    let next : x + 2 * 0 + 1 ≡ x + 1 = omega arith in
    sym (ap (λ (n : ℕ). row_bits line n) here) ∙ pairs 0 ∙ ap (λ (n : ℕ). row_bits line n) next

pub second_pair : (line : Line) (x : ℕ) → ArePaired line x → row_bits line (x + 2) ≡ row_bits line (x + 2 + 1)
second_pair line x pairs =
    let here : x + 2 * 1 ≡ x + 2 = omega arith in
    let next : x + 2 * 1 + 1 ≡ x + 2 + 1 = omega arith in
    sym (ap (λ (n : ℕ). row_bits line n) here) ∙ pairs 1 ∙ ap (λ (n : ℕ). row_bits line n) next

pub column_pair : (line : Line) (h column : ℕ) → ArePaired line (4 * h) → 2 * h ≤ column → row_bits line (2 * column) ≡ row_bits line (2 * column + 1)
column_pair line h column pairs le =
    let here : 4 * h + 2 * (column - 2 * h) ≡ 2 * column = omega (arith, le) in
    let next : 4 * h + 2 * (column - 2 * h) + 1 ≡ 2 * column + 1 = omega (arith, le) in
    sym (ap (λ (n : ℕ). row_bits line n) here) ∙ pairs (column - 2 * h) ∙ ap (λ (n : ℕ). row_bits line n) next

pub later_pairs : (line : Line) (x clock : ℕ) → ArePaired line x → ArePaired line (x + 4 * clock)
later_pairs line x clock pairs column =
    let here : x + 4 * clock + 2 * column ≡ x + 2 * (2 * clock + column) = omega arith in
    let next : x + 4 * clock + 2 * column + 1 ≡ x + 2 * (2 * clock + column) + 1 = omega arith in
    ap (λ (n : ℕ). row_bits line n) here ∙ pairs (2 * clock + column) ∙ sym (ap (λ (n : ℕ). row_bits line n) next)

-- and so two of the four pixels of a clock are those of the position before
pub ink_pairs : (inks : InkRegisters) (line : Line) (x : ℕ) (first second : List ℕ) → ArePaired line x
    → first ≡ colour_bytes (ink_at inks line x) → second ≡ colour_bytes (ink_at inks line (x + 2))
    → first ∷ first ∷ second ∷ second ∷ [] ≡ ink_pixels inks line x
unfolding ink_at
ink_pairs inks line x first second pairs one two =
    let colour : ℕ → List ℕ = λ bits. colour_bytes (ink inks.palette (ink_number inks.con0 inks.con2 bits)) in
    let third : x + 2 + 1 ≡ x + 3 = omega arith in
    let next : first ≡ colour (row_bits line (x + 1)) = one ∙ ap colour (first_pair line x pairs) in
    let last : second ≡ colour (row_bits line (x + 3)) =
    two ∙ ap colour (second_pair line x pairs) ∙ ap (λ (n : ℕ). colour (row_bits line n)) third in
    ap (λ (l : List ℕ). l ∷ first ∷ second ∷ second ∷ []) one
    ∙ ap (λ (l : List ℕ). colour (row_bits line x) ∷ l ∷ second ∷ second ∷ []) next
    ∙ ap (λ (l : List ℕ). colour (row_bits line x) ∷ colour (row_bits line (x + 1)) ∷ l ∷ second ∷ []) two
    ∙ ap (λ (l : List ℕ). colour (row_bits line x) ∷ colour (row_bits line (x + 1)) ∷ colour (row_bits line (x + 2)) ∷ l ∷ []) last
