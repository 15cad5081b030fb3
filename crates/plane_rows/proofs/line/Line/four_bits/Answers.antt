use Rattle.std.proofs.Common.{◌+◌, ◌∙◌, ℕ, List, slice_index, ap}
use Rattle.plane_rows.proofs.FourBytes.{four_sums}
use Rattle.plane_rows.proofs.line.Line.four_bits.Goals as goal

pub returns-clause-first : goal.returns-clause-first
returns-clause-first c =
    let odd = c.args.self.now.odd in
    let even = c.args.self.now.even in
    let x = c.args.x in
    ap (λ (l : List ℕ). slice_index l 0) (c.to_le_bytes.ensures ∙ four_sums _ _ _ _ _ _ _ _ _ _
    (odd.few x) (odd.few (x + 1)) (odd.few (x + 2)) (odd.few (x + 3)) (even.few x) (even.few (x + 1)) (even.few (x + 2)) (even.few (x + 3))
    c.four_at.ensures.value c.four_at-2.ensures.value)

pub returns-clause-second : goal.returns-clause-second
returns-clause-second c =
    let odd = c.args.self.now.odd in
    let even = c.args.self.now.even in
    let x = c.args.x in
    ap (λ (l : List ℕ). slice_index l 1) (c.to_le_bytes.ensures ∙ four_sums _ _ _ _ _ _ _ _ _ _
    (odd.few x) (odd.few (x + 1)) (odd.few (x + 2)) (odd.few (x + 3)) (even.few x) (even.few (x + 1)) (even.few (x + 2)) (even.few (x + 3))
    c.four_at.ensures.value c.four_at-2.ensures.value)

pub returns-clause-third : goal.returns-clause-third
returns-clause-third c =
    let odd = c.args.self.now.odd in
    let even = c.args.self.now.even in
    let x = c.args.x in
    ap (λ (l : List ℕ). slice_index l 2) (c.to_le_bytes.ensures ∙ four_sums _ _ _ _ _ _ _ _ _ _
    (odd.few x) (odd.few (x + 1)) (odd.few (x + 2)) (odd.few (x + 3)) (even.few x) (even.few (x + 1)) (even.few (x + 2)) (even.few (x + 3))
    c.four_at.ensures.value c.four_at-2.ensures.value)

pub returns-clause-fourth : goal.returns-clause-fourth
returns-clause-fourth c =
    let odd = c.args.self.now.odd in
    let even = c.args.self.now.even in
    let x = c.args.x in
    ap (λ (l : List ℕ). slice_index l 3) (c.to_le_bytes.ensures ∙ four_sums _ _ _ _ _ _ _ _ _ _
    (odd.few x) (odd.few (x + 1)) (odd.few (x + 2)) (odd.few (x + 3)) (even.few x) (even.few (x + 1)) (even.few (x + 2)) (even.few (x + 3))
    c.four_at.ensures.value c.four_at-2.ensures.value)
