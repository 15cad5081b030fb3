-- A piece that is written up to a rest.
use Rattle.std.proofs.Common.{◌≡◌, ℕ, ◌+◌, ◌-◌, ◌≤◌, List, ◌++◌, length, take, drop, Option, sym, ap, subst, ◌∙◌, arith}
use Rattle.std.proofs.lemmas.List.{length-drop, drop-drop}
use Rattle.std.proofs.Math.Seq.{take-add}
use Rattle.std.specs.Io.KnownBytes.{Appends}
use Rattle.std.proofs.KnownBytes.{Appends-trans}

-- the rest is what follows the bytes before it in the piece, and those were written
abbrev pub IsWrittenUpTo : Option (List ℕ) → Option (List ℕ) → List ℕ → List ℕ → Type 0
IsWrittenUpTo old now piece rest =
    (rest ≡ drop (length piece - length rest) piece) × Appends old now (take (length piece - length rest) piece)

pub written-more : (old mid new : Option (List ℕ)) (piece rest next : List ℕ) (n : ℕ) → n ≤ length rest
    → next ≡ drop n rest → IsWrittenUpTo old mid piece rest → Appends mid new (take n rest) → IsWrittenUpTo old new piece next
written-more old mid new piece rest next n within is_next before more =
    let so_far = length piece - length rest in
    let len = ap length before.0 ∙ length-drop so_far piece in
    let left = ap length is_next ∙ length-drop n rest in
    let e : length piece - length next ≡ so_far + n = omega (arith, within, len, left) in
    let parts = take-add so_far n piece ∙ ap (λ l. take so_far piece ++ take n l) (sym before.0) in (
      is_next ∙ ap (drop n) before.0 ∙ drop-drop n so_far piece ∙ ap (λ k. drop k piece) (sym e),
      subst (Appends old new) (sym (ap (λ k. take k piece) e ∙ parts)) (Appends-trans old mid new _ _ before.1 more),
    )
