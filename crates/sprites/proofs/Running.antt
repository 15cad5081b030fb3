-- The last start of a line that has come is the one that runs.
use Rattle.std.proofs.Common.{◌≡◌, ◌≤◌, ℕ, Bool, true, List, [], ◌∷◌, ◌++◌, Option, None, Some, refl, sym, ◌∙◌, ap, nat_le, arith}
use Rattle.std.specs.List.{filter, last_or}
use Rattle.std.specs.Option.{option_map, unwrap_or}
use Rattle.std.proofs.lemmas.List.Elements.{filter-append}
use Rattle.std.proofs.lemmas.Bool.Decides.{nat_tests}
use Rattle.sprites.specs.declared.runs.Start.{Start}
use Rattle.sprites.specs.SpriteValue.{value_of, running_at, sprite_value, IsValueOnLine}

last_or-append : {A : Type 0} (o : Option A) (xs ys : List A) → last_or o (xs ++ ys) ≡ last_or (last_or o xs) ys
last_or-append o [] ys = refl
last_or-append o (x ∷ xs) ys = last_or-append (Some x) xs ys

alone : (x : ℕ) (o : Option Start) (last : Start) → nat_le last.x x ≡ true →
    last_or o (filter (λ (start : Start). nat_le start.x x) (last ∷ [])) ≡ Some last
alone x o last come = rw come refl

running_at-last : (x : ℕ) (starts : List Start) (last : Start) → last.x ≤ x → running_at x (starts ++ last ∷ []) ≡ Some last
running_at-last x starts last le =
    let test : Start → Bool = λ start. nat_le start.x x in
    let come : nat_le last.x x ≡ true = grind (arith, nat_tests) in
    ap (last_or None) (filter-append test starts (last ∷ []))
    ∙ last_or-append None (filter test starts) (filter test (last ∷ []))
    ∙ alone x (last_or None (filter test starts)) last come

pub value_on_line : (x : ℕ) (kept : List Start) (value : ℕ) → value ≡ sprite_value x kept → IsValueOnLine x kept value
unfolding sprite_value
value_on_line x kept value is starts last one le =
    let bits : Option Start → ℕ = λ o. unwrap_or (option_map (value_of x) o) 0 in
    is ∙ ap (sprite_value x) one ∙ ap bits (running_at-last x [] last le) ∙ sym (ap bits (running_at-last x starts last le))
