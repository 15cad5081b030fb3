-- The sprites' pixels in rows, which are exact from a position on.
use Rattle.std.proofs.Common.{◌≡◌, ℕ, ◌+◌, ◌*◌, ◌≤◌, ◌<◌, ◌&&◌, Bool, true, false, nat_eq, max, List, length}
use Rattle.std.proofs.Common.{slice_index_or, slice_set, replicate, Option, Some, None, refl, sym, ◌∙◌, ap, arith}
use Rattle.std.specs.Bool.{if◌then◌else◌}
use mir.Val.{bool_byte}
use Rattle.std.proofs.Math.ListN.{length-set}
use Rattle.std.proofs.lemmas.List.{length-replicate, get_or-set_same, get_or-set_other}
use Rattle.std.proofs.lemmas.Bool.Decides.{nat_tests}
use Rattle.sprites.specs.declared.runs.Start.{Start}
use Rattle.sprite_rows.specs.declared.rows.SpriteRows.{SpriteRows}
use Rattle.sprite_rows.specs.LineValues.{StartsBy, IsRowsOf}
use Rattle.sprite_rows.specs.PairCollision.{worth_of_playfields}
use Rattle.collisions.specs.Collision.{playfield_matches}
use Rattle.painter.specs.code.SpriteState.{IsLaidOut}
use Rattle.painter.proofs.Beginning.{none_quiet, begun_quiet, none_at}

none_starts_by : (x : ℕ) (o : Option Start) (start : Start) → o ≡ None → o ≡ Some start → start.x ≤ x
none_starts_by x o start none some = cc

-- no words, over blank rows
pub none_laid : (rows : SpriteRows) → IsRowsOf 0 rows (replicate 8 None) → IsLaidOut 0 0 rows (replicate 8 None)
none_laid rows is = record {
  still = none_quiet;
  within = omega arith;
  begun = λ few. record {
    eight = length-replicate {A = Option Start} 8 None;
    started = λ sprite start some. none_starts_by 0 _ start (none_at sprite) some;
  };
  laid = is;
}

-- rows are exact from any later position on too
pub later_rows : (from x : ℕ) (rows : SpriteRows) (runs : List (Option Start)) → from ≤ x → IsRowsOf from rows runs → IsRowsOf x rows runs
later_rows from x rows runs le is = record { bytes = λ p k few after room. is.bytes p k few (omega (arith, le, after)) room }

pub later_starts : (from x : ℕ) (runs : List (Option Start)) → from ≤ x → StartsBy from runs → StartsBy x runs
later_starts from x runs le is = record {
  eight = is.eight;
  started = λ sprite start some. omega (arith, le, is.started sprite start some);
}

same_start : (a b : Start) (o : Option Start) → o ≡ Some a → o ≡ Some b → a.x ≡ b.x
same_start a b o one two = cc

started_by : (x : ℕ) (runs : List (Option Start)) (sprite : ℕ) (new : Start) → StartsBy x runs → sprite < 8 → new.x ≤ x →
    (n : ℕ) (start : Start) → slice_index_or (slice_set runs sprite (Some new)) n None ≡ Some start → (b : Bool) → nat_eq n sprite ≡ b → start.x ≤ x
started_by x runs sprite new is within at n start some true same =
    let here : n ≡ sprite = grind (arith, nat_tests) in
    let this : slice_index_or (slice_set runs sprite (Some new)) n None ≡ Some new =
    ap (λ (m : ℕ). slice_index_or (slice_set runs sprite (Some new)) m None) here
    ∙ get_or-set_same runs sprite (Some new) None (omega (arith, is.eight, within)) in
    let equal : new.x ≡ start.x = same_start new start _ this some in
    omega (arith, at, equal)
started_by x runs sprite new is within at n start some false other =
    let differ : n ≡ sprite → ⊥ = λ e. grind (arith, nat_tests) in
    is.started n start (sym (get_or-set_other runs sprite n (Some new) None differ) ∙ some)

starts_more : (x : ℕ) (runs : List (Option Start)) (sprite : ℕ) (new : Start) → StartsBy x runs → sprite < 8 → new.x ≤ x →
    StartsBy x (slice_set runs sprite (Some new))
starts_more x runs sprite new is within at = record {
  eight = length-set runs sprite (Some new) ∙ is.eight;
  started = λ n start some. started_by x runs sprite new is within at n start some (nat_eq n sprite) refl;
}

-- words that begin at a position where the rows are exact, or before it
pub laid_more : (quiet_from from column : ℕ) (rows next : SpriteRows) (runs : List (Option Start)) (sprite : ℕ) (start : Start) →
    IsLaidOut quiet_from from rows runs → sprite < 8 → start.x ≡ column → column ≤ 455 → from ≤ column →
    ((all : List (Option Start)) → StartsBy column all → IsRowsOf column rows all → IsRowsOf column next (slice_set all sprite (Some start))) →
    IsLaidOut (max quiet_from (column + 16)) column next (slice_set runs sprite (Some start))
laid_more quiet_from from column rows next runs sprite start is within at room le lay = record {
  still = begun_quiet quiet_from column runs sprite start is.still within at;
  within = omega (arith, room);
  begun =
      λ few. starts_more column runs sprite start (later_starts from column runs le (is.begun (omega (arith, le, room)))) within (omega (arith, at));
  laid = lay runs (later_starts from column runs le (is.begun (omega (arith, le, room)))) (later_rows from column rows runs le is.laid);
}

pub laid_less : (quiet_from from column : ℕ) (rows : SpriteRows) (runs : List (Option Start)) (sprite : ℕ) (start : Start) →
    IsLaidOut quiet_from from rows runs → sprite < 8 → start.x ≡ column → column ≤ 455 →
    IsLaidOut (max quiet_from (column + 16)) 512 rows (slice_set runs sprite (Some start))
laid_less quiet_from from column rows runs sprite start is within at room = record {
  still = begun_quiet quiet_from column runs sprite start is.still within at;
  within = omega arith;
  begun = λ few. absurd (omega (arith, few));
  laid = record { bytes = λ p k few after less. absurd (omega (arith, after, less)) };
}

-- words of which nothing is known
pub unknown_laid : (rows : SpriteRows) (runs : List (Option Start)) → length runs ≡ 8 → IsLaidOut 512 512 rows runs
unknown_laid rows runs eight = record {
  still = record { eight = eight; quiet = λ few. absurd (omega (arith, few)) };
  within = omega arith;
  begun = λ few. absurd (omega (arith, few));
  laid = record { bytes = λ p k few after less. absurd (omega (arith, after, less)) };
}

-- what a pair adds by meeting the playfields
worth_by : (one two : Bool) → 2 * bool_byte one + 32 * bool_byte two ≡ (if one then 2 else 0) + (if two then 32 else 0)
worth_by true true = refl
worth_by true false = refl
worth_by false true = refl
worth_by false false = refl

pub worth_is : (one two : Bool) (con bits : ℕ) → one ≡ playfield_matches con bits 1 → two ≡ playfield_matches con bits 2 →
    2 * bool_byte one + 32 * bool_byte two ≡ worth_of_playfields con bits
unfolding worth_of_playfields
worth_is one two con bits first second = worth_by one two ∙ (rw (first, second) refl)

bit_by : (b : Bool) → bool_byte b ≡ (if b then 1 else 0)
bit_by true = refl
bit_by false = refl

pub quiet_is : (one two : Bool) (con bits : ℕ) → one ≡ playfield_matches con bits 1 → two ≡ playfield_matches con bits 2 →
    bool_byte (one && two) ≡ (if playfield_matches con bits 1 && playfield_matches con bits 2 then 1 else 0)
quiet_is one two con bits first second = bit_by (one && two) ∙ (rw (first, second) refl)
