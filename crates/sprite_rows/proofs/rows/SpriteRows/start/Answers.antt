use Rattle.std.proofs.Common.{◌≡◌, ◌≤◌, ℕ, List, Option, length, slice_index, ◌∙◌, sym, subst, arith}
use Rattle.sprites.specs.declared.runs.Start.{Start}
use Rattle.sprite_rows.specs.WordValues.{word_values}
use Rattle.sprite_rows.proofs.Spreading.{word_values-le}
use Rattle.sprite_rows.proofs.Standing.{StartsBy-sprite, started}
use Rattle.sprite_rows.proofs.rows.SpriteRows.start.Goals as goal

pub lay-requires-clause-values : goal.lay-requires-clause-values
lay-requires-clause-values c =
    λ (k : ℕ).
    let values : c.as_flattened.result.now ≡ word_values c.args.word_a c.args.word_b = c.as_flattened.ensures.value ∙ c.values_of_words-values.ensures in
    let P : List ℕ → Type 0 = λ (l : List ℕ). slice_index l k ≤ 3 in
    subst P (sym values) (word_values-le c.args.word_a c.args.word_b k)

pub returns-clause-later : goal.returns-clause-later
returns-clause-later c =
    let four : length c.args.self.now.pairs ≡ 4 = omega arith in
    λ (start : ℕ) (runs : List (Option Start)) le by are. record {
      bytes = λ (p y : ℕ) pair from within.
          started c.args.self.now.pairs runs c.lay.new.row c.as_flattened.result.now c.args.sprite c.args.x c.args.word_a c.args.word_b p y
          c.requires.sprite four by (are.bytes p y pair from within) (omega arith)
          (c.as_flattened.ensures.value ∙ c.values_of_words-values.ensures) (c.lay.ensures.bytes y);
    }

pub returns-clause-here : goal.returns-clause-here
returns-clause-here c =
    λ (runs : List (Option Start)) by are.
    returns-clause-later c c.args.x runs (omega arith) (StartsBy-sprite c.args.sprite c.args.x runs by) are
