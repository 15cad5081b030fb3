use Rattle.std.proofs.Math.Nat.{div-div-eq-div-mul}
use Rattle.sprite_rows.specs.WordValues.{word_values}
use Rattle.sprite_rows.proofs.words.values_of_words.Goals as goal

pub returns : goal.returns
unfolding word_values
returns c = rw (c.eight_values.ensures, c.eight_values-2.ensures) (simp div-div-eq-div-mul)
