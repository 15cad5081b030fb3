use Rattle.std.proofs.Common.{◌≡◌, ℕ, ◌*◌, ◌<◌, List, length, slice_index}
use Rattle.band_board.proofs.board.first_words.Given as goal

pub record Filled (words : List ℕ) (place : ℕ) : Type 0 where
  pub size : length words ≡ 17
  pub below : (i : ℕ) → i < place → slice_index words i ≡ 256 * i
  pub last : slice_index words 16 ≡ 0

abbrev pub invariant-loop-place : goal.invariant-loop-place
invariant-loop-place l = Filled l.words l.place
