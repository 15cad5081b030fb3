-- What a memory is once one of its pages is replaced.
use Rattle.std.specs.Prelude.{◌≡◌, ◌≢◌, ◌/◌, ◌%◌, ℕ, List, length, slice_index}

-- one page has other words, and all else is as before
pub record HasPage (old : List ℕ) (number : ℕ) (words new : List ℕ) : Type 0 where
  pub size : length new ≡ length old
  pub here : (place : ℕ) → place / 256 ≡ number → slice_index new place ≡ slice_index words (place % 256)
  pub other : (place : ℕ) → place / 256 ≢ number → slice_index new place ≡ slice_index old place
