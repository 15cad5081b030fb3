-- How many bands the hands drew.
use Rattle.std.specs.Prelude.{◌≡◌, ℕ, ◌+◌, ◌*◌, ◌^◌, ◌≤◌, List, length}
use Rattle.band_board.specs.declared.view.View.{View}
use Rattle.band_board.specs.View.{after_join}
use Rattle.band_board.specs.Steps.{band_count, IsAllIn, HoldsEachOnce}

-- so many bands stand in the lists of joined hands; each list has at most 2^32
pub record IsCounted (by_hands : ℕ) (joined : List (ℕ × List ℕ)) : Type 0 where
  pub sum : by_hands ≡ band_count joined
  pub most : by_hands ≤ length joined * 2 ^ 32

-- The totals of a front, which the hands of the workers have joined, and of the crew's own hand. Where every hand but that one was
-- joined and nothing is outstanding, all lists together hold each published number once, and so the totals come to their number
pub record AreTotals {R : Type 0} (front own : View R) (by_hands by_front : ℕ) : Type 0 where
  pub workers : by_hands ≡ band_count front.joined
  pub crew : by_front ≡ length own.done
  pub once : IsAllIn (after_join front own) → HoldsEachOnce front.published (after_join front own).joined
  pub sum : IsAllIn (after_join front own) → by_hands + by_front ≡ front.published
