use Rattle.std.proofs.Common.{◌≡◌, ℕ, ◌≤◌, Some}
use Rattle.atomic_table.specs.declared.shared.Seat.{Seat}
use Rattle.band_board.specs.declared.view.View.{View}
use Rattle.band_board.specs.BoardRule.{Slot}
use Rattle.crew_tests.proofs.boards.feed.Given as goal

pub record Fed {J D : Type 0} (seat before : Seat (Slot J D) (View ℕ)) (run bands offered collected right : ℕ) : Type 0 where
  pub table : seat.table_id ≡ before.table_id
  pub run_is : seat.me.0.run ≡ Some run
  pub offered_is : seat.me.0.published ≡ offered
  pub collected_is : seat.me.0.collected ≡ collected
  pub behind : collected ≤ offered
  pub most : offered ≤ bands
  pub few : right ≤ collected

abbrev pub invariant-loop : goal.invariant-loop
invariant-loop l = Fed l.front.seat l.initial.front.seat l.run l.bands l.offered l.collected l.right
