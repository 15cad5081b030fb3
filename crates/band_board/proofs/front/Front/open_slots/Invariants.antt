use Rattle.std.proofs.Common.{◌≡◌, ℕ}
use Rattle.band_board.specs.BoardRule.{Slot}
use Rattle.band_board.specs.Seats.{vacancies}
use Rattle.band_board.specs.View.{first_view}
use Rattle.band_board.specs.declared.view.View.{View}
use Rattle.atomic_table.specs.declared.shared.Seat.{Seat}
use Rattle.band_board.proofs.front.Front.open_slots.Given as goal

-- the slots below the place are out with the seat, which did nothing else
pub record Opened {R J D : Type 0} (run : R) (seat before : Seat (Slot J D) (View R)) (place : ℕ) : Type 0 where
  pub table : seat.table_id ≡ before.table_id
  pub view : seat.me.0 ≡ record (first_view run) { opened = place }
  pub slots : seat.me.1 ≡ vacancies 0 place

abbrev pub invariant-loop-place : goal.invariant-loop-place
invariant-loop-place g l = Opened l.fn.board.table.shared.key.value l.seat l.fn.seat l.place
