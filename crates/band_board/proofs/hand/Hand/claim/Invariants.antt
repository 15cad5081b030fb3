use Rattle.std.proofs.Common.{◌≡◌, ℕ, List, length, take, All, None}
use Rattle.atomic_table.specs.declared.shared.Seat.{Seat}
use Rattle.band_board.specs.declared.view.View.{View}
use Rattle.band_board.specs.declared.hand.Look.{Look}
use Rattle.band_board.specs.BoardRule.{Slot}
use Rattle.band_board.specs.Answers.{IsRefused, looks_from, after_looks}
use Rattle.band_board.proofs.hand.Hand.claim.Given as goal

-- the places below this one were refused, and the looks at them are all that was added
pub record Tried {R J D : Type 0} (seat before : Seat (Slot J D) (View R)) (seen : List Look) (place : ℕ) : Type 0 where
  pub table : seat.table_id ≡ before.table_id
  pub size : length seen ≡ 16
  pub free : before.me.0.claim ≡ None
  pub refused : All IsRefused (take place seen)
  pub view : seat.me.0 ≡ after_looks before.me.0 (looks_from 0 (take place seen))

abbrev pub invariant-loop-place : goal.invariant-loop-place
invariant-loop-place g l = Tried l.self.seat l.initial.self.seat l.seen l.place
