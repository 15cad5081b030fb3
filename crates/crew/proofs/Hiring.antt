-- What a crew and its workers are while they are hired.
use Rattle.std.proofs.Common.{◌≡◌, ℕ, ◌+◌, List, [], ◌∷◌, ◌++◌, length, sym, ap, ◌∙◌, subst, arith, length-append}
use Rattle.std.proofs.lemmas.List.Elements.{All-push}
use Rattle.std.specs.Arc.{arc_value}
use Rattle.band_board.specs.declared.view.View.{View}
use Rattle.band_board.specs.declared.board.Board.{Board}
use Rattle.band_board.specs.declared.front.Front.{Front}
use Rattle.band_board.specs.declared.work.Work.{Ghosts}
use Rattle.band_board.specs.View.{new_front, after_split}
use Rattle.band_board.specs.Answers.{front_view, IsFrontOf}
use Rattle.crew.specs.Parts.{IsStart}
use Rattle.crew.specs.Crew.{side_seen}
use Rattle.crew.specs.declared.worker.Worker.{Worker}
use Rattle.crew.specs.declared.crew.Crew.{Crew}
use Rattle.crew.specs.Crewed.{HasHired, AreWorkersOf, IsHired, AreHired, AreHiredWith, IsCrewWith}
use Rattle.crew.proofs.Ending.{starts_new}
use Rattle.run_side.specs.declared.side.RunSide.{RunSide}
use Rattle.serial_bands.specs.Run.{RunOf, run_over}

module _ {S : Type 0} where
  hired_both : (v w x : View S) (n m : ℕ) → HasHired v w n → HasHired w x m → HasHired v x (n + m)
  hired_both v w x n m first next =
      next ∙ ap (λ (u : View S). record u { hands = u.hands + m }) first ∙ ap (λ k. record v { hands = k }) (omega arith)

  -- a new front has made its first hand, and hires the others
  pub hired_after_split : (v w x : View S) (n : ℕ) → w ≡ after_split v → HasHired w x n → HasHired v x (n + 1)
  hired_after_split v w x n makes hires =
      hires ∙ ap (λ (u : View S). record u { hands = u.hands + n }) makes ∙ ap (λ k. record v { hands = k }) (omega arith)

  -- a front that has only made hands has offered nothing
  pub starts_on : (v w : View S) (n : ℕ) → IsStart v → HasHired v w n → IsStart w
  starts_on v w n start hires = subst (λ (u : View S). IsStart u) (sym hires)
      (record { run_is = start.run_is; published = start.published; collected = start.collected; joined = start.joined })

module _ {R G W S J D : Type 0} {kind : Ghosts W S J D} (board : Board W S J D) where
  -- nobody is hired yet
  pub none_hired : (front : Front W S J D kind) (workers : List (Worker R G)) → IsFrontOf board front → workers ≡ []
      → AreHired board front front workers 0
  none_hired front workers is none = record {
    front_of = is;
    hands = ap (λ k. record (front_view front) { hands = k }) (omega arith);
    boards = subst (λ ws. AreWorkersOf board.table.shared.table_id ws) (sym none) (λ k d less. absurd (omega (arith, less)));
    all = ap length none;
  }

  -- one more is hired
  pub one_more_hired : (first old new : Front W S J D kind) (before after : List (Worker R G)) (worker : Worker R G) (n : ℕ)
      → AreHired board first old before n → IsHired board old new worker → after ≡ before ++ worker ∷ [] → AreHired board first new after (n + 1)
  one_more_hired first old new before after worker n are is more = record {
    front_of = is.front_of;
    hands = hired_both (front_view first) (front_view old) (front_view new) n 1 are.hands is.hands;
    boards = subst (λ ws. AreWorkersOf board.table.shared.table_id ws) (sym more)
        (All-push (λ (w : Worker R G). (arc_value w.board).table.shared.table_id ≡ board.table.shared.table_id) before worker are.boards is.has_board);
    all = ap length more ∙ length-append before (worker ∷ []) ∙ ap (λ k. k + 1) are.all;
  }

module _ {R G : Type 0} where
  -- the workers have a board that is the same
  pub same_board : {W S J D : Type 0} (old new : Board W S J D) (workers : List (Worker R G)) → new ≡ old
      → AreWorkersOf old.table.shared.table_id workers → AreWorkersOf new.table.shared.table_id workers
  same_board {W} {S} {J} {D} old new workers same are =
      subst (λ (b : Board W S J D). AreWorkersOf b.table.shared.table_id workers) (sym same) are

  -- the front of a new crew had offered nothing
  pub crew_with : (run : RunOf RunSide) (first : View (RunOf RunSide)) (crew : Crew R G) (workers : List (Worker R G)) (n : ℕ)
      → first ≡ new_front run → AreHiredWith first crew workers n → IsCrewWith (run_over side_seen run) crew workers n
  crew_with run first crew workers n is_new hired =
      let starts = starts_new side_seen (arc_value crew.board).table.shared.table_id run first (front_view crew.front) (n + 1) is_new hired.hands in
      record { starts = starts.0; hands = starts.1; boards = hired.boards; all = hired.all }
