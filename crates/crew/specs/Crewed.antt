-- What is known of a body that was run with a crew.
use Rattle.std.specs.Prelude.{◌≡◌, ℕ, ◌+◌, List, [], ◌∷◌, ◌++◌, length, All}
use Rattle.std.specs.Arc.{arc_value}
use Rattle.std.specs.Fn.{Mut, Takes, CalledAtMut}
use Rattle.std.specs.Borrow.{MutBor}
use mathlib.Core.List.{Mem}
use denote.RattleType.{RattleType}
use Rattle.atomic_table.specs.Seated.{TableId}
use Rattle.run_side.specs.declared.side.RunSide.{RunSide}
use Rattle.serial_bands.specs.Run.{RunOf, RunValue}
use Rattle.band_board.specs.declared.view.View.{View}
use Rattle.band_board.specs.View.{after_close}
use Rattle.band_board.specs.Steps.{band_count, HoldsEachOnce}
use Rattle.band_board.specs.declared.board.Board.{Board}
use Rattle.band_board.specs.declared.front.Front.{Front}
use Rattle.band_board.specs.declared.work.Work.{Ghosts}
use Rattle.band_board.specs.Answers.{front_view, hand_view, IsFrontOf}
use Rattle.crew.specs.declared.crew.Crew.{Crew}
use Rattle.crew.specs.declared.worker.Worker.{Worker}
use Rattle.crew.specs.declared.closed.Closed.{Closed}
use Rattle.crew.specs.declared.closed.Totals.{Totals}
use Rattle.crew.specs.Crew.{crew_seen, IsNewCrew}

-- a value of the type borrows nothing that may end
abbrev pub IsStatic : RattleType → Type 0
IsStatic R = (a : ℕ) → Mem a R.lives → Mem a []

-- so many hands more were made, and nothing else changed
abbrev pub HasHired : {R : Type 0} → View R → View R → ℕ → Type 0
HasHired old new n = new ≡ record old { hands = old.hands + n }

module _ {R G : Type 0} where
  -- each worker has the board of this table
  abbrev pub AreWorkersOf : TableId → List (Worker R G) → Type 0
  AreWorkersOf z workers = All (λ (worker : Worker R G). (arc_value worker.board).table.shared.table_id ≡ z) workers

  module _ {W S J D : Type 0} {kind : Ghosts W S J D} where
    -- a worker has the board and the hand that its front made since
    pub record IsHired (board : Board W S J D) (old new : Front W S J D kind) (worker : Worker R G) : Type 0 where
      pub front_of : IsFrontOf board new
      pub hands : HasHired (front_view old) (front_view new) 1
      pub has_board : (arc_value worker.board).table.shared.table_id ≡ board.table.shared.table_id

    -- so many workers have the board and the hands that its front made since
    pub record AreHired (board : Board W S J D) (old new : Front W S J D kind) (workers : List (Worker R G)) (count : ℕ) : Type 0 where
      pub front_of : IsFrontOf board new
      pub hands : HasHired (front_view old) (front_view new) count
      pub boards : AreWorkersOf board.table.shared.table_id workers
      pub all : length workers ≡ count

  -- so many workers have the board of the crew, and its front has made their hands and one more since it was seen so
  pub record AreHiredWith (old : View (RunOf RunSide)) (crew : Crew R G) (workers : List (Worker R G)) (count : ℕ) : Type 0 where
    pub hands : HasHired old (front_view crew.front) (count + 1)
    pub boards : AreWorkersOf (arc_value crew.board).table.shared.table_id workers
    pub all : length workers ≡ count

  -- a crew that is bound to the run, with nothing outstanding, whose next number is 0, and so many workers of its board
  pub record IsCrewWith (run : RunValue) (crew : Crew R G) (workers : List (Worker R G)) (count : ℕ) : Type 0 where
    pub starts : IsNewCrew run crew
    pub hands : (front_view crew.front).hands ≡ count + 1
    pub boards : AreWorkersOf (arc_value crew.board).table.shared.table_id workers
    pub all : length workers ≡ count

  module _ {T F : Type 0} (g : Mut F (MutBor (Crew R G) × Unit {0}) (T × (MutBor (Crew R G) × Unit {0}))) where
    -- the body may be called on a crew, and leaves there a crew of the same mark
    pub record TakesCrew (body : F) (crew : Crew R G) : Type 0 where
      pub takes : (lent : MutBor (Crew R G)) → lent.now ≡ crew → Takes g body (lent, tt)
      pub keeps : (answer : T) (after : F) (left : Crew R G) → CalledAtMut g body crew answer after left → (crew_seen left).mark ≡ (crew_seen crew).mark

    -- and so on each crew that is bound to a run, with nothing outstanding, and whose next number is 0
    abbrev pub TakesNewCrews : F → RunValue → Type 0
    TakesNewCrews body run = (crew : Crew R G) → IsNewCrew run crew → TakesCrew body crew

    -- The body was called once, on this crew. Then the board was closed, and so many hands of workers were joined
    pub record Ran (body : F) (crew : Crew R G) (answer : T) (after : F) (closed : Closed) (workers : ℕ) : Type 0 where
      pub left : Crew R G
      pub called : CalledAtMut g body crew answer after left
      pub same : (crew_seen left).mark ≡ (crew_seen crew).mark
      pub table : (arc_value closed.board).table.shared.table_id ≡ (arc_value crew.board).table.shared.table_id
      pub front : front_view closed.front ≡ record (after_close (front_view left.front)) { joined = (front_view closed.front).joined }
      pub hand : hand_view closed.hand ≡ hand_view left.hand
      pub joined : length (front_view closed.front).joined ≡ workers

    -- The body was called once, on a crew that was bound to the run, with nothing outstanding, and whose next number was 0; it left there
    -- a crew of the same mark. The totals count the bands of the workers' hands, as they came back, and of the hand of the crew that was
    -- left; where nothing was outstanding there, each submitted band was drawn by one of them, once
    pub record RanWithCrew (body : F) (run : RunValue) (workers : ℕ) (answer : T) (after : F) (totals : Totals) : Type 0 where
      pub crew : Crew R G
      pub starts : IsNewCrew run crew
      pub left : Crew R G
      pub called : CalledAtMut g body crew answer after left
      pub same : (crew_seen left).mark ≡ (crew_seen crew).mark
      pub joined : List (ℕ × List ℕ)
      pub all_joined : length joined ≡ workers
      pub by_hands : totals.by_hands ≡ band_count joined
      pub by_front : totals.by_front ≡ length (hand_view left.hand).done
      pub once : (crew_seen left).outstanding ≡ []
          → HoldsEachOnce (crew_seen left).next (joined ++ ((hand_view left.hand).hand, (hand_view left.hand).done) ∷ [])
      pub sum : (crew_seen left).outstanding ≡ [] → totals.by_hands + totals.by_front ≡ (crew_seen left).next
