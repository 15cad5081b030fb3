-- What is known of the parts of a crew: the view of its front, and its own hand. `seen` tells what the side of its run does.
use Rattle.std.specs.Prelude.{◌≡◌, ◌≢◌, ℕ, zero, suc, ◌+◌, ◌-◌, ◌*◌, ◌≤◌, List, [], ◌∷◌, Option, Some, None, option_map}
use Rattle.atomic_table.specs.Seated.{TableId}
use Rattle.serial_model.specs.Side.{SideValue}
use Rattle.serial_bands.specs.Run.{RunOf, RunValue, run_over}
use Rattle.band_log.specs.declared.job.Drawn.{Drawn}
use Rattle.band_log.specs.Raster.{RasterValue, Outstanding}
use Rattle.band_board.specs.declared.view.View.{View}
use Rattle.band_board.specs.declared.board.Board.{Board}
use Rattle.band_board.specs.declared.front.Front.{Front}
use Rattle.band_board.specs.declared.hand.Hand.{Hand}
use Rattle.band_board.specs.declared.work.Work.{Ghosts}
use Rattle.band_board.specs.Steps.{RightFor}
use Rattle.band_board.specs.Answers.{front_view, IsFrontOf, IsFree}
use Rattle.crew.specs.Bands.{IsDrawnBand}

-- two numbers as one
abbrev pub pair : ℕ → ℕ → ℕ
pair a b = (a + b) * (a + b) + a

-- a list of numbers as one number
abbrev pub number_of_list : List ℕ → ℕ
number_of_list [] = 0
number_of_list (x ∷ xs) = suc (pair x (number_of_list xs))

-- The mark of a crew: it names the table of its board and how many hands were made, since no two of them have one mark
unfoldable pub mark_of : TableId → ℕ → ℕ
mark_of z hands = pair hands (pair z.words (pair z.slots (pair z.views_name (pair z.atom (pair z.block (pair z.offset (number_of_list z.slot_names)))))))

-- so many bands of a run, from a number on
abbrev pub run_bands : RunValue → ℕ → ℕ → List Outstanding
run_bands run from zero = []
run_bands run from (suc n) = record { run = run; number = from } ∷ run_bands run (suc from) n

-- those of a run, if there is one
abbrev pub bands_of : Option RunValue → ℕ → ℕ → List Outstanding
bands_of None from n = []
bands_of (Some run) from n = run_bands run from n

-- those that a front has published and not collected
abbrev pub outstanding_of : {S : Type 0} → (S → SideValue) → View (RunOf S) → List Outstanding
outstanding_of seen v = bands_of (option_map (run_over seen) v.run) v.collected (v.published - v.collected)

-- how a crew is seen as a raster
abbrev pub seen_of : {S : Type 0} → (S → SideValue) → TableId → View (RunOf S) → RasterValue
seen_of seen z v = record {
  outstanding = outstanding_of seen v;
  next = v.published;
  bound = option_map (run_over seen) v.run;
  mark = mark_of z v.hands;
  tint = 0;
}

-- the front has collected its first outstanding band, and what it got is right for the run and that number
pub record GathersFirst {S : Type 0} (seen : S → SideValue) (v w : View (RunOf S)) (drawn : Drawn S) : Type 0 where
  pub view : w ≡ record v { looks = w.looks; noted = w.noted; collected = v.collected + 1 }
  pub right : RightFor (IsDrawnBand seen) v.run v.collected drawn

module _ {R : Type 0} where
  -- the front has offered nothing, for a run that its view names, and no hand was joined
  pub record IsStart (v : View R) : Type 0 where
    pub run_is : v.run ≢ None
    pub published : v.published ≡ 0
    pub collected : v.collected ≡ 0
    pub joined : v.joined ≡ []

  -- the front has looked, and nothing else changed
  abbrev pub IsSteady : View R → View R → Type 0
  IsSteady v w = w ≡ record v { looks = w.looks; noted = w.noted }

module _ {W R J D : Type 0} {kind : Ghosts W R J D} where
  -- the front is that of the board, the hand is free, and so many bands are outstanding; no hand was joined yet
  pub record IsCrew (board : Board W R J D) (front : Front W R J D kind) (hand : Hand W R J D kind) (waiting : ℕ) : Type 0 where
    pub front_of : IsFrontOf board front
    pub free : IsFree board hand
    pub run_is : (front_view front).run ≢ None
    pub joined : (front_view front).joined ≡ []
    pub behind : (front_view front).collected + waiting ≡ (front_view front).published
    pub few : waiting ≤ 16
