-- What the public calls say: the views of a front and a hand, whose board they are of, and what each answer means.
use Rattle.std.specs.Prelude.{◌≡◌, ◌≢◌, ℕ, suc, ◌+◌, ◌*◌, ◌%◌, List, [], ◌∷◌, ◌++◌, length, All, Option, Some, None, MatchOption, MatchResult, Result}
use Rattle.band_board.specs.declared.view.View.{View}
use Rattle.band_board.specs.declared.board.Board.{Board}
use Rattle.band_board.specs.declared.work.Work.{Ghosts}
use Rattle.band_board.specs.declared.front.Front.{Front}
use Rattle.band_board.specs.declared.front.Collected.{Collected}
use Rattle.band_board.specs.declared.front.Collected.TheVariants.{Got as GotDrawn, NotYet}
use Rattle.band_board.specs.declared.hand.Hand.{Hand}
use Rattle.band_board.specs.declared.hand.Look.{Look}
use Rattle.band_board.specs.declared.hand.Claim.{Claim}
use Rattle.band_board.specs.declared.hand.Claim.TheVariants.{Got, Nothing}
use Rattle.band_board.specs.View.{after_look, after_watch, after_claim, after_collection}
use Rattle.band_board.specs.Steps.{RightFor}

module _ {W R J D : Type 0} {kind : Ghosts W R J D} where
  -- what the front knows
  abbrev pub front_view : Front W R J D kind → View R
  front_view front = front.seat.me.0

  -- what the hand knows
  abbrev pub hand_view : Hand W R J D kind → View R
  hand_view hand = hand.seat.me.0

  -- the front was made with this board
  abbrev pub IsFrontOf : Board W R J D → Front W R J D kind → Type 0
  IsFrontOf board front = front.seat.table_id ≡ board.table.shared.table_id

  -- the hand was split off the front of this board
  abbrev pub IsHandOf : Board W R J D → Hand W R J D kind → Type 0
  IsHandOf board hand = hand.seat.table_id ≡ board.table.shared.table_id

module _ {W R J D : Type 0} {kind : Ghosts W R J D} where
  -- the hand is one of this board, and holds no band
  abbrev pub IsFree : Board W R J D → Hand W R J D kind → Type 0
  IsFree board hand = IsHandOf board hand × ((hand_view hand).claim ≡ None)

-- the word says that a band is offered
abbrev pub IsOffered : ℕ → Type 0
IsOffered word = word % 4 ≡ 1

-- the word was not offered, or it was, and the one try on it found another word
abbrev pub IsRefused : Look → Type 0
IsRefused look = MatchOption look.found (IsOffered look.word → ⊥) (λ word. IsOffered look.word × (word ≢ look.word))

-- the look that a failed try adds
abbrev pub try_at : ℕ → Option ℕ → List (ℕ × ℕ)
try_at place None = []
try_at place (Some word) = (place, word) ∷ []

-- the looks at a place that a refused try adds to a view
abbrev pub looks_at : ℕ → Look → List (ℕ × ℕ)
looks_at place look = (place, look.word) ∷ try_at place look.found

-- those at the places from this one on
abbrev pub looks_from : ℕ → List Look → List (ℕ × ℕ)
looks_from place [] = []
looks_from place (look ∷ looks) = looks_at place look ++ looks_from (suc place) looks

module _ {R : Type 0} where
  -- more looks were added, and nothing else changed
  abbrev pub after_looks : View R → List (ℕ × ℕ) → View R
  after_looks v looks = record v { looks = v.looks ++ looks }

  module _ {J : Type 0} (right_job : R → ℕ → J → Type 0) (old new : View R) where
    -- the band that was offered at the place is claimed, and the job is right for the hand's own run
    abbrev pub ClaimsAt : ℕ → ℕ → J → Type 0
    ClaimsAt place number job = (number % 16 ≡ place) × RightFor right_job old.run number job
        × (new ≡ after_claim (after_look old place (256 * number + 1)) number)

    -- a try to claim at a place
    abbrev pub TriesAt : ℕ → Result (ℕ × J) Look → Type 0
    TriesAt place tried = MatchResult tried (λ got. ClaimsAt place got.0 got.1) (λ look. IsRefused look × (new ≡ after_looks old (looks_at place look)))

    -- A claim tries the places in order. It gives the first band that it gets, with a job that is right for the hand's own run.
    -- Nothing comes only with a refused look at each of the sixteen places. It looks at nothing else
    abbrev pub Claims : {W D : Type 0} → Claim W R J D → Type 0
    Claims (Got number job) = (before : List Look) × (length before ≡ number % 16) × All IsRefused before × RightFor right_job old.run number job
        × (new ≡ after_claim (after_looks old (looks_from 0 before ++ (number % 16, 256 * number + 1) ∷ [])) number)
    Claims (Nothing seen) = (length seen ≡ 16) × All IsRefused seen × (new ≡ after_looks old (looks_from 0 seen))

  -- A try to collect looks once, at the first outstanding band. It gives that band where the look found phase 3, and else hands the word back
  abbrev pub CollectsFirst : {W J D : Type 0} → (R → ℕ → D → Type 0) → View R → View R → Collected W R J D → Type 0
  CollectsFirst right_drawn old new (GotDrawn number drawn) = (number ≡ old.collected) × RightFor right_drawn old.run number drawn × ((word : ℕ)
      × (word % 4 ≡ 3) × (new ≡ after_collection (after_watch old word)))
  CollectsFirst right_drawn old new (NotYet word) = (word % 4 ≢ 3) × (new ≡ after_watch old word)
