-- What is known of a hand that draws bands until the board is closed and nothing is there to claim.
use Rattle.std.specs.Prelude.{◌≡◌, ℕ, Bool, true, false, List, [], ◌∷◌, ◌++◌, length, All}
use Rattle.band_board.specs.declared.view.View.{View}
use Rattle.band_board.specs.declared.hand.Look.{Look}
use Rattle.band_board.specs.Answers.{IsRefused, looks_from}

module _ {R : Type 0} where
  -- the views are of one hand: it has one number, and draws for one run
  abbrev pub IsSameHand : View R → View R → Type 0
  IsSameHand old new = (new.hand ≡ old.hand) × (new.run ≡ old.run)

  -- the hand has looked on
  pub record HasLooked (old new : View R) : Type 0 where
    pub more : List (ℕ × ℕ)
    pub looks : new.looks ≡ old.looks ++ more

  -- the looks that were added have these first and then those of a claim that gave nothing
  pub record LooksInVain (first : List (ℕ × ℕ)) (old new : View R) : Type 0 where
    pub seen : List Look
    pub sixteen : length seen ≡ 16
    pub refused : All IsRefused seen
    pub looks : new.looks ≡ old.looks ++ (first ++ looks_from 0 seen)

  -- one turn of a hand: it drew a band, or its claim gave nothing
  abbrev pub Draws : View R → View R → Bool → Type 0
  Draws old new true = HasLooked old new
  Draws old new false = LooksInVain [] old new

  -- the looks that were added have a 1 at word 16, the mark of the close, and after it those of a claim that gave nothing
  abbrev pub EndsIdle : View R → View R → Type 0
  EndsIdle old new = (before : List (ℕ × ℕ)) × LooksInVain (before ++ (16, 1) ∷ []) old new
