-- The views of the front and of the hands: how they begin, and what each step of the board does to one.
use Rattle.std.specs.Prelude.{ℕ, ◌+◌, ◌%◌, ◌==◌, ◌||◌, true, false, [], ◌∷◌, ◌++◌, Option, Some, None}
use Rattle.band_board.specs.declared.view.View.{View}
use Rattle.band_board.specs.declared.view.Role.{Role}
use Rattle.band_board.specs.declared.view.Role.TheVariants.{Front, Hand, Spent}

module _ {R : Type 0} where
  -- a view of a role with a run and a hand number, which has seen and done nothing
  abbrev pub blank_view : Role → Option R → ℕ → View R
  blank_view role run hand = record {
    role = role;
    run = run;
    looks = [];
    opened = 0;
    published = 0;
    collected = 0;
    noted = false;
    hands = 0;
    closed = false;
    joined = [];
    hand = hand;
    claim = None;
    done = [];
  }

  -- the front's view while the board is made
  abbrev pub first_view : R → View R
  first_view run = blank_view Front (Some run) 0

  -- the front's view of a new board: all slots are out with it, and nothing is published
  abbrev pub new_front : R → View R
  new_front run = record (first_view run) { opened = 16 }

  -- what a joined hand leaves behind
  abbrev pub spent_view : View R
  spent_view = blank_view Spent None 0

  -- the front takes a slot out
  abbrev pub after_opening : View R → View R
  after_opening v = record v { opened = v.opened + 1 }

  -- a word was found at a place
  abbrev pub after_look : View R → ℕ → ℕ → View R
  after_look v place word = record v { looks = v.looks ++ (place, word) ∷ [] }

  -- the front found a word at the place of the first outstanding band; it notes phase 3, drawn
  abbrev pub after_watch : View R → ℕ → View R
  after_watch v word = record v { looks = v.looks ++ (v.collected % 16, word) ∷ []; noted = v.noted || (word % 4 == 3) }

  -- the front offers the next band
  abbrev pub after_offer : View R → View R
  after_offer v = record v { published = v.published + 1 }

  -- a hand claims the band n
  abbrev pub after_claim : View R → ℕ → View R
  after_claim v n = record v { claim = Some n }

  -- a hand delivers the band n
  abbrev pub after_delivery : View R → ℕ → View R
  after_delivery v n = record v { claim = None; done = v.done ++ n ∷ [] }

  -- the front collects the first outstanding band
  abbrev pub after_collection : View R → View R
  after_collection v = record v { collected = v.collected + 1; noted = false }

  -- the front closes the board
  abbrev pub after_close : View R → View R
  after_close v = record v { closed = true }

  -- the front makes a hand
  abbrev pub after_split : View R → View R
  after_split v = record v { hands = v.hands + 1 }

  -- the hand that it makes: of the same run, with the next number
  abbrev pub next_hand : View R → View R
  next_hand v = blank_view Hand v.run v.hands

  -- the front takes in the list of a hand
  abbrev pub after_join : View R → View R → View R
  after_join v w = record v { joined = v.joined ++ (w.hand, w.done) ∷ [] }
