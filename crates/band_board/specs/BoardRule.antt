-- The rule of the board, which holds between any two steps.
-- Word j of the first sixteen is 256 n + 4 hand + phase, where n is a number with n % 16 = j, and the phase is
-- 0 vacant, 1 offered, 2 claimed or 3 drawn. Word 16 is 0, and 1 once the board is closed.
-- Each place has a slot. A slot is at home, where anybody's step may take it, or out with one seat.
use Rattle.std.specs.Prelude.{◌≡◌, ◌≢◌, ℕ, ◌+◌, ◌*◌, ◌^◌, ◌%◌, ◌<◌, ◌≤◌, ◌==◌, Bool, true}
use Rattle.std.specs.Prelude.{if◌then◌else◌, List, [], ◌∷◌, length, Option, Some, None, slice_index}
use mathlib.Core.Option.{some, none}
use mathlib.Core.Option as maybe
use lib.ListN.{get_elem?}
use Rattle.atomic_table.specs.Table.{State}
use Rattle.band_board.specs.declared.view.View.{View}
use Rattle.band_board.specs.declared.view.Role.{Role}
use Rattle.band_board.specs.declared.view.Role.TheVariants.{Front, Hand, Spent}
use Rattle.band_board.specs.declared.view.Parcel.{Parcel}
use Rattle.band_board.specs.declared.view.Parcel.TheVariants.{Job, Drawn}
use Rattle.band_board.specs.View.{spent_view}

-- A claimed place names the hand and the number of its seat at the table
pub data Phase : Type 0 where
  vacant : Phase
  offered : Phase
  claimed : ℕ → ℕ → Phase
  drawn : ℕ → Phase

-- the number that a place has, and its phase
abbrev pub Cell : Type 0
Cell = ℕ × Phase

-- the word of a place
abbrev pub word_of : ℕ → Phase → ℕ
word_of n vacant = 256 * n
word_of n offered = 256 * n + 1
word_of n (claimed hand seat) = 256 * n + 4 * hand + 2
word_of n (drawn hand) = 256 * n + 4 * hand + 3

-- 1 where b is true
abbrev pub one_if : Bool → ℕ
one_if b = if b then 1 else 0

-- how often n stands in a list
abbrev pub times : ℕ → List ℕ → ℕ
times n [] = 0
times n (x ∷ xs) = one_if (x == n) + times n xs

-- how often n stands in the lists of joined hands
abbrev pub times_joined : ℕ → List (ℕ × List ℕ) → ℕ
times_joined n [] = 0
times_joined n (x ∷ xs) = times n x.1 + times_joined n xs

-- how many joined hands have the number k
abbrev pub joined_count : ℕ → List (ℕ × List ℕ) → ℕ
joined_count k [] = 0
joined_count k (x ∷ xs) = one_if (x.0 == k) + joined_count k xs

-- 1 where the claimed band is n
abbrev pub claims_in : ℕ → Option ℕ → ℕ
claims_in n None = 0
claims_in n (Some m) = one_if (m == n)

-- 1 where a live hand has the number k
abbrev pub live_count : ℕ → Role → ℕ → ℕ
live_count k Front hand = 0
live_count k Hand hand = one_if (hand == k)
live_count k Spent hand = 0

module _ {R : Type 0} where
  -- the sum of f over the views
  abbrev pub total : (View R → ℕ) → List (View R) → ℕ
  total f [] = 0
  total f (v ∷ vs) = f v + total f vs

  -- how many hands with the number k a view tells of, live or joined
  abbrev pub hand_count : ℕ → View R → ℕ
  hand_count k v = live_count k v.role v.hand + joined_count k v.joined

  -- how often n stands in the lists of a view
  abbrev pub list_count : ℕ → View R → ℕ
  list_count n v = times n v.done + times_joined n v.joined

  -- 1 where a view claims n
  abbrev pub claim_count : ℕ → View R → ℕ
  claim_count n v = claims_in n v.claim

  -- n stands so often in the lists of all hands, and so many hands say that they claimed it
  pub record Tally (views : List (View R)) (n listings claimants : ℕ) : Type 0 where
    pub lists_are : total (list_count n) views ≡ listings
    pub claims_are : total (claim_count n) views ≡ claimants

  -- n is published and not collected
  abbrev pub IsOutstanding : View R → ℕ → Type 0
  IsOutstanding front n = (front.collected ≤ n) × (n < front.published)

  -- the live hand at a seat has this number, and says that it claimed n
  abbrev pub HasClaimed : List (View R) → ℕ → ℕ → ℕ → Type 0
  HasClaimed views seat hand n = (v : View R) × (get_elem? views seat ≡ some v) × (v.role ≡ Hand) × (v.hand ≡ hand) × (v.claim ≡ Some n)

  -- there is an outstanding band, and the first one is drawn
  abbrev pub HasDrawn : (ℕ → Cell) → View R → Type 0
  HasDrawn cells front = (front.collected < front.published) × ((hand : ℕ) × (cells (front.collected % 16) ≡ (front.collected, drawn hand)))

  -- what belongs to the other role has stayed as it began
  abbrev pub KeepsToRole : Role → View R → Type 0
  KeepsToRole Front v = (v.claim ≡ None) × (v.done ≡ [])
  KeepsToRole Hand v = v.joined ≡ []
  KeepsToRole Spent v = v ≡ spent_view

  -- what the rule says of the view of the seat id
  pub record Knows (run : R) (cells : ℕ → Cell) (id : ℕ) (v : View R) : Type 0 where
    pub one_run : v.role ≢ Spent → v.run ≡ Some run
    pub first_is_front : v.role ≡ Front → id ≡ 0
    pub own : KeepsToRole v.role v
    pub claim_shows : (n : ℕ) → v.claim ≡ Some n → (v.role ≡ Hand) × (cells (n % 16) ≡ (n, claimed v.hand id))

-- what a slot of the board holds
abbrev pub Slot : Type 0 → Type 0 → Type 0
Slot J D = Option (Parcel J D)

-- the slots that are at home, each with what it holds
abbrev pub Homes : Type 0 → Type 0 → Type 0
Homes J D = List (maybe.Option (Slot J D))

module _ {J D : Type 0} where
  -- the slot is out with a seat: with the hand that claimed its band, or with the front
  abbrev pub IsOut : Homes J D → ℕ → Type 0
  IsOut homes i = get_elem? homes i ≡ some none

  -- the slot is at home and holds this
  abbrev pub HasHome : Homes J D → ℕ → Slot J D → Type 0
  HasHome homes i slot = get_elem? homes i ≡ some (some slot)

module _ {R J D : Type 0} (right_job : R → ℕ → J → Type 0) (right_drawn : R → ℕ → D → Type 0) where
  -- What is so of the place i while it has the number n and a phase. The slot of a vacant place is out with the front, once it was opened.
  -- The upper bound makes a vacant number the least of its place that is not below `published`
  abbrev pub InPhase : R → View R → Homes J D → List (View R) → ℕ → ℕ → Phase → Type 0
  InPhase run front homes views i n vacant = (front.published ≤ n) × (n < front.collected + 16) × (front.opened ≤ i → HasHome homes i None)
      × (i < front.opened → IsOut homes i)
  InPhase run front homes views i n offered = IsOutstanding front n × ((job : J) × right_job run n job × HasHome homes i (Some (Job job))) × Tally views n 0 0
  InPhase run front homes views i n (claimed hand seat) = IsOutstanding front n × IsOut homes i × HasClaimed views seat hand n × Tally views n 0 1 × (hand < 33)
  InPhase run front homes views i n (drawn hand) = IsOutstanding front n × ((band : D) × right_drawn run n band × HasHome homes i (Some (Drawn band)))
      × Tally views n 1 0 × (hand < 33)

  -- the word of the place i shows its cell, and the cell is as its phase says
  pub record CellOk (run : R) (front : View R) (words : List ℕ) (homes : Homes J D) (views : List (View R)) (i : ℕ) (c : Cell) : Type 0 where
    pub shows : slice_index words i ≡ word_of c.0 c.1
    pub lies : c.0 % 16 ≡ i
    pub phase : InPhase run front homes views i c.0 c.1

  -- The rule where the front has this view
  pub record Ruled (run : R) (front : View R) (s : State (Slot J D) (View R)) : Type 0 where
    pub cells : ℕ → Cell
    pub wide : length s.words ≡ 17
    pub deep : length s.homes ≡ 16
    pub flag : slice_index s.words 16 ≡ one_if front.closed
    pub first : get_elem? s.views 0 ≡ some front
    pub role : front.role ≡ Front
    pub behind : front.collected ≤ front.published
    pub within : front.published ≤ front.collected + 16
    pub small : front.published ≤ 2 ^ 32
    pub few : front.hands ≤ 33
    pub seen_drawn : front.noted ≡ true → HasDrawn cells front
    pub each_cell : (i : ℕ) → i < 16 → CellOk run front s.words s.homes s.views i (cells i)
    pub each_seat : (id : ℕ) (v : View R) → get_elem? s.views id ≡ some v → Knows run cells id v
    -- hand numbers are distinct and below the number made
    pub numbers : (k : ℕ) → k < front.hands → total (hand_count k) s.views ≡ 1
    pub no_others : (k : ℕ) → front.hands ≤ k → total (hand_count k) s.views ≡ 0
    -- a collected band stands once in one list, and one that is not published nowhere
    pub gone : (n : ℕ) → n < front.collected → Tally s.views n 1 0
    pub coming : (n : ℕ) → front.published ≤ n → Tally s.views n 0 0

  -- The rule of a board for a run
  abbrev pub BoardRule : R → State (Slot J D) (View R) → Type 0
  BoardRule run s = (front : View R) × Ruled run front s
