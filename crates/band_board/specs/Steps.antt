-- What each step on the board tells the seat that makes it: of the step, the seat before, the word found (at a store, the word stored) and the seat after.
use Rattle.std.specs.Prelude.{◌≡◌, ◌≢◌, ℕ, ◌+◌, ◌*◌, ◌%◌, ◌^◌, ◌<◌, ◌≤◌, List, [], ◌∷◌, length, Option, Some, None}
use Rattle.atomic_table.specs.Table.{Me, Step, rest}
use Rattle.band_board.specs.declared.view.View.{View}
use Rattle.band_board.specs.declared.view.Parcel.TheVariants.{Job, Drawn}
use Rattle.band_board.specs.View.{after_opening, after_look, after_watch, after_offer, after_claim, after_delivery, after_collection, after_close}
use Rattle.band_board.specs.BoardRule.{Slot, times_joined}

-- the word is that of an offered band of this place
abbrev pub OffersAt : ℕ → ℕ → Type 0
OffersAt place word = (n : ℕ) × (word ≡ 256 * n + 1) × (n % 16 ≡ place) × (n < 2 ^ 32)

-- each number below n stands once in the lists, and no other does
abbrev pub HoldsEachOnce : ℕ → List (ℕ × List ℕ) → Type 0
HoldsEachOnce n joined = ((m : ℕ) → m < n → times_joined m joined ≡ 1) × ((m : ℕ) → n ≤ m → times_joined m joined ≡ 0)

-- how many bands stand in the lists
abbrev pub band_count : List (ℕ × List ℕ) → ℕ
band_count [] = 0
band_count (x ∷ xs) = length x.1 + band_count xs

module _ {R : Type 0} where
  -- every hand was joined, and nothing is outstanding
  abbrev pub IsAllIn : View R → Type 0
  IsAllIn v = (length v.joined ≡ v.hands) × (v.collected ≡ v.published)

  -- a value is right for the run of a view and a number
  abbrev pub RightFor : {X : Type 0} → (R → ℕ → X → Type 0) → Option R → ℕ → X → Type 0
  RightFor right run n x = (q : R) × (run ≡ Some q) × right q n x

-- a seat of the board: its view, and the slots that it has out
abbrev pub Seated : Type 0 → Type 0 → Type 0 → Type 0
Seated R J D = Me (Slot J D) (View R)

module _ {R J D : Type 0} where
  -- the front takes out the slot of the place
  abbrev pub TellsOpening : Step (Slot J D) → Seated R J D → ℕ → Seated R J D → Type 0
  TellsOpening st m r m' = m' ≡ (after_opening m.0, (st.word, None) ∷ m.1)

  -- the look at a place, and what its word can be
  abbrev pub TellsLook : Step (Slot J D) → Seated R J D → ℕ → Seated R J D → Type 0
  TellsLook st m r m' = (m' ≡ (after_look m.0 st.word r, m.1)) × (st.word < 16 → r % 4 ≡ 1 → OffersAt st.word r) × (st.word ≡ 16 → r ≤ 1)

  -- the front's look at the first outstanding band
  abbrev pub TellsWatch : Step (Slot J D) → Seated R J D → ℕ → Seated R J D → Type 0
  TellsWatch st m r m' = m' ≡ (after_watch m.0 r, m.1)

  -- the front gives the slot back, with the job
  abbrev pub TellsOffer : Step (Slot J D) → Seated R J D → ℕ → Seated R J D → Type 0
  TellsOffer st m r m' = m' ≡ (after_offer m.0, rest m.1)

  -- The try finds the offered word, claims the band and takes out the slot with a job that is right for the hand's own run. Or it is one more look at the place
  abbrev pub TellsTry : (R → ℕ → J → Type 0) → Step (Slot J D) → Seated R J D → ℕ → Seated R J D → Type 0
  TellsTry right st m r m' = (r ≡ st.first → (n : ℕ) × (st.first ≡ 256 * n + 1) × ((job : J) × RightFor right m.0.run n job
      × (m' ≡ (after_claim m.0 n, (st.word, Some (Job job)) ∷ m.1))))
      × (r ≢ st.first → m' ≡ (after_look m.0 st.word r, m.1))

  -- The hand gives the slot back, with the drawn band. Its list has no number twice, and none from 2^32 on
  abbrev pub TellsDelivery : Step (Slot J D) → Seated R J D → ℕ → Seated R J D → Type 0
  TellsDelivery st m r m' = ((n : ℕ) → m.0.claim ≡ Some n → m' ≡ (after_delivery m.0 n, rest m.1)) × (length m'.0.done ≤ 2 ^ 32)

  -- the front takes out the slot of the first outstanding band, with a drawn band that is right
  abbrev pub TellsCollection : (R → ℕ → D → Type 0) → Step (Slot J D) → Seated R J D → ℕ → Seated R J D → Type 0
  TellsCollection right st m r m' = (band : D) × RightFor right m.0.run m.0.collected band × (m' ≡ (after_collection m.0, (st.word, Some (Drawn band)) ∷ m.1))

  -- the front has closed the board
  abbrev pub TellsClose : Step (Slot J D) → Seated R J D → ℕ → Seated R J D → Type 0
  TellsClose st m r m' = m' ≡ (after_close m.0, m.1)

  -- nothing changes, and what the rule says of the joined lists is known
  abbrev pub TellsLists : Step (Slot J D) → Seated R J D → ℕ → Seated R J D → Type 0
  TellsLists st m r m' = (m' ≡ m) × (IsAllIn m.0 → HoldsEachOnce m.0.published m.0.joined)
