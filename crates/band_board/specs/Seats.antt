-- How the fields of the front and of a hand stand beside the view and the slots of their seat.
use Rattle.std.specs.Prelude.{◌≡◌, ℕ, zero, suc, ◌+◌, ◌-◌, ◌%◌, ◌^◌, ◌<◌, ◌≤◌, false, List, [], ◌∷◌, length, Option, Some, None}
use Rattle.atomic_table.specs.declared.shared.Seat.{Seat}
use Rattle.band_board.specs.declared.view.View.{View}
use Rattle.band_board.specs.declared.view.Role.TheVariants.{Front, Hand}
use Rattle.band_board.specs.BoardRule.{Slot}

-- the m slots from that of the band n on, each out and with nothing in it
abbrev pub vacancies : {J D : Type 0} → ℕ → ℕ → List (ℕ × Slot J D)
vacancies n zero = []
vacancies n (suc m) = (n % 16, None) ∷ vacancies (suc n) m

-- the slot that a hand has out: that of its band, with nothing in it
abbrev pub slot_of : {J D : Type 0} → Option ℕ → List (ℕ × Slot J D)
slot_of None = []
slot_of (Some n) = (n % 16, None) ∷ []

module _ {R J D : Type 0} where
  -- the seat is that of the front, with these counts
  pub record IsFront (seat : Seat (Slot J D) (View R)) (published collected hands : ℕ) : Type 0 where
    pub role : seat.me.0.role ≡ Front
    pub opened : seat.me.0.opened ≡ 16
    pub published_is : seat.me.0.published ≡ published
    pub collected_is : seat.me.0.collected ≡ collected
    pub hands_are : seat.me.0.hands ≡ hands
    pub unnoted : seat.me.0.noted ≡ false
    pub behind : collected ≤ published
    pub within : published ≤ collected + 16
    pub small : published ≤ 2 ^ 32
    pub few : hands ≤ 33
    pub holds : seat.me.1 ≡ vacancies published (collected + 16 - published)

  -- the seat is that of a hand, with this number, claim and count of delivered bands
  pub record IsHand (seat : Seat (Slot J D) (View R)) (number : ℕ) (band : Option ℕ) (count : ℕ) : Type 0 where
    pub role : seat.me.0.role ≡ Hand
    pub number_is : seat.me.0.hand ≡ number
    pub band_is : seat.me.0.claim ≡ band
    pub count_is : length seat.me.0.done ≡ count
    pub few : number < 33
    pub small : (n : ℕ) → band ≡ Some n → n < 2 ^ 32
    pub most : count ≤ 2 ^ 32
    pub holds : seat.me.1 ≡ slot_of band
