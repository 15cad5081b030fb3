-- A side: what stands beside the chips and takes part in the bus, as a sound channel or a disk does, and how contracts see it.
use Rattle.std.specs.Prelude.{◌≡◌, ◌<◌, ℕ, zero, suc, ◌+◌, ◌*◌, ◌==◌, ◌||◌, true, List, [], ◌∷◌}
use Rattle.ocs_base.specs.declared.beam.Beam.{Beam}
use Rattle.ocs_base.specs.declared.reg.Reg.{Reg}
use Rattle.serial_model.specs.Beam.{later_beam}
use Rattle.serial_model.specs.declared.bus.Ask.{Ask}
use Rattle.serial_model.specs.declared.bus.Ask.TheVariants as A
use Rattle.serial_model.specs.declared.bus.Made.{Made}
use Rattle.serial_model.specs.declared.bus.Made.TheVariants as M
use Rattle.serial_model.specs.declared.bus.SideAsk.{SideAsk}
use Rattle.serial_model.specs.declared.bus.SideAsk.TheVariants as S

-- what happens to a side
pub data Happening : Type 0 where
  -- a register was written
  Poked : Reg → ℕ → Happening
  -- a clock came, with the beam there and the kept word of DMACON
  Ticked : Beam → ℕ → Happening
  -- it got the slot for which it asked, with this word
  Given : ℕ → Happening

-- A side at some moment is what it does from then on: which bits of INTREQ it requests at a clock, what it asks for there, and
-- what it shows to the outside as a list of numbers, as a sound channel its level, once these happenings came, the first of
-- them first. So two states that always do the same are one.
pub record SideValue : Type 0 where
  pub bits : List Happening → Beam → ℕ → ℕ
  pub ask : List Happening → Beam → ℕ → SideAsk
  pub shows : List Happening → List ℕ

-- the side after one happening
abbrev pub side_after : Happening → SideValue → SideValue
side_after happening side = record {
  bits = λ later b dmacon. side.bits (happening ∷ later) b dmacon;
  ask = λ later b dmacon. side.ask (happening ∷ later) b dmacon;
  shows = λ later. side.shows (happening ∷ later);
}

-- the four calls: after the write of a register; after a tick, with the bits that it gives; what it asks for; and after a word
-- was given
abbrev pub poke_side : Reg → ℕ → SideValue → SideValue
poke_side reg word side = side_after (Poked reg word) side

abbrev pub tick_side : Beam → ℕ → SideValue → SideValue
tick_side b dmacon side = side_after (Ticked b dmacon) side

abbrev pub bits_of_side : Beam → ℕ → SideValue → ℕ
bits_of_side b dmacon side = side.bits [] b dmacon

abbrev pub ask_of_side : Beam → ℕ → SideValue → SideAsk
ask_of_side b dmacon side = side.ask [] b dmacon

abbrev pub give_side : ℕ → SideValue → SideValue
give_side word side = side_after (Given word) side

-- what it shows now
abbrev pub shown_by_side : SideValue → List ℕ
shown_by_side side = side.shows []

-- a side after so many ticks from this place of the beam on
unfoldable pub later_side : ℕ → Beam → ℕ → SideValue → SideValue
later_side zero b dmacon side = side
later_side (suc n) b dmacon side = tick_side (later_beam n b) dmacon (later_side n b dmacon side)

-- in this clock and those behind it, so many in all, a side that is told of nothing but the clocks requests nothing and asks for
-- nothing
pub record IsQuietSide (b : Beam) (dmacon n : ℕ) (side : SideValue) : Type 0 where
  pub bits : (k : ℕ) → k < n → bits_of_side (later_beam k b) dmacon (later_side k b dmacon side) ≡ 0
  pub ask : (k : ℕ) → k < n → ask_of_side (later_beam k b) dmacon (later_side (suc k) b dmacon side) ≡ S.Nothing

-- A side whose state is one of some type: what a happening makes of the state, and what the side does in it.
pub record SideRules (S : Type 0) : Type 0 where
  pub after : Happening → S → S
  pub bits : Beam → ℕ → S → ℕ
  pub ask : Beam → ℕ → S → SideAsk
  pub shows : S → List ℕ

abbrev pub after_all : {S : Type 0} → (Happening → S → S) → List Happening → S → S
after_all after [] s = s
after_all after (happening ∷ later) s = after_all after later (after happening s)

abbrev pub side_over : {S : Type 0} → SideRules S → S → SideValue
side_over rules s = record {
  bits = λ later b dmacon. rules.bits b dmacon (after_all rules.after later s);
  ask = λ later b dmacon. rules.ask b dmacon (after_all rules.after later s);
  shows = λ later. rules.shows (after_all rules.after later s);
}

-- a disk asks at clocks 7, 9 and 11 of a line alone, and audio's channel c, of four, at clock 13 + 2c alone
abbrev pub IsInTime : Beam → SideAsk → Type 0
IsInTime b S.Nothing = Unit {0}
IsInTime b (S.Disk at word) = ((b.h == 7) || (b.h == 9) || (b.h == 11)) ≡ true
IsInTime b (S.Audio channel at) = (channel < 4) × (b.h ≡ 13 + 2 * channel)

-- it fits a size of chip memory: the address of each of its asks, whatever happens before, is below that many bytes
abbrev pub IsBelow : ℕ → SideAsk → Type 0
IsBelow size S.Nothing = Unit {0}
IsBelow size (S.Disk at word) = at.value < size
IsBelow size (S.Audio channel at) = at.value < size

abbrev pub FitsSide : ℕ → SideValue → Type 0
FitsSide size side = (later : List Happening) (b : Beam) (dmacon : ℕ) → IsBelow size (side.ask later b dmacon)

-- no side: it requests nothing, asks for nothing and shows nothing, whatever happens
abbrev pub no_side : SideValue
no_side = record {
  bits = λ later b dmacon. 0;
  ask = λ later b dmacon. S.Nothing;
  shows = λ later. [];
}

-- a side that got the slot for which it asked: it is given the word, that which the disk stored or audio read
abbrev pub answer_own_ask : SideAsk → ℕ → SideValue → SideValue
answer_own_ask S.Nothing word side = side
answer_own_ask (S.Disk at stored) word side = give_side stored side
answer_own_ask (S.Audio channel at) word side = give_side word side

-- a side once the owner of the slot has this answer: only its own ask changes it
abbrev pub answer_side : Ask → ℕ → SideValue → SideValue
answer_side A.Free word side = side
answer_side (A.Side ask) word side = answer_own_ask ask word side
answer_side (A.Plane ask) word side = side
answer_side (A.Sprite ask) word side = side
answer_side (A.Copper at) word side = side
answer_side (A.Blit ask) word side = side
answer_side (A.Processor ask) word side = side

-- and once this was made: each write of a register, by whomever, is given to it
abbrev pub side_by_made : Made → SideValue → SideValue
side_by_made M.Nothing side = side
side_by_made (M.Wrote reg word by) side = poke_side reg word side
side_by_made (M.Read reg by) side = side
side_by_made (M.Stored at half word) side = side
side_by_made (M.Plane plane at) side = side
side_by_made (M.Sprite sprite second at) side = side
