-- Clocks at which nobody of the chips asks for the slot.
use Rattle.std.proofs.Common.{◌≡◌, ◌<◌, ℕ, zero, suc, ◌+◌, false, if◌then◌else◌, List}
use Rattle.std.proofs.Common.{Option, Some, is_some, arith, refl, ap, ◌∙◌}
use Rattle.std.specs.Option.{option_map}
use Rattle.ocs_base.specs.declared.beam.Beam.{Beam}
use Rattle.serial_model.specs.declared.fetch.SpriteKind.{SpriteKind}
use Rattle.serial_model.specs.Bus.{plane_wish}
use Rattle.serial_model.specs.PlaneFetch.{ask_for_plane, last_unit_at, begins_unit}
use Rattle.serial_model.proofs.FetchLaws.{last_unit-units_at, last_unit_at-else, last_unit_at-is}
use Rattle.serial_model.specs.Registers.{Registers}
use Rattle.serial_model.specs.SpriteFetch.{sprite_ask}
use Rattle.quiet_clocks.specs.QuietClocks.{later_units}
use Rattle.serial_model.specs.Beam.{later_beam}
use Rattle.quiet_clocks.specs.IdleClocks.{IdleIsCalm, LastLater, UnitStays, UnitOfTwo, UnitCanBegin, TicksByPlace}
use Rattle.quiet_clocks.specs.Plan.{unit_on}
use Rattle.quiet_clocks.proofs.QuietClock.{still_copper, still_steps, still_blit}

pub idle_is_calm : IdleIsCalm
idle_is_calm b c idle = record {
  plane = ap (λ found. option_map (λ plane. ask_for_plane c.registers plane) found) idle.plane;
  kinds = idle.kinds;
  sprite = ap (λ (kinds : List SpriteKind). sprite_ask b.h c.registers kinds (is_some (plane_wish b c))) idle.kinds
      ∙ idle.sprite (is_some (plane_wish b c));
  copper = still_copper b c idle.copper;
  steps = still_steps b c idle.copper;
  blit = still_blit c idle.blit;
  wish = idle.wish;
}

-- the last unit of a later clock
pub last_later : LastLater
unfolding later_units unit_on
last_later zero b registers units = refl
last_later (suc k) b registers units =
    last_unit-units_at (later_beam k b) registers (later_units k b registers units)
    ∙ ap (λ last. last_unit_at (later_beam k b) registers last) (last_later k b registers units)

-- a clock at which none begins
pub none_begins : (b : Beam) (registers : Registers) (last : Option ℕ) → 0 < b.h → begins_unit b registers last ≡ false
    → last_unit_at b registers last ≡ last
none_begins b registers last inner none =
    last_unit_at-else b registers last (grind (arith, inner)) ∙ ap (λ begins. if begins then Some b.h else last) none

pub unit_stays : UnitStays
unfolding unit_on
unit_stays zero b registers last inner none = refl
unit_stays (suc n) b registers last inner none =
    ap (λ unit. last_unit_at (later_beam n b) registers unit) (unit_stays n b registers last inner (λ k below. none k (omega (arith, below))))
    ∙ none_begins (later_beam n b) registers last (omega (arith, inner)) (none n (omega arith))

later_still : (m n : ℕ) (b : Beam) → later_beam n (later_beam m b) ≡ later_beam (m + n) b
later_still m n b =
    let e : b.h + m + n ≡ b.h + (m + n) = omega arith in
    ap (λ h. record b { h = h }) e

pub unit_of_two : UnitOfTwo
unfolding unit_on
unit_of_two m zero b registers last =
    let e : m ≡ m + 0 = omega arith in
    ap (λ clocks. unit_on clocks b registers last) e
unit_of_two m (suc n) b registers last =
    let e : suc (m + n) ≡ m + suc n = omega arith in
    ap (λ (now : Beam). last_unit_at now registers (unit_on n (later_beam m b) registers (unit_on m b registers last))) (later_still m n b)
    ∙ ap (λ unit. last_unit_at (later_beam (m + n) b) registers unit) (unit_of_two m n b registers last)
    ∙ ap (λ clocks. unit_on clocks b registers last) e

pub unit_can_begin : UnitCanBegin
unfolding unit_on
unit_can_begin zero b registers last at = at
unit_can_begin (suc n) b registers last at = last_unit_at-is (later_beam n b) registers (unit_on n b registers last) (unit_can_begin n b registers last at)

pub ticks_by_place : TicksByPlace
ticks_by_place t n = omega arith
