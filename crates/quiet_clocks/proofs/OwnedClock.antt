-- A plain clock whose slot's owner is known.
use Rattle.std.proofs.Common.{◌≡◌, ◌<◌, ◌≤◌, inl, inr, IfSome, ℕ, Bool, true, false}
use Rattle.std.proofs.Common.{List, Option, Some, None, arith, refl, ap, ◌∙◌, append-nil}
use Rattle.std.proofs.lemmas.Bool.Decides.{nat_tests}
use Rattle.std.proofs.lemmas.Option.{none-some}
use Rattle.std.specs.Option.{option_map}
use Rattle.blit_words.specs.declared.blit.SlotAsk.{SlotAsk}
use Rattle.ocs_base.specs.declared.addr.Addr.{Addr}
use Rattle.ocs_base.specs.declared.beam.Beam.{Beam}
use Rattle.ocs_base.specs.declared.system.System.{System}
use Rattle.serial_model.specs.declared.bus.Ask.TheVariants as A
use Rattle.serial_model.specs.declared.bus.ProcessorAsk.{ProcessorAsk}
use Rattle.serial_model.specs.declared.bus.SideAsk.{SideAsk}
use Rattle.serial_model.specs.declared.bus.SideAsk.TheVariants as S
use Rattle.serial_model.specs.declared.fetch.PlaneAsk.{PlaneAsk}
use Rattle.serial_model.specs.declared.picture.Touch.TheVariants.{Plane}
use Rattle.serial_model.specs.declared.slots.Owner.{Owner}
use Rattle.serial_model.specs.declared.slots.Owner.TheVariants as O
use Rattle.serial_model.specs.declared.trace.TraceLine.{TraceLine}
use Rattle.serial_model.specs.Bus.{Wishes, wishes_of, slot_state, is_disk, channel_of, owner_ask, plane_owner_ask, blit_owner_ask, ask_at}
use Rattle.serial_model.specs.Bus.{answer_chips, made_by_ask, plane_wish, copper_wish, blit_wish, units_now, kinds_now, copper_after, missed_after}
use Rattle.serial_model.specs.Made.{word_of}
use Rattle.serial_model.specs.Owner.{owner_of}
use Rattle.serial_model.specs.Picture.{touch_picture}
use Rattle.serial_model.specs.PlaneFetch.{fetched_plane, last_unit, ask_for_plane, move_plane_pointer, IsLastUnit}
use Rattle.serial_model.specs.Processor.{Processor, processor_wish}
use Rattle.serial_model.specs.Registers.{Registers}
use Rattle.serial_model.specs.Side.{IsInTime}
use Rattle.serial_model.specs.State.{Chips, State}
use Rattle.serial_model.specs.Tick.{run_processor, advance_beam}
use Rattle.serial_model.proofs.FetchLaws.{IsFetch, fetched_plane-is, units_at-is}
use Rattle.serial_model.proofs.SlotLaws.{AsksBefore, plane_wins}
use Rattle.quiet_clocks.specs.PlainClock.{shown_at, access_by, rest_of, comes_first}
use Rattle.quiet_clocks.specs.QuietClock.{TurnsTo}
use Rattle.quiet_clocks.specs.OwnedClock.{fetched_state, PlaneTick, NoneBeforeCopper, CopperHas, BlitterHas, ProcessorHas}
use Rattle.quiet_clocks.proofs.Owners.{asked_in, late_wishes, asked_after}
use Rattle.quiet_clocks.proofs.PlainClock.{owned_tick}
use Rattle.quiet_clocks.proofs.QuietClock.{takes_turn}

-- ---- the fetch of a plane

-- a side asks before the sprites' first slot
disk_before : (side : SideAsk) (b : Beam) → IsInTime b side → is_disk side ≡ true → b.h < 21
disk_before S.Nothing b time is = grind arith
disk_before (S.Disk at word) b time is = grind (arith, nat_tests)
disk_before (S.Audio channel at) b time is = grind arith

audio_before : (side : SideAsk) (b : Beam) → IsInTime b side → IfSome (channel_of side) (λ channel. b.h < 21)
audio_before S.Nothing b time = tt
audio_before (S.Disk at word) b time = tt
audio_before (S.Audio channel at) b time = omega (arith, time.0, time.1)

clock_of_fetch : (h : ℕ) (registers : Registers) (found : Option ℕ) (ask : PlaneAsk) → IfSome found (IsFetch h)
    → option_map (λ plane. ask_for_plane registers plane) found ≡ Some ask → (24 ≤ h) × (h ≤ 223)
clock_of_fetch h registers None ask fetch is = absurd (none-some ask is)
clock_of_fetch h registers (Some plane) ask fetch is = (fetch.low, fetch.high)

clock_of_wish : (b : Beam) (c : Chips) (ask : PlaneAsk) → IsLastUnit (last_unit c.units) → plane_wish b c ≡ Some ask → (24 ≤ b.h) × (b.h ≤ 223)
clock_of_wish b c ask unit wish =
    clock_of_fetch b.h c.registers (fetched_plane b.h c.registers (last_unit (units_now b c))) ask
    (fetched_plane-is b.h c.registers (last_unit (units_now b c)) (units_at-is b c.registers c.units unit)) wish

pub plane_has : (side : SideAsk) (b : Beam) (c : Chips) (ask : PlaneAsk) → IsLastUnit (last_unit c.units) → IsInTime b side → plane_wish b c ≡ Some ask
    → ask_at side b c ≡ A.Plane ask
unfolding ask_at
plane_has side b c ask unit time wish =
    let clock : (24 ≤ b.h) × (b.h ≤ 223) = clock_of_wish b c ask unit wish in
    let w : Wishes = wishes_of side b c in
    let before : AsksBefore (slot_state b c w) = record { disk = disk_before side b time; audio = audio_before side b time } in
    let wins : owner_of (slot_state b c w) ≡ O.Plane ask.plane =
    plane_wins (slot_state b c w) ask.plane before (omega (arith, clock.0)) clock.1
    (ap (λ (asked : Option PlaneAsk). option_map (λ (ask : PlaneAsk). ask.plane) asked) wish) in
    ap (λ (owner : Owner). owner_ask owner w) wins ∙ ap (λ (asked : Option PlaneAsk). plane_owner_ask asked) wish

-- the access: the pointer moves, and the picture is touched
plane_access : (ask : PlaneAsk) (s : State) → access_by (A.Plane ask) s ≡ record s {
  chips = record s.chips {
    registers = move_plane_pointer s.beam.h (last_unit (units_now s.beam s.chips)) ask.plane s.chips.registers;
    units = units_now s.beam s.chips;
    kinds = kinds_now s.beam s.chips;
    copper = copper_after s.beam None s.chips;
    missed = missed_after (processor_wish s.chips.processor) (A.Plane ask) s.chips.missed;
  };
  picture = touch_picture s.beam.h (word_of s.memory) (Plane ask.plane ask.at) s.picture;
}
unfolding answer_chips made_by_ask
plane_access ask s =
    ap (λ (l : List TraceLine). record s {
      chips = record s.chips {
        registers = move_plane_pointer s.beam.h (last_unit (units_now s.beam s.chips)) ask.plane s.chips.registers;
        units = units_now s.beam s.chips;
        kinds = kinds_now s.beam s.chips;
        copper = copper_after s.beam None s.chips;
        missed = missed_after (processor_wish s.chips.processor) (A.Plane ask) s.chips.missed;
      };
      picture = touch_picture s.beam.h (word_of s.memory) (Plane ask.plane ask.at) s.picture;
      trace = l;
    }) (append-nil s.trace)

rest_of_plane : (system : System) (ask : PlaneAsk) (s : State) (after : Processor) → TurnsTo s.chips.irq s.chips.processor after
    → rest_of system (A.Plane ask) (shown_at system s) ≡ fetched_state system ask after s
rest_of_plane system ask s after turn =
    ap (λ (x : State). advance_beam system (run_processor x)) (plane_access ask (shown_at system s))
    ∙ ap (λ (x : State). advance_beam system x) (takes_turn _ after turn)

pub plane_tick : PlaneTick
plane_tick system events s ask after clock =
    owned_tick system events s (A.Plane ask) clock.plain (plane_has _ s.beam s.chips ask clock.unit clock.time clock.wish)
    ∙ rest_of_plane system ask s after clock.turn

-- ---- Copper, blitter and processor

asked_late : (side : SideAsk) (b : Beam) (c : Chips) → NoneBeforeCopper side b c
    → ask_at side b c ≡ asked_in false (comes_first c) (late_wishes (copper_wish b c) (blit_wish c) (processor_wish c.processor))
asked_late side b c none =
    asked_after side b c none.side none.plane none.sprite
    ∙ ap (λ refresh. asked_in refresh (comes_first c) (late_wishes (copper_wish b c) (blit_wish c) (processor_wish c.processor))) none.refresh

pub copper_has : CopperHas
copper_has side b c at none asks =
    asked_late side b c none
    ∙ ap (λ (w : Option Addr). asked_in false (comes_first c) (late_wishes w (blit_wish c) (processor_wish c.processor))) asks

asked_last : (side : SideAsk) (b : Beam) (c : Chips) → NoneBeforeCopper side b c → copper_wish b c ≡ None
    → ask_at side b c ≡ asked_in false (comes_first c) (late_wishes None (blit_wish c) (processor_wish c.processor))
asked_last side b c none still =
    asked_late side b c none
    ∙ ap (λ (w : Option Addr). asked_in false (comes_first c) (late_wishes w (blit_wish c) (processor_wish c.processor))) still

blitter_alone : (first : Bool) (ask : SlotAsk) → asked_in false first (late_wishes None (Some ask) None) ≡ blit_owner_ask (Some ask)
blitter_alone true ask = refl
blitter_alone false ask = refl

processor_alone : (first : Bool) (ask : ProcessorAsk) → asked_in false first (late_wishes None None (Some ask)) ≡ A.Processor ask
processor_alone true ask = refl
processor_alone false ask = refl

pub blitter_has : BlitterHas
blitter_has side b c ask none still asks (inl silent) =
    asked_last side b c none still
    ∙ ap (λ (w : Option SlotAsk). asked_in false (comes_first c) (late_wishes None w (processor_wish c.processor))) asks
    ∙ ap (λ (w : Option ProcessorAsk). asked_in false (comes_first c) (late_wishes None (Some ask) w)) silent
    ∙ blitter_alone (comes_first c) ask
blitter_has side b c ask none still asks (inr later) =
    asked_last side b c none still
    ∙ ap (λ (w : Option SlotAsk). asked_in false (comes_first c) (late_wishes None w (processor_wish c.processor))) asks
    ∙ ap (λ first. asked_in false first (late_wishes None (Some ask) (processor_wish c.processor))) later

pub processor_has : ProcessorHas
processor_has side b c ask none still asks (inl silent) =
    asked_last side b c none still
    ∙ ap (λ (w : Option ProcessorAsk). asked_in false (comes_first c) (late_wishes None (blit_wish c) w)) asks
    ∙ ap (λ (w : Option SlotAsk). asked_in false (comes_first c) (late_wishes None w (Some ask))) silent
    ∙ processor_alone (comes_first c) ask
processor_has side b c ask none still asks (inr first) =
    asked_last side b c none still
    ∙ ap (λ (w : Option ProcessorAsk). asked_in false (comes_first c) (late_wishes None (blit_wish c) w)) asks
    ∙ ap (λ earlier. asked_in false earlier (late_wishes None (blit_wish c) (Some ask))) first
