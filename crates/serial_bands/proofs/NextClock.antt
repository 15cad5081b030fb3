-- One colour clock: its picture, its collision bits and its place.
use Rattle.std.proofs.Common.{◌≡◌, ℕ, suc, Bool, true, false, ◌||◌, ◌&&◌, ◌%◌, ◌==◌, if◌then◌else◌, List}
use Rattle.std.proofs.Common.{[], ◌∷◌, Option, Some, None, refl, ap, ◌∙◌, sym, subst, arith, bit_or}
use Rattle.std.proofs.lemmas.Bool.Decides.{nat_tests}
use Rattle.ocs_base.specs.declared.beam.Beam.{Beam}
use Rattle.ocs_base.specs.declared.script.At.{At}
use Rattle.ocs_base.specs.declared.system.System.{System}
use Rattle.serial_model.specs.declared.picture.Denise.{Denise}
use Rattle.serial_model.specs.declared.picture.Touch.{Touch}
use Rattle.serial_model.specs.declared.picture.Touch.TheVariants.{Set, Plane, Sprite}
use Rattle.serial_model.specs.Beam.{next_place, is_field_start, is_line_start}
use Rattle.serial_model.specs.Events.{due_events, do_event, do_events, made_by_act}
use Rattle.serial_model.specs.Laws.{picture_before}
use Rattle.serial_model.specs.Made.{word_of, is_clx_read}
use Rattle.serial_model.specs.Picture.{clear_line, step_of, touch_if_any}
use Rattle.serial_model.specs.Registers.{is_interlaced}
use Rattle.serial_model.specs.Serial.{state_over}
use Rattle.serial_model.specs.State.{State, read_word}
use Rattle.serial_model.specs.Tick.{start_clock, run_script, before_access, make_access, tick}
use Rattle.serial_model.proofs.NextLaws.{memory_next, picture_next, shown_next, beam_next, place_kept, picture_touched}
use Rattle.serial_bands.specs.Run.{state_of, beam_at}
use Rattle.serial_bands.specs.Clock.{bus_touch_in, displayed_in, write_alone, fetch_alone, opening_at, displayed_at}
use Rattle.serial_bands.specs.Clock.{made_at, closing_at, bytes_at, clx_at, clx_before_at, clx_after_at}
use Rattle.serial_bands.specs.Bands.{has_clx_read, has_read_at, begins}
use Rattle.serial_bands.specs.ClockLaws.{WritesReadNothing, PictureOfTick, OpeningOfTick, ReadGivesClx, ClxOfEvents, ClxBefore, ClxAfter}
use Rattle.serial_bands.specs.ClockLaws.{ClxOfTick, IsNextInField, PlaceOfTick, NextMemory, NextOpening, DisplayedIsStep, BytesAreOfStep}
use Rattle.serial_bands.specs.ClockLaws.{ClxIsOfStep, ClosingHasFetch, NextShown, ClxAtStart, ClxAtAccess, NextClx, NextInBand, EventsByPlace}

pub writes_read_nothing : WritesReadNothing
writes_read_nothing h words others None p = refl
writes_read_nothing h words others (Some (Set reg word)) p = refl
writes_read_nothing h words others (Some (Plane plane at)) p = refl
writes_read_nothing h words others (Some (Sprite sprite second at)) p = refl

-- a touch is its fetch and then its write
pub touched_twice : (h : ℕ) (words : ℕ → ℕ) (touch : Option Touch) (p : Denise)
    → touch_if_any h words touch p ≡ touch_if_any h words (write_alone touch) (touch_if_any h words (fetch_alone touch) p)
touched_twice h words None p = refl
touched_twice h words (Some (Set reg word)) p = refl
touched_twice h words (Some (Plane plane at)) p = refl
touched_twice h words (Some (Sprite sprite second at)) p = refl

pub picture_of_tick : PictureOfTick
picture_of_tick system events s =
    picture_next system events s
    ∙ touched_twice s.beam.h (word_of s.memory) (bus_touch_in system events s) (displayed_in system events s)

pub opening_of_tick : OpeningOfTick
opening_of_tick system events s = ap (λ p. clear_line (tick system events s).beam p) (picture_of_tick system events s)

-- a read of CLXDAT
pub read_gives_clx : ReadGivesClx
unfolding read_word
read_gives_clx b clx c = refl

-- the script's reads
cleared_by : (first rest : Bool) (clx : ℕ) → (if rest then 0 else if first then 0 else clx) ≡ (if first || rest then 0 else clx)
cleared_by true true clx = refl
cleared_by true false clx = refl
cleared_by false true clx = refl
cleared_by false false clx = refl

pub cleared : ClxOfEvents
unfolding do_events has_clx_read
cleared [] s = refl
cleared (e ∷ events) s =
    cleared events (do_event e.act s) ∙ cleared_by (is_clx_read (made_by_act e.act)) (has_clx_read events) s.clx

pub clx_before : ClxBefore
clx_before events s = cleared (due_events s.beam events) (start_clock s)

-- what the events of the clock leave
abbrev eventful : List At → State → State
eventful events s = run_script events (start_clock s)

at_place : (events : List At) (s : State) → (eventful events s).beam ≡ record s.beam { lof = (eventful events s).beam.lof }
at_place events s = place_kept (due_events s.beam events) (start_clock s)

picture_shown : (events : List At) (s : State) → (eventful events s).picture ≡ picture_before events s
picture_shown events s = picture_touched (due_events s.beam events) (start_clock s)

pub clx_after : ClxAfter
clx_after system events s =
    ap (λ (b : Beam). bit_or (eventful events s).clx (step_of system b.v b.h (eventful events s).picture).clx) (at_place events s)
    ∙ ap (λ p. bit_or (eventful events s).clx (step_of system s.beam.v s.beam.h p).clx) (picture_shown events s)

pub clx_of_tick : ClxOfTick
unfolding tick
clx_of_tick system events s = refl

-- the place
next_in_field : (system : System) (lace : Bool) (b : Beam) → is_field_start (next_place system lace b) ≡ false
    → IsNextInField system b (next_place system lace b)
next_in_field system lace b inner = record {
  frame = grind (arith, nat_tests, inner);
  line = grind (arith, nat_tests, inner);
  clock = grind (arith, nat_tests, inner);
}

pub place_of_tick : PlaceOfTick
place_of_tick system events s inner =
    let b : State = make_access (before_access system events s) in
    let place : Beam = record s.beam { lof = b.beam.lof } in
    let here : (tick system events s).beam ≡ next_place system (is_interlaced b.chips.registers) place = beam_next system events s in
    let next : IsNextInField system place (next_place system (is_interlaced b.chips.registers) place) =
    next_in_field system (is_interlaced b.chips.registers) place (ap (λ (x : Beam). is_field_start x) (sym here) ∙ inner) in
    subst (λ x. IsNextInField system s.beam x) (sym here) (record { frame = next.frame; line = next.line; clock = next.clock })

-- at the clocks of a run
pub next_memory : NextMemory
unfolding state_over made_at
next_memory run c = memory_next run.script.system run.script.events (state_of run c)

pub next_opening : NextOpening
unfolding state_over opening_at made_at closing_at
next_opening run c = opening_of_tick run.script.system run.script.events (state_of run c)

pub displayed_is_step : DisplayedIsStep
unfolding displayed_at opening_at
displayed_is_step run c = refl

pub bytes_are_of_step : BytesAreOfStep
unfolding bytes_at opening_at
bytes_are_of_step run c = refl

pub clx_is_of_step : ClxIsOfStep
unfolding clx_at opening_at
clx_is_of_step run c = refl

pub closing_has_fetch : ClosingHasFetch
unfolding closing_at made_at displayed_at
closing_has_fetch run c = refl

pub next_shown : NextShown
unfolding state_over bytes_at
next_shown run c = shown_next run.script.system run.script.events (state_of run c)

pub clx_at_start : ClxAtStart
unfolding clx_before_at
clx_at_start run c = clx_before run.script.events (state_of run c)

pub clx_at_access : ClxAtAccess
unfolding clx_after_at clx_before_at clx_at
clx_at_access run c = clx_after run.script.system run.script.events (state_of run c)

pub next_clx : NextClx
unfolding state_over made_at clx_after_at
next_clx run c = clx_of_tick run.script.system run.script.events (state_of run c)

pub first_of_three : (a b c : Bool) → ((a || b) || c) ≡ false → a ≡ false
first_of_three false b c none = refl
first_of_three true b c none = none

pub next_in_band : NextInBand
unfolding state_over begins
next_in_band run c inner =
    let b : Beam = beam_at run (suc c) in
    place_of_tick run.script.system run.script.events (state_of run c)
    (first_of_three (is_field_start b) (is_line_start b && (b.v % run.height == 0)) (has_read_at run (suc c)) inner)

pub events_by_place : EventsByPlace
unfolding due_events
events_by_place events b other frame v h =
    let due : ℕ → ℕ → ℕ → List At = λ frame_of line clock.
    due_events (record { frame = frame_of; v = line; h = clock; lof = true }) events in
    ap (λ k. due k b.v b.h) frame ∙ ap (λ k. due other.frame k b.h) v ∙ ap (λ k. due other.frame other.v k) h
