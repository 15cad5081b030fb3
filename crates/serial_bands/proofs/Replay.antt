-- A clock that is drawn later.
use Rattle.std.proofs.Common.{◌≡◌, ◌≤◌, ℕ, List, suc, ◌+◌, ◌*◌, false, ◌==◌, nat_le, if◌then◌else◌, ap, ◌∙◌, sym, subst, arith}
use Rattle.std.proofs.lemmas.Bool.Decides.{nat_tests}
use Rattle.ocs_base.specs.declared.beam.Beam.{Beam}
use Rattle.ocs_base.specs.declared.script.At.{At}
use Rattle.ocs_base.specs.Systems.{last_clock}
use Rattle.ocs_base.specs.declared.system.System.{System}
use Rattle.serial_model.specs.declared.picture.Denise.{Denise}
use Rattle.serial_model.specs.Made.{word_of}
use Rattle.serial_model.specs.Picture.{clear_line, PictureStep, after_step}
use Rattle.serial_model.specs.Serial.{state_over}
use Rattle.serial_model.specs.State.{State}
use Rattle.serial_model.specs.Tick.{tick}
use Rattle.serial_model.proofs.NextLaws.{beam_next}
use Rattle.serial_bands.specs.Run.{RunValue, state_of, beam_at, run_memory}
use Rattle.serial_bands.specs.Clock.{opening_at, closing_at, sets_at, bus_touch_at, picture_at, fetch_alone, write_alone}
use Rattle.serial_bands.specs.ClockLaws.{step_at}
use Rattle.serial_model.specs.StandsFor.{StandsFor}
use Rattle.serial_bands.specs.ReplayLaws.{with_script, with_fetch, with_write, step_of_kept, after_kept, BytesOfKept, ClxOfKept, ClosingOfKept, OpeningOfKept}
use Rattle.serial_bands.proofs.NextClock.{next_opening, displayed_is_step, bytes_are_of_step, clx_is_of_step, closing_has_fetch}
use Rattle.serial_model.proofs.Standing.{stands_touched, stands_touched_in_order, stands_cleared, stands_shown, stands_after}

scripted : (run : RunValue) (c : ℕ) (kept : Denise) → StandsFor (4 * (beam_at run c).h) kept (opening_at run c)
    → StandsFor (4 * (beam_at run c).h) (with_script run c kept) (picture_at run c)
scripted run c kept stands =
    stands_touched_in_order (4 * (beam_at run c).h) (beam_at run c).h (word_of (run_memory run c)) (sets_at run c) kept (opening_at run c) stands

same_step : (run : RunValue) (c : ℕ) (kept : Denise) → StandsFor (4 * (beam_at run c).h) kept (opening_at run c)
    → step_of_kept run c kept ≡ step_at run c
same_step run c kept stands =
    stands_shown run.script.system (beam_at run c).v (beam_at run c).h (with_script run c kept) (picture_at run c) (scripted run c kept stands)

pub bytes_of_kept : BytesOfKept
bytes_of_kept run c kept stands = ap (λ (step : PictureStep). step.bytes) (same_step run c kept stands) ∙ sym (bytes_are_of_step run c)

pub clx_of_kept : ClxOfKept
clx_of_kept run c kept stands = ap (λ (step : PictureStep). step.clx) (same_step run c kept stands) ∙ sym (clx_is_of_step run c)

pub closing_of_kept : ClosingOfKept
closing_of_kept run c kept stands =
    let b : Beam = beam_at run c in
    let from : ℕ = 4 * b.h + 4 in
    let shown : StandsFor from (after_kept run c kept) (after_step (step_at run c) (picture_at run c)) =
    stands_after run.script.system b.v b.h (with_script run c kept) (picture_at run c) (scripted run c kept stands) in
    let fetched : StandsFor from (with_fetch run c (after_kept run c kept)) (with_fetch run c (after_step (step_at run c) (picture_at run c))) =
    stands_touched from b.h (word_of (run_memory run c)) (fetch_alone (bus_touch_at run c))
    (after_kept run c kept) (after_step (step_at run c) (picture_at run c)) shown in
    let here : closing_at run c ≡ with_fetch run c (after_step (step_at run c) (picture_at run c)) =
    closing_has_fetch run c ∙ ap (λ p. with_fetch run c p) (displayed_is_step run c) in
    subst (λ p. StandsFor from (with_fetch run c (after_kept run c kept)) p) (sym here) fetched

-- the next clock's positions follow those of this one, where no line starts with it
clock_of_tick : (system : System) (events : List At) (s : State)
    → (tick system events s).beam.h ≡ (if nat_le (last_clock system s.beam.v) s.beam.h then 0 else s.beam.h + 1)
clock_of_tick system events s = ap (λ (b : Beam). b.h) (beam_next system events s)

next_positions : (last h next : ℕ) → next ≡ (if nat_le last h then 0 else h + 1) → (next == 0) ≡ false → 4 * h + 4 ≤ 4 * next
next_positions last h next is inner = grind (arith, nat_tests, is, inner)

next_clock : (run : RunValue) (c : ℕ) → (let b = beam_at run c in
    (beam_at run (suc c)).h ≡ (if nat_le (last_clock run.script.system b.v) b.h then 0 else b.h + 1))
unfolding state_over
next_clock run c = clock_of_tick run.script.system run.script.events (state_of run c)

pub opening_of_kept : OpeningOfKept
opening_of_kept run c kept stands =
    let b : Beam = beam_at run c in
    let next : Beam = beam_at run (suc c) in
    let from : ℕ = 4 * b.h + 4 in
    let written : StandsFor from (with_write run c kept) (with_write run c (closing_at run c)) =
    stands_touched from b.h (word_of (run_memory run c)) (write_alone (bus_touch_at run c)) kept (closing_at run c) stands in
    let cleared : StandsFor (4 * next.h) (clear_line next (with_write run c kept)) (clear_line next (with_write run c (closing_at run c))) =
    stands_cleared from next (with_write run c kept) (with_write run c (closing_at run c)) written
    (λ inner. next_positions (last_clock run.script.system b.v) b.h next.h (next_clock run c) inner) in
    subst (λ p. StandsFor (4 * next.h) (clear_line next (with_write run c kept)) p) (sym (next_opening run c)) cleared
