-- Laws of a clock that is drawn later: from a picture state that stands for its opening come what it shows, a picture state
-- that stands for its closing, and one for the next opening.
use Rattle.std.specs.Prelude.{◌≡◌, ℕ, suc, ◌+◌, ◌*◌}
use Rattle.serial_model.specs.declared.picture.Denise.{Denise}
use Rattle.serial_model.specs.Made.{word_of}
use Rattle.serial_model.specs.Picture.{clear_line, PictureStep, step_of, after_step, touch_if_any, touch_in_order}
use Rattle.serial_bands.specs.Run.{RunValue, beam_at, run_memory}
use Rattle.serial_bands.specs.Clock.{opening_at, closing_at, bytes_at, clx_at, sets_at, bus_touch_at, fetch_alone, write_alone}
use Rattle.serial_model.specs.StandsFor.{StandsFor}

-- a picture state touched by the script of a clock, by the fetch of its access, and by the write of its access
abbrev pub with_script : RunValue → ℕ → Denise → Denise
with_script run c p = touch_in_order (beam_at run c).h (word_of (run_memory run c)) (sets_at run c) p

abbrev pub with_fetch : RunValue → ℕ → Denise → Denise
with_fetch run c p = touch_if_any (beam_at run c).h (word_of (run_memory run c)) (fetch_alone (bus_touch_at run c)) p

abbrev pub with_write : RunValue → ℕ → Denise → Denise
with_write run c p = touch_if_any (beam_at run c).h (word_of (run_memory run c)) (write_alone (bus_touch_at run c)) p

-- the picture step that it shows, and the picture state after that step
abbrev pub step_of_kept : RunValue → ℕ → Denise → PictureStep
step_of_kept run c kept = step_of run.script.system (beam_at run c).v (beam_at run c).h (with_script run c kept)

abbrev pub after_kept : RunValue → ℕ → Denise → Denise
after_kept run c kept = after_step (step_of_kept run c kept) (with_script run c kept)

abbrev pub BytesOfKept : Type 0
BytesOfKept = (run : RunValue) (c : ℕ) (kept : Denise) → StandsFor (4 * (beam_at run c).h) kept (opening_at run c) →
    (step_of_kept run c kept).bytes ≡ bytes_at run c

abbrev pub ClxOfKept : Type 0
ClxOfKept = (run : RunValue) (c : ℕ) (kept : Denise) → StandsFor (4 * (beam_at run c).h) kept (opening_at run c) →
    (step_of_kept run c kept).clx ≡ clx_at run c

abbrev pub ClosingOfKept : Type 0
ClosingOfKept = (run : RunValue) (c : ℕ) (kept : Denise) → StandsFor (4 * (beam_at run c).h) kept (opening_at run c) →
    StandsFor (4 * (beam_at run c).h + 4) (with_fetch run c (after_kept run c kept)) (closing_at run c)

abbrev pub OpeningOfKept : Type 0
OpeningOfKept = (run : RunValue) (c : ℕ) (kept : Denise) → StandsFor (4 * (beam_at run c).h + 4) kept (closing_at run c) →
    StandsFor (4 * (beam_at run (suc c)).h) (clear_line (beam_at run (suc c)) (with_write run c kept)) (opening_at run (suc c))
