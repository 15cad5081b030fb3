-- How many pixel bytes a run has shown behind the picture step of a clock, by the place of the beam there, and where a foreground stands.
use Rattle.std.proofs.Common.{◌≡◌, ℕ, ◌+◌, Bool, true, false, if◌then◌else◌, [], ◌++◌}
use Rattle.std.proofs.Common.{length, refl, ap, ◌∙◌, sym, subst, length-append, add-one}
use Rattle.ocs_base.specs.declared.beam.Beam.{Beam}
use Rattle.ocs_base.specs.Systems.{is_visible}
use Rattle.ocs_base.specs.declared.system.System.{System}
use Rattle.serial_model.specs.declared.picture.Denise.{Denise}
use Rattle.serial_model.specs.Picture.{pixels, pixel_bytes, step_of}
use Rattle.serial_bands.specs.Run.{RunValue, state_of, beam_at}
use Rattle.serial_bands.specs.Clock.{bytes_at, picture_at}
use Rattle.serial_bands.proofs.NextClock.{bytes_are_of_step, next_shown}
use Rattle.band_log.specs.Raster.{RasterValue}
use Rattle.foreground.specs.Fore.{ForeValue, IsUnderway}
use Rattle.machine.specs.Machine.{IsSamePlace}
use Rattle.picture_log.specs.ShownCount.{shown_before, shown_behind}
use Rattle.picture_log.proofs.ShownLaws.{shown_here, shown_at}

-- whatever LOF is there
pixels_length : (system : System) (v h : ℕ) (p : Denise) → length (pixels system v h p) ≡ (if is_visible system v h then 12 else 0)
pixels_length system v h p = by_sight (is_visible system v h)
  where
    by_sight : (seen : Bool) → length (if seen then pixel_bytes v h 0 p ++ (pixel_bytes v h 1 p ++ (pixel_bytes v h 2 p ++ pixel_bytes v h 3 p)) else [])
        ≡ (if seen then 12 else 0)
    by_sight true = refl
    by_sight false = refl

step_bytes : (system : System) (v h : ℕ) (p : Denise) → (step_of system v h p).bytes ≡ pixels system v h p
unfolding step_of
step_bytes system v h p = refl

clock_length : (run : RunValue) (c : ℕ) → (let b = beam_at run c in length (bytes_at run c) ≡ (if is_visible run.script.system b.v b.h then 12 else 0))
clock_length run c =
    let v : ℕ = (beam_at run c).v in
    let h : ℕ = (beam_at run c).h in
    ap length (bytes_are_of_step run c ∙ step_bytes run.script.system v h (picture_at run c)) ∙ pixels_length run.script.system v h (picture_at run c)

pub shown_after : (run : RunValue) (c : ℕ) (b : Beam) → IsSamePlace (beam_at run c) b → length (state_of run (c + 1)).shown ≡ shown_behind run.script.system b
shown_after run c b place =
    ap (λ n. length (state_of run n).shown) (add-one c)
    ∙ ap length (next_shown run c) ∙ length-append (state_of run c).shown (bytes_at run c)
    ∙ ap (λ n. n + length (bytes_at run c)) (shown_at run c)
    ∙ ap (λ n. shown_before run.script.system (beam_at run c) + n) (clock_length run c)
    ∙ sym (ap (λ (x : Beam). shown_behind run.script.system x) place)

-- the same of a foreground at the start of a clock, and within it, where it is seen as its fields are
pub shown_now : (system : System) (old now : ForeValue) (first shown : ℕ) (seen : RasterValue) → system ≡ now.run.script.system → old ≡ now
    → IsUnderway now first seen → shown ≡ shown_before system old.machine.beam → shown ≡ length (state_of now.run now.machine.t).shown
shown_now system old now first shown seen by same underway is =
    subst (λ (o : ForeValue). shown ≡ shown_before system o.machine.beam) same is
    ∙ ap (λ s. shown_before s now.machine.beam) by
    ∙ sym (shown_here now.run now.machine.t now.machine.beam underway.at.machine.beam)

pub shown_there : (system : System) (old now : ForeValue) (first shown : ℕ) (seen : RasterValue) → system ≡ now.run.script.system → old ≡ now
    → IsUnderway now first seen → shown ≡ shown_before system old.machine.beam → shown ≡ length (state_of now.run old.machine.t).shown
shown_there system old now first shown seen by same underway is =
    subst (λ (o : ForeValue). shown ≡ length (state_of now.run o.machine.t).shown) (sym same)
    (shown_now system old now first shown seen by same underway is)

pub shown_within : (system : System) (old now : ForeValue) (shown : ℕ) → system ≡ now.run.script.system → old ≡ now
    → IsSamePlace (beam_at now.run now.machine.t) now.machine.beam → shown ≡ shown_behind system old.machine.beam
    → shown ≡ length (state_of now.run (old.machine.t + 1)).shown
shown_within system old now shown by same place is =
    subst (λ (o : ForeValue). shown ≡ length (state_of now.run (o.machine.t + 1)).shown) (sym same)
    (subst (λ (o : ForeValue). shown ≡ shown_behind system o.machine.beam) same is ∙ ap (λ s. shown_behind s now.machine.beam) by
    ∙ sym (shown_after now.run now.machine.t now.machine.beam place))
