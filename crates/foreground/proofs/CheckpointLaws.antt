-- A checkpoint of a run: the foreground that is made of it stands for the state of its clock.
use Rattle.std.proofs.Common.{◌≡◌, ◌≤◌, ◌<◌, ℕ, zero, suc, [], refl, sym, ◌∙◌, subst, arith, inl}
use Rattle.mem_versions.specs.Kept.{chip_back}
use Rattle.ocs_base.specs.declared.beam.Beam.{Beam}
use Rattle.serial_model.specs.Beam.{IsOnScreen, place_of}
use Rattle.serial_model.specs.Serial.{state_over}
use Rattle.serial_model.specs.Side.{SideValue}
use Rattle.serial_model.specs.State.{reset}
use Rattle.serial_model.proofs.BeamLaws.{IsNext}
use Rattle.serial_model.proofs.EndLaws.{tick-IsNext, on_screen}
use Rattle.serial_bands.specs.Run.{RunValue, run_over, state_of, beam_at}
use Rattle.serial_bands.proofs.Gathering.{nothing_more}
use Rattle.band_log.specs.Raster.{RasterValue, Takes}
use Rattle.foreground.specs.Checkpoint.{CheckpointOf, IsCheckpointOf, fore_from, log_from}
use Rattle.foreground.specs.Fore.{IsUnderway}
use Rattle.picture_log.specs.Log.{IsLogOf}

-- ---- the places of a run's clocks

next_clock : (run : RunValue) (c : ℕ) → IsNext (beam_at run c) (beam_at run (suc c))
unfolding state_over
next_clock run c = tick-IsNext run.script.system run.script.events (state_of run c) (on_screen run.side run.image run.script c)

-- there are no more clocks than places before
clocks_to_place : (run : RunValue) (c : ℕ) → c ≤ place_of (beam_at run c)
clocks_to_place run zero = omega arith
clocks_to_place run (suc c) = omega (arith, (next_clock run c).later, clocks_to_place run c)

-- at a clock of the run, or its end, there is no later frame than its number of frames
frame_to_end : (run : RunValue) (t : ℕ) → ((c : ℕ) → c < t → (beam_at run c).frame < run.script.frames) → (beam_at run t).frame ≤ run.script.frames
unfolding state_over reset
frame_to_end run zero running = omega arith
frame_to_end run (suc c) running = omega (arith, (next_clock run c).one, running c (omega arith))

-- ---- the foreground

log_stands : {S : Type 0} (seen : S → SideValue) (k : CheckpointOf S) → IsCheckpointOf seen (run_over seen k.run) k.t k
    → IsLogOf (run_over seen k.run) k.t (log_from k) (chip_back k.kept)
log_stands seen k is = record {
  band = inl (
    record {
      from = refl;
      number = sym is.number;
      begin = is.begin;
      stands = is.opening;
      events = refl;
      base = sym is.machine.memory;
      writes = refl;
    },
    refl,
  );
  least = omega arith;
  last = is.cut;
  shadow = is.shadow;
  range = is.range;
  left = is.left;
}

fore_stands : {S : Type 0} (seen : S → SideValue) (k : CheckpointOf S) (raster : RasterValue) → IsCheckpointOf seen (run_over seen k.run) k.t k
    → raster.outstanding ≡ [] → raster.next ≡ k.number → Takes raster.bound (run_over seen k.run) → IsUnderway (fore_from seen k) k.t raster
fore_stands seen k raster is none next takes =
    let run : RunValue = run_over seen k.run in
    let beam : beam_at run k.t ≡ k.beam = is.machine.beam in
    record {
      good = is.good;
      at = record {
        machine = is.machine;
        logged = log_stands seen k is;
        fits = record {
          least = k.number;
          count = 0;
          few = omega arith;
          outstanding = none;
          bands = refl;
          next = next;
          sum = omega arith;
          bound = takes;
        };
        gathered = sym is.clx ∙ sym (nothing_more run k.t k.clx);
        cut = λ read. refl;
        time = omega (arith, is.cut);
      };
      running = is.running;
      frame = subst (λ (b : Beam). b.frame ≤ run.script.frames) beam (frame_to_end run k.t is.running);
      screen = subst IsOnScreen beam (on_screen run.side run.image run.script k.t);
      count = subst (λ (b : Beam). k.t ≤ place_of b) beam (clocks_to_place run k.t);
      script = is.script;
    }

-- A raster fits it which has nothing outstanding, whose next band has the number that is kept, and which takes bands of the run.
pub checkpoint_goes_on : {S : Type 0} (seen : S → SideValue) (run : RunValue) (t : ℕ) (k : CheckpointOf S) (raster : RasterValue)
    → IsCheckpointOf seen run t k → raster.outstanding ≡ [] → raster.next ≡ k.number → Takes raster.bound run
    → IsUnderway (fore_from seen k) t raster
checkpoint_goes_on seen run t k raster is none next takes =
    let here : IsCheckpointOf seen (run_over seen k.run) k.t k =
    subst (λ (c : ℕ). IsCheckpointOf seen (run_over seen k.run) c k) (sym is.clock)
    (subst (λ (r : RunValue). IsCheckpointOf seen r t k) (sym is.run_of) is) in
    subst (λ (c : ℕ). IsUnderway (fore_from seen k) c raster) is.clock
    (fore_stands seen k raster here none next (subst (λ (r : RunValue). Takes raster.bound r) (sym is.run_of) takes))
