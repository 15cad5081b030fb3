-- The log that was made is that of the frames.
use Rattle.std.proofs.Common.{◌≡◌, ℕ, ◌-◌, ◌<◌, ◌≤◌, min, List, ◌++◌, ap, sym, ◌∙◌, inl, inr, arith}
use Rattle.std.proofs.lemmas.Bool.{cases_lt}
use Rattle.ocs_base.specs.Script.{ScriptValue}
use Rattle.ocs_base.specs.Sizes.{bytes_of}
use Rattle.ocs_base.specs.declared.beam.Beam.{Beam}
use Rattle.serial_bands.specs.Run.{RunValue, beam_at}
use Rattle.slot_log.specs.Heading.{heading}
use Rattle.slots_run.specs.Log.{log_text, IsFirstOf, IsLogOf}
use Rattle.slots_run.specs.code.SlotRun.{run_in, Stands, Comes}
use Rattle.slots_run.specs.declared.slot_run.SlotRun.{SlotRun}

-- the place of the beam, by a run that it is of
frame_is : (run : RunValue) (frame : ℕ) (r : SlotRun) → Stands r → run_in r ≡ run → r.fore.machine.beam.frame ≡ frame
    → (beam_at run r.fore.machine.t).frame ≡ frame
frame_is run frame r stands is there =
    ap (λ (q : RunValue). (beam_at q r.fore.machine.t).frame) (sym is) ∙ ap (λ (b : Beam). b.frame) stands.stands.at.machine.beam ∙ there

-- the run at its reset, at the first clock of the first frame, and at the first clock after the last
module _ (from to : ℕ) (start first last : SlotRun) (order : from ≤ to) (reset : start.fore.machine.t ≡ 0)
    (comes : Comes (min from (run_in start).script.frames) start first)
    (leaves : Comes (min to (run_in start).script.frames) first last) where
  run : RunValue
  run = run_in start

  before_first : (k : ℕ) → k < first.fore.machine.t → (beam_at (run_in start) k).frame < min from (run_in start).script.frames
  before_first k low = comes.before k (omega (arith, reset)) low

  begins : IsFirstOf (run_in start).image (run_in start).script (min from (run_in start).script.frames) first.fore.machine.t
  begins = record { there = frame_is (run_in start) _ first comes.stands comes.run comes.there; before = before_first }

  before_last : (k : ℕ) → k < last.fore.machine.t → (beam_at (run_in start) k).frame < min to (run_in start).script.frames
  before_last k low = elim (cases_lt k first.fore.machine.t) [
    | inl less ↦ few less
    | inr more ↦ passed more
  ]
    where
      few : k < first.fore.machine.t → (beam_at (run_in start) k).frame < min to (run_in start).script.frames
      few less =
          let low : (beam_at (run_in start) k).frame < min from (run_in start).script.frames = before_first k less in
          omega (arith, low, order)

      passed : first.fore.machine.t ≤ k → (beam_at (run_in start) k).frame < min to (run_in start).script.frames
      passed more =
          let same : (beam_at (run_in first) k).frame ≡ (beam_at (run_in start) k).frame =
          ap (λ (r : RunValue). (beam_at r k).frame) comes.run in
          let high : (beam_at (run_in first) k).frame < min to (run_in start).script.frames = leaves.before k more low in
          omega (arith, high, same)

  ends : IsFirstOf (run_in start).image (run_in start).script (min to (run_in start).script.frames) last.fore.machine.t
  ends = record { there = frame_is (run_in start) _ last leaves.stands (leaves.run ∙ comes.run) leaves.there; before = before_last }

  pub is_log : (text : List ℕ)
      → text ≡ (let script : ScriptValue = (run_in start).script in heading script.system from to (bytes_of script.chip))
      ++ log_text (run_in first).image (run_in first).script first.fore.machine.t (last.fore.machine.t - first.fore.machine.t)
      → IsLogOf (run_in start).image (run_in start).script from to text
  is_log text is =
      let script : ScriptValue = (run_in start).script in
      record {
        first = first.fore.machine.t;
        last = last.fore.machine.t;
        begins = begins;
        ends = ends;
        is = is
            ∙ ap (λ (r : RunValue). heading script.system from to (bytes_of script.chip)
            ++ log_text r.image r.script first.fore.machine.t (last.fore.machine.t - first.fore.machine.t)) comes.run;
      }
