-- The lines that are said of the clocks of a rewind.
use Rattle.std.proofs.Common.{◌≡◌, ℕ, List, map, sym, ap, subst, ◌∙◌}
use Rattle.std.specs.List.{flat_map}
use Rattle.ocs_base.specs.Limits.{IsRunnable}
use Rattle.ocs_base.specs.Script.{ScriptValue}
use Rattle.rewind_loop.specs.Places.{first_place, due_in, arrivals}
use Rattle.rewind_loop.specs.Told.{told_of}
use Rattle.serial_bands.specs.Run.{RunValue, IsEndOf, state_of}
use Rattle.serial_model.specs.Side.{no_side}
use Rattle.serial_model.specs.State.{State}
use Rattle.serial_model.proofs.EndLaws.{has_end}
use Rattle.ocs_run.specs.RewindText.{line_of, AreLines}

-- the run without a side of a script over an image, with bands of a height on which no state depends
abbrev pub run_of : List ℕ → ScriptValue → ℕ → RunValue
run_of image script height = record { image = image; script = script; height = height; side = no_side }

module _ (image : List ℕ) (script : ScriptValue) (every keep : ℕ) (clocks : List ℕ) (run : RunValue) (frames : ℕ) where
  -- what is said where the clocks were gone to in a machine with these states and this end
  said_by : (ℕ → State) → ℕ → ℕ → List ℕ
  said_by states n end = flat_map line_of (map (told_of states) (arrivals (due_in states n) keep end clocks first_place))

  -- of a run of the script over the image
  pub AreLines-told : (height : ℕ) (text : List ℕ) → IsRunnable script → run ≡ run_of image script height → frames ≡ every
      → ((end : ℕ) → IsEndOf run end
      → text ≡ flat_map line_of (map (told_of (state_of run)) (arrivals (due_in (state_of run) frames) keep end clocks first_place)))
      → AreLines image script every keep clocks text
  unfolding said_by
  AreLines-told height text good run_is frames_are says =
      let last = has_end no_side image script good in
      let ends : IsEndOf run last.0 = subst (λ (r : RunValue). IsEndOf r last.0) (sym run_is) last.1 in
      record {
        end = last.0;
        ends = last.1;
        is = says last.0 ends ∙ ap (λ n. said_by (state_of run) n last.0) frames_are
            ∙ ap (λ (r : RunValue). said_by (state_of r) every last.0) run_is;
      }
