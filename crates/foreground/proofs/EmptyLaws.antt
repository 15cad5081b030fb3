-- A script of which no event is left: none is due, and the machine and the log stay.
use Rattle.std.proofs.Common.{◌≡◌, ℕ, List, [], length, drop, refl, ap, ◌∙◌, sym, subst, arith}
use Rattle.std.proofs.lemmas.List.{drop_all}
use Rattle.ocs_base.specs.declared.beam.Beam.{Beam}
use Rattle.ocs_base.specs.declared.script.At.{At}
use Rattle.out_files.specs.OutFiles.{OutFilesValue}
use Rattle.serial_model.specs.Beam.{IsOnScreen}
use Rattle.serial_model.specs.Events.{due_events, do_events, touches_of}
use Rattle.serial_bands.specs.Run.{RunValue}
use Rattle.foreground.specs.Fore.{ForeValue, HasScript}
use Rattle.picture_log.specs.Log.{with_script_touches}
use Rattle.machine.specs.Machine.{MachineValue}
use Rattle.foreground.specs.Script.{MakesEvents}
use Rattle.picture_log.specs.declared.log.Log.{Log}

left_none : (events : List At) (next : ℕ) → next ≡ length events → drop next events ≡ []
left_none events next is = drop_all next events (omega (arith, is))

none_of_none : (b : Beam) → due_events b [] ≡ []
unfolding due_events
none_of_none b = refl

none_due : (run : RunValue) (b : Beam) (next : ℕ) → IsOnScreen b → HasScript run b next → next ≡ length run.script.events
    → due_events b run.script.events ≡ []
none_due run b next on script is =
    script.same b on (omega arith) ∙ ap (λ events. due_events b events) (left_none run.script.events next is) ∙ none_of_none b

pub none_happen : (clx : ℕ) (m : MachineValue) (out : OutFilesValue) → MakesEvents clx [] m out m out
unfolding do_events
none_happen clx m out start s read stands = stands

pub no_events : (clx : ℕ) (f : ForeValue) (out : OutFilesValue) → IsOnScreen f.machine.beam → HasScript f.run f.machine.beam f.next
    → f.next ≡ length f.run.script.events
    → MakesEvents clx (due_events f.machine.beam f.run.script.events) f.machine out f.machine out
no_events clx f out on script is =
    subst (λ events. MakesEvents clx events f.machine out f.machine out) (sym (none_due f.run f.machine.beam f.next on script is))
    (none_happen clx f.machine out)

pub none_touched : (c : ℕ) (log : Log) → log ≡ with_script_touches c (touches_of []) log
unfolding touches_of with_script_touches
none_touched c log = refl

pub none_noted : (f : ForeValue) → IsOnScreen f.machine.beam → HasScript f.run f.machine.beam f.next → f.next ≡ length f.run.script.events
    → f.log ≡ with_script_touches f.machine.t (touches_of (due_events f.machine.beam f.run.script.events)) f.log
none_noted f on script is =
    none_touched f.machine.t f.log
    ∙ ap (λ events. with_script_touches f.machine.t (touches_of events) f.log) (sym (none_due f.run f.machine.beam f.next on script is))

-- the same through the view of a foreground's struct
pub next_is_last : (f g : ForeValue) (events : List At) → g ≡ f → events ≡ g.run.script.events → g.next ≡ length events
    → f.next ≡ length f.run.script.events
next_is_last f g events same all is =
    subst (λ (x : ForeValue). x.next ≡ length x.run.script.events) same (is ∙ ap length all)
