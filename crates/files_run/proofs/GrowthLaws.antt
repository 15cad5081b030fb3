-- What was shown and traced stays: later states only add to it.
use Rattle.std.proofs.Common.{◌≡◌, ℕ, zero, suc, ◌+◌, List, [], ◌++◌, ap, ◌∙◌, sym, append_assoc, append-nil, add-suc, add-zero}
use Rattle.ocs_base.specs.Script.{ScriptValue}
use Rattle.ocs_base.specs.declared.script.At.{At}
use Rattle.ocs_base.specs.declared.system.System.{System}
use Rattle.serial_model.specs.Side.{SideValue}
use Rattle.serial_model.specs.Serial.{state_over}
use Rattle.serial_model.specs.State.{State}
use Rattle.serial_model.specs.Events.{due_events, event_lines}
use Rattle.serial_model.specs.Laws.{made_in, picture_step}
use Rattle.serial_model.specs.Made.{lines_of}
use Rattle.serial_model.specs.Tick.{tick, start_clock, answer_state, before_access, make_access}
use Rattle.serial_model.specs.Turns.{interrupt_of, taken_lines}
use Rattle.serial_model.proofs.NextLaws.{shown_next, trace_next}

-- the list begins with the first
pub record Extends {A : Type 0} (first now : List A) : Type 0 where
  pub more : List A
  pub is : now ≡ first ++ more

pub Extends-refl : {A : Type 0} (xs : List A) → Extends xs xs
Extends-refl xs = record { more = []; is = sym (append-nil xs) }

pub Extends-trans : {A : Type 0} (xs ys zs : List A) → Extends xs ys → Extends ys zs → Extends xs zs
Extends-trans xs ys zs first second = record {
  more = first.more ++ second.more;
  is = second.is ∙ ap (λ l. l ++ second.more) first.is ∙ append_assoc xs first.more second.more;
}

pub shown-tick : (system : System) (events : List At) (s : State) → Extends s.shown (tick system events s).shown
shown-tick system events s = record { more = (picture_step system events s).bytes; is = shown_next system events s }

pub trace-tick : (system : System) (events : List At) (s : State) → Extends s.trace (tick system events s).trace
trace-tick system events s =
    let b : State = answer_state (before_access system events s) in
    let done : State = make_access (before_access system events s) in
    record {
      more = event_lines (due_events s.beam events) (start_clock s)
          ++ (lines_of b.beam b.clx b.chips (made_in system events s) ++ taken_lines done.beam (interrupt_of done.chips));
      is = trace_next system events s;
    }

pub shown-later : (side : SideValue) (image : List ℕ) (script : ScriptValue) (n k : ℕ) → Extends (state_over side image script n).shown
    (state_over side image script (n + k)).shown
unfolding state_over
shown-later side image script n zero = rw add-zero (Extends-refl (state_over side image script n).shown)
shown-later side image script n (suc k) =
    rw add-suc (Extends-trans _ _ _ (shown-later side image script n k) (shown-tick script.system script.events (state_over side image script (n + k))))

pub trace-later : (side : SideValue) (image : List ℕ) (script : ScriptValue) (n k : ℕ) → Extends (state_over side image script n).trace
    (state_over side image script (n + k)).trace
unfolding state_over
trace-later side image script n zero = rw add-zero (Extends-refl (state_over side image script n).trace)
trace-later side image script n (suc k) =
    rw add-suc (Extends-trans _ _ _ (trace-later side image script n k) (trace-tick script.system script.events (state_over side image script (n + k))))
