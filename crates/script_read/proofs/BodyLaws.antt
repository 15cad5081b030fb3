-- The lines after the third, read one after another.
use Rattle.std.proofs.Common.{◌≡◌, ℕ, ◌+◌, List, [], ◌∷◌, ◌++◌, refl, sym, ap, ◌∙◌, Option, Some, None, Result, Ok, Err, append_assoc, append-nil}
use Rattle.ocs_base.specs.Limits.{time_of}
use Rattle.ocs_base.specs.Script.{ScriptValue}
use Rattle.ocs_base.specs.declared.script.At.{At}
use Rattle.script_read.specs.Grammar.{Verdict, Good, Bad, body_of, body_line, after_end, with_event, from_line}
use Rattle.script_read.specs.declared.fault.BadKind.{BadKind}
use Rattle.script_read.specs.declared.fault.BadKind.TheVariants.{Missing}

-- a verdict with the events before it
abbrev pub with_events : List At → Verdict → Verdict
with_events events (Good script) = Good (record script { events = events ++ script.events })
with_events events (Bad number kind) = Bad number kind

pub with_events-none : (verdict : Verdict) → with_events [] verdict ≡ verdict
with_events-none (Good script) = refl
with_events-none (Bad number kind) = refl

pub with_events-push : (events : List At) (at : At) (verdict : Verdict) → with_events events (with_event at verdict) ≡ with_events (events ++ at ∷ []) verdict
with_events-push events at (Good script) = ap (λ e. Good (record script { events = e })) (sym (append_assoc events (at ∷ []) script.events))
with_events-push events at (Bad number kind) = refl

-- where the reading stands: the events so far, and the lines that are left
pub record StandsAt (head : ScriptValue) (first : ℕ) (all : List (List ℕ)) (script : ScriptValue) (number before : ℕ) (left : List (List ℕ)) : Type 0 where
  pub cpu : script.cpu ≡ head.cpu
  pub frames : script.frames ≡ head.frames
  pub chip : script.chip ≡ head.chip
  pub system : script.system ≡ head.system
  pub verdict : body_of head first 0 all ≡ with_events script.events (body_of head number before left)

pub StandsAt-start : (head : ScriptValue) (first : ℕ) (all : List (List ℕ)) → head.events ≡ [] → StandsAt head first all head first 0 all
StandsAt-start head first all none = record {
  cpu = refl;
  frames = refl;
  chip = refl;
  system = refl;
  verdict = sym (with_events-none (body_of head first 0 all)) ∙ ap (λ e. with_events e (body_of head first 0 all)) (sym none);
}

module _ (head : ScriptValue) (first : ℕ) (all : List (List ℕ)) (script : ScriptValue) (number before : ℕ) (left : List (List ℕ)) where
  pub StandsAt-missing : StandsAt head first all script number before left → left ≡ [] → body_of head first 0 all ≡ Bad number Missing
  unfolding body_of
  StandsAt-missing stands none = stands.verdict ∙ ap (λ l. with_events script.events (body_of head number before l)) none

  opened : (line : List ℕ) (lines : List (List ℕ)) (answer : Result (Option At) BadKind) → StandsAt head first all script number before left
      → left ≡ line ∷ lines → answer ≡ body_line head.system head.frames number before line
      → body_of head first 0 all ≡ with_events script.events
      (from_line answer number (after_end head (number + 1) lines) (λ at. body_of head (number + 1) (time_of at) lines))
  unfolding body_of
  opened line lines answer stands next is =
      stands.verdict ∙ ap (λ l. with_events script.events (body_of head number before l)) next
      ∙ ap (λ a. with_events script.events (from_line a number (after_end head (number + 1) lines) (λ at. body_of head (number + 1) (time_of at) lines)))
      (sym is)

  pub StandsAt-bad : (line : List ℕ) (lines : List (List ℕ)) (kind : BadKind) → StandsAt head first all script number before left → left ≡ line ∷ lines
      → Err kind ≡ body_line head.system head.frames number before line → body_of head first 0 all ≡ Bad number kind
  StandsAt-bad line lines kind stands next is = opened line lines (Err kind) stands next is

  pub StandsAt-more : (line : List ℕ) (lines : List (List ℕ)) (at : At) → StandsAt head first all script number before left → left ≡ line ∷ lines
      → Ok (Some at) ≡ body_line head.system head.frames number before line
      → StandsAt head first all (record script { events = script.events ++ at ∷ [] }) (number + 1) (time_of at) lines
  StandsAt-more line lines at stands next is = record {
    cpu = stands.cpu;
    frames = stands.frames;
    chip = stands.chip;
    system = stands.system;
    verdict = opened line lines (Ok (Some at)) stands next is ∙ with_events-push script.events at (body_of head (number + 1) (time_of at) lines);
  }

  pub StandsAt-end : (line : List ℕ) (lines : List (List ℕ)) → head.events ≡ [] → StandsAt head first all script number before left → left ≡ line ∷ lines
      → Ok None ≡ body_line head.system head.frames number before line
      → body_of head first 0 all ≡ after_end script (number + 1) lines
  StandsAt-end line lines none stands next is = opened line lines (Ok None) stands next is ∙ ended lines
    where
      ended : (lines : List (List ℕ)) → with_events script.events (after_end head (number + 1) lines) ≡ after_end script (number + 1) lines
      ended [] =
          (λ i. Good (record {
            cpu = sym stands.cpu i;
            frames = sym stands.frames i;
            chip = sym stands.chip i;
            system = sym stands.system i;
            events = script.events ++ none i;
          }))
          ∙ ap (λ e. Good (record script { events = e })) (append-nil script.events)
      ended (extra ∷ lines) = refl

pub ruleset body_laws = (StandsAt-start, StandsAt-missing, StandsAt-bad, StandsAt-more, StandsAt-end)
