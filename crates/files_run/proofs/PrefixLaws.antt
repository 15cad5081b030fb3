-- What a stopped run leaves are parts of the texts of its end.
use Rattle.std.proofs.Common.{◌≡◌, ℕ, zero, suc, ◌+◌, ◌-◌, ◌<◌, ◌≤◌, ◌⊎◌, List, [], ◌∷◌, ◌++◌, length, take}
use Rattle.std.proofs.Common.{Option, Some, None, inl, inr, refl, ap, ◌∙◌, sym, subst, append_assoc, append-nil, arith}
use Rattle.std.proofs.lemmas.Grind.{flat_map-append}
use Rattle.ocs_base.specs.Script.{ScriptValue}
use Rattle.ocs_base.specs.declared.system.System.{System}
use Rattle.ocs_io.specs.Place.{Files}
use Rattle.out_files.specs.Answers.{with_empty, in_order}
use Rattle.out_files.specs.OutFiles.{OutNames}
use Rattle.serial_model.specs.declared.trace.TraceLine.{TraceLine}
use Rattle.serial_model.specs.MemoryText.{memory_text}
use Rattle.serial_model.specs.Outputs.{with_headings, frames_text}
use Rattle.serial_model.specs.Side.{SideValue}
use Rattle.serial_model.specs.Serial.{state_over, IsEndOver}
use Rattle.serial_model.specs.State.{State}
use Rattle.serial_model.specs.TraceText.{line_text, trace_text}
use Rattle.serial_model.proofs.HeadingLaws.{with_headings-append}
use Rattle.files_run.specs.Prefix.{IsPartOf, LeavesPrefixesOver}
use Rattle.files_run.specs.Run.{HasRun, HasFilesOver, HasParts, HasEndParts, Remains}
use Rattle.files_run.proofs.GrowthLaws.{Extends, shown-later, trace-later}

-- a state of the run is no later than its end
not_later : (side : SideValue) (image : List ℕ) (script : ScriptValue) (clocks end : ℕ) → ((n : ℕ) → n < clocks → (state_over side image script n).beam.frame <
    script.frames)
    → IsEndOver side image script end → clocks ≤ end
not_later side image script clocks end running is = step (le_or_lt clocks end)
  where
    le_or_lt : (a b : ℕ) → (a ≤ b) ⊎ (b < a)
    le_or_lt a b = grind arith

    step : (clocks ≤ end) ⊎ (end < clocks) → clocks ≤ end
    step (inl le) = le
    step (inr lt) = absurd (let below : (state_over side image script end).beam.frame < script.frames = running end lt in omega (arith, is.ended))

frames-grow : (system : System) (first more now bytes rest : List ℕ) → now ≡ first ++ more → bytes ++ rest ≡ frames_text system first
    → IsPartOf (frames_text system now) (Some bytes)
frames-grow system first more now bytes rest is part =
    let added : List ℕ = with_headings system (0 + length first) more in (
      rest ++ added,
      sym (append_assoc bytes rest added) ∙ ap (λ t. t ++ added) part ∙ sym (with_headings-append system 0 first more)
          ∙ ap (λ l. frames_text system l) (sym is),
    )

trace-grow : (first more now : List TraceLine) (bytes rest : List ℕ) → now ≡ first ++ more → bytes ++ rest ≡ trace_text first
    → IsPartOf (trace_text now) (Some bytes)
unfolding trace_text
trace-grow first more now bytes rest is part = (
  rest ++ trace_text more,
  sym (append_assoc bytes rest (trace_text more)) ∙ ap (λ t. t ++ trace_text more) part
      ∙ sym (flat_map-append line_text first more) ∙ ap (λ l. trace_text l) (sym is),
)

-- parts of the texts so far are parts of the texts at the end
frames-part : (side : SideValue) (image : List ℕ) (script : ScriptValue) (clocks end : ℕ) (bytes rest : List ℕ) → HasRun side image script clocks → IsEndOver
    side image script end
    → bytes ++ rest ≡ frames_text script.system (state_over side image script clocks).shown
    → IsPartOf (frames_text script.system (state_over side image script end).shown) (Some bytes)
frames-part side image script clocks end bytes rest run is part =
    let le : clocks ≤ end = not_later side image script clocks end run.running is in
    let e : clocks + (end - clocks) ≡ end = omega arith in
    let grown : Extends (state_over side image script clocks).shown (state_over side image script (clocks + (end - clocks))).shown =
    shown-later side image script clocks (end - clocks) in
    subst (λ n. IsPartOf (frames_text script.system (state_over side image script n).shown) (Some bytes)) e
    (frames-grow script.system (state_over side image script clocks).shown grown.more _ bytes rest grown.is part)

trace-part : (side : SideValue) (image : List ℕ) (script : ScriptValue) (clocks end : ℕ) (bytes rest : List ℕ) → HasRun side image script clocks → IsEndOver
    side image script end
    → bytes ++ rest ≡ trace_text (state_over side image script clocks).trace → IsPartOf (trace_text (state_over side image script end).trace) (Some bytes)
trace-part side image script clocks end bytes rest run is part =
    let le : clocks ≤ end = not_later side image script clocks end run.running is in
    let e : clocks + (end - clocks) ≡ end = omega arith in
    let grown : Extends (state_over side image script clocks).trace (state_over side image script (clocks + (end - clocks))).trace =
    trace-later side image script clocks (end - clocks) in
    subst (λ n. IsPartOf (trace_text (state_over side image script n).trace) (Some bytes)) e
    (trace-grow (state_over side image script clocks).trace grown.more _ bytes rest grown.is part)

nothing-first : (bytes rest text : List ℕ) → bytes ++ rest ≡ [] → IsPartOf text (Some bytes)
nothing-first [] rest text e = (text, refl)
nothing-first (byte ∷ bytes) rest text e = cc

pub one_end : (side : SideValue) (image : List ℕ) (script : ScriptValue) (a b : ℕ) → IsEndOver side image script a → IsEndOver side image script b → a ≡ b
one_end side image script a b first second =
    let le : a ≤ b = not_later side image script a b first.running second in
    let ge : b ≤ a = not_later side image script b a second.running first in
    omega arith

pub LeavesPrefixes-parts : (side : SideValue) (image : List ℕ) (script : ScriptValue) (names : OutNames) (base new : Option Files) (clocks : ℕ)
    → HasParts side image script names base new clocks → LeavesPrefixesOver side image script names base new
LeavesPrefixes-parts side image script names base new clocks has = record {
  frames = Some has.parts.frames;
  trace = Some has.parts.trace;
  memory = Some has.parts.bytes;
  held = has.parts.held;
  frames_part = λ end is. frames-part side image script clocks end has.parts.frames has.parts.frames_rest has.run is has.parts.frames_part;
  trace_part = λ end is. trace-part side image script clocks end has.parts.trace has.parts.trace_rest has.run is has.parts.trace_part;
  memory_part = λ end is. nothing-first has.parts.bytes has.parts.bytes_rest _ has.parts.bytes_part;
}

pub LeavesPrefixes-end : (side : SideValue) (image : List ℕ) (script : ScriptValue) (names : OutNames) (base new : Option Files) (clocks : ℕ)
    → HasEndParts side image script names base new clocks → LeavesPrefixesOver side image script names base new
LeavesPrefixes-end side image script names base new clocks has = record {
  frames = Some has.parts.frames;
  trace = Some has.parts.trace;
  memory = Some has.parts.bytes;
  held = has.parts.held;
  frames_part = λ end is. frames-part side image script clocks end has.parts.frames has.parts.frames_rest has.run is has.parts.frames_part;
  trace_part = λ end is. trace-part side image script clocks end has.parts.trace has.parts.trace_rest has.run is has.parts.trace_part;
  memory_part = λ end is. subst (λ n. IsPartOf (memory_text (state_over side image script n).memory) (Some has.parts.bytes))
      (one_end side image script clocks end has.end is)
      (has.parts.bytes_rest, has.parts.bytes_part);
}

whole_part : (text at_end : List ℕ) → text ≡ at_end → IsPartOf at_end (Some text)
whole_part text at_end is = ([], append-nil text ∙ is)

-- the whole texts are parts of themselves
pub LeavesPrefixes-whole : (side : SideValue) (image : List ℕ) (script : ScriptValue) (names : OutNames) (base new : Option Files)
    → HasFilesOver side image script names base new → LeavesPrefixesOver side image script names base new
LeavesPrefixes-whole side image script names base new has =
    let s : State = state_over side image script has.clocks in
    let same : (end : ℕ) → IsEndOver side image script end → has.clocks ≡ end = λ end is. one_end side image script has.clocks end has.end is in
    record {
      frames = Some (frames_text script.system s.shown);
      trace = Some (trace_text s.trace);
      memory = Some (memory_text s.memory);
      held = has.files;
      frames_part = λ end is. whole_part _ _ (ap (λ n. frames_text script.system (state_over side image script n).shown) (same end is));
      trace_part = λ end is. whole_part _ _ (ap (λ n. trace_text (state_over side image script n).trace) (same end is));
      memory_part = λ end is. whole_part _ _ (ap (λ n. memory_text (state_over side image script n).memory) (same end is));
    }

empty_part : (text : List ℕ) → IsPartOf text (Some [])
empty_part text = (text, refl)

nothing_taken : (n : ℕ) → take {A = List ℕ} n [] ≡ []
nothing_taken zero = refl
nothing_taken (suc n) = refl

LeavesPrefixes-created : (side : SideValue) (image : List ℕ) (script : ScriptValue) (names : OutNames) (base new : Option Files) (created : ℕ)
    → new ≡ with_empty (take created (in_order names)) base → LeavesPrefixesOver side image script names base new
LeavesPrefixes-created side image script names base new zero is = record {
  frames = None;
  trace = None;
  memory = None;
  held = is;
  frames_part = λ end e. tt;
  trace_part = λ end e. tt;
  memory_part = λ end e. tt;
}
LeavesPrefixes-created side image script names base new (suc zero) is = record {
  frames = Some [];
  trace = None;
  memory = None;
  held = is;
  frames_part = λ end e. empty_part _;
  trace_part = λ end e. tt;
  memory_part = λ end e. tt;
}
LeavesPrefixes-created side image script names base new (suc (suc zero)) is = record {
  frames = Some [];
  trace = Some [];
  memory = None;
  held = is;
  frames_part = λ end e. empty_part _;
  trace_part = λ end e. empty_part _;
  memory_part = λ end e. tt;
}
LeavesPrefixes-created side image script names base new (suc (suc (suc more))) is = record {
  frames = Some [];
  trace = Some [];
  memory = Some [];
  held = is ∙ ap (λ l. with_empty l (with_empty (in_order names) base)) (nothing_taken more);
  frames_part = λ end e. empty_part _;
  trace_part = λ end e. empty_part _;
  memory_part = λ end e. empty_part _;
}

pub LeavesPrefixes-all : (side : SideValue) (image : List ℕ) (script : ScriptValue) (names : OutNames) (base new : Option Files) → Remains side image script
    names base new
    → LeavesPrefixesOver side image script names base new
LeavesPrefixes-all side image script names base new (inl created) = LeavesPrefixes-created side image script names base new created.0 created.1
LeavesPrefixes-all side image script names base new (inr (inl parts)) = LeavesPrefixes-parts side image script names base new parts.0 parts.1
LeavesPrefixes-all side image script names base new (inr (inr parts)) = LeavesPrefixes-end side image script names base new parts.0 parts.1

-- nothing was created
pub prefixes_kept : (side : SideValue) (image : List ℕ) (script : ScriptValue) (names : OutNames) (base new : Option Files) → new ≡ base
    → LeavesPrefixesOver side image script names base new
prefixes_kept side image script names base new same = LeavesPrefixes-created side image script names base new 0 same
