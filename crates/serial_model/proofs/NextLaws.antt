-- One colour clock, part by part.
use Rattle.std.proofs.Common.{◌≡◌, ℕ, List, [], ◌∷◌, ◌++◌, Option, Some, None, refl, ap, ◌∙◌, sym, append_assoc, append-nil, if◌then◌else◌, bit_or}
use Rattle.ocs_base.specs.declared.beam.Beam.{Beam}
use Rattle.ocs_base.specs.declared.script.Act.{Act}
use Rattle.ocs_base.specs.declared.script.Act.TheVariants.{Poke, Peek, Joy, Fire, Key}
use Rattle.ocs_base.specs.declared.script.At.{At}
use Rattle.serial_model.specs.declared.picture.Denise.{Denise}
use Rattle.serial_model.specs.declared.picture.Touch.{Touch}
use Rattle.serial_model.specs.Beam.{next_place}
use Rattle.serial_model.specs.Events.{due_events, do_event, do_events, made_by_act, tell_chips, add_touch, touches_of, lines_by, event_lines}
use Rattle.serial_model.specs.Laws.{MemoryNext, PictureNext, ShownNext, ClxNext, TraceNext, BeamNext, made_in, picture_before}
use Rattle.serial_model.specs.Made.{word_of, memory_after, touch_of, lines_of}
use Rattle.serial_model.specs.Picture.{touch_if_any, touch_in_order, step_of, after_step}
use Rattle.serial_model.specs.Registers.{is_interlaced}
use Rattle.serial_model.specs.State.{Chips, State}
use Rattle.serial_model.specs.Turns.{take_turn, run_chips, interrupt_of, taken_lines}
use Rattle.serial_model.specs.Processor.{turn_of}
use Rattle.serial_model.specs.declared.processor.CiaName.TheVariants.{A, B}
use Rattle.serial_model.specs.declared.processor.Turn.{Turn}
use Rattle.serial_model.specs.declared.processor.Turn.TheVariants.{Rests, Waits, Goes, Cia}
use Rattle.serial_model.specs.declared.trace.TraceLine.{TraceLine}
use Rattle.serial_model.specs.Tick.{start_clock, run_script, before_access, answer_state, make_access, tick}

-- the script stores nothing
memory_by : (act : Act) (memory : List ℕ) → memory_after (made_by_act act) memory ≡ memory
memory_by (Poke reg word) memory = refl
memory_by (Peek reg) memory = refl
memory_by (Joy port word) memory = refl
memory_by (Fire port down) memory = refl
memory_by (Key code) memory = refl

pub memory_kept : (events : List At) (s : State) → (do_events events s).memory ≡ s.memory
unfolding do_events
memory_kept [] s = refl
memory_kept (e ∷ events) s = memory_kept events (do_event e.act s) ∙ memory_by e.act s.memory

-- it shows nothing, and of the beam it changes LOF alone
pub shown_kept : (events : List At) (s : State) → (do_events events s).shown ≡ s.shown
unfolding do_events
shown_kept [] s = refl
shown_kept (e ∷ events) s = shown_kept events (do_event e.act s)

pub count_kept : (events : List At) (s : State) → (do_events events s).t ≡ s.t
unfolding do_events
count_kept [] s = refl
count_kept (e ∷ events) s = count_kept events (do_event e.act s)

pub place_kept : (events : List At) (s : State) → (do_events events s).beam ≡ record s.beam { lof = (do_events events s).beam.lof }
unfolding do_events
place_kept [] s = refl
place_kept (e ∷ events) s = place_kept events (do_event e.act s)

-- its touches
touch_by : (h : ℕ) (word_at : ℕ → ℕ) (touch : Option Touch) (touches : List Touch) (p : Denise)
    → touch_in_order h word_at touches (touch_if_any h word_at touch p) ≡ touch_in_order h word_at (add_touch touch touches) p
unfolding touch_in_order
touch_by h word_at None touches p = refl
touch_by h word_at (Some touch) touches p = refl

pub picture_touched : (events : List At) (s : State)
    → (do_events events s).picture ≡ touch_in_order s.beam.h (word_of s.memory) (touches_of events) s.picture
unfolding do_events touches_of touch_in_order
picture_touched [] s = refl
picture_touched (e ∷ events) s =
    picture_touched events (do_event e.act s)
    ∙ ap (λ m. touch_in_order s.beam.h (word_of m) (touches_of events)
    (touch_if_any s.beam.h (word_of s.memory) (touch_of (made_by_act e.act)) s.picture)) (memory_by e.act s.memory)
    ∙ touch_by s.beam.h (word_of s.memory) (touch_of (made_by_act e.act)) (touches_of events) s.picture

-- its lines: what joysticks, fire buttons and keys do comes into none
lines_told : (act : Act) (s : State) → lines_of s.beam s.clx (tell_chips act s.chips) (made_by_act act) ≡ lines_by act s
lines_told (Poke reg word) s = refl
lines_told (Peek reg) s = refl
lines_told (Joy port word) s = refl
lines_told (Fire port down) s = refl
lines_told (Key code) s = refl

pub lines_added : (events : List At) (s : State) → (do_events events s).trace ≡ s.trace ++ event_lines events s
unfolding do_events event_lines
lines_added [] s = sym (append-nil s.trace)
lines_added (e ∷ events) s =
    lines_added events (do_event e.act s)
    ∙ ap (λ lines. (s.trace ++ lines) ++ event_lines events (do_event e.act s)) (lines_told e.act s)
    ∙ append_assoc s.trace (lines_by e.act s) (event_lines events (do_event e.act s))

-- the parts of the next state
pub memory_next : MemoryNext
unfolding tick
memory_next system events s =
    ap (λ m. memory_after (made_in system events s) m) (memory_kept (due_events s.beam events) (start_clock s))

-- what the events of the clock leave
abbrev pub eventful : List At → State → State
eventful events s = run_script events (start_clock s)

picture_shown : (events : List At) (s : State) → (eventful events s).picture ≡ picture_before events s
picture_shown events s = picture_touched (due_events s.beam events) (start_clock s)

at_place : (events : List At) (s : State) → (eventful events s).beam ≡ record s.beam { lof = (eventful events s).beam.lof }
at_place events s = place_kept (due_events s.beam events) (start_clock s)

pub picture_next : PictureNext
unfolding tick
picture_next system events s =
    ap (λ (b : Beam). touch_if_any b.h (word_of (eventful events s).memory) (touch_of (made_in system events s))
    (after_step (step_of system b.v b.h (eventful events s).picture) (eventful events s).picture)) (at_place events s)
    ∙ ap (λ m. touch_if_any s.beam.h (word_of m) (touch_of (made_in system events s))
    (after_step (step_of system s.beam.v s.beam.h (eventful events s).picture) (eventful events s).picture))
    (memory_kept (due_events s.beam events) (start_clock s))
    ∙ ap (λ p. touch_if_any s.beam.h (word_of s.memory) (touch_of (made_in system events s))
    (after_step (step_of system s.beam.v s.beam.h p) p)) (picture_shown events s)

pub shown_next : ShownNext
unfolding tick
shown_next system events s =
    ap (λ (b : Beam). (eventful events s).shown ++ (step_of system b.v b.h (eventful events s).picture).bytes) (at_place events s)
    ∙ ap (λ l. l ++ (step_of system s.beam.v s.beam.h (eventful events s).picture).bytes)
    (shown_kept (due_events s.beam events) (start_clock s))
    ∙ ap (λ p. s.shown ++ (step_of system s.beam.v s.beam.h p).bytes) (picture_shown events s)

pub clx_next : ClxNext
unfolding tick
clx_next system events s none =
    ap (λ read. if read then 0 else (before_access system events s).clx) none
    ∙ ap (λ (b : Beam). bit_or (eventful events s).clx (step_of system b.v b.h (eventful events s).picture).clx) (at_place events s)
    ∙ ap (λ p. bit_or (eventful events s).clx (step_of system s.beam.v s.beam.h p).clx) (picture_shown events s)

pub trace_next : TraceNext
unfolding tick
trace_next system events s =
    let b : State = answer_state (before_access system events s) in
    let done : State = make_access (before_access system events s) in
    let told : List TraceLine = event_lines (due_events s.beam events) (start_clock s) in
    let made : List TraceLine = lines_of b.beam b.clx b.chips (made_in system events s) in
    let begun : List TraceLine = taken_lines done.beam (interrupt_of done.chips) in
    ap (λ l. (l ++ made) ++ begun) (lines_added (due_events s.beam events) (start_clock s))
    ∙ append_assoc (s.trace ++ told) made begun
    ∙ append_assoc s.trace told (made ++ begun)

-- the processor's part changes no register
turn_keeps : (turn : Turn) (c : Chips) → (take_turn turn c).registers ≡ c.registers
turn_keeps Rests c = refl
turn_keeps (Waits spent) c = refl
turn_keeps (Goes word) c = refl
turn_keeps (Cia A reg None) c = refl
turn_keeps (Cia A reg (Some byte)) c = refl
turn_keeps (Cia B reg None) c = refl
turn_keeps (Cia B reg (Some byte)) c = refl

run_keeps : (c : Chips) → (run_chips c).registers ≡ c.registers
unfolding run_chips
run_keeps c = turn_keeps (turn_of c.processor) c

pub beam_next : BeamNext
unfolding tick
beam_next system events s =
    let b : State = make_access (before_access system events s) in
    ap (λ registers. next_place system (is_interlaced registers) b.beam) (run_keeps b.chips) ∙
    ap (λ (p : Beam). next_place system (is_interlaced b.chips.registers) (record p { lof = b.beam.lof })) (at_place events s)
