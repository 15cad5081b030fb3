-- A run comes to its end, and has then shown whole frames.
use Rattle.std.proofs.Common.{◌≡◌, ◌≢◌, ℕ, zero, suc, ◌+◌, ◌-◌, ◌*◌, ◌<◌, ◌≤◌, Bool, true, false, if◌then◌else◌, List}
use Rattle.std.proofs.Common.{[], ◌++◌, length, arith, refl, ap, ◌∙◌, sym, subst, inl, inr, length-append, lit<}
use Rattle.std.proofs.lemmas.Bool.{cases_eq}
use Rattle.std.proofs.lemmas.Bool.Decides.{nat_tests}
use Rattle.std.specs.Prelude.{min}
use Rattle.ocs_base.specs.Script.{ScriptValue}
use Rattle.ocs_base.specs.Systems.{top_line, shown_lines, is_shown_line, is_visible, line_bytes, frame_bytes}
use Rattle.ocs_base.specs.declared.beam.Beam.{Beam}
use Rattle.ocs_base.specs.declared.script.At.{At}
use Rattle.ocs_base.specs.declared.system.System.{System}
use Rattle.ocs_base.specs.declared.system.System.TheVariants.{Pal, Ntsc}
use Rattle.serial_model.specs.declared.picture.Denise.{Denise}
use Rattle.serial_model.specs.Beam.{IsOnScreen, place_of, next_place}
use Rattle.serial_model.specs.Laws.{HasEnd, FramesAreWhole, picture_step, picture_before}
use Rattle.serial_model.specs.Picture.{pixels, pixel_bytes, step_of}
use Rattle.serial_model.specs.Registers.{is_interlaced}
use Rattle.serial_model.specs.Serial.{state_over, IsEndOver}
use Rattle.serial_model.specs.Side.{SideValue}
use Rattle.serial_model.specs.State.{State, reset}
use Rattle.serial_model.specs.Tick.{before_access, make_access, tick}
use Rattle.serial_model.proofs.BeamLaws.{IsNext, next_place-IsNext}
use Rattle.serial_model.proofs.NextLaws.{beam_next, shown_next}

-- the beam moves on at each clock
pub tick-IsNext : (system : System) (events : List At) (s : State) → IsOnScreen s.beam → IsNext s.beam (tick system events s).beam
tick-IsNext system events s on =
    let b : State = make_access (before_access system events s) in
    let place : Beam = record s.beam { lof = b.beam.lof } in
    let next : IsNext place (next_place system (is_interlaced b.chips.registers) place) =
    next_place-IsNext system (is_interlaced b.chips.registers) place (record { line = on.line; clock = on.clock }) in
    let here : IsNext s.beam (next_place system (is_interlaced b.chips.registers) place) =
    record { later = next.later; frame = next.frame; one = next.one; screen = next.screen } in
    subst (λ x. IsNext s.beam x) (sym (beam_next system events s)) here

pub on_screen : (side : SideValue) (image : List ℕ) (script : ScriptValue) (n : ℕ) → IsOnScreen (state_over side image script n).beam
unfolding state_over reset
on_screen side image script zero = record { line = lit< {m = 0} {n = 313} tt; clock = lit< {m = 0} {n = 228} tt }
on_screen side image script (suc n) = (tick-IsNext script.system script.events (state_over side image script n) (on_screen side image script n)).screen

-- while no end was found the place rises with each clock, which the places before the last frame's end bound
unfinished : (b : Beam) (frames : ℕ) → IsOnScreen b → b.frame < frames → place_of b + 0 < frames * 71364
unfinished b frames on going = grind (arith, on.line, on.clock)

below_more : (n t : ℕ) (P : ℕ → Type 0) → ((m : ℕ) → m < t → P m) → P t → n < suc t → P n
below_more n t P below here lt =
    elim (cases_eq n t) [
      | inl e ↦ (let s : t ≡ n = sym e in subst P s here)
      | inr other ↦ below n (let o : n ≡ t → ⊥ = other in omega arith)
    ]

find_end : (side : SideValue) (image : List ℕ) (script : ScriptValue) (fuel n : ℕ)
    → ((m : ℕ) → m < n → (state_over side image script m).beam.frame < script.frames)
    → (state_over side image script n).beam.frame ≤ script.frames
    → script.frames * 71364 ≤ place_of (state_over side image script n).beam + fuel
    → (clocks : ℕ) × IsEndOver side image script clocks
unfolding state_over
find_end side image script zero n running most enough =
    elim (cases_eq (state_over side image script n).beam.frame script.frames) [
      | inl e ↦ (n, record { ended = e; running = running })
      | inr other ↦ (
          let o : (state_over side image script n).beam.frame ≡ script.frames → ⊥ = other in
          let going : (state_over side image script n).beam.frame < script.frames = omega arith in
          let low : place_of (state_over side image script n).beam + 0 < script.frames * 71364 =
          unfinished (state_over side image script n).beam script.frames (on_screen side image script n) going in
          absurd (omega arith))
    ]
find_end side image script (suc fuel) n running most enough =
    elim (cases_eq (state_over side image script n).beam.frame script.frames) [
      | inl e ↦ (n, record { ended = e; running = running })
      | inr other ↦ (
          let o : (state_over side image script n).beam.frame ≡ script.frames → ⊥ = other in
          let going : (state_over side image script n).beam.frame < script.frames = omega arith in
          let next : IsNext (state_over side image script n).beam (state_over side image script (suc n)).beam =
          tick-IsNext script.system script.events (state_over side image script n) (on_screen side image script n) in
          find_end side image script fuel (suc n)
          (λ m below. below_more m n (λ k. (state_over side image script k).beam.frame < script.frames) running going below)
          (omega (arith, next.one)) (omega (arith, next.later)))
    ]

pub has_end : HasEnd
unfolding state_over reset
has_end side image script good = find_end side image script (script.frames * 71364) 0 (λ m below. absurd (omega arith)) (omega arith) (omega arith)

-- how many bytes of its frame were shown before a place: those of each line that is shown, and 12 in each clock
abbrev bytes_before : System → ℕ → ℕ → ℕ
bytes_before system v h =
    line_bytes * min (v - top_line system) (shown_lines system) + (if is_shown_line system v then 12 * (h - 47) else 0)

abbrev bytes_at : System → ℕ → ℕ → ℕ
bytes_at system v h = if is_visible system v h then 12 else 0

pixels-length : (system : System) (v h : ℕ) (p : Denise) → length (pixels system v h p) ≡ bytes_at system v h
pixels-length system v h p =
    let c : ℕ → List ℕ = λ n. pixel_bytes v h n p in
    let P : Bool → Type 0 = λ b. length (if b then c 0 ++ (c 1 ++ (c 2 ++ c 3)) else []) ≡ (if b then 12 else 0) in
    elim (is_visible system v h) as P [ true ↦ refl | false ↦ refl ]

bytes-next : (system : System) (lace : Bool) (b : Beam) → IsOnScreen b → (let next = next_place system lace b in
    b.frame * frame_bytes system + bytes_before system b.v b.h + bytes_at system b.v b.h
    ≡ next.frame * frame_bytes system + bytes_before system next.v next.h)
bytes-next Pal lace b on = grind (arith, nat_tests, on.line, on.clock)
bytes-next Ntsc lace b on = grind (arith, nat_tests, on.line, on.clock)

step-length : (system : System) (events : List At) (s : State) → length (picture_step system events s).bytes ≡ bytes_at system s.beam.v s.beam.h
unfolding step_of
step-length system events s = pixels-length system s.beam.v s.beam.h (picture_before events s)

none_before : (system : System) → 0 ≡ 0 * frame_bytes system + bytes_before system 0 0
none_before Pal = refl
none_before Ntsc = refl

-- the bytes that were shown, counted
pub shown_count : (side : SideValue) (image : List ℕ) (script : ScriptValue) (n : ℕ) → (let s = state_over side image script n in
    length s.shown ≡ s.beam.frame * frame_bytes script.system + bytes_before script.system s.beam.v s.beam.h)
unfolding state_over reset
shown_count side image script zero = none_before script.system
shown_count side image script (suc n) =
    let s : State = state_over side image script n in
    let system : System = script.system in
    let b : State = make_access (before_access system script.events s) in
    let lace : Bool = is_interlaced b.chips.registers in
    let place : Beam = record s.beam { lof = b.beam.lof } in
    let on : IsOnScreen s.beam = on_screen side image script n in
    let more : length (tick system script.events s).shown ≡ length s.shown + bytes_at system s.beam.v s.beam.h =
    ap (λ l. length l) (shown_next system script.events s) ∙ length-append s.shown (picture_step system script.events s).bytes
    ∙ ap (λ k. length s.shown + k) (step-length system script.events s) in
    let next : place.frame * frame_bytes system + bytes_before system place.v place.h + bytes_at system place.v place.h
    ≡ (next_place system lace place).frame * frame_bytes system + bytes_before system (next_place system lace place).v (next_place system lace place).h =
    bytes-next system lace place (record { line = on.line; clock = on.clock }) in
    more ∙ ap (λ k. k + bytes_at system s.beam.v s.beam.h) (shown_count side image script n) ∙ next
    ∙ ap (λ (x : Beam). x.frame * frame_bytes system + bytes_before system x.v x.h) (sym (beam_next system script.events s))

-- a clock that ends a frame ends at the first place of the next
frame_starts : (system : System) (lace : Bool) (b : Beam) → (next_place system lace b).frame ≢ b.frame
    → bytes_before system (next_place system lace b).v (next_place system lace b).h ≡ 0
frame_starts Pal lace b rises = grind (arith, nat_tests)
frame_starts Ntsc lace b rises = grind (arith, nat_tests)

whole : (system : System) (frames : ℕ) → frames * frame_bytes system + 0 ≡ frames * frame_bytes system
whole Pal frames = omega arith
whole Ntsc frames = omega arith

pub frames_are_whole : FramesAreWhole
unfolding state_over reset
frames_are_whole side image script zero some end = absurd (omega (arith, end.ended))
frames_are_whole side image script (suc n) some end =
    let s : State = state_over side image script n in
    let system : System = script.system in
    let b : State = make_access (before_access system script.events s) in
    let lace : Bool = is_interlaced b.chips.registers in
    let place : Beam = record s.beam { lof = b.beam.lof } in
    let next : Beam = (tick system script.events s).beam in
    let here : next ≡ next_place system lace place = beam_next system script.events s in
    let before : s.beam.frame < script.frames = end.running n (omega arith) in
    let frame : (next_place system lace place).frame ≡ script.frames = ap (λ (x : Beam). x.frame) (sym here) ∙ end.ended in
    let none : bytes_before system (next_place system lace place).v (next_place system lace place).h ≡ 0 =
    frame_starts system lace place (λ same. absurd (omega (arith, same, frame, before))) in
    let zero_bytes : bytes_before system next.v next.h ≡ 0 = ap (λ (x : Beam). bytes_before system x.v x.h) here ∙ none in
    shown_count side image script (suc n)
    ∙ ap (λ k. next.frame * frame_bytes system + k) zero_bytes
    ∙ whole system next.frame
    ∙ ap (λ k. k * frame_bytes system) end.ended
