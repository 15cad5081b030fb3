-- The frames of the clocks of a run.
use Rattle.std.proofs.Common.{◌≡◌, ℕ, zero, suc, ◌+◌, ◌-◌, ◌*◌, ◌<◌, ◌≤◌, ap, inl, inr, arith}
use Rattle.std.proofs.lemmas.Bool.{cases_eq}
use Rattle.ocs_base.specs.Systems.{last_clock}
use Rattle.ocs_base.specs.declared.beam.Beam.{Beam}
use Rattle.serial_model.specs.Beam.{IsOnScreen, place_of}
use Rattle.serial_model.specs.Serial.{state_over}
use Rattle.serial_model.proofs.BeamLaws.{IsNext}
use Rattle.serial_model.proofs.EndLaws.{tick-IsNext, on_screen}
use Rattle.serial_bands.specs.Run.{RunValue, state_of, beam_at}
use Rattle.serial_bands.proofs.LineClocks.{IsLater, clocks_on}

-- ---- the clocks of a line

-- the clocks before the next line are of the frame of the first of them
pub frames_to_line : (run : RunValue) (t limit k : ℕ) → (let b = beam_at run t in limit ≡ t + (last_clock run.script.system b.v - b.h) + 1)
    → t ≤ k → k < limit → (beam_at run k).frame ≤ (beam_at run t).frame
frames_to_line run t limit k is low high =
    elim (cases_eq k t) [
      | inl e ↦ at_first e
      | inr other ↦ behind other
    ]
  where
    at_first : k ≡ t → (beam_at run k).frame ≤ (beam_at run t).frame
    at_first e = let same : (beam_at run k).frame ≡ (beam_at run t).frame = ap (λ n. (beam_at run n).frame) e in omega (arith, same)

    few : (h last : ℕ) → limit ≡ t + (last - h) + 1 → t < k → (k - t) + h ≤ last
    few h last is more = omega (arith, is, more, high)

    behind : (k ≡ t → ⊥) → (beam_at run k).frame ≤ (beam_at run t).frame
    behind other =
        let more : t < k = omega (arith, low, other) in
        let on : IsLater (beam_at run t) (beam_at run k) (k - t) = clocks_on run t (k - t) k (omega (arith, low)) (few _ _ is more) in
        let same : (beam_at run k).frame ≡ (beam_at run t).frame = on.frame in
        omega (arith, same)

-- ---- one clock

next_clock : (run : RunValue) (c : ℕ) → IsNext (beam_at run c) (beam_at run (suc c))
unfolding state_over
next_clock run c = tick-IsNext run.script.system run.script.events (state_of run c) (on_screen run.side run.image run.script c)

-- behind clocks of no later frame than one comes that frame or the next
pub next_frame : (run : RunValue) (t c frame : ℕ) → t < c → ((k : ℕ) → t ≤ k → k < c → (beam_at run k).frame ≤ frame)
    → (beam_at run c).frame ≤ frame + 1
next_frame run t zero frame more low = absurd (omega (arith, more))
next_frame run t (suc c) frame more low =
    let before : (beam_at run c).frame ≤ frame = low c (omega (arith, more)) (omega arith) in
    let one : (beam_at run (suc c)).frame ≤ (beam_at run c).frame + 1 = (next_clock run c).one in
    omega (arith, before, one)

-- the places before a frame's first bound the clocks up to it
pub few_places : (b : Beam) (frame : ℕ) → IsOnScreen b → b.frame < frame → place_of b < frame * 71364
few_places b frame on before = grind (arith, on.line, on.clock, before)
