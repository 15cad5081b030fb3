-- The clocks of a line of a run, by the place of the beam at one of them.
use Rattle.std.proofs.Common.{◌≡◌, ℕ, zero, suc, ◌+◌, ◌<◌, ◌≤◌, ◌%◌, ◌==◌, if◌then◌else◌, Bool, true, false, sym, ap, subst, ◌∙◌, arith}
use Rattle.std.proofs.lemmas.Bool.Decides.{nat_tests}
use Rattle.ocs_base.specs.Systems.{last_clock}
use Rattle.ocs_base.specs.declared.beam.Beam.{Beam}
use Rattle.ocs_base.specs.declared.system.System.{System}
use Rattle.ocs_base.specs.declared.system.System.TheVariants.{Pal, Ntsc}
use Rattle.serial_model.specs.Beam.{next_place}
use Rattle.serial_model.specs.Registers.{is_interlaced}
use Rattle.serial_model.specs.Serial.{state_over}
use Rattle.serial_model.specs.State.{State}
use Rattle.serial_model.specs.Tick.{before_access, make_access, tick}
use Rattle.serial_model.proofs.NextLaws.{beam_next}
use Rattle.serial_bands.specs.Run.{RunValue, state_of, beam_at}

-- a place of the same line of the same frame, so many clocks on
pub record IsLater (b later : Beam) (k : ℕ) : Type 0 where
  pub frame : later.frame ≡ b.frame
  pub line : later.v ≡ b.v
  pub clock : later.h ≡ k + b.h

next_in_line : (system : System) (lace : Bool) (b : Beam) → b.h < last_clock system b.v → IsLater b (next_place system lace b) 1
next_in_line system lace b inner = record {
  frame = grind (arith, nat_tests, inner);
  line = grind (arith, nat_tests, inner);
  clock = grind (arith, nat_tests, inner);
}

pub clocks_on : (run : RunValue) (t k c : ℕ) → c ≡ k + t → k + (beam_at run t).h ≤ last_clock run.script.system (beam_at run t).v
    → IsLater (beam_at run t) (beam_at run c) k
unfolding state_over
clocks_on run t zero c is within =
    let same : c ≡ t = omega (arith, is) in
    record {
      frame = ap (λ n. (beam_at run n).frame) same;
      line = ap (λ n. (beam_at run n).v) same;
      clock = ap (λ n. (beam_at run n).h) same ∙ none (beam_at run t).h;
    }
  where
    none : (h : ℕ) → h ≡ 0 + h
    none h = omega arith
clocks_on run t (suc k) zero is within = absurd (omega (arith, is))
clocks_on run t (suc k) (suc c) is within =
    let first : Beam = beam_at run t in
    let s : State = state_of run c in
    let system : System = run.script.system in
    let before : IsLater first s.beam k = clocks_on run t k c (omega (arith, is)) (omega (arith, within)) in
    let b : State = make_access (before_access system run.script.events s) in
    let lace : Bool = is_interlaced b.chips.registers in
    let place : Beam = record s.beam { lof = b.beam.lof } in
    let here : (tick system run.script.events s).beam ≡ next_place system lace place = beam_next system run.script.events s in
    let inner : s.beam.h < last_clock system s.beam.v =
    subst (λ v. s.beam.h < last_clock system v) (sym before.line) (omega (arith, before.clock, within)) in
    let next : IsLater place (next_place system lace place) 1 = next_in_line system lace place inner in
    record {
      frame = ap (λ (x : Beam). x.frame) here ∙ next.frame ∙ before.frame;
      line = ap (λ (x : Beam). x.v) here ∙ next.line ∙ before.line;
      clock = ap (λ (x : Beam). x.h) here ∙ next.clock ∙ one_more s.beam.h first.h before.clock;
    }
  where
    one_more : (h first : ℕ) → h ≡ k + first → 1 + h ≡ suc k + first
    one_more h first is = omega (arith, is)

-- the shortest line's last clock
pub least_last : (system : System) (v : ℕ) → 226 ≤ last_clock system v
least_last Pal v = omega arith
least_last Ntsc v = by_parity (v % 2 == 1)
  where
    by_parity : (odd : Bool) → 226 ≤ (if odd then 227 else 226)
    by_parity true = omega arith
    by_parity false = omega arith
