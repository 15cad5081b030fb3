use Rattle.std.proofs.Common.{◌≡◌, ◌<◌, ◌∙◌, ℕ, List, length, slice_index, refl, sym, ap, arith}
use Rattle.std.proofs.Math.ListN.{length-set}
use Rattle.std.proofs.lemmas.List.{ext_get_or, length-replicate}
use Rattle.painter.specs.Inks.{InkRegisters, black}
use Rattle.plane_rows.proofs.KeptLoads.{one_written}
use Rattle.painter.proofs.inks.Inks.of_registers.Goals as goal

-- all registers are taken over
same_registers : (inks : InkRegisters) (palette : List ℕ) (con0 con2 : ℕ) → inks.palette ≡ palette → inks.con0 ≡ con0 → inks.con2 ≡ con2
    → inks ≡ record { palette = palette; con0 = con0; con2 = con2 }
same_registers inks palette con0 con2 one two three =
    ap (λ (l : List ℕ). record inks { palette = l }) one
    ∙ ap (λ (k : ℕ). record { palette = palette; con0 = k; con2 = inks.con2 }) two
    ∙ ap (λ (k : ℕ). record { palette = palette; con0 = con0; con2 = k }) three

pub loop-number-init : goal.loop-number-init
loop-number-init c =
    let reset : c.reset-inks.result ≡ black = c.reset-inks.ensures in
    record {
      long =
          ap (λ (i : InkRegisters). length i.palette) c.set_controls.ensures
          ∙ ap (λ (i : InkRegisters). length i.palette) reset
          ∙ length-replicate {A = ℕ} 32 0;
      taken = λ k below. absurd (omega (arith, below));
      con0 = ap (λ (i : InkRegisters). i.con0) c.set_controls.ensures;
      con2 = ap (λ (i : InkRegisters). i.con2) c.set_controls.ensures;
    }

pub loop-number-preserved : goal.loop-number-preserved
loop-number-preserved c =
    let put = c.put_colour.ensures in
    let n : ℕ = c.loop-number.number in
    let now : List ℕ = c.loop-number.inks.palette in
    let word : ℕ = slice_index c.args.palette.now n in
    let within : n < length now = omega (arith, c.loop-number.invariant.long, c.loop-number-test.true) in
    record {
      long =
          ap (λ (i : InkRegisters). length i.palette) put ∙ length-set now n word ∙ c.loop-number.invariant.long;
      taken = λ k below.
          ap (λ (i : InkRegisters). slice_index i.palette k) put
          ∙ one_written (λ (m : ℕ). slice_index c.args.palette.now m) now n word k within refl (c.loop-number.invariant.taken k) below;
      con0 = ap (λ (i : InkRegisters). i.con0) put ∙ c.loop-number.invariant.con0;
      con2 = ap (λ (i : InkRegisters). i.con2) put ∙ c.loop-number.invariant.con2;
    }

pub returns : goal.returns
returns c =
    let last : c.loop-number.number ≡ 32 = omega (arith, c.loop-number-test.false, c.loop-number.auto.number-end) in
    let long : length c.loop-number.inks.palette ≡ length c.args.palette.now = c.loop-number.invariant.long ∙ sym c.told-palette in
    same_registers c.loop-number.inks c.args.palette.now c.args.con0 c.args.con2
    (ext_get_or 0 c.loop-number.inks.palette c.args.palette.now long
    (λ k below. c.loop-number.invariant.taken k (omega (arith, below, last, c.loop-number.invariant.long))))
    c.loop-number.invariant.con0 c.loop-number.invariant.con2
