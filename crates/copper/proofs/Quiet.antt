-- Lines on which a comparison never holds.
use Rattle.std.proofs.Common.{◌≡◌, ◌<◌, ℕ, ◌+◌, ◌*◌, ◌/◌, ◌%◌, Bool, true, false, not, ◌&&◌, ◌||◌, nat_le, bit_and, bit_or, arith, refl, ap, sym, subst, ◌∙◌}
use Rattle.std.proofs.lemmas.Bool.Decides.{nat_tests}
use Rattle.std.proofs.lemmas.Nat.{and_shr}
use Rattle.ocs_base.specs.declared.beam.Beam.{Beam}
use Rattle.serial_model.specs.Copper.{comparison_holds}

greater_by : (x y : ℕ) → x / 256 < y / 256 → nat_le y x ≡ false
greater_by x y less = grind (arith, nat_tests, less)

high_of_place : (v h : ℕ) → h < 256 → (256 * (v % 256) + 2 * (h / 2)) / 256 ≡ v % 256
high_of_place v h low = omega (arith, low)

not_met : (mask wanted v h : ℕ) → h < 256 → bit_and (v % 256) (mask / 256) < wanted / 256
    → nat_le wanted (bit_and (256 * (v % 256) + 2 * (h / 2)) mask) ≡ false
not_met mask wanted v h low less =
    let place : ℕ = 256 * (v % 256) + 2 * (h / 2) in
    let high : bit_and place mask / 256 ≡ bit_and (v % 256) (mask / 256) =
    and_shr place mask 8 ∙ ap (λ line. bit_and line (mask / 256)) (high_of_place v h low) in
    greater_by (bit_and place mask) wanted (subst (λ line. line < wanted / 256) (sym high) less)

pub never_by_line : (b : Beam) (busy : Bool) (first second : ℕ) → b.h < 256
    → bit_and (b.v % 256) (bit_or 32768 (bit_and second 0x7ffe) / 256) < bit_and (bit_and first 0xfffe) (bit_or 32768 (bit_and second 0x7ffe)) / 256
    → comparison_holds b busy first second ≡ false
never_by_line b busy first second low less =
    let mask : ℕ = bit_or 32768 (bit_and second 0x7ffe) in
    ap (λ met. met && (nat_le 32768 second || not busy)) (not_met mask (bit_and (bit_and first 0xfffe) mask) b.v b.h low less)

no_blitter : (met : Bool) (second : ℕ) (busy : Bool) → second < 32768 → busy ≡ true → (met && (nat_le 32768 second || not busy)) ≡ false
no_blitter true second busy low is = grind (arith, nat_tests, low, is)
no_blitter false second busy low is = refl

pub never_by_blitter : (b : Beam) (busy : Bool) (first second : ℕ) → second < 32768 → busy ≡ true → comparison_holds b busy first second ≡ false
never_by_blitter b busy first second low is = no_blitter _ second busy low is
