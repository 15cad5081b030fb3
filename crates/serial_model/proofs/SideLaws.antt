-- A side that fits a size of chip memory, and one that does nothing for some clocks.
use Rattle.std.proofs.Common.{◌≡◌, ℕ, zero, suc, ◌+◌, [], ◌∷◌, arith, refl, ap, ◌∙◌}
use Rattle.ocs_base.specs.declared.beam.Beam.{Beam}
use Rattle.serial_model.specs.Beam.{later_beam}
use Rattle.serial_model.specs.Side.{SideValue, tick_side, bits_of_side, ask_of_side, later_side, IsQuietSide, no_side}
use Rattle.serial_model.specs.Laws.{FitIsKept, AskOfFitIsBelow, NoneFitsEach, NoSideStays, NoSideIsQuiet, FewerOfQuietSide}

pub fit_is_kept : FitIsKept
fit_is_kept size happening side fits later b dmacon = fits (happening ∷ later) b dmacon

pub ask_of_fit_is_below : AskOfFitIsBelow
ask_of_fit_is_below size b dmacon side fits = fits [] b dmacon

pub none_fits_each : NoneFitsEach
none_fits_each size later b dmacon = tt

pub no_side_stays : NoSideStays
unfolding later_side
no_side_stays zero b dmacon = refl
no_side_stays (suc n) b dmacon = ap (λ (side : SideValue). tick_side (later_beam n b) dmacon side) (no_side_stays n b dmacon)

pub no_side_is_quiet : NoSideIsQuiet
no_side_is_quiet b dmacon n = record {
  bits = λ k low. ap (λ (side : SideValue). bits_of_side (later_beam k b) dmacon side) (no_side_stays k b dmacon);
  ask = λ k low. ap (λ (side : SideValue). ask_of_side (later_beam k b) dmacon side) (no_side_stays (suc k) b dmacon);
}

pub fewer_of_quiet_side : FewerOfQuietSide
fewer_of_quiet_side m n b dmacon side le quiet = record {
  bits = λ k low. quiet.bits k (omega (arith, le, low));
  ask = λ k low. quiet.ask k (omega (arith, le, low));
}

-- no tick, and one tick more
pub not_ticked : (b : Beam) (dmacon : ℕ) (side : SideValue) → side ≡ later_side 0 b dmacon side
unfolding later_side
not_ticked b dmacon side = refl

pub ticked_later : (n : ℕ) (b : Beam) (dmacon : ℕ) (old side next : SideValue) → side ≡ later_side n b dmacon old
    → next ≡ tick_side (later_beam n b) dmacon side → next ≡ later_side (n + 1) b dmacon old
unfolding later_side
ticked_later n b dmacon old side next is ticks =
    let e : suc n ≡ n + 1 = omega arith in
    ticks ∙ ap (λ (x : SideValue). tick_side (later_beam n b) dmacon x) is ∙ ap (λ k. later_side k b dmacon old) e
