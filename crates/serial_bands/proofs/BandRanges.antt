-- Ranges of bands.
use Rattle.std.proofs.Common.{◌≡◌, ◌≤◌, ℕ, zero, suc, ◌+◌, ◌-◌, ◌*◌, Bool, true, false, if◌then◌else◌}
use Rattle.std.proofs.Common.{[], ◌++◌, length, ap, ◌∙◌, sym, subst, arith, bit_xor, length-append}
use Rattle.std.proofs.lemmas.List.{map-append, length-map}
use Rattle.ocs_base.specs.declared.system.System.{System}
use Rattle.serial_model.specs.declared.picture.Denise.{Denise}
use Rattle.ocs_base.specs.Systems.{is_visible}
use Rattle.serial_model.specs.Picture.{colour_bytes, step_of, shown_at, values_after, held_after}
use Rattle.serial_bands.specs.Run.{RunValue, beam_at}
use Rattle.serial_bands.specs.Clock.{bytes_at, picture_at}
use Rattle.serial_bands.specs.Bands.{AreBands}
use Rattle.serial_bands.specs.BandShown.{bytes_from, tinted_bytes}
use Rattle.serial_bands.specs.BandRanges.{TintOfTwo, LengthOfTint, BandsRise, BandsBegin, BandsAreAlone, BandsOfTwo, BytesOfBandsTinted, OpenIsBand, BytesRise}
use Rattle.serial_bands.proofs.NextClock.{bytes_are_of_step}
use Rattle.serial_bands.proofs.BandOrder.{one_band}
use Rattle.serial_bands.proofs.Ranges.{bytes_of_two}

pub tint_of_two : TintOfTwo
tint_of_two tint a b = map-append (λ (byte : ℕ). bit_xor byte tint) a b

pub length_of_tint : LengthOfTint
length_of_tint tint a = length-map a (λ (byte : ℕ). bit_xor byte tint)

pub bands_rise : BandsRise
bands_rise run n zero from to bands = omega (arith, bands)
bands_rise run n (suc count) from to bands = omega (arith, bands.1.order, bands_rise run (n + 1) count bands.0 to bands.2)

pub bands_begin : BandsBegin
bands_begin run n zero from to bands some = absurd (omega (arith, some))
bands_begin run n (suc count) from to bands some = bands.1.begin

-- one range alone
alone : (run : RunValue) (n count from to other end : ℕ) → AreBands run n (suc count) from to → AreBands run n (suc count) other end
    → (from ≡ other) × (to ≡ end)
alone run n zero from to other end bands twins =
    let one : (from ≡ other) × (bands.0 ≡ twins.0) = one_band run n from bands.0 other twins.0 bands.1 twins.1 in
    (one.0, sym bands.2 ∙ one.1 ∙ twins.2)
alone run n (suc count) from to other end bands twins =
    let one : (from ≡ other) × (bands.0 ≡ twins.0) = one_band run n from bands.0 other twins.0 bands.1 twins.1 in
    let rest : (bands.0 ≡ twins.0) × (to ≡ end) = alone run (n + 1) count bands.0 to twins.0 end bands.2 twins.2 in
    (one.0, rest.1)

pub bands_are_alone : BandsAreAlone
bands_are_alone run n zero from to other end some bands twins = absurd (omega (arith, some))
bands_are_alone run n (suc count) from to other end some bands twins = alone run n count from to other end bands twins

-- bands behind bands
none_first : (n : ℕ) → n + 0 ≡ n
none_first n = omega arith

none_behind : (more : ℕ) → more ≡ 0 + more
none_behind more = omega arith

moved : (n count : ℕ) → n + suc count ≡ n + 1 + count
moved n count = omega arith

counted : (count more : ℕ) → suc (count + more) ≡ suc count + more
counted count more = omega arith

pub bands_of_two : BandsOfTwo
bands_of_two run n zero more from middle to first second =
    subst (λ k. AreBands run n k from to) (none_behind more)
    (subst (λ k. AreBands run k more from to) (none_first n) (subst (λ a. AreBands run (n + 0) more a to) (sym first) second))
bands_of_two run n (suc count) more from middle to first second =
    subst (λ k. AreBands run n k from to) (counted count more) (
      first.0,
      first.1,
      bands_of_two run (n + 1) count more first.0 middle to first.2
          (subst (λ k. AreBands run k more middle to) (moved n count) second),
    )

-- their bytes
in_two : (run : RunValue) (first to end : ℕ) → first ≤ to → to ≤ end
    → bytes_from run first (to - first) ++ bytes_from run to (end - to) ≡ bytes_from run first (end - first)
in_two run first to end low high =
    let there : first + (to - first) ≡ to = omega (arith, low) in
    let whole : to - first + (end - to) ≡ end - first = omega (arith, low, high) in
    ap (λ c. bytes_from run first (to - first) ++ bytes_from run c (end - to)) (sym there)
    ∙ sym (bytes_of_two run first (to - first) (end - to))
    ∙ ap (λ n. bytes_from run first n) whole

pub bytes_of_bands_tinted : BytesOfBandsTinted
bytes_of_bands_tinted run tint first to end low high =
    sym (tint_of_two tint (bytes_from run first (to - first)) (bytes_from run to (end - to)))
    ∙ ap (λ bytes. tinted_bytes tint bytes) (in_two run first to end low high)

pub open_is_band : OpenIsBand
open_is_band run n from c beam opening events bytes chip open_band end = record {
  order = open_band.order;
  number = open_band.number;
  begin = open_band.begin;
  inner = open_band.inner;
  end = end;
  running = open_band.running;
}

-- at most four pixels
twelve : 12 ≤ 12
twelve = omega arith

none_at_all : 0 ≤ 12
none_at_all = omega arith

four_pixels : (seen : Bool) (a b c d : ℕ)
    → length (if seen then colour_bytes a ++ (colour_bytes b ++ (colour_bytes c ++ colour_bytes d)) else []) ≤ 12
four_pixels true a b c d = twelve
four_pixels false a b c d = none_at_all

of_step : (system : System) (v h : ℕ) (p : Denise) → length (step_of system v h p).bytes ≤ 12
unfolding step_of
of_step system v h p =
    let colour : ℕ → ℕ = λ n. shown_at v (4 * h + n) (values_after h n p) (held_after v h n p) p in
    four_pixels (is_visible system v h) (colour 0) (colour 1) (colour 2) (colour 3)

of_clock : (run : RunValue) (c : ℕ) → length (bytes_at run c) ≤ 12
of_clock run c =
    subst (λ bytes. length bytes ≤ 12) (sym (bytes_are_of_step run c))
    (of_step run.script.system (beam_at run c).v (beam_at run c).h (picture_at run c))

pub bytes_rise : BytesRise
unfolding bytes_from
bytes_rise run from zero = omega arith
bytes_rise run from (suc n) =
    omega (arith, length-append (bytes_from run from n) (bytes_at run (from + n)), bytes_rise run from n, of_clock run (from + n))
