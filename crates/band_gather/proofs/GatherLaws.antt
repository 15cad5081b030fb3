-- Gathering band by band.
use Rattle.std.proofs.Common.{◌≡◌, ◌≤◌, ◌<◌, ◌↔◌, ℕ, zero, suc, ◌+◌, ◌-◌, List, [], ◌∷◌, ◌++◌, length, drop, bit_or, Option, Some}
use Rattle.std.proofs.Common.{None, IsSome, is_some, true, false, refl, sym, ap, ◌∙◌, subst, arith, append_assoc, add-one, length-drop}
use Rattle.out_files.specs.OutFiles.{OutFilesValue}
use Rattle.serial_model.specs.declared.picture.Denise.{Denise}
use Rattle.serial_model.specs.Side.{SideValue}
use Rattle.serial_bands.specs.Run.{RunValue}
use Rattle.serial_bands.specs.Bands.{IsBand, AreBands}
use Rattle.serial_bands.specs.BandShown.{bytes_from, clx_from, tinted_bytes}
use Rattle.serial_bands.proofs.Ors.{or_none}
use Rattle.serial_bands.proofs.BandRanges.{bytes_of_bands_tinted}
use Rattle.serial_bands.proofs.Gathering.{clx_of_range}
use Rattle.serial_bands.proofs.BandOrder.{one_band, bands_order, one_band_more}
use Rattle.band_log.specs.declared.job.Drawn.{Drawn}
use Rattle.band_log.specs.Right.{IsRightFor}
use Rattle.band_log.specs.Raster.{RasterValue, Outstanding, Takes, IsRightForFirst, with_submitted, without_first}
use Rattle.out_files.specs.Gives.{Gives}
use Rattle.band_gather.specs.Gathered.{outstanding_from, Fits, KeepsMark, tinted_range, HasGathered, HasGatheredPart}
use Rattle.picture_log.specs.Closing.{IsClosing}
use Rattle.band_gather.specs.Gathered.{HasGatheredOne, HasGatheredTo, GathersOne, GathersSome, GathersUpTo, GathersAll, GathersPart, Submits}
use Rattle.out_files.proofs.GivesLaws.{gives_nothing, gives_then}

-- a range without clocks
no_length : (first : ℕ) → first - first ≡ 0
no_length first = omega arith

pub no_bytes : (run : RunValue) (tint first : ℕ) → tinted_range run tint first first ≡ []
unfolding bytes_from
no_bytes run tint first = ap (λ k. tinted_bytes tint (bytes_from run first k)) (no_length first)

pub no_bits : (run : RunValue) (clx first : ℕ) → clx ≡ bit_or clx (clx_from run first (first - first))
unfolding clx_from
no_bits run clx first = sym (ap (λ k. bit_or clx (clx_from run first k)) (no_length first) ∙ or_none clx)

-- the outstanding bands

length-outstanding_from : (run : RunValue) (n count : ℕ) → length (outstanding_from run n count) ≡ count
length-outstanding_from run n zero = refl
length-outstanding_from run n (suc count) = ap suc (length-outstanding_from run (n + 1) count)

outstanding_from-more : (run : RunValue) (n count number : ℕ) → n + count ≡ number →
    outstanding_from run n count ++ record { run = run; number = number } ∷ [] ≡ outstanding_from run n (suc count)
outstanding_from-more run n zero number sum =
    let same : number ≡ n = omega (arith, sum) in
    ap (λ (k : ℕ). record { run = run; number = k } ∷ []) same
outstanding_from-more run n (suc count) number sum =
    let later : n + 1 + count ≡ number = omega (arith, sum) in
    ap (λ (bands : List Outstanding). record { run = run; number = n } ∷ bands) (outstanding_from-more run (n + 1) count number later)

pub few_outstanding : (run : RunValue) (number to first : ℕ) (seen : RasterValue) → Fits run number to first seen → length seen.outstanding ≤ 16
few_outstanding run number to first seen fits =
    let size : length seen.outstanding ≡ fits.count = ap length fits.outstanding ∙ length-outstanding_from run fits.least fits.count in
    omega (arith, size, fits.few)

-- a raster without bands fits a run of whose bands all before the next were gathered
pub fits_begin : (run : RunValue) (number to : ℕ) (seen : RasterValue) → seen.outstanding ≡ [] → seen.next ≡ number → Takes seen.bound run →
    Fits run number to to seen
fits_begin run number to seen none next bound = record {
  least = number;
  count = 0;
  few = omega arith;
  outstanding = none;
  bands = refl;
  next = next;
  sum = omega arith;
  bound = bound;
}

-- where none is outstanding, all up to the next band were gathered
all_bands : (run : RunValue) (least count first to : ℕ) (outstanding : List Outstanding) → outstanding ≡ outstanding_from run least count →
    AreBands run least count first to → outstanding ≡ [] → first ≡ to
all_bands run least zero first to outstanding same bands none = bands
all_bands run least (suc count) first to outstanding same bands none = absurd (omega (arith, ap length (sym none ∙ same)))

pub fits_none : (run : RunValue) (number to first : ℕ) (seen : RasterValue) → Fits run number to first seen → seen.outstanding ≡ [] → first ≡ to
fits_none run number to first seen fits none = all_bands run fits.least fits.count first to seen.outstanding fits.outstanding fits.bands none

-- the first outstanding band, and the raster without it
record HasFirst (run : RunValue) (number to first : ℕ) (seen : RasterValue) : Type 0 where
  least : ℕ
  then : ℕ
  band : IsBand run least first then
  fits : Fits run number to then (without_first seen)
  rest : List Outstanding
  ahead : seen.outstanding ≡ record { run = run; number = least } ∷ rest

first_of : (run : RunValue) (number to first : ℕ) (seen : RasterValue) (least count : ℕ) → count ≤ 16 →
    seen.outstanding ≡ outstanding_from run least count → AreBands run least count first to → seen.next ≡ number → least + count ≡ number →
    Takes seen.bound run → 0 < length seen.outstanding → HasFirst run number to first seen
first_of run number to first seen least zero few outstanding bands next sum bound some = absurd (omega (arith, ap length outstanding, some))
first_of run number to first seen least (suc count) few outstanding bands next sum bound some = record {
  least = least;
  then = bands.0;
  band = bands.1;
  fits = record {
    least = least + 1;
    count = count;
    few = omega (arith, few);
    outstanding = ap (λ (l : List Outstanding). drop 1 l) outstanding;
    bands = bands.2;
    next = next;
    sum = omega (arith, sum);
    bound = bound;
  };
  rest = outstanding_from run (least + 1) count;
  ahead = outstanding;
}

first_of_fits : (run : RunValue) (number to first : ℕ) (seen : RasterValue) → 0 < length seen.outstanding → Fits run number to first seen →
    HasFirst run number to first seen
first_of_fits run number to first seen some fits =
    first_of run number to first seen fits.least fits.count fits.few fits.outstanding fits.bands fits.next fits.sum fits.bound some

-- a range that is another by equations
range_moved : (run : RunValue) (tint from to first then : ℕ) → from ≡ first → to ≡ then → tinted_range run tint from to ≡ tinted_range run tint first then
range_moved run tint from to first then same alike =
    ap (λ k. tinted_range run tint k to) same ∙ ap (λ k. tinted_range run tint first k) alike

bits_moved : (run : RunValue) (from to first then : ℕ) → from ≡ first → to ≡ then → clx_from run from (to - from) ≡ clx_from run first (then - first)
bits_moved run from to first then same alike =
    ap (λ k. clx_from run k (to - k)) same ∙ ap (λ k. clx_from run first (k - first)) alike

marks_stay : (seen after : RasterValue) → after ≡ without_first seen → KeepsMark seen after
marks_stay seen after taken = record {
  bound = ap (λ (r : RasterValue). r.bound) taken;
  mark = ap (λ (r : RasterValue). r.mark) taken;
  tint = ap (λ (r : RasterValue). r.tint) taken;
}

-- the first band was collected, and its pixels and bits were given
pub gathers_one : (seen after : RasterValue) (old new : OutFilesValue) (clx gathered : ℕ) {S : Type 0} (side_of : S → SideValue) (drawn : Drawn S) → 0 < length
    seen.outstanding →
    after ≡ without_first seen → IsRightForFirst side_of seen.tint seen.outstanding drawn → Gives old new drawn.job.room [] → gathered ≡ bit_or clx drawn.clx →
    GathersOne seen after old new clx gathered drawn.job.picture
gathers_one seen after old new clx gathered side_of drawn some taken right gives ored run number to first fits =
    let one : HasFirst run number to first seen = first_of_fits run number to first seen some fits in
    let for : IsRightFor side_of seen.tint run one.least drawn =
    subst (λ (l : List Outstanding). IsRightForFirst side_of seen.tint l drawn) one.ahead right in
    let place : (drawn.job.from.0 ≡ first) × (drawn.job.to.0 ≡ one.then) =
    one_band run one.least drawn.job.from.0 drawn.job.to.0 first one.then for.shown.band one.band
    in
    let bytes : drawn.job.room ≡ tinted_range run seen.tint first one.then =
    for.shown.bytes ∙ range_moved run seen.tint drawn.job.from.0 drawn.job.to.0 first one.then place.0 place.1
    in
    record {
      then = one.then;
      grows = one.band.order;
      bands = record {
        least = omega (arith, one.band.order);
        most = bands_order run one.fits.least one.fits.count one.then to one.fits.bands;
        fits = subst (λ (r : RasterValue). Fits run number to one.then r) (sym taken) one.fits;
        mark = marks_stay seen after taken;
        pixels = subst (λ (l : List ℕ). Gives old new l []) bytes gives;
        bits =
            ored
            ∙ ap (λ k. bit_or clx k) (for.shown.bits ∙ bits_moved run drawn.job.from.0 drawn.job.to.0 first one.then place.0 place.1);
      };
      closes = subst (λ k. IsClosing run k drawn.job.picture) place.1 for.shown.stands;
    }

-- the first band was collected, and its pixels were refused
pub gathers_no_pixels : (seen after : RasterValue) (old new : OutFilesValue) → 0 < length seen.outstanding → after ≡ without_first seen → new ≡ old →
    GathersPart seen after old new
gathers_no_pixels seen after old new some taken same run number to first fits =
    let one : HasFirst run number to first seen = first_of_fits run number to first seen some fits in
    record {
      then = one.then;
      least = omega (arith, one.band.order);
      most = bands_order run one.fits.least one.fits.count one.then to one.fits.bands;
      fits = subst (λ (r : RasterValue). Fits run number to one.then r) (sym taken) one.fits;
      mark = marks_stay seen after taken;
      part = [];
      rest = tinted_range run seen.tint first one.then;
      split = refl;
      pixels = subst (λ (o : OutFilesValue). Gives old o [] []) (sym same) (gives_nothing old);
    }

-- nothing was gathered
pub gathered_nothing : (run : RunValue) (number to first : ℕ) (seen : RasterValue) (out : OutFilesValue) (clx : ℕ) → Fits run number to first seen →
    HasGathered run number to first first seen seen out out clx clx
gathered_nothing run number to first seen out clx fits = record {
  least = omega arith;
  most = bands_order run fits.least fits.count first to fits.bands;
  fits = fits;
  mark = record { bound = refl; mark = refl; tint = refl };
  pixels = subst (λ (l : List ℕ). Gives out out l []) (sym (no_bytes run seen.tint first)) (gives_nothing out);
  bits = no_bits run clx first;
}

marks_then : (seen between after : RasterValue) → KeepsMark seen between → KeepsMark between after → KeepsMark seen after
marks_then seen between after first second = record {
  bound = second.bound ∙ first.bound;
  mark = second.mark ∙ first.mark;
  tint = second.tint ∙ first.tint;
}

-- bands were gathered, and then more of them
pub gathered_then : (run : RunValue) (number to first mid then : ℕ) (seen between after : RasterValue) (old out new : OutFilesValue)
    (clx so_far gathered : ℕ) → HasGathered run number to first mid seen between old out clx so_far →
    HasGathered run number to mid then between after out new so_far gathered → HasGathered run number to first then seen after old new clx gathered
gathered_then run number to first mid then seen between after old out new clx so_far gathered one two =
    let bytes : tinted_range run seen.tint first mid ++ tinted_range run between.tint mid then ≡ tinted_range run seen.tint first then =
    ap (λ k. tinted_range run seen.tint first mid ++ tinted_range run k mid then) one.mark.tint
    ∙ bytes_of_bands_tinted run seen.tint first mid then one.least two.least
    in
    record {
      least = omega (arith, one.least, two.least);
      most = two.most;
      fits = two.fits;
      mark = marks_then seen between after one.mark two.mark;
      pixels =
          subst (λ (l : List ℕ). Gives old new l []) bytes
          (gives_then old out new (tinted_range run seen.tint first mid) (tinted_range run between.tint mid then) [] [] one.pixels two.pixels);
      bits =
          two.bits
          ∙ ap (λ k. bit_or k (clx_from run mid (then - mid))) one.bits
          ∙ clx_of_range run clx first mid then one.least two.least;
    }

-- bands were gathered, and then a part of more
pub part_then : (run : RunValue) (number to first mid : ℕ) (seen between after : RasterValue) (old out new : OutFilesValue) (clx so_far : ℕ) →
    HasGathered run number to first mid seen between old out clx so_far → HasGatheredPart run number to mid between after out new →
    HasGatheredPart run number to first seen after old new
part_then run number to first mid seen between after old out new clx so_far one two =
    let bytes : tinted_range run seen.tint first mid ++ tinted_range run between.tint mid two.then ≡ tinted_range run seen.tint first two.then =
    ap (λ k. tinted_range run seen.tint first mid ++ tinted_range run k mid two.then) one.mark.tint
    ∙ bytes_of_bands_tinted run seen.tint first mid two.then one.least two.least
    in
    record {
      then = two.then;
      least = omega (arith, one.least, two.least);
      most = two.most;
      fits = two.fits;
      mark = marks_then seen between after one.mark two.mark;
      part = tinted_range run seen.tint first mid ++ two.part;
      rest = two.rest;
      split =
          append_assoc (tinted_range run seen.tint first mid) two.part two.rest
          ∙ ap (λ (l : List ℕ). tinted_range run seen.tint first mid ++ l) two.split
          ∙ bytes;
      pixels = gives_then old out new (tinted_range run seen.tint first mid) two.part [] [] one.pixels two.pixels;
    }

no_some : false ≡ true → ⊥
no_some wrong = cc

-- there is a last band where the range is not empty, and no other
none_between : (first : ℕ) (last : Option Denise) → last ≡ None → IsSome last ↔ (first < first)
none_between first None none = (λ some. absurd (no_some some), λ wrong. absurd (omega (arith, wrong)))
none_between first (Some closing) none = absurd (no_some (sym (ap is_some none)))

some_between : (first then : ℕ) (closing : Denise) → first < then → IsSome (Some closing) ↔ (first < then)
some_between first then closing rises = (λ some. rises, λ more. refl)

-- so far nothing was gathered
pub up_to_nothing : (seen : RasterValue) (out : OutFilesValue) (clx : ℕ) → GathersUpTo seen seen out out clx clx None
up_to_nothing seen out clx run number to first fits = (
  first,
  record {
    bands = gathered_nothing run number to first seen out clx fits;
    any = none_between first None refl;
    closes = tt;
  },
)

-- and one band more
pub up_to_more : (seen between after : RasterValue) (old out new : OutFilesValue) (clx so_far gathered : ℕ) (last : Option Denise) (closing : Denise) →
    GathersUpTo seen between old out clx so_far last → GathersOne between after out new so_far gathered closing →
    GathersUpTo seen after old new clx gathered (Some closing)
up_to_more seen between after old out new clx so_far gathered last closing up_to one run number to first fits =
    let before : (mid : ℕ) × HasGatheredTo run number to first mid seen between old out clx so_far last = up_to run number to first fits in
    let next : HasGatheredOne run number to before.0 between after out new so_far gathered closing = one run number to before.0 before.1.bands.fits in
    let rises : first < next.then = omega (arith, before.1.bands.least, next.grows) in (
      next.then,
      record {
        bands =
            gathered_then run number to first before.0 next.then seen between after old out new clx so_far gathered before.1.bands next.bands;
        any = some_between first next.then closing rises;
        closes = next.closes;
      },
    )

pub up_to_part : (seen between after : RasterValue) (old out new : OutFilesValue) (clx so_far : ℕ) (last : Option Denise) →
    GathersUpTo seen between old out clx so_far last → GathersPart between after out new → GathersPart seen after old new
up_to_part seen between after old out new clx so_far last up_to part run number to first fits =
    let before : (mid : ℕ) × HasGatheredTo run number to first mid seen between old out clx so_far last = up_to run number to first fits in
    part_then run number to first before.0 seen between after old out new clx so_far before.1.bands
    (part run number to before.0 before.1.bands.fits)

pub up_to_all : (seen after : RasterValue) (old new : OutFilesValue) (clx gathered : ℕ) (last : Option Denise) →
    GathersUpTo seen after old new clx gathered last → after.outstanding ≡ [] → GathersAll seen after old new clx gathered last
up_to_all seen after old new clx gathered last up_to none run number to first fits =
    let before : (mid : ℕ) × HasGatheredTo run number to first mid seen after old new clx gathered last = up_to run number to first fits in
    subst (λ k. HasGatheredTo run number to first k seen after old new clx gathered last) (fits_none run number to before.0 after before.1.bands.fits none)
    before.1

-- at most one band is gathered
pub some_nothing : (seen : RasterValue) (out : OutFilesValue) (clx : ℕ) → GathersSome seen seen out out clx clx
some_nothing seen out clx run number to first fits = (first, gathered_nothing run number to first seen out clx fits)

pub some_one : (seen after : RasterValue) (old new : OutFilesValue) (clx gathered : ℕ) (closing : Denise) →
    GathersOne seen after old new clx gathered closing → GathersSome seen after old new clx gathered
some_one seen after old new clx gathered closing one run number to first fits =
    let next : HasGatheredOne run number to first seen after old new clx gathered closing = one run number to first fits in
    (next.then, next.bands)

pub fewer_without_first : (seen after : RasterValue) → after ≡ without_first seen → 0 < length seen.outstanding →
    length after.outstanding + 1 ≡ length seen.outstanding
fewer_without_first seen after taken some =
    let fewer : length after.outstanding ≡ length (drop 1 seen.outstanding) = ap (λ (r : RasterValue). length r.outstanding) taken in
    omega (arith, fewer, length-drop 1 seen.outstanding, some)

-- the job of the next band was submitted
fits_more : (run : RunValue) (number from to first : ℕ) (seen : RasterValue) → Fits run number from first seen → length seen.outstanding < 16 →
    IsBand run number from to → Fits run (number + 1) to first (with_submitted run number seen)
fits_more run number from to first seen fits few band =
    let size : length seen.outstanding ≡ fits.count = ap length fits.outstanding ∙ length-outstanding_from run fits.least fits.count in
    record {
      least = fits.least;
      count = fits.count + 1;
      few = omega (arith, size, few);
      outstanding =
          ap (λ (l : List Outstanding). l ++ record { run = run; number = number } ∷ []) fits.outstanding
          ∙ outstanding_from-more run fits.least fits.count number fits.sum
          ∙ ap (λ k. outstanding_from run fits.least k) (sym (add-one fits.count));
      bands =
          one_band_more run fits.least fits.count first from to fits.bands (subst (λ k. IsBand run k from to) (sym fits.sum) band);
      next = ap (λ k. k + 1) fits.next;
      sum = omega (arith, fits.sum);
      bound = fits.bound;
    }

pub submits : (run : RunValue) (number from to : ℕ) (seen between after : RasterValue) (old new : OutFilesValue) (clx gathered : ℕ) →
    GathersSome seen between old new clx gathered → length between.outstanding < 16 → IsBand run number from to →
    after ≡ with_submitted run number between → Submits run number from to seen after old new clx gathered
submits run number from to seen between after old new clx gathered gathers few band one_more first fits =
    let before : (mid : ℕ) × HasGathered run number from first mid seen between old new clx gathered = gathers run number from first fits in
    record {
      then = before.0;
      before = before.1.most;
      bands = record {
        least = before.1.least;
        most = omega (arith, before.1.most, band.order);
        fits =
            subst (λ (r : RasterValue). Fits run (number + 1) to before.0 r) (sym one_more)
            (fits_more run number from to before.0 between before.1.fits few band);
        mark = record {
          bound = ap (λ (r : RasterValue). r.bound) one_more ∙ before.1.mark.bound;
          mark = ap (λ (r : RasterValue). r.mark) one_more ∙ before.1.mark.mark;
          tint = ap (λ (r : RasterValue). r.tint) one_more ∙ before.1.mark.tint;
        };
        pixels = before.1.pixels;
        bits = before.1.bits;
      };
    }
