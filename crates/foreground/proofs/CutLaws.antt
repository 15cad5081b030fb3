-- What a band's end gives: the band is submitted, and outstanding bands are gathered.
use Rattle.std.proofs.Common.{◌≡◌, ◌≤◌, ◌<◌, ℕ, ◌+◌, ◌-◌, ◌^◌, min, [], Option, Some, None, IsSome, false, true, refl, sym, ap, ◌∙◌, subst, arith}
use Rattle.std.specs.Arc.{arc_value}
use Rattle.mem_versions.specs.Chip.{ChipValue, after_cut, after_reads}
use Rattle.out_files.specs.OutFiles.{OutFilesValue}
use Rattle.serial_model.specs.declared.picture.Denise.{Denise}
use Rattle.serial_model.specs.Side.{SideValue}
use Rattle.serial_bands.specs.Run.{RunValue, run_over}
use Rattle.serial_bands.specs.BusReads.{latched_words}
use Rattle.serial_bands.specs.Fetches.{fetches_in}
use Rattle.band_log.specs.declared.job.Job.{Job}
use Rattle.band_log.specs.Raster.{RasterValue}
use Rattle.picture_log.specs.Log.{IsLogOf, IsCut, IsJobOf, blank_after}
use Rattle.band_gather.specs.Gathered.{Fits, HasGathered, HasGatheredPart, HasGatheredTo, HasSubmitted, GathersAll, GathersPart, Submits}
use Rattle.picture_log.specs.Closing.{IsClosing, IsClockBefore}
use Rattle.foreground.specs.Clock.{AreLeftFrom, HasGiven, HasGivenPart, Rises}
use Rattle.foreground.specs.code.Cuts.{StandsBefore, HasEndedAll, EndsAtLine, EndsAtRead, EndsAll, EndsPart, EndsPartAtRead}
use Rattle.foreground.specs.Fore.{ForeValue}
use Rattle.picture_log.specs.declared.band.OpenBand.{OpenBand}
use Rattle.picture_log.specs.declared.log.Log.{Log}
use Rattle.picture_log.proofs.Cutting.{fetches_are_few, log_cuts}
use Rattle.out_files.proofs.GivesLaws.{gives_nothing}
use Rattle.band_gather.proofs.GatherLaws.{no_bytes, gathered_then, part_then}
use Rattle.foreground.proofs.LeftLaws.{left_from, IsBeginOf, ending_band, log_band}

-- what was given where bands were gathered, or nothing was
pub gives_none : (run : RunValue) (first : ℕ) (seen : RasterValue) (out : OutFilesValue) → HasGiven run first first seen seen out out []
gives_none run first seen out = record {
  least = omega arith;
  mark = record { bound = refl; mark = refl; tint = refl };
  text = rw (no_bytes run seen.tint first) (gives_nothing out);
}

pub gives_no_part : (run : RunValue) (first : ℕ) (seen : RasterValue) (out : OutFilesValue) → AreLeftFrom run first seen
    → HasGivenPart run first seen seen out out
gives_no_part run first seen out left = record {
  until = first;
  least = omega arith;
  left = left;
  mark = record { bound = refl; mark = refl; tint = refl };
  part = [];
  rest = [];
  lines = [];
  split = sym (no_bytes run seen.tint first);
  text = gives_nothing out;
}

pub gives_gathered : (run : RunValue) (number to first until : ℕ) (seen after : RasterValue) (old new : OutFilesValue) (clx gathered : ℕ) →
    HasGathered run number to first until seen after old new clx gathered → HasGiven run first until seen after old new []
gives_gathered run number to first until seen after old new clx gathered is =
    record { least = is.least; mark = is.mark; text = is.pixels }

pub gives_part : (run : RunValue) (number to first : ℕ) (seen after : RasterValue) (old new : OutFilesValue) →
    IsBeginOf run to number → HasGatheredPart run number to first seen after old new → HasGivenPart run first seen after old new
gives_part run number to first seen after old new place is = record {
  until = is.then;
  least = is.least;
  left = left_from run number to is.then after place is.fits;
  mark = is.mark;
  part = is.part;
  rest = is.rest;
  lines = [];
  split = is.split;
  text = is.pixels;
}

-- the job of the band that ends, submitted
submits_of : (run : RunValue) (band : OpenBand) (to : ℕ) {S : Type 0} (side_of : S → SideValue) (job : Job S) (seen after : RasterValue)
    (old new : OutFilesValue) (clx gathered : ℕ) →
    IsJobOf side_of run band to job → Submits (run_over side_of (arc_value job.run)) job.number job.from.0 job.to.0 seen after old new clx gathered →
    Submits run band.number band.from to seen after old new clx gathered
submits_of run band to side_of job seen after old new clx gathered is submits =
    subst (λ (k : ℕ). Submits run band.number band.from k seen after old new clx gathered) is.end
    (subst (λ (k : ℕ). Submits run band.number k job.to.0 seen after old new clx gathered) is.from
    (subst (λ (k : ℕ). Submits run k job.from.0 job.to.0 seen after old new clx gathered) is.right.numbered
    (subst (λ (r : RunValue). Submits r job.number job.from.0 job.to.0 seen after old new clx gathered) is.right.owner submits)))

-- memory was wanted: before the band was submitted, while it was, or when all were gathered
pub ends_no_part : (to : ℕ) (old : ForeValue) (seen : RasterValue) (out : OutFilesValue) → EndsPartAtRead to old seen seen out out
ends_no_part to old seen out first stands =
    gives_no_part old.run first seen out
    (left_from old.run old.log.band.number old.log.band.from first seen
    (ending_band old.run to old.log old.machine.chip stands.ending) stands.fits)

pub ends_submit_part : (to : ℕ) (old : ForeValue) (seen after : RasterValue) (out given : OutFilesValue) → GathersPart seen after out given →
    EndsPartAtRead to old seen after out given
ends_submit_part to old seen after out given part first stands =
    gives_part old.run old.log.band.number old.log.band.from first seen after out given
    (ending_band old.run to old.log old.machine.chip stands.ending)
    (part old.run old.log.band.number old.log.band.from first stands.fits)

pub ends_gather_part : (to : ℕ) (old : ForeValue) {S : Type 0} (side_of : S → SideValue) (job : Job S) (seen mid after : RasterValue)
    (out between given : OutFilesValue) (so_far : ℕ) →
    IsJobOf side_of old.run old.log.band to job →
    Submits (run_over side_of (arc_value job.run)) job.number job.from.0 job.to.0 seen mid out between old.clx so_far → GathersPart mid after between given →
    EndsPartAtRead to old seen after out given
ends_gather_part to old side_of job seen mid after out between given so_far is submits part first stands =
    let band : OpenBand = old.log.band in
    let sub : HasSubmitted old.run band.number band.from to first seen mid out between old.clx so_far =
    submits_of old.run band to side_of job seen mid out between old.clx so_far is submits first stands.fits in
    let cut : IsCut old.run to (record old.log { band = blank_after to band }) (after_cut old.machine.chip to) =
    log_cuts old.run to old.log old.machine.chip stands.ending in
    gives_part old.run (band.number + 1) to first seen after out given (cut.number, cut.begin)
    (part_then old.run (band.number + 1) to first sub.then seen mid after out between given old.clx so_far sub.bands
    (part old.run (band.number + 1) to sub.then sub.bands.fits))

pub line_no_part : (to : ℕ) (old : ForeValue) (seen : RasterValue) (out : OutFilesValue) → EndsPart to old seen seen out out
line_no_part to old seen out first stands =
    gives_no_part old.run first seen out
    (left_from old.run old.log.band.number old.log.band.from first seen
    (log_band old.run to old.log old.machine.chip stands.log) stands.fits)

pub line_submit_part : (to : ℕ) (old : ForeValue) (seen after : RasterValue) (out given : OutFilesValue) → GathersPart seen after out given →
    EndsPart to old seen after out given
line_submit_part to old seen after out given part first stands =
    gives_part old.run old.log.band.number old.log.band.from first seen after out given
    (log_band old.run to old.log old.machine.chip stands.log)
    (part old.run old.log.band.number old.log.band.from first stands.fits)

-- a foreground with another memory, log and collision bits
abbrev pub with_parts : ForeValue → ChipValue → Log → ℕ → ForeValue
with_parts old chip log clx = record old { machine = record old.machine { chip = chip }; log = log; clx = clx }

-- the band ended, and all bands were gathered
pub ends_all : (to : ℕ) (old : ForeValue) {S : Type 0} (side_of : S → SideValue) (job : Job S) (seen mid after : RasterValue)
    (out between given : OutFilesValue) (so_far gathered : ℕ)
    (closing : Option Denise) (log : Log) (chip : ChipValue) → IsJobOf side_of old.run old.log.band to job →
    Submits (run_over side_of (arc_value job.run)) job.number job.from.0 job.to.0 seen mid out between old.clx so_far →
    GathersAll mid after between given so_far gathered closing → IsCut old.run to log chip →
    log ≡ record old.log { band = blank_after to old.log.band } → chip ≡ after_cut old.machine.chip to →
    EndsAll to old (with_parts old chip log gathered) seen after out given closing
ends_all to old side_of job seen mid after out between given so_far gathered closing log chip is submits gathers cut blank after_it first stands =
    let band : OpenBand = old.log.band in
    let sub : HasSubmitted old.run band.number band.from to first seen mid out between old.clx so_far =
    submits_of old.run band to side_of job seen mid out between old.clx so_far is submits first stands.fits in
    let all : HasGatheredTo old.run (band.number + 1) to sub.then to mid after between given so_far gathered closing =
    gathers old.run (band.number + 1) to sub.then sub.bands.fits in
    let order : band.from < to = stands.ending.kept.order in
    let least : first ≤ sub.then = sub.bands.least in
    let before : sub.then ≤ band.from = sub.before in
    let rises : first < to = omega (arith, order, least, before) in
    let some : IsSome closing = all.any.1 (omega (arith, order, before)) in
    let number : log.band.number ≡ band.number + 1 = ap (λ (l : Log). l.band.number) blank in
    record {
      same = refl;
      words = ap (λ (c : ChipValue). c.words) after_it;
      time = (let newest : chip.newest ≡ to = ap (λ (c : ChipValue). c.newest) after_it in omega (arith, newest));
      cut = cut;
      some = some;
      gathered = subst (λ (k : ℕ). HasGatheredTo old.run k to first to seen after out given old.clx gathered closing) (sym number) (record {
        bands =
            gathered_then old.run (band.number + 1) to first sub.then to seen mid after out between given old.clx so_far gathered sub.bands all.bands;
        any = (λ here. rises, λ more. some);
        closes = all.closes;
      });
    }

-- and the next one opened
run_of : (to first : ℕ) (old new : ForeValue) (seen after : RasterValue) (out given : OutFilesValue) (closing : Option Denise) →
    HasEndedAll to first old new seen after out given closing → new.run ≡ old.run
run_of to first old new seen after out given closing is = ap (λ (f : ForeValue). f.run) is.same

pub ends_at_read : (to h : ℕ) (old mid : ForeValue) (seen after : RasterValue) (out given : OutFilesValue) (closing : Denise) (log : Log) →
    EndsAll to old mid seen after out given (Some closing) →
    ((run : RunValue) (at : ℕ) (chip : ChipValue) → IsCut run at mid.log chip → IsClosing run at closing → IsClockBefore run at h →
    IsLogOf run at log chip) →
    log.band.from ≡ mid.log.band.from → log.band.number ≡ mid.log.band.number → IsClockBefore old.run to h →
    EndsAtRead to old (record mid { log = log }) seen after out given
ends_at_read to h old mid seen after out given closing log ends opens from number clock first stands =
    let all : HasEndedAll to first old mid seen after out given (Some closing) = ends first stands in
    let run : old.run ≡ mid.run = sym (run_of to first old mid seen after out given (Some closing) all) in
    let here : log.band.from ≡ to = from ∙ all.cut.from in
    let fits : Fits old.run log.band.number to to after =
    subst (λ (k : ℕ). Fits old.run k to to after) (sym number) all.gathered.bands.fits in
    record {
      same = ap (λ (f : ForeValue). record f { log = log }) all.same;
      words = all.words;
      begin = here;
      stands = record {
        log = subst (λ (r : RunValue). IsLogOf r to log mid.machine.chip) run
            (opens old.run to mid.machine.chip all.cut all.gathered.closes clock);
        fits = subst (λ (r : RunValue). Fits r log.band.number log.band.from to after) run
            (subst (λ (k : ℕ). Fits old.run log.band.number k to after) (sym here) fits);
        time = all.time;
      };
      gives = gives_gathered old.run mid.log.band.number to first to seen after out given old.clx mid.clx all.gathered.bands;
      bits = all.gathered.bands.bits;
    }

no_some : false ≡ true → ⊥
no_some wrong = cc

pub ends_with_some : (to : ℕ) (old mid : ForeValue) (seen after : RasterValue) (out given : OutFilesValue) →
    EndsAll to old mid seen after out given None → EndsAtRead to old mid seen after out given
ends_with_some to old mid seen after out given ends first stands = absurd (no_some (ends first stands).some)

-- a line begins the next one
pub ends_at_line : (to : ℕ) (old : ForeValue) {S : Type 0} (side_of : S → SideValue) (job : Job S) (seen after : RasterValue) (out given : OutFilesValue)
    (gathered reads : ℕ)
    (log : Log) (chip : ChipValue) → IsJobOf side_of old.run old.log.band to job →
    Submits (run_over side_of (arc_value job.run)) job.number job.from.0 job.to.0 seen after out given old.clx gathered → IsLogOf old.run to log chip →
    log.band.from ≡ to → log.band.number ≡ old.log.band.number + 1 → chip ≡ after_reads (after_cut old.machine.chip to) reads →
    EndsAtLine to old (with_parts old chip log gathered) seen after out given
ends_at_line to old side_of job seen after out given gathered reads log chip is submits logged from number after_it first stands =
    let band : OpenBand = old.log.band in
    let sub : HasSubmitted old.run band.number band.from to first seen after out given old.clx gathered =
    submits_of old.run band to side_of job seen after out given old.clx gathered is submits first stands.fits in
    let fits : Fits old.run log.band.number to sub.then after =
    subst (λ (k : ℕ). Fits old.run k to sub.then after) (sym number) sub.bands.fits in (
      sub.then,
      record {
        same = refl;
        words = ap (λ (c : ChipValue). c.words) after_it;
        begin = from;
        stands = record {
          log = logged;
          fits = subst (λ (k : ℕ). Fits old.run log.band.number k sub.then after) (sym from) fits;
          time = (let newest : chip.newest ≡ to = ap (λ (c : ChipValue). c.newest) after_it in omega (arith, newest));
        };
        gives = gives_gathered old.run (band.number + 1) to first sub.then seen after out given old.clx gathered sub.bands;
        bits = sub.bands.bits;
      },
    )

-- counts of reads
pub rises_none : (most reads : ℕ) → Rises 0 most reads reads
rises_none most reads = record { least_rise = omega arith; most_rise = omega arith }

rises_by : (most count old new : ℕ) → new ≡ min (old + count) (2 ^ 64 - 1) → count ≤ most → Rises 0 most old new
rises_by most count old new is few = record { least_rise = omega (arith, is); most_rise = omega (arith, is, few) }

pub line_rises : (run : RunValue) (to : ℕ) (log : Log) (old new : ChipValue) → IsLogOf run to log old → log.band.from < to →
    new ≡ after_reads (after_cut old to) (fetches_in log.shadow) → Rises 0 (latched_words run log.band.from to) old.reads new.reads
line_rises run to log old new is before reads =
    rises_by (latched_words run log.band.from to) (fetches_in log.shadow) old.reads new.reads (ap (λ (c : ChipValue). c.reads) reads)
    (fetches_are_few run to log old is before)

-- the same where a foreground is seen as its fields are
pub ends_all_now : (to : ℕ) (old now : ForeValue) {S : Type 0} (side_of : S → SideValue) (job : Job S) (seen mid after : RasterValue)
    (out between given : OutFilesValue) (so_far gathered : ℕ)
    (closing : Option Denise) (log : Log) (chip : ChipValue) → old ≡ now → IsJobOf side_of old.run old.log.band to job →
    Submits (run_over side_of (arc_value job.run)) job.number job.from.0 job.to.0 seen mid out between old.clx so_far →
    GathersAll mid after between given so_far gathered closing → IsCut old.run to log chip →
    log ≡ record old.log { band = blank_after to old.log.band } → chip ≡ after_cut old.machine.chip to →
    EndsAll to now (with_parts old chip log gathered) seen after out given closing
ends_all_now to old now side_of job seen mid after out between given so_far gathered closing log chip same is submits gathers cut blank after_it =
    subst (λ (o : ForeValue). EndsAll to o (with_parts old chip log gathered) seen after out given closing) same
    (ends_all to old side_of job seen mid after out between given so_far gathered closing log chip is submits gathers cut blank after_it)

pub ends_at_line_now : (old now : ForeValue) {S : Type 0} (side_of : S → SideValue) (job : Job S) (seen after : RasterValue) (out given : OutFilesValue)
    (gathered reads : ℕ)
    (log : Log) (chip : ChipValue) → old ≡ now → IsJobOf side_of old.run old.log.band old.machine.t job →
    Submits (run_over side_of (arc_value job.run)) job.number job.from.0 job.to.0 seen after out given old.clx gathered → IsLogOf old.run old.machine.t log
    chip →
    log.band.from ≡ old.machine.t → log.band.number ≡ old.log.band.number + 1 →
    chip ≡ after_reads (after_cut old.machine.chip old.machine.t) reads →
    EndsAtLine now.machine.t now (with_parts old chip log gathered) seen after out given
ends_at_line_now old now side_of job seen after out given gathered reads log chip same is submits logged from number after_it =
    subst (λ (o : ForeValue). EndsAtLine o.machine.t o (with_parts old chip log gathered) seen after out given) same
    (ends_at_line old.machine.t old side_of job seen after out given gathered reads log chip is submits logged from number after_it)

pub line_rises_now : (old now : ForeValue) (first : ℕ) (seen : RasterValue) (chip : ChipValue) → old ≡ now → StandsBefore now.machine.t first now seen →
    now.log.band.from < now.machine.t → chip ≡ after_reads (after_cut old.machine.chip old.machine.t) (fetches_in old.log.shadow) →
    Rises 0 (latched_words now.run now.log.band.from now.machine.t) now.machine.chip.reads chip.reads
line_rises_now old now first seen chip same stands before reads =
    line_rises now.run now.machine.t now.log now.machine.chip chip stands.log before
    (subst (λ (o : ForeValue). chip ≡ after_reads (after_cut o.machine.chip o.machine.t) (fetches_in o.log.shadow)) same reads)

pub ends_at_read_now : (to h : ℕ) (old mid now : ForeValue) (seen after : RasterValue) (out given : OutFilesValue) (closing : Denise) (log : Log) →
    mid ≡ now → EndsAll to old now seen after out given (Some closing) →
    ((run : RunValue) (at : ℕ) (chip : ChipValue) → IsCut run at mid.log chip → IsClosing run at closing → IsClockBefore run at h →
    IsLogOf run at log chip) →
    log.band.from ≡ mid.log.band.from → log.band.number ≡ mid.log.band.number → IsClockBefore old.run to h →
    EndsAtRead to old (record mid { log = log }) seen after out given
ends_at_read_now to h old mid now seen after out given closing log same ends opens from number clock =
    ends_at_read to h old mid seen after out given closing log
    (subst (λ (m : ForeValue). EndsAll to old m seen after out given (Some closing)) (sym same) ends) opens from number clock
