-- The end of a run: all its bands are gathered, and the memory is its last.
use Rattle.std.proofs.Common.{◌≡◌, ◌≤◌, ◌<◌, ℕ, true, ◌==◌, [], inl, inr, Option, refl, sym, ap, ◌∙◌, subst, arith}
use Rattle.std.proofs.lemmas.Bool.Decides.{nat_tests}
use Rattle.mem_versions.specs.Chip.{ChipValue}
use Rattle.out_files.specs.OutFiles.{OutFilesValue}
use Rattle.ocs_base.specs.declared.beam.Beam.{Beam}
use Rattle.serial_model.specs.declared.picture.Denise.{Denise}
use Rattle.serial_bands.specs.Run.{RunValue, state_of, IsEndOf}
use Rattle.serial_bands.specs.Bands.{begun}
use Rattle.serial_bands.proofs.WholeRun.{end_begins}
use Rattle.band_log.specs.Raster.{RasterValue}
use Rattle.picture_log.specs.Log.{IsLogOf}
use Rattle.band_gather.specs.Gathered.{Fits, HasGatheredTo, GathersAll, GathersPart}
use Rattle.foreground.specs.code.Cuts.{StandsAtEnd, HasEndedAll, EndsAll, EndsPartAtRead}
use Rattle.foreground.specs.Fore.{ForeValue, IsUnderway, is_done, HasSettled, Settles, GivesPart}
use Rattle.machine.specs.Machine.{IsMachineOf}
use Rattle.picture_log.specs.declared.log.Log.{Log}
use Rattle.picture_log.proofs.Logging.{log_ends}
use Rattle.foreground.proofs.CutLaws.{gives_gathered, gives_part}
use Rattle.foreground.proofs.ReadingLaws.{here_at}
use Rattle.foreground.proofs.BeginLaws.{machine_kept}
use Rattle.foreground.proofs.LeftLaws.{log_band}

is_same : (a b : ℕ) → (a == b) ≡ true → a ≡ b
is_same a b here = grind (arith, nat_tests)

-- the run has come to its end, where a band would begin
ended : (fore : ForeValue) (first : ℕ) (seen : RasterValue) → IsUnderway fore first seen → is_done fore ≡ true →
    IsEndOf fore.run fore.machine.t
ended fore first seen underway done = record {
  ended =
      ap (λ (b : Beam). b.frame) underway.at.machine.beam ∙ is_same fore.machine.beam.frame fore.run.script.frames done;
  running = underway.running;
}

pub settle_ends : (fore : ForeValue) (first : ℕ) (seen : RasterValue) → IsUnderway fore first seen → is_done fore ≡ true →
    fore.log.band.from < fore.machine.t → StandsAtEnd fore.machine.t first fore seen
settle_ends fore first seen underway done before = record {
  ending =
      log_ends fore.run fore.machine.t fore.log fore.machine.chip underway.at.logged before
      (end_begins fore.run fore.machine.t (ended fore first seen underway done));
  fits = underway.at.fits;
  time = underway.at.time;
}

-- where a band is open, it ends there
pub settles_open : (old new : ForeValue) (seen after : RasterValue) (out given : OutFilesValue) (closing : Option Denise) → is_done old ≡ true →
    old.log.band.from < old.machine.t → after.outstanding ≡ [] → EndsAll old.machine.t old new seen after out given closing →
    Settles old new seen after out given
settles_open old new seen after out given closing done before none ends first underway =
    let t : ℕ = old.machine.t in
    let all : HasEndedAll t first old new seen after out given closing = ends first (settle_ends old first seen underway done before) in
    let there : IsMachineOf (record old.machine { chip = new.machine.chip }) (state_of old.run t) =
    machine_kept old.machine new.machine.chip (state_of old.run t) underway.at.machine all.words in
    let next : after.next ≡ begun old.run t = all.gathered.bands.fits.next ∙ sym all.cut.number in
    let chip : ChipValue = new.machine.chip in
    subst (λ (f : ForeValue). HasSettled old f first seen after out given) (sym all.same) (record {
      same = refl;
      clock = refl;
      settled = record { machine = there; end = ended old first seen underway done; gathered = none; next = next };
      gives = gives_gathered old.run new.log.band.number t first t seen after out given old.clx new.clx all.gathered.bands;
    })

-- and where one would begin, no band is open
pub number_here : (run : RunValue) (c : ℕ) (log : Log) (chip : ChipValue) → IsLogOf run c log chip → log.band.from ≡ c →
    begun run c ≡ log.band.number
number_here run c log chip is from =
    elim is.band [
      | inl beginning ↦ beginning.0.number
      | inr growing ↦ absurd (let order : log.band.from < c = growing.kept.order in omega (arith, order, from))
    ]

pub settles_closed : (old : ForeValue) (seen after : RasterValue) (out given : OutFilesValue) (gathered : ℕ) (closing : Option Denise) →
    is_done old ≡ true → old.machine.t ≤ old.log.band.from → after.outstanding ≡ [] →
    GathersAll seen after out given old.clx gathered closing → Settles old (record old { clx = gathered }) seen after out given
settles_closed old seen after out given gathered closing done not_before none gathers first underway =
    let t : ℕ = old.machine.t in
    let number : ℕ = old.log.band.number in
    let here : old.log.band.from ≡ t = here_at old first seen underway not_before in
    let all : HasGatheredTo old.run number t first t seen after out given old.clx gathered closing =
    gathers old.run number t first (subst (λ (k : ℕ). Fits old.run number k first seen) here underway.at.fits) in
    record {
      same = refl;
      clock = refl;
      settled = record {
        machine = underway.at.machine;
        end = ended old first seen underway done;
        gathered = none;
        next = all.bands.fits.next ∙ sym (number_here old.run t old.log old.machine.chip underway.at.logged here);
      };
      gives = gives_gathered old.run number t first t seen after out given old.clx gathered all.bands;
    }

-- memory was wanted
pub settle_part : (now : ForeValue) (seen after : RasterValue) (out given : OutFilesValue) → is_done now ≡ true →
    now.log.band.from < now.machine.t → EndsPartAtRead now.machine.t now seen after out given → GivesPart now seen after out given
settle_part now seen after out given done before part first underway = part first (settle_ends now first seen underway done before)

pub settle_gather_part : (now : ForeValue) (seen after : RasterValue) (out given : OutFilesValue) → GathersPart seen after out given →
    GivesPart now seen after out given
settle_gather_part now seen after out given part first underway =
    gives_part now.run now.log.band.number now.log.band.from first seen after out given
    (log_band now.run now.machine.t now.log now.machine.chip underway.at.logged)
    (part now.run now.log.band.number now.log.band.from first underway.at.fits)

-- the same where a foreground is seen as its fields are
pub before_now : (old now : ForeValue) → old ≡ now → old.log.band.from < old.machine.t → now.log.band.from < now.machine.t
before_now old now same before = subst (λ (o : ForeValue). o.log.band.from < o.machine.t) same before

pub settles_open_now : (old now new : ForeValue) (seen after : RasterValue) (out given : OutFilesValue) (closing : Option Denise) → old ≡ now →
    is_done now ≡ true → old.log.band.from < old.machine.t → after.outstanding ≡ [] →
    EndsAll old.machine.t now new seen after out given closing → Settles now new seen after out given
settles_open_now old now new seen after out given closing same done before none ends =
    settles_open now new seen after out given closing done (before_now old now same before) none
    (subst (λ (o : ForeValue). EndsAll o.machine.t now new seen after out given closing) same ends)

pub settles_closed_now : (old now : ForeValue) (seen after : RasterValue) (out given : OutFilesValue) (gathered : ℕ) (closing : Option Denise) →
    old ≡ now → is_done now ≡ true → old.machine.t ≤ old.log.band.from → after.outstanding ≡ [] →
    GathersAll seen after out given old.clx gathered closing → Settles now (record old { clx = gathered }) seen after out given
settles_closed_now old now seen after out given gathered closing same done not_before none gathers =
    subst (λ (o : ForeValue). Settles o (record old { clx = gathered }) seen after out given) same
    (settles_closed old seen after out given gathered closing
    (subst (λ (o : ForeValue). is_done o ≡ true) (sym same) done) not_before none gathers)

pub settle_part_now : (old now : ForeValue) (seen after : RasterValue) (out given : OutFilesValue) → old ≡ now → is_done now ≡ true →
    old.log.band.from < old.machine.t → EndsPartAtRead old.machine.t now seen after out given → GivesPart now seen after out given
settle_part_now old now seen after out given same done before part =
    settle_part now seen after out given done (before_now old now same before)
    (subst (λ (o : ForeValue). EndsPartAtRead o.machine.t now seen after out given) same part)

pub settle_ends_now : (old now : ForeValue) (first : ℕ) (seen : RasterValue) → old ≡ now → IsUnderway now first seen → is_done now ≡ true →
    old.log.band.from < old.machine.t → StandsAtEnd old.machine.t first now seen
settle_ends_now old now first seen same underway done before =
    subst (λ (o : ForeValue). StandsAtEnd o.machine.t first now seen) (sym same)
    (settle_ends now first seen underway done (before_now old now same before))
