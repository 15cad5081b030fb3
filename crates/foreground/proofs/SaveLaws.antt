-- A foreground that is saved, and the checkpoint that is kept of it.
use Rattle.std.proofs.Common.{◌≡◌, ◌≤◌, ◌<◌, ℕ, zero, suc, max, Bool, true, false, ◌||◌, inl, inr, List, [], ◌++◌, Option, None, bit_or, ◌-◌}
use Rattle.std.proofs.Common.{refl, sym, ap, ◌∙◌, subst, arith}
use Rattle.std.proofs.lemmas.List.{append-nil}
use Rattle.mem_versions.specs.Chip.{ChipValue}
use Rattle.out_files.specs.OutFiles.{OutFilesValue}
use Rattle.serial_model.specs.declared.picture.Denise.{Denise}
use Rattle.serial_model.specs.Beam.{is_field_start}
use Rattle.serial_model.specs.Side.{SideValue}
use Rattle.serial_bands.specs.Run.{RunValue, run_over, beam_at, state_of}
use Rattle.serial_bands.specs.Bands.{begins, IsBand, AreBands}
use Rattle.serial_bands.specs.BandShown.{clx_from}
use Rattle.serial_bands.specs.Fetches.{IsInRangeOf, IsLeftBy}
use Rattle.serial_bands.specs.declared.event.Event.{Event}
use Rattle.serial_bands.specs.Gathering.{IsGathered}
use Rattle.serial_bands.proofs.BandOrder.{bands_order}
use Rattle.serial_bands.proofs.Gathering.{gathered_more, gathered_whole}
use Rattle.band_log.specs.Raster.{RasterValue}
use Rattle.foreground.specs.Checkpoint.{CheckpointOf, IsCheckpointOf, checkpoint_of}
use Rattle.foreground.specs.Clock.{AreLeftFrom}
use Rattle.foreground.specs.code.Cuts.{StandsAtEnd, HasEnded, EndsAtRead, EndsPartAtRead}
use Rattle.foreground.specs.Fore.{ForeOf, ForeValue, IsUnderway, GivesPart, over}
use Rattle.band_gather.specs.Gathered.{Fits, HasGatheredTo, GathersAll, outstanding_from, tinted_range}
use Rattle.picture_log.specs.Log.{IsBeginning, IsLogOf, waiting_list}
use Rattle.foreground.specs.Save.{HasSaved, Saves, IsSaved}
use Rattle.picture_log.specs.declared.log.Log.{Log}
use Rattle.foreground.proofs.BeginLaws.{machine_kept}
use Rattle.foreground.proofs.CutLaws.{with_parts, gives_gathered}
use Rattle.foreground.proofs.LeftLaws.{left_from, log_band}
use Rattle.picture_log.proofs.Logging.{log_ends}
use Rattle.foreground.proofs.ReadingLaws.{here_at}

-- ---- a band begins with a field

first_of : (a b c : Bool) → a ≡ true → ((a || b) || c) ≡ true
first_of true b c is = refl
first_of false b c is = cc

begins_there : (run : RunValue) (t : ℕ) → is_field_start (beam_at run t) ≡ true → begins run t ≡ true
unfolding begins
begins_there run t field = first_of (is_field_start (beam_at run t)) _ _ field

begins_here : (fore : ForeValue) (first : ℕ) (seen : RasterValue) → IsUnderway fore first seen → is_field_start fore.machine.beam ≡ true
    → begins fore.run fore.machine.t ≡ true
begins_here fore first seen underway field =
    begins_there fore.run fore.machine.t (ap is_field_start underway.at.machine.beam ∙ field)

pub save_ends : (fore : ForeValue) (first : ℕ) (seen : RasterValue) → IsUnderway fore first seen → is_field_start fore.machine.beam ≡ true
    → fore.log.band.from < fore.machine.t → StandsAtEnd fore.machine.t first fore seen
save_ends fore first seen underway field before = record {
  ending =
      log_ends fore.run fore.machine.t fore.log fore.machine.chip underway.at.logged before (begins_here fore first seen underway field);
  fits = underway.at.fits;
  time = underway.at.time;
}

-- ---- all bands are gathered

none_outstanding : (run : RunValue) (number t : ℕ) (seen : RasterValue) → Fits run number t t seen → seen.outstanding ≡ []
none_outstanding run number t seen fits = by_count fits.count fits.outstanding fits.bands
  where
    by_count : (count : ℕ) → seen.outstanding ≡ outstanding_from run fits.least count → AreBands run fits.least count t t → seen.outstanding ≡ []
    by_count zero is bands = is
    by_count (suc count) is bands =
        let band : IsBand run fits.least t bands.0 = bands.1 in
        let low : t < bands.0 = band.order in
        let high : bands.0 ≤ t = bands_order run _ count bands.0 t bands.2 in
        absurd (omega (arith, low, high))

-- it stands where it stood, with nothing outstanding
stands_again : (old : ForeValue) (chip : ChipValue) (log : Log) (clx first : ℕ) (seen after : RasterValue) → IsUnderway old first seen
    → chip.words ≡ old.machine.chip.words → chip.newest ≤ old.machine.t → IsLogOf old.run old.machine.t log chip → log.band.from ≡ old.machine.t
    → Fits old.run log.band.number log.band.from old.machine.t after → IsGathered old.run old.machine.t clx old.machine.t
    → IsUnderway (with_parts old chip log clx) old.machine.t after
stands_again old chip log clx first seen after underway words time logged from fits gathered = record {
  good = underway.good;
  at = record {
    machine = machine_kept old.machine chip (state_of old.run old.machine.t) underway.at.machine words;
    logged = logged;
    fits = fits;
    gathered = gathered;
    cut = λ read. from;
    time = time;
  };
  running = underway.running;
  frame = underway.frame;
  screen = underway.screen;
  count = underway.count;
  script = underway.script;
}

gathered_here : (old : ForeValue) (clx first : ℕ) (seen : RasterValue) → IsUnderway old first seen → first ≤ old.machine.t
    → clx ≡ bit_or old.clx (clx_from old.run first (old.machine.t - first)) → IsGathered old.run old.machine.t clx old.machine.t
gathered_here old clx first seen underway least is =
    subst (λ (bits : ℕ). IsGathered old.run old.machine.t bits old.machine.t) (sym is)
    (gathered_more old.run old.machine.t old.clx first old.machine.t least (omega arith) underway.at.gathered)

-- where a band is open, it ends there
saves_open : (old new : ForeValue) (seen after : RasterValue) (out given : OutFilesValue) → is_field_start old.machine.beam ≡ true
    → old.log.band.from < old.machine.t → EndsAtRead old.machine.t old new seen after out given → Saves old new seen after out given
saves_open old new seen after out given field before ends first underway =
    let t : ℕ = old.machine.t in
    let ended : HasEnded t first t old new seen after out given = ends first (save_ends old first seen underway field before) in
    let run : new.run ≡ old.run = ap (λ (f : ForeValue). f.run) ended.same in
    let fits : Fits old.run new.log.band.number new.log.band.from t after =
    subst (λ (r : RunValue). Fits r new.log.band.number new.log.band.from t after) run ended.stands.fits in
    let whole : Fits old.run new.log.band.number t t after =
    subst (λ (k : ℕ). Fits old.run new.log.band.number k t after) ended.begin fits in
    let gathered : IsGathered old.run t new.clx t = gathered_here old new.clx first seen underway ended.gives.least ended.bits in
    subst (λ (f : ForeValue). HasSaved old f first seen after out given) (sym ended.same) (record {
      same = refl;
      words = ended.words;
      begin = ended.begin;
      stands =
          stands_again old new.machine.chip new.log new.clx first seen after underway ended.words ended.stands.time
          (subst (λ (r : RunValue). IsLogOf r t new.log new.machine.chip) run ended.stands.log) ended.begin fits gathered;
      gathered = none_outstanding old.run new.log.band.number t after whole;
      gives = ended.gives;
    })

-- and where one begins there anyway, no band is open
saves_closed : (old : ForeValue) (seen after : RasterValue) (out given : OutFilesValue) (gathered : ℕ) (closing : Option Denise)
    → old.machine.t ≤ old.log.band.from → after.outstanding ≡ [] → GathersAll seen after out given old.clx gathered closing
    → Saves old (record old { clx = gathered }) seen after out given
saves_closed old seen after out given gathered closing not_before none gathers first underway =
    let t : ℕ = old.machine.t in
    let number : ℕ = old.log.band.number in
    let here : old.log.band.from ≡ t = here_at old first seen underway not_before in
    let all : HasGatheredTo old.run number t first t seen after out given old.clx gathered closing =
    gathers old.run number t first (subst (λ (k : ℕ). Fits old.run number k first seen) here underway.at.fits) in
    let fits : Fits old.run number old.log.band.from t after =
    subst (λ (k : ℕ). Fits old.run number k t after) (sym here) all.bands.fits in
    record {
      same = refl;
      words = refl;
      begin = here;
      stands =
          stands_again old old.machine.chip old.log gathered first seen after underway refl underway.at.time underway.at.logged here fits
          (gathered_here old gathered first seen underway all.bands.least all.bands.bits);
      gathered = none;
      gives = gives_gathered old.run number t first t seen after out given old.clx gathered all.bands;
    }

-- memory was wanted
save_part : (now : ForeValue) (seen after : RasterValue) (out given : OutFilesValue) → is_field_start now.machine.beam ≡ true
    → now.log.band.from < now.machine.t → EndsPartAtRead now.machine.t now seen after out given → GivesPart now seen after out given
save_part now seen after out given field before part first underway = part first (save_ends now first seen underway field before)

-- where it was wanted once all bands were gathered, all their pixels were given
pub part_of_all : (old new : ForeValue) (seen after : RasterValue) (out given : OutFilesValue) → Saves old new seen after out given
    → GivesPart old seen after out given
part_of_all old new seen after out given saves first underway =
    let saved : HasSaved old new first seen after out given = saves first underway in
    let run : new.run ≡ old.run = ap (λ (f : ForeValue). f.run) saved.same in
    let pixels : List ℕ = tinted_range old.run seen.tint first old.machine.t in
    record {
      until = old.machine.t;
      least = saved.gives.least;
      left = subst (λ (r : RunValue). AreLeftFrom r old.machine.t after) run
          (left_from new.run new.log.band.number new.log.band.from old.machine.t after
          (log_band new.run new.machine.t new.log new.machine.chip saved.stands.at.logged) saved.stands.at.fits);
      mark = saved.gives.mark;
      part = pixels;
      rest = [];
      lines = [];
      split = append-nil pixels;
      text = saved.gives.text;
    }

-- ---- the checkpoint

clock_kept : (last newest t : ℕ) → last ≡ t → newest ≤ t → max last newest ≡ t
clock_kept last newest t is least = omega (arith, is, least)

-- no clock of the open band is done: nothing is logged yet
log_empty : (run : RunValue) (t : ℕ) (log : Log) (chip : ChipValue) → IsLogOf run t log chip → log.band.from ≡ t
    → (log.band.events ≡ []) × (log.waiting ≡ None)
log_empty run t log chip is from =
    elim is.band [
      | inl beginning ↦ (beginning.0.events, beginning.1)
      | inr growing ↦ absurd (let order : log.band.from < t = growing.kept.order in omega (arith, order, from))
    ]

-- a band begins there
begins_now : (run : RunValue) (t : ℕ) (log : Log) (chip : ChipValue) → IsLogOf run t log chip → log.band.from ≡ t → IsBeginning run t log.band chip
begins_now run t log chip is from =
    elim is.band [
      | inl beginning ↦ beginning.0
      | inr growing ↦ absurd (let order : log.band.from < t = growing.kept.order in omega (arith, order, from))
    ]

checkpoint_stands : {S : Type 0} (seen : S → SideValue) (fore : ForeOf S) (after : RasterValue) → IsUnderway (over seen fore) fore.machine.t after
    → fore.log.band.from ≡ fore.machine.t → IsCheckpointOf seen (run_over seen fore.run) fore.machine.t (checkpoint_of fore)
checkpoint_stands seen fore after underway from =
    let run : RunValue = run_over seen fore.run in
    let t : ℕ = fore.machine.t in
    let chip : ChipValue = fore.machine.chip in
    let log : Log = fore.log in
    let is : IsLogOf run t log chip = underway.at.logged in
    let band : IsBeginning run t log.band chip = begins_now run t log chip is from in
    let empty : (log.band.events ≡ []) × (log.waiting ≡ None) = log_empty run t log chip is from in
    record {
      run_of = refl;
      good = underway.good;
      clock = refl;
      running = underway.running;
      machine = record {
        t = underway.at.machine.t;
        beam = underway.at.machine.beam;
        memory = underway.at.machine.memory;
        chips = underway.at.machine.chips;
        side = underway.at.machine.side;
      };
      cut = clock_kept chip.last chip.newest t (is.last ∙ from) underway.at.time;
      begin = band.begin;
      number = sym band.number;
      opening = band.stands;
      shadow = is.shadow;
      range = subst (λ (k : ℕ). IsInRangeOf k t log.shadow) from is.range;
      left = subst (λ (events : List Event). IsLeftBy events log.shadow)
          (ap (λ (events : List Event). events ++ waiting_list log.waiting) empty.0 ∙ ap (λ w. [] ++ waiting_list w) empty.1) is.left;
      script = underway.script;
      clx = sym (gathered_whole run t fore.clx underway.at.gathered);
    }

-- what is kept once a foreground is saved stands for the state for which it stood
pub is_saved : {S : Type 0} (seen : S → SideValue) (old : ForeValue) (fore : ForeOf S) (k : CheckpointOf S) (before after : RasterValue)
    (out given : OutFilesValue) → Saves old (over seen fore) before after out given → k ≡ checkpoint_of fore → IsSaved seen old before k
is_saved seen old fore k before after out given saves is first underway =
    let saved : HasSaved old (over seen fore) first before after out given = saves first underway in
    let run : run_over seen fore.run ≡ old.run = ap (λ (f : ForeValue). f.run) saved.same in
    let t : fore.machine.t ≡ old.machine.t = ap (λ (f : ForeValue). f.machine.t) saved.same in
    let stands : IsUnderway (over seen fore) fore.machine.t after =
    subst (λ (c : ℕ). IsUnderway (over seen fore) c after) (sym t) saved.stands in
    let here : IsCheckpointOf seen (run_over seen fore.run) fore.machine.t (checkpoint_of fore) = checkpoint_stands seen fore after stands saved.begin in
    subst (λ (c : CheckpointOf _). IsCheckpointOf seen old.run old.machine.t c) (sym is)
    (subst (λ (c : ℕ). IsCheckpointOf seen old.run c (checkpoint_of fore)) t
    (subst (λ (r : RunValue). IsCheckpointOf seen r fore.machine.t (checkpoint_of fore)) run here))

-- ---- the same where a foreground is seen as its fields are

before_now : (old now : ForeValue) → old ≡ now → old.log.band.from < old.machine.t → now.log.band.from < now.machine.t
before_now old now same before = subst (λ (o : ForeValue). o.log.band.from < o.machine.t) same before

pub save_ends_now : (old now : ForeValue) (first : ℕ) (seen : RasterValue) → old ≡ now → IsUnderway now first seen
    → is_field_start now.machine.beam ≡ true → old.log.band.from < old.machine.t → StandsAtEnd old.machine.t first now seen
save_ends_now old now first seen same underway field before =
    subst (λ (o : ForeValue). StandsAtEnd o.machine.t first now seen) (sym same)
    (save_ends now first seen underway field (before_now old now same before))

pub saves_open_now : (old now new : ForeValue) (seen after : RasterValue) (out given : OutFilesValue) → old ≡ now → is_field_start now.machine.beam ≡ true
    → old.log.band.from < old.machine.t → EndsAtRead old.machine.t now new seen after out given → Saves now new seen after out given
saves_open_now old now new seen after out given same field before ends =
    saves_open now new seen after out given field (before_now old now same before)
    (subst (λ (o : ForeValue). EndsAtRead o.machine.t now new seen after out given) same ends)

pub saves_closed_now : (old now : ForeValue) (seen after : RasterValue) (out given : OutFilesValue) (gathered : ℕ) (closing : Option Denise)
    → old ≡ now → old.machine.t ≤ old.log.band.from → after.outstanding ≡ [] → GathersAll seen after out given old.clx gathered closing
    → Saves now (record old { clx = gathered }) seen after out given
saves_closed_now old now seen after out given gathered closing same not_before none gathers =
    subst (λ (o : ForeValue). Saves o (record old { clx = gathered }) seen after out given) same
    (saves_closed old seen after out given gathered closing not_before none gathers)

pub save_part_now : (old now : ForeValue) (seen after : RasterValue) (out given : OutFilesValue) → old ≡ now → is_field_start now.machine.beam ≡ true
    → old.log.band.from < old.machine.t → EndsPartAtRead old.machine.t now seen after out given → GivesPart now seen after out given
save_part_now old now seen after out given same field before part =
    save_part now seen after out given field (before_now old now same before)
    (subst (λ (o : ForeValue). EndsPartAtRead o.machine.t now seen after out given) same part)
