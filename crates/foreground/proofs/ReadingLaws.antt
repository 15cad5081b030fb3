-- What a read of CLXDAT sees: the collision bits that were gathered of all bands up to it.
use Rattle.std.proofs.Common.{◌≡◌, ◌≤◌, ◌<◌, ℕ, zero, suc, ◌+◌, ◌-◌, ◌^◌, Bool, true, false, ◌||◌, Option, refl, sym, ap, ◌∙◌, subst, arith}
use Rattle.std.proofs.lemmas.Bool.Decides.{nat_tests}
use Rattle.ocs_base.specs.Limits.{IsRunnable}
use Rattle.ocs_base.specs.declared.beam.Beam.{Beam}
use Rattle.ocs_base.specs.declared.system.System.{System}
use Rattle.out_files.specs.OutFiles.{OutFilesValue}
use Rattle.serial_model.specs.declared.picture.Denise.{Denise}
use Rattle.serial_model.specs.Beam.{IsOnScreen, place_of, next_place, is_line_start}
use Rattle.serial_model.specs.Made.{is_clx_read}
use Rattle.serial_model.specs.Registers.{is_interlaced}
use Rattle.serial_model.specs.Serial.{state_over}
use Rattle.serial_model.specs.State.{State}
use Rattle.serial_model.specs.Tick.{before_access, make_access}
use Rattle.serial_model.proofs.EndLaws.{on_screen}
use Rattle.serial_model.proofs.NextLaws.{beam_next}
use Rattle.serial_bands.specs.Run.{RunValue, IsGoodRun, state_of, beam_at}
use Rattle.serial_bands.specs.Clock.{made_at, due_at, clx_after_at}
use Rattle.serial_bands.specs.Bands.{begins, has_clx_read, has_read_at}
use Rattle.serial_bands.proofs.BandOrder.{bands_order}
use Rattle.serial_bands.proofs.Gathering.{gathered_at_access}
use Rattle.serial_bands.proofs.WholeRun.{place_rises}
use Rattle.band_log.specs.Raster.{RasterValue}
use Rattle.picture_log.specs.Log.{IsEnding}
use Rattle.band_gather.specs.Gathered.{Fits, HasGatheredTo, GathersAll, GathersPart}
use Rattle.serial_bands.specs.Access.{access_state}
use Rattle.foreground.specs.code.Cuts.{StandsAtEnd, HasEnded, EndsAtRead, EndsPartAtRead}
use Rattle.picture_log.specs.Closing.{IsClockBefore}
use Rattle.foreground.specs.Fore.{ForeValue, IsUnderway}
use Rattle.foreground.specs.Steps.{IsLoggedBefore, StandsBeforeRead, ReadsBits, ReadsPart, BeginsPart, AccessesPart}
use Rattle.picture_log.proofs.Logging.{log_read, read_begins, log_ends}
use Rattle.foreground.proofs.CutLaws.{gives_gathered, gives_part}
use Rattle.foreground.proofs.LeftLaws.{log_band}

-- clocks of a run are few
place_small : (b : Beam) (frames : ℕ) → IsOnScreen b → b.frame < frames → frames ≤ 1000 → place_of b < 71364000
place_small b frames on going most = grind (arith, on.line, on.clock)

pub clock_small : (run : RunValue) (c : ℕ) → IsRunnable run.script → (beam_at run c).frame < run.script.frames → c < 71364000
clock_small run c good going =
    omega (arith, place_rises run c, place_small (beam_at run c) run.script.frames (on_screen run.side run.image run.script c) going good.most)

-- outstanding bands begin no later than the one that is open
pub fits_least : (run : RunValue) (number to first : ℕ) (seen : RasterValue) → Fits run number to first seen → first ≤ to
fits_least run number to first seen fits = bands_order run fits.least fits.count first to fits.bands

-- the clock of the line before one
before_next : (system : System) (lace : Bool) (b : Beam) → is_line_start (next_place system lace b) ≡ false → (next_place system lace b).h - 1 ≡ b.h
before_next system lace b inner = grind (arith, nat_tests, inner)

before_after : (run : RunValue) (c : ℕ) → is_line_start (beam_at run (suc c)) ≡ false → (beam_at run (suc c)).h - 1 ≡ (beam_at run c).h
unfolding state_over
before_after run c inner =
    let system : System = run.script.system in
    let s : State = state_of run c in
    let b : State = make_access (before_access system run.script.events s) in
    let lace : Bool = is_interlaced b.chips.registers in
    let place : Beam = record s.beam { lof = b.beam.lof } in
    ap (λ (x : Beam). x.h - 1) (beam_next system run.script.events s)
    ∙ before_next system lace place (ap (λ (x : Beam). is_line_start x) (sym (beam_next system run.script.events s)) ∙ inner)

pub before_at : (run : RunValue) (c : ℕ) → 0 < c → IsClockBefore run c ((beam_at run c).h - 1)
before_at run zero some inner = absurd (omega (arith, some))
before_at run (suc c) some inner =
    let same : suc c - 1 ≡ c = omega arith in
    before_after run c inner ∙ ap (λ k. (beam_at run k).h) (sym same)

-- a band begins with a clock in which the script reads CLXDAT
one_of : (a b c : Bool) → b ≡ true → (a || (b || c)) ≡ true
one_of true b c here = refl
one_of false true c here = refl
one_of false false c here = cc

pub begins_with_read : (run : RunValue) (c : ℕ) → has_clx_read (due_at run c) ≡ true → begins run c ≡ true
unfolding begins has_read_at
begins_with_read run c reads = one_of _ (has_clx_read (due_at run c)) _ reads

-- by the access: the clock of the line, and how the band ends
one_back : (c : ℕ) → c + 1 - 1 ≡ c
one_back c = omega arith

pub access_place : (run : RunValue) (c h : ℕ) → h ≡ (beam_at run c).h → h ≡ (beam_at run (c + 1 - 1)).h
access_place run c h here = here ∙ ap (λ k. (beam_at run k).h) (sym (one_back c))

pub access_ends : (fore : ForeValue) (first : ℕ) (seen : RasterValue) → IsLoggedBefore fore first seen →
    is_clx_read (made_at fore.run fore.machine.t) ≡ true → StandsAtEnd (fore.machine.t + 1) first fore seen
access_ends fore first seen logged reads = record {
  ending =
      (let least : fore.log.band.from ≤ fore.machine.t = logged.shown.least in
      log_ends fore.run (fore.machine.t + 1) fore.log fore.machine.chip
      (log_read fore.run fore.machine.t fore.log fore.machine.chip logged.shown reads) (omega (arith, least))
      (read_begins fore.run fore.machine.t reads));
  fits = logged.fits;
  time = (let newest : fore.machine.chip.newest ≤ fore.machine.t = logged.time in omega (arith, newest));
}

pub access_small : (fore : ForeValue) (seen : RasterValue) → IsGoodRun fore.run → StandsBeforeRead true fore seen → fore.machine.t + 1 < 2 ^ 64
access_small fore seen good stands =
    let ending : IsEnding fore.run (fore.machine.t + 1) fore.log fore.machine.chip =
    (access_ends fore stands.0 seen stands.1 stands.2).ending in
    let few : fore.machine.t < 71364000 =
    clock_small fore.run fore.machine.t good.script (ending.kept.running fore.machine.t (omega arith)) in
    omega (arith, few)

-- and the bits that it sees
clx_seen : (run : RunValue) (c : ℕ) → (access_state run c).clx ≡ clx_after_at run c
unfolding clx_after_at
clx_seen run c = refl

pub reads_by_access : (old mid : ForeValue) (seen after : RasterValue) (out given : OutFilesValue) →
    is_clx_read (made_at old.run old.machine.t) ≡ true → EndsAtRead (old.machine.t + 1) old mid seen after out given →
    ReadsBits true old (record mid { clx = 0 }) mid.clx seen after out given
reads_by_access old mid seen after out given reads ends first logged =
    let run : RunValue = old.run in
    let t : ℕ = old.machine.t in
    let ended : HasEnded (t + 1) first (t + 1) old mid seen after out given = ends first (access_ends old first seen logged reads) in
    let least : first ≤ old.log.band.from = fits_least run old.log.band.number old.log.band.from first seen logged.fits in
    let from : old.log.band.from ≤ t = logged.shown.least in
    record {
      same = ap (λ (f : ForeValue). record f { clx = 0 }) ended.same;
      words = ended.words;
      bits = clx_seen run t ∙ gathered_at_access run t old.clx first (omega (arith, least, from)) logged.gathered ∙ sym ended.bits;
      empty = refl;
      at = record {
        log = ended.stands.log;
        fits = subst (λ (k : ℕ). Fits mid.run mid.log.band.number k (t + 1) after) ended.begin ended.stands.fits;
        begin = ended.begin;
        time = ended.stands.time;
      };
      gives = ended.gives;
    }

pub access_part : (old : ForeValue) (seen after : RasterValue) (out given : OutFilesValue) →
    is_clx_read (made_at old.run old.machine.t) ≡ true → EndsPartAtRead (old.machine.t + 1) old seen after out given →
    ReadsPart true old seen after out given
access_part old seen after out given reads part first logged = part first (access_ends old first seen logged reads)

-- by the script, where a band is open
pub script_ends : (fore : ForeValue) (first : ℕ) (seen : RasterValue) → IsUnderway fore first seen →
    has_clx_read (due_at fore.run fore.machine.t) ≡ true → fore.log.band.from < fore.machine.t → StandsAtEnd fore.machine.t first fore seen
script_ends fore first seen underway reads before = record {
  ending =
      log_ends fore.run fore.machine.t fore.log fore.machine.chip underway.at.logged before
      (begins_with_read fore.run fore.machine.t reads);
  fits = underway.at.fits;
  time = underway.at.time;
}

pub script_place : (fore : ForeValue) (first h : ℕ) (seen : RasterValue) → IsUnderway fore first seen → fore.log.band.from < fore.machine.t →
    h ≡ fore.machine.beam.h - 1 → IsClockBefore fore.run fore.machine.t h
script_place fore first h seen underway before is inner =
    is ∙ ap (λ (b : Beam). b.h - 1) (sym underway.at.machine.beam)
    ∙ before_at fore.run fore.machine.t (omega (arith, before)) inner

pub reads_by_script : (old mid : ForeValue) (seen after : RasterValue) (out given : OutFilesValue) →
    has_clx_read (due_at old.run old.machine.t) ≡ true → old.log.band.from < old.machine.t →
    EndsAtRead old.machine.t old mid seen after out given → ReadsBits false old (record mid { clx = 0 }) mid.clx seen after out given
reads_by_script old mid seen after out given reads before ends first underway =
    let t : ℕ = old.machine.t in
    let ended : HasEnded t first t old mid seen after out given = ends first (script_ends old first seen underway reads before) in
    record {
      same = ap (λ (f : ForeValue). record f { clx = 0 }) ended.same;
      words = ended.words;
      bits = underway.at.gathered ∙ sym ended.bits;
      empty = refl;
      at = record {
        log = ended.stands.log;
        fits = subst (λ (k : ℕ). Fits mid.run mid.log.band.number k t after) ended.begin ended.stands.fits;
        begin = ended.begin;
        time = ended.stands.time;
      };
      gives = ended.gives;
    }

pub script_part : (old : ForeValue) (seen after : RasterValue) (out given : OutFilesValue) →
    has_clx_read (due_at old.run old.machine.t) ≡ true → old.log.band.from < old.machine.t →
    EndsPartAtRead old.machine.t old seen after out given → ReadsPart false old seen after out given
script_part old seen after out given reads before part first underway = part first (script_ends old first seen underway reads before)

-- and where one begins with the clock anyway
pub here_at : (fore : ForeValue) (first : ℕ) (seen : RasterValue) → IsUnderway fore first seen → fore.machine.t ≤ fore.log.band.from →
    fore.log.band.from ≡ fore.machine.t
here_at fore first seen underway not_before =
    let least : fore.log.band.from ≤ fore.machine.t = underway.at.logged.least in
    omega (arith, least, not_before)

pub reads_all : (old : ForeValue) (seen after : RasterValue) (out given : OutFilesValue) (gathered : ℕ) (closing : Option Denise) →
    old.machine.t ≤ old.log.band.from → GathersAll seen after out given old.clx gathered closing →
    ReadsBits false old (record old { clx = 0 }) gathered seen after out given
reads_all old seen after out given gathered closing not_before gathers first underway =
    let t : ℕ = old.machine.t in
    let number : ℕ = old.log.band.number in
    let here : old.log.band.from ≡ t = here_at old first seen underway not_before in
    let all : HasGatheredTo old.run number t first t seen after out given old.clx gathered closing =
    gathers old.run number t first (subst (λ (k : ℕ). Fits old.run number k first seen) here underway.at.fits) in
    record {
      same = refl;
      words = refl;
      bits = underway.at.gathered ∙ sym all.bands.bits;
      empty = refl;
      at = record { log = underway.at.logged; fits = all.bands.fits; begin = here; time = underway.at.time };
      gives = gives_gathered old.run number t first t seen after out given old.clx gathered all.bands;
    }

-- the same where a foreground is seen as its fields are, and its bits were taken
pub access_taken : (old now mid new : ForeValue) (seen after : RasterValue) (out given : OutFilesValue) (clx : ℕ) → old ≡ now →
    is_clx_read (made_at now.run now.machine.t) ≡ true → EndsAtRead (old.machine.t + 1) now mid seen after out given →
    new ≡ record mid { clx = 0 } → clx ≡ mid.clx → ReadsBits true now new clx seen after out given
access_taken old now mid new seen after out given clx same reads ends cleared is =
    let there : EndsAtRead (now.machine.t + 1) now mid seen after out given =
    subst (λ (o : ForeValue). EndsAtRead (o.machine.t + 1) now mid seen after out given) same ends in
    subst (λ (f : ForeValue). ReadsBits true now f clx seen after out given) (sym cleared)
    (subst (λ (k : ℕ). ReadsBits true now (record mid { clx = 0 }) k seen after out given) (sym is)
    (reads_by_access now mid seen after out given reads there))

pub access_part_now : (old now : ForeValue) (seen after : RasterValue) (out given : OutFilesValue) → old ≡ now →
    is_clx_read (made_at now.run now.machine.t) ≡ true → EndsPartAtRead (old.machine.t + 1) now seen after out given →
    AccessesPart now seen after out given
access_part_now old now seen after out given same reads part =
    access_part now seen after out given reads
    (subst (λ (o : ForeValue). EndsPartAtRead (o.machine.t + 1) now seen after out given) same part)

pub good_run : (old now : ForeValue) (run : RunValue) → old ≡ now → run ≡ old.run → IsGoodRun run → IsGoodRun now.run
good_run old now run same is good = subst (λ (r : RunValue). IsGoodRun r) (is ∙ ap (λ (o : ForeValue). o.run) same) good

pub access_small_now : (old now : ForeValue) (run : RunValue) (seen : RasterValue) → old ≡ now → run ≡ old.run → IsGoodRun run →
    StandsBeforeRead true now seen → old.machine.t + 1 < 2 ^ 64
access_small_now old now run seen same is good stands =
    subst (λ (o : ForeValue). o.machine.t + 1 < 2 ^ 64) (sym same)
    (access_small now seen (good_run old now run same is good) stands)

pub script_taken : (old now mid new : ForeValue) (seen after : RasterValue) (out given : OutFilesValue) (clx : ℕ) → old ≡ now →
    has_clx_read (due_at now.run now.machine.t) ≡ true → old.log.band.from < old.machine.t →
    EndsAtRead old.machine.t now mid seen after out given → new ≡ record mid { clx = 0 } → clx ≡ mid.clx →
    ReadsBits false now new clx seen after out given
script_taken old now mid new seen after out given clx same reads before ends cleared is =
    let there : EndsAtRead now.machine.t now mid seen after out given =
    subst (λ (o : ForeValue). EndsAtRead o.machine.t now mid seen after out given) same ends in
    let first : now.log.band.from < now.machine.t = subst (λ (o : ForeValue). o.log.band.from < o.machine.t) same before in
    subst (λ (f : ForeValue). ReadsBits false now f clx seen after out given) (sym cleared)
    (subst (λ (k : ℕ). ReadsBits false now (record mid { clx = 0 }) k seen after out given) (sym is)
    (reads_by_script now mid seen after out given reads first there))

pub script_part_now : (old now : ForeValue) (seen after : RasterValue) (out given : OutFilesValue) → old ≡ now →
    has_clx_read (due_at now.run now.machine.t) ≡ true → old.log.band.from < old.machine.t →
    EndsPartAtRead old.machine.t now seen after out given → BeginsPart now seen after out given
script_part_now old now seen after out given same reads before part =
    script_part now seen after out given reads (subst (λ (o : ForeValue). o.log.band.from < o.machine.t) same before)
    (subst (λ (o : ForeValue). EndsPartAtRead o.machine.t now seen after out given) same part)

pub script_place_now : (old now : ForeValue) (first h : ℕ) (seen : RasterValue) → old ≡ now → IsUnderway now first seen →
    old.log.band.from < old.machine.t → h ≡ old.machine.beam.h - 1 → IsClockBefore now.run old.machine.t h
script_place_now old now first h seen same underway before is =
    subst (λ (o : ForeValue). IsClockBefore now.run o.machine.t h) (sym same)
    (script_place now first h seen underway (subst (λ (o : ForeValue). o.log.band.from < o.machine.t) same before)
    (subst (λ (o : ForeValue). h ≡ o.machine.beam.h - 1) same is))

pub script_ends_now : (old now : ForeValue) (first : ℕ) (seen : RasterValue) → old ≡ now → IsUnderway now first seen →
    has_clx_read (due_at now.run now.machine.t) ≡ true → old.log.band.from < old.machine.t → StandsAtEnd old.machine.t first now seen
script_ends_now old now first seen same underway reads before =
    subst (λ (o : ForeValue). StandsAtEnd o.machine.t first now seen) (sym same)
    (script_ends now first seen underway reads (subst (λ (o : ForeValue). o.log.band.from < o.machine.t) same before))

pub all_taken : (old now mid new : ForeValue) (seen after : RasterValue) (out given : OutFilesValue) (gathered clx : ℕ) (closing : Option Denise) →
    old ≡ now → old.machine.t ≤ old.log.band.from → GathersAll seen after out given old.clx gathered closing →
    mid ≡ record old { clx = gathered } → new ≡ record mid { clx = 0 } → clx ≡ mid.clx → ReadsBits false now new clx seen after out given
all_taken old now mid new seen after out given gathered clx closing same not_before gathers left cleared is =
    let all : ReadsBits false old (record old { clx = 0 }) gathered seen after out given =
    reads_all old seen after out given gathered closing not_before gathers in
    let end : record old { clx = 0 } ≡ new = sym (cleared ∙ ap (λ (f : ForeValue). record f { clx = 0 }) left) in
    let bits : gathered ≡ clx = sym (is ∙ ap (λ (f : ForeValue). f.clx) left) in
    subst (λ (o : ForeValue). ReadsBits false o new clx seen after out given) same
    (subst (λ (f : ForeValue). ReadsBits false old f clx seen after out given) end
    (subst (λ (k : ℕ). ReadsBits false old (record old { clx = 0 }) k seen after out given) bits all))

pub all_part : (now : ForeValue) (seen after : RasterValue) (out given : OutFilesValue) → GathersPart seen after out given →
    BeginsPart now seen after out given
all_part now seen after out given part first underway =
    gives_part now.run now.log.band.number now.log.band.from first seen after out given
    (log_band now.run now.machine.t now.log now.machine.chip underway.at.logged)
    (part now.run now.log.band.number now.log.band.from first underway.at.fits)
