-- What precedes the first step of a clock: where a band begins, the one before it ends.
use Rattle.std.proofs.Common.{◌≡◌, ◌≤◌, ◌<◌, ℕ, ◌-◌, ◌%◌, bit_or, Bool, true, false, ◌||◌, ◌&&◌, ◌==◌, refl, sym, ap, ◌∙◌, subst, arith, cond}
use Rattle.std.proofs.lemmas.Bool.Decides.{nat_tests}
use Rattle.ocs_base.specs.declared.beam.Beam.{Beam}
use Rattle.mem_versions.specs.Chip.{ChipValue}
use Rattle.out_files.specs.OutFiles.{OutFilesValue}
use Rattle.serial_model.specs.Beam.{is_line_start}
use Rattle.serial_model.specs.State.{State}
use Rattle.serial_bands.specs.Run.{RunValue, state_of, beam_at}
use Rattle.serial_bands.specs.Clock.{due_at}
use Rattle.serial_bands.specs.Bands.{begins, has_clx_read, has_read_at, has_read_before, is_band_place}
use Rattle.serial_bands.specs.BandShown.{clx_from}
use Rattle.serial_bands.specs.BusReads.{latched_words}
use Rattle.serial_bands.specs.Gathering.{IsGathered, IsGatheredIn}
use Rattle.serial_model.specs.Events.{due_events}
use Rattle.serial_bands.proofs.Gathering.{gathered_more, gathered_start, gathered_cleared}
use Rattle.band_log.specs.Raster.{RasterValue}
use Rattle.picture_log.specs.Log.{IsLogOf, with_begin, with_waiting}
use Rattle.band_gather.specs.Gathered.{Fits}
use Rattle.foreground.specs.Clock.{HasBegun, Rises}
use Rattle.foreground.specs.code.Cuts.{StandsBefore, HasEnded, EndsAtLine, EndsPart}
use Rattle.foreground.specs.Fore.{ForeValue, IsUnderway, is_done, looked_up}
use Rattle.machine.specs.Machine.{MachineValue, IsMachineOf}
use Rattle.foreground.specs.Steps.{HasBegunClock, BeginsClock, BeginsPart, HasReadByScript, ReadsBits, ReadsPart, StandsBeforeRead}
use Rattle.picture_log.specs.declared.log.Log.{Log}
use Rattle.picture_log.proofs.Logging.{log_starts, log_begins}
use Rattle.foreground.proofs.CutLaws.{gives_none, gives_no_part, rises_none}
use Rattle.foreground.proofs.ReadingLaws.{fits_least, here_at}
use Rattle.foreground.proofs.LeftLaws.{left_from, log_band}

-- the clock is one of the run
not_end : (a b : ℕ) → a ≤ b → (a == b) ≡ false → a < b
not_end a b most other = grind (arith, nat_tests)

pub is_running : (fore : ForeValue) (first : ℕ) (seen : RasterValue) → IsUnderway fore first seen → is_done fore ≡ false →
    fore.machine.beam.frame < fore.run.script.frames
is_running fore first seen underway going = not_end fore.machine.beam.frame fore.run.script.frames underway.frame going

frame_there : (fore : ForeValue) (first : ℕ) (seen : RasterValue) → IsUnderway fore first seen → fore.machine.beam.frame < fore.run.script.frames →
    (beam_at fore.run fore.machine.t).frame < fore.run.script.frames
frame_there fore first seen underway going =
    subst (λ (b : Beam). b.frame < fore.run.script.frames) (sym underway.at.machine.beam) going

-- the machine with another memory that has the same words
pub machine_kept : (m : MachineValue) (chip : ChipValue) (s : State) → IsMachineOf m s → chip.words ≡ m.chip.words → IsMachineOf (record m { chip = chip }) s
machine_kept m chip s is same = record { t = is.t; beam = is.beam; memory = is.memory ∙ sym same; chips = is.chips; side = is.side }

-- the band begins with this clock, and with the present place of the beam
begun_with : (old : ForeValue) (chip : ChipValue) (log : Log) (clx first until : ℕ) (seen after : RasterValue) → IsUnderway old first seen →
    old.machine.beam.frame < old.run.script.frames → chip.words ≡ old.machine.chip.words → chip.newest ≤ old.machine.t →
    IsLogOf old.run old.machine.t log chip → log.band.from ≡ old.machine.t → Fits old.run log.band.number log.band.from until after →
    IsGatheredIn old.run old.machine.t clx until →
    HasBegun old.run old.machine.t until (record old.machine { chip = chip }) (with_begin old.machine.beam log) clx after
begun_with old chip log clx first until seen after underway going words time logged from fits gathered = record {
  machine = machine_kept old.machine chip (state_of old.run old.machine.t) underway.at.machine words;
  logged =
      log_begins old.run old.machine.t old.machine.beam log chip logged from (frame_there old first seen underway going)
      (sym underway.at.machine.beam);
  fits = fits;
  gathered = gathered;
  time = time;
}

abbrev with_band_begun : ForeValue → ForeValue
with_band_begun fore = record fore { log = with_begin fore.machine.beam fore.log }

-- where the script reads CLXDAT in this clock
pub begins_by_read : (old mid : ForeValue) (clx : ℕ) (seen after : RasterValue) (out given : OutFilesValue) → StandsBeforeRead false old seen →
    ReadsBits false old mid clx seen after out given → BeginsClock old (with_band_begun mid) clx seen after out given
begins_by_read old mid clx seen after out given stands reads first underway =
    let t : ℕ = old.machine.t in
    let r : HasReadByScript old mid first clx seen after out given = reads first underway in
    let run : mid.run ≡ old.run = ap (λ (f : ForeValue). f.run) r.same in
    let there : Fits old.run mid.log.band.number t t after =
    subst (λ (x : RunValue). Fits x mid.log.band.number t t after) run r.at.fits in
    subst (λ (f : ForeValue). HasBegunClock old (with_band_begun f) first clx seen after out given) (sym r.same) (record {
      until = t;
      same = refl;
      words = r.words;
      begun =
          begun_with old mid.machine.chip mid.log mid.clx first t seen after underway stands.3 r.words r.at.time
          (subst (λ (x : RunValue). IsLogOf x t mid.log mid.machine.chip) run r.at.log) r.at.begin
          (subst (λ (k : ℕ). Fits old.run mid.log.band.number k t after) (sym r.at.begin) there)
          (subst (λ (k : ℕ). IsGatheredIn old.run t k t) (sym r.empty) (gathered_cleared old.run t stands.2));
      bits = λ read. r.bits;
      gives = r.gives;
    })

pub read_part : (old : ForeValue) (seen after : RasterValue) (out given : OutFilesValue) → ReadsPart false old seen after out given →
    BeginsPart old seen after out given
read_part old seen after out given part = part

-- where a line begins one
not_both : (b : Bool) → b ≡ false → b ≡ true → ⊥
not_both true none here = cc
not_both false none here = cc

stands_before : (fore : ForeValue) (first : ℕ) (seen : RasterValue) → IsUnderway fore first seen → StandsBefore fore.machine.t first fore seen
stands_before fore first seen underway = record { log = underway.at.logged; fits = underway.at.fits; time = underway.at.time }

pub begins_at_line : (old mid : ForeValue) (seen after : RasterValue) (out given : OutFilesValue) → is_done old ≡ false →
    has_clx_read (due_at old.run old.machine.t) ≡ false → EndsAtLine old.machine.t old mid seen after out given →
    BeginsClock old (with_band_begun mid) 0 seen after out given
begins_at_line old mid seen after out given going unread ends first underway =
    let t : ℕ = old.machine.t in
    let found : (until : ℕ) × HasEnded t first until old mid seen after out given = ends first (stands_before old first seen underway) in
    let until : ℕ = found.0 in
    let e : HasEnded t first until old mid seen after out given = found.1 in
    let run : mid.run ≡ old.run = ap (λ (f : ForeValue). f.run) e.same in
    let begin : mid.log.band.from ≡ t = e.begin in
    let most : until ≤ mid.log.band.from = fits_least mid.run mid.log.band.number mid.log.band.from until after e.stands.fits in
    let least : first ≤ until = e.gives.least in
    let gathered : IsGathered old.run t (bit_or old.clx (clx_from old.run first (until - first))) until =
    gathered_more old.run t old.clx first until least (omega (arith, most, begin)) underway.at.gathered in
    subst (λ (f : ForeValue). HasBegunClock old (with_band_begun f) first 0 seen after out given) (sym e.same) (record {
      until = until;
      same = refl;
      words = e.words;
      begun =
          begun_with old mid.machine.chip mid.log mid.clx first until seen after underway (is_running old first seen underway going) e.words
          e.stands.time (subst (λ (x : RunValue). IsLogOf x t mid.log mid.machine.chip) run e.stands.log) begin
          (subst (λ (x : RunValue). Fits x mid.log.band.number mid.log.band.from until after) run e.stands.fits)
          (gathered_start old.run t mid.clx until unread (subst (λ (k : ℕ). IsGathered old.run t k until) (sym e.bits) gathered));
      bits = λ read. absurd (not_both (has_clx_read (due_at old.run t)) unread read);
      gives = e.gives;
    })

pub line_part : (old : ForeValue) (seen after : RasterValue) (out given : OutFilesValue) → EndsPart old.machine.t old seen after out given →
    BeginsPart old seen after out given
line_part old seen after out given part first underway = part first (stands_before old first seen underway)

-- a place at which a band begins by its place alone
place_there : (fore : ForeValue) (first : ℕ) (seen : RasterValue) (is : Bool) → IsUnderway fore first seen →
    is_band_place fore.run.height fore.machine.beam ≡ is → is_band_place fore.run.height (beam_at fore.run fore.machine.t) ≡ is
place_there fore first seen is underway here =
    subst (λ (b : Beam). is_band_place fore.run.height b ≡ is) (sym underway.at.machine.beam) here

first_of : (a b : Bool) → a ≡ true → (a || b) ≡ true
first_of true b here = refl
first_of false b here = cc

begins_by_place : (run : RunValue) (c : ℕ) → is_band_place run.height (beam_at run c) ≡ true → begins run c ≡ true
unfolding begins
begins_by_place run c place = first_of (is_band_place run.height (beam_at run c)) (has_read_at run c) place

place_is_line : (height : ℕ) (b : Beam) → is_band_place height b ≡ true → is_line_start b ≡ true
place_is_line height b place = by_parts (b.v == 0) (b.h == 0) (b.v % height == 0) place
  where
    by_parts : (v h m : Bool) → ((v && h) || (h && m)) ≡ true → h ≡ true
    by_parts v true m here = refl
    by_parts true false m here = here
    by_parts false false m here = here

pub line_requires : (fore : ForeValue) (first : ℕ) (seen : RasterValue) → IsUnderway fore first seen →
    is_band_place fore.run.height fore.machine.beam ≡ true →
    (is_line_start (beam_at fore.run fore.machine.t) ≡ true) × (begins fore.run fore.machine.t ≡ true)
    × StandsBefore fore.machine.t first fore seen
line_requires fore first seen underway place =
    let here : is_band_place fore.run.height (beam_at fore.run fore.machine.t) ≡ true = place_there fore first seen true underway place in (
      place_is_line fore.run.height (beam_at fore.run fore.machine.t) here,
      begins_by_place fore.run fore.machine.t here,
      stands_before fore first seen underway,
    )

-- where none begins, the write that waited is an event of the band
none_of : (a b c : Bool) → a ≡ false → b ≡ false → (c ≡ true → ⊥) → (a || (b || c)) ≡ false
none_of a b true place unread before = absurd (before refl)
none_of true b false place unread before = place
none_of false true false place unread before = unread
none_of false false false place unread before = refl

none_begins : (fore : ForeValue) (first : ℕ) (seen : RasterValue) → IsUnderway fore first seen → fore.log.band.from < fore.machine.t →
    is_band_place fore.run.height fore.machine.beam ≡ false → has_clx_read (due_at fore.run fore.machine.t) ≡ false →
    begins fore.run fore.machine.t ≡ false
unfolding begins has_read_at
none_begins fore first seen underway before place unread =
    none_of (is_band_place fore.run.height (beam_at fore.run fore.machine.t)) (has_clx_read (due_at fore.run fore.machine.t))
    (has_read_before fore.run fore.machine.t) (place_there fore first seen false underway place) unread
    (λ read. let cut : fore.log.band.from ≡ fore.machine.t = underway.at.cut read in omega (arith, cut, before))

pub begins_within : (old : ForeValue) (log : Log) (seen : RasterValue) (out : OutFilesValue) → is_done old ≡ false →
    old.log.band.from < old.machine.t → is_band_place old.run.height old.machine.beam ≡ false →
    has_clx_read (due_at old.run old.machine.t) ≡ false → log ≡ with_waiting old.log →
    BeginsClock old (record old { log = log }) 0 seen seen out out
begins_within old log seen out going before place unread is first underway =
    let t : ℕ = old.machine.t in
    let frame : old.machine.beam.frame < old.run.script.frames = is_running old first seen underway going in
    subst (λ (l : Log). HasBegunClock old (record old { log = l }) first 0 seen seen out out) (sym is) (record {
      until = first;
      same = refl;
      words = refl;
      begun = record {
        machine = underway.at.machine;
        logged =
            log_starts old.run t old.log old.machine.chip underway.at.logged (none_begins old first seen underway before place unread)
            (frame_there old first seen underway frame);
        fits = underway.at.fits;
        gathered = gathered_start old.run t old.clx first unread underway.at.gathered;
        time = underway.at.time;
      };
      bits = λ read. absurd (not_both (has_clx_read (due_at old.run t)) unread read);
      gives = gives_none old.run first seen out;
    })

-- and where one has begun already
pub begins_already : (old : ForeValue) (seen : RasterValue) (out : OutFilesValue) → is_done old ≡ false → old.machine.t ≤ old.log.band.from →
    has_clx_read (due_at old.run old.machine.t) ≡ false → BeginsClock old (with_band_begun old) 0 seen seen out out
begins_already old seen out going not_before unread first underway =
    let t : ℕ = old.machine.t in
    record {
      until = first;
      same = refl;
      words = refl;
      begun =
          begun_with old old.machine.chip old.log old.clx first first seen seen underway (is_running old first seen underway going) refl
          underway.at.time underway.at.logged (here_at old first seen underway not_before) underway.at.fits
          (gathered_start old.run t old.clx first unread underway.at.gathered);
      bits = λ read. absurd (not_both (has_clx_read (due_at old.run t)) unread read);
      gives = gives_none old.run first seen out;
    }

pub begins_no_part : (old : ForeValue) (seen : RasterValue) (out : OutFilesValue) → BeginsPart old seen seen out out
begins_no_part old seen out first underway =
    gives_no_part old.run first seen out
    (left_from old.run old.log.band.number old.log.band.from first seen
    (log_band old.run old.machine.t old.log old.machine.chip underway.at.logged) underway.at.fits)

-- what the script reads in this clock is what it reads at the place of the beam
pub reads_there : (fore : ForeValue) (first : ℕ) (seen : RasterValue) (found : Bool) → IsUnderway fore first seen →
    found ≡ has_clx_read (due_events fore.machine.beam fore.run.script.events) → has_clx_read (due_at fore.run fore.machine.t) ≡ found
reads_there fore first seen found underway is =
    ap (λ (b : Beam). has_clx_read (due_events b fore.run.script.events)) underway.at.machine.beam ∙ sym is

-- counts of reads
pub rises_same : (most old new : ℕ) → new ≡ old → Rises 0 most old new
rises_same most old new is = subst (λ (k : ℕ). Rises 0 most old k) (sym is) (rises_none most old)

pub rises_at_place : (fore : ForeValue) (old new : ℕ) → is_band_place fore.run.height fore.machine.beam ≡ true →
    Rises 0 (latched_words fore.run fore.log.band.from fore.machine.t) old new → Rises 0 (looked_up fore) old new
rises_at_place fore old new place rises =
    let L : ℕ = latched_words fore.run fore.log.band.from fore.machine.t in
    subst (λ (b : Bool). Rises 0 (cond b L 0) old new) (sym place) rises

-- the same where a foreground is seen as its fields are
pub begins_within_now : (old now : ForeValue) (log : Log) (seen : RasterValue) (out : OutFilesValue) → old ≡ now → is_done now ≡ false →
    old.log.band.from < old.machine.t → is_band_place now.run.height now.machine.beam ≡ false →
    has_clx_read (due_at now.run now.machine.t) ≡ false → log ≡ with_waiting old.log →
    BeginsClock now (record old { log = log }) 0 seen seen out out
begins_within_now old now log seen out same going before place unread is =
    subst (λ (o : ForeValue). BeginsClock now (record o { log = log }) 0 seen seen out out) (sym same)
    (begins_within now log seen out going (subst (λ (o : ForeValue). o.log.band.from < o.machine.t) same before) place unread
    (subst (λ (o : ForeValue). log ≡ with_waiting o.log) same is))

pub begins_already_now : (old now new : ForeValue) (seen : RasterValue) (out : OutFilesValue) → old ≡ now → is_done now ≡ false →
    old.machine.t ≤ old.log.band.from → has_clx_read (due_at now.run now.machine.t) ≡ false → new ≡ with_band_begun now →
    BeginsClock now new 0 seen seen out out
begins_already_now old now new seen out same going not_before unread begun =
    subst (λ (f : ForeValue). BeginsClock now f 0 seen seen out out) (sym begun)
    (begins_already now seen out going (subst (λ (o : ForeValue). o.machine.t ≤ o.log.band.from) same not_before) unread)

pub before_place : (old now : ForeValue) → old ≡ now → old.log.band.from < old.machine.t → now.log.band.from < now.machine.t
before_place old now same before = subst (λ (o : ForeValue). o.log.band.from < o.machine.t) same before
