-- The access of a clock by the foreground, over plain values.
use Rattle.std.proofs.Common.{◌≡◌, ◌≤◌, ℕ, ◌+◌, true, false, List, [], ◌++◌, Option, Result, Ok, Err}
use Rattle.std.proofs.Common.{OnErr, OnOk, arith, refl, ap, subst, ◌∙◌, sym, inl, inr, append-nil}
use Rattle.mem_versions.specs.Chip.{ChipValue}
use Rattle.out_files.specs.OutFiles.{OutFilesValue}
use Rattle.serial_model.specs.declared.bus.Ask.{Ask}
use Rattle.serial_model.specs.declared.bus.Made.{Made}
use Rattle.serial_model.specs.declared.bus.Made.TheVariants as M
use Rattle.serial_model.specs.declared.picture.Touch.{Touch}
use Rattle.serial_model.specs.declared.trace.TraceLine.{TraceLine}
use Rattle.serial_model.specs.Made.{is_clx_read, touch_of}
use Rattle.serial_model.specs.State.{State}
use Rattle.serial_model.specs.Tick.{ask_of, answer_of}
use Rattle.serial_bands.specs.Run.{RunValue, beam_at, run_memory}
use Rattle.serial_bands.specs.Clock.{made_at, bus_touch_at}
use Rattle.serial_bands.specs.Bands.{begins}
use Rattle.serial_model.specs.Bus.{reads_of_ask}
use Rattle.serial_bands.specs.BusReads.{bus_reads}
use Rattle.serial_bands.specs.Stores.{stores_of, stores_at}
use Rattle.serial_bands.specs.Shadows.{IsInRange}
use Rattle.serial_bands.proofs.BandOrder.{bands_order}
use Rattle.serial_bands.proofs.Gathering.{gathered_next, gathered_read}
use Rattle.chip_set.specs.AskLaws.{is_clx_ask}
use Rattle.chip_set.specs.Chips.{CanDo}
use Rattle.chip_set.proofs.ClxLaws.{clx_read}
use Rattle.band_log.specs.Raster.{RasterValue}
use Rattle.out_files.specs.Gives.{Gives, GivesLines}
use Rattle.machine.specs.Machine.{MachineValue, IsMachineOf, HasMade, HasAskedOf, MakesAccess, IsSamePlace, StaysInPlace, StoresMade, reads_more}
use Rattle.picture_log.specs.Log.{IsLogOf, IsBandOf, with_access_touch}
use Rattle.band_gather.specs.Gathered.{Fits, tinted_range}
use Rattle.serial_bands.specs.Access.{access_state, accessed_state}
use Rattle.foreground.specs.Clock.{AreLeftFrom, IsLogged, IsBehindAccess, HasGiven, HasGivenPart}
use Rattle.foreground.specs.Fore.{ForeValue}
use Rattle.foreground.specs.Steps.{IsBefore, IsLoggedBefore, HasReadByAccess, HasMadeAccess, MakesItsAccess}
use Rattle.foreground.specs.Steps.{MakesAskedAccess, HasAskedNow, StandsBeforeRead, ReadsBits, AccessesPart}
use Rattle.picture_log.specs.declared.log.Log.{Log}
use Rattle.out_files.proofs.GivesLaws.{gives_nothing, gives_then}
use Rattle.band_gather.proofs.GatherLaws.{no_bytes}
use Rattle.machine.proofs.ToldLaws.{told_none}
use Rattle.machine.proofs.RunLaws.{made_at_clock, memory_at_clock, stores_at_clock, touch_at_clock, range_at_clock, place_at_clock, reads_at_clock}
use Rattle.picture_log.proofs.Logging.{log_accessed}
use Rattle.foreground.proofs.LeftLaws.{left_from, log_band, shown_band, IsBeginOf}

-- the access of a clock reads CLXDAT exactly where its ask is for it
pub clx_at_ask : (run : RunValue) (c : ℕ) (ask : Ask) → ask ≡ ask_of (access_state run c) → is_clx_read (made_at run c) ≡ is_clx_ask ask
unfolding made_at
clx_at_ask run c ask is =
    clx_read (ask_of (access_state run c)) (answer_of (access_state run c)) (access_state run c).chips
    ∙ sym (ap (λ a. is_clx_ask a) is)

true_false : true ≡ false → ⊥
true_false wrong = cc

-- and then it stores nothing
no_store : (t : ℕ) (made : Made) (memory : List ℕ) → is_clx_read made ≡ true → stores_of t made memory ≡ []
no_store t M.Nothing memory is = refl
no_store t (M.Wrote reg word by) memory is = refl
no_store t (M.Read reg by) memory is = refl
no_store t (M.Stored at half word) memory is = absurd (true_false (sym is))
no_store t (M.Plane plane at) memory is = refl
no_store t (M.Sprite sprite second at) memory is = refl

-- bands that are outstanding end where the open one begins
pub first_before : (run : RunValue) (number from first : ℕ) (seen : RasterValue) → Fits run number from first seen → first ≤ from
first_before run number from first seen fits = bands_order run fits.least fits.count first from fits.bands

-- what a log stands for is told by base, writes and last cut of the memory
open_same : (run : RunValue) (c : ℕ) (log : Log) (chip after : ChipValue) → after.base ≡ chip.base → after.writes ≡ chip.writes
    → IsBandOf run c log chip → IsBandOf run c log after
open_same run c log chip after base writes band = elim band [
  | inl begins ↦ inl (
    record {
      from = begins.0.from;
      number = begins.0.number;
      begin = begins.0.begin;
      stands = begins.0.stands;
      events = begins.0.events;
      base = base ∙ begins.0.base;
      writes = writes ∙ begins.0.writes;
    },
    begins.1,
  )
  | inr grows ↦ inr (record {
    kept = record {
      order = grows.kept.order;
      number = grows.kept.number;
      begin = grows.kept.begin;
      inner = grows.kept.inner;
      running = grows.kept.running;
      place = grows.kept.place;
      stands = grows.kept.stands;
      log = grows.kept.log;
      size = grows.kept.size;
      base = base ∙ grows.kept.base;
      writes = writes ∙ grows.kept.writes;
    };
    waits = grows.waits;
  })
]

log_same : (run : RunValue) (c : ℕ) (log : Log) (chip after : ChipValue) → after.base ≡ chip.base → after.writes ≡ chip.writes → after.last ≡ chip.last
    → IsLogOf run c log chip → IsLogOf run c log after
log_same run c log chip after base writes last is = record {
  band = open_same run c log chip after base writes is.band;
  least = is.least;
  last = last ∙ is.last;
  shadow = is.shadow;
  range = is.range;
  left = is.left;
}

-- what was given with lines of the trace behind it
pub given_more : (run : RunValue) (first until : ℕ) (seen after : RasterValue) (old between new : OutFilesValue) (lines more : List TraceLine)
    → HasGiven run first until seen after old between lines → Gives between new [] more → HasGiven run first until seen after old new (lines ++ more)
given_more run first until seen after old between new lines more given text = record {
  least = given.least;
  mark = given.mark;
  text = subst (λ p. Gives old new p (lines ++ more)) (append-nil (tinted_range run seen.tint first until))
      (gives_then old between new (tinted_range run seen.tint first until) [] lines more given.text text);
}

pub given_none : (run : RunValue) (first : ℕ) (seen : RasterValue) (out : OutFilesValue) → HasGiven run first first seen seen out out []
given_none run first seen out = record {
  least = omega arith;
  mark = record { bound = refl; mark = refl; tint = refl };
  text = subst (λ (l : List ℕ). Gives out out l []) (sym (no_bytes run seen.tint first)) (gives_nothing out);
}

-- the access was made from where the clock's access is due
made_from : (run : RunValue) (c clx : ℕ) (ask : Ask) (made : Made) (old new : MachineValue) (out given : OutFilesValue)
    → ask ≡ ask_of (access_state run c) → HasAskedOf old (access_state run c) → (is_clx_ask ask ≡ true → (access_state run c).clx ≡ clx)
    → MakesAccess ask clx made old out new given
    → HasMade (record { out = out; trace = (access_state run c).trace }) made new given (access_state run c)
made_from run c clx ask made old new out given is asked bits makes =
    makes (record { out = out; trace = (access_state run c).trace }) (access_state run c) is bits asked (told_none out (access_state run c))

-- an access that does not read CLXDAT: `m1` has asked, `m2` has the answer
pub accessed_quietly : (run : RunValue) (c first clx : ℕ) (ask : Ask) (made : Made) (touch : Option Touch) (m1 m2 : MachineValue) (log noted : Log)
    (seen : RasterValue) (out given : OutFilesValue) → IsLogged run c first m1.chip log clx seen → ask ≡ ask_of (access_state run c)
    → HasAskedOf m1 (access_state run c) → m1.t ≡ c → is_clx_ask ask ≡ false → MakesAccess ask 0 made m1 out m2 given → CanDo made
    → StoresMade m1.t ask made m1.chip m2.chip → touch ≡ touch_of made → (CanDo made → IsInRange touch) → noted ≡ with_access_touch c touch log
    → IsBehindAccess run c first m2 noted clx seen × HasMade (record { out = out; trace = (access_state run c).trace }) made m2 given (access_state run c)
accessed_quietly run c first clx ask made touch m1 m2 log noted seen out given logged asks asked t quiet makes able stores by range notes =
    let has : HasMade (record { out = out; trace = (access_state run c).trace }) made m2 given (access_state run c) =
    made_from run c 0 ask made m1 m2 out given asks asked (λ read. absurd (true_false (sym read ∙ quiet))) makes in
    let at_clock : made ≡ made_at run c = made_at_clock run c made has.makes in
    let unread : is_clx_read (made_at run c) ≡ false = clx_at_ask run c ask asks ∙ quiet in
    let words : m1.chip.words ≡ run_memory run c = sym asked.memory ∙ memory_at_clock run c in
    let stored : m2.chip.writes ≡ m1.chip.writes ++ stores_at run c =
    stores_at_clock run c m1.t ask made m1.chip m2.chip stores t at_clock words in
    let touched : noted ≡ with_access_touch c (bus_touch_at run c) log =
    notes ∙ ap (λ x. with_access_touch c x log) (touch_at_clock run c made touch at_clock by) in
    let low : first ≤ c =
    (let most : first ≤ log.band.from = first_before run log.band.number log.band.from first seen logged.fits in
    let least = logged.shown.least in omega (arith, most, least)) in (
      subst (λ l. IsBehindAccess run c first m2 l clx seen) (sym touched) (record {
        machine = has.stands.machine;
        logged = log_accessed run c log m1.chip m2.chip logged.shown (range_at_clock run c made touch at_clock by range able) stores.base stores.last stored;
        fits = logged.fits;
        gathered = gathered_next run c clx first low unread logged.gathered;
        cut = λ read. absurd (true_false (sym read ∙ unread));
        time = stores.time (c + 1) (let time = logged.time in omega (arith, time)) (omega (arith, t));
      }),
      has,
    )

-- an access that reads CLXDAT, once all bands up to it are gathered
pub accessed_clxdat : (run : RunValue) (c bits : ℕ) (ask : Ask) (made : Made) (m1 m2 : MachineValue) (log : Log) (after : RasterValue)
    (out given : OutFilesValue) → IsLogOf run (c + 1) log m1.chip → Fits run log.band.number (c + 1) (c + 1) after → log.band.from ≡ c + 1
    → m1.chip.newest ≤ c + 1 → ask ≡ ask_of (access_state run c) → HasAskedOf m1 (access_state run c) → m1.t ≡ c → is_clx_ask ask ≡ true
    → (access_state run c).clx ≡ bits → MakesAccess ask bits made m1 out m2 given → StoresMade m1.t ask made m1.chip m2.chip
    → IsBehindAccess run c (c + 1) m2 log 0 after × HasMade (record { out = out; trace = (access_state run c).trace }) made m2 given (access_state run c)
accessed_clxdat run c bits ask made m1 m2 log after out given logged fits begin newest asks asked t read sees makes stores =
    let has : HasMade (record { out = out; trace = (access_state run c).trace }) made m2 given (access_state run c) =
    made_from run c bits ask made m1 m2 out given asks asked (λ it_reads. sees) makes in
    let at_clock : made ≡ made_at run c = made_at_clock run c made has.makes in
    let reads : is_clx_read (made_at run c) ≡ true = clx_at_ask run c ask asks ∙ read in
    let none : m2.chip.writes ≡ m1.chip.writes =
    stores.writes ∙ ap (λ w. m1.chip.writes ++ w) (no_store m1.t made m1.chip.words (ap (λ m. is_clx_read m) at_clock ∙ reads)) ∙ append-nil m1.chip.writes in (
      record {
        machine = has.stands.machine;
        logged = log_same run (c + 1) log m1.chip m2.chip stores.base none stores.last logged;
        fits = subst (λ k. Fits run log.band.number k (c + 1) after) (sym begin) fits;
        gathered = gathered_read run c reads;
        cut = λ it_reads. begin;
        time = stores.time (c + 1) newest (omega (arith, t));
      },
      has,
    )

-- the foreground's access once its chips have asked, where it does not read CLXDAT
pub makes_quietly : (f : ForeValue) (ask : Ask) (made : Made) (touch : Option Touch) (m2 : MachineValue) (noted : Log) (seen : RasterValue)
    (out given : OutFilesValue) → HasAskedNow ask f → is_clx_ask ask ≡ false → MakesAccess ask 0 made f.machine out m2 given → CanDo made
    → StaysInPlace f.machine m2 → StoresMade f.machine.t ask made f.machine.chip m2.chip → touch ≡ touch_of made → (CanDo made → IsInRange touch)
    → noted ≡ with_access_touch m2.t touch f.log → MakesAskedAccess f (record f { machine = m2; log = noted }) seen seen out given
makes_quietly f ask made touch m2 noted seen out given now quiet makes able place stores by range notes first logged =
    let c : ℕ = f.machine.t in
    let both = accessed_quietly f.run c first f.clx ask made touch f.machine m2 f.log noted seen out given logged now.asks now.asked refl quiet makes able
    stores by range (notes ∙ ap (λ k. with_access_touch k touch f.log) place.t) in
    record {
      until = first;
      behind = subst (λ k. IsBehindAccess f.run k first m2 noted f.clx seen) (sym place.t) both.0;
      lines = both.1.stands.told.lines;
      trace = both.1.stands.told.trace;
      gives = given_more f.run first first seen seen out out given [] both.1.stands.told.lines (given_none f.run first seen out) both.1.stands.told.text;
    }

-- and where it does: `g` is the foreground once CLXDAT was read
pub makes_with_read : (f g : ForeValue) (first bits : ℕ) (ask : Ask) (made : Made) (m2 : MachineValue) (seen after : RasterValue)
    (out between given : OutFilesValue)
    → HasReadByAccess f g first bits seen after out between → ask ≡ ask_of (access_state f.run f.machine.t)
    → HasAskedOf f.machine (access_state f.run f.machine.t) → is_clx_ask ask ≡ true → MakesAccess ask bits made g.machine between m2 given
    → StaysInPlace g.machine m2 → StoresMade g.machine.t ask made g.machine.chip m2.chip
    → HasMadeAccess f (record g { machine = m2 }) first seen after out given
makes_with_read f g first bits ask made m2 seen after out between given read asks asked is makes place stores =
    let c : ℕ = f.machine.t in
    let t : g.machine.t ≡ c = ap (λ (x : ForeValue). x.machine.t) read.same in
    let run : g.run ≡ f.run = ap (λ (x : ForeValue). x.run) read.same in
    let count : m2.t ≡ c = place.t ∙ t in
    let chips = ap (λ (x : ForeValue). x.machine.chips) read.same in
    let so : HasAskedOf g.machine (access_state f.run c) =
    subst (λ (m : MachineValue). HasAskedOf m (access_state f.run c)) (sym (ap (λ (x : ForeValue). x.machine) read.same)) (record {
      t = asked.t;
      beam = asked.beam;
      memory = asked.memory ∙ sym read.words;
      chips = asked.chips;
      side = asked.side;
      time = asked.time;
    }) in
    let both = accessed_clxdat f.run c bits ask made g.machine m2 g.log after between given
    (subst (λ r. IsLogOf r (c + 1) g.log g.machine.chip) run read.at.log)
    (subst (λ r. Fits r g.log.band.number (c + 1) (c + 1) after) run read.at.fits) read.at.begin read.at.time asks so t is read.bits makes stores in
    record {
      until = c + 1;
      behind = subst (λ r. IsBehindAccess r m2.t (c + 1) m2 g.log g.clx after) (sym run)
          (subst (λ k. IsBehindAccess f.run k (c + 1) m2 g.log g.clx after) (sym count)
          (subst (λ k. IsBehindAccess f.run c (c + 1) m2 g.log k after) (sym read.empty) both.0));
      lines = both.1.stands.told.lines;
      trace = both.1.stands.told.trace;
      gives = given_more f.run first (c + 1) seen after out between given [] both.1.stands.told.lines read.gives both.1.stands.told.text;
    }

-- its chips have asked: a read of CLXDAT is about to be made
pub stands_at_read : (f : ForeValue) (ask : Ask) (seen : RasterValue) → HasAskedNow ask f → is_clx_ask ask ≡ true
    → (first : ℕ) × IsLoggedBefore f first seen → StandsBeforeRead true f seen
stands_at_read f ask seen now is before =
    (before.0, before.1, clx_at_ask f.run f.machine.t ask now.asks ∙ is, now.place)

pub asked_after_read : (f g : ForeValue) (first bits : ℕ) (ask : Ask) (seen after : RasterValue) (out between : OutFilesValue)
    → HasReadByAccess f g first bits seen after out between → HasAskedNow ask f → HasAskedOf g.machine (access_state f.run f.machine.t)
asked_after_read f g first bits ask seen after out between read now =
    subst (λ (m : MachineValue). HasAskedOf m (access_state f.run f.machine.t)) (sym (ap (λ (x : ForeValue). x.machine) read.same)) (record {
      t = now.asked.t;
      beam = now.asked.beam;
      memory = now.asked.memory ∙ sym read.words;
      chips = now.asked.chips;
      side = now.asked.side;
      time = now.asked.time;
    })

-- a part of the pixels: none where only lines were given, or all that were
pub part_of_lines : (run : RunValue) (first : ℕ) (seen : RasterValue) (out given : OutFilesValue) → GivesLines out given
    → AreLeftFrom run first seen → HasGivenPart run first seen seen out given
part_of_lines run first seen out given told left = record {
  until = first;
  least = omega arith;
  left = left;
  mark = record { bound = refl; mark = refl; tint = refl };
  part = [];
  rest = [];
  lines = told.0;
  split = sym (no_bytes run seen.tint first);
  text = told.1;
}

pub part_of_given : (run : RunValue) (first until : ℕ) (seen after : RasterValue) (out given : OutFilesValue) (lines : List TraceLine)
    → AreLeftFrom run until after → HasGiven run first until seen after out given lines → HasGivenPart run first seen after out given
part_of_given run first until seen after out given lines left all = record {
  until = until;
  least = all.least;
  left = left;
  mark = all.mark;
  part = tinted_range run seen.tint first until;
  rest = [];
  lines = lines;
  split = append-nil (tinted_range run seen.tint first until);
  text = all.text;
}

-- once the chips of a foreground have asked: `m1` is its machine then
pub asked_now : (g : ForeValue) (m1 : MachineValue) (ask : Ask) (first : ℕ) (seen : RasterValue) → IsBefore g first seen
    → ((s : State) → IsMachineOf g.machine s → ask ≡ ask_of s) → ((s : State) → IsMachineOf g.machine s → HasAskedOf m1 s)
    → m1 ≡ record g.machine { chips = m1.chips } → HasAskedNow ask (record g { machine = m1 })
asked_now g m1 ask first seen is asks asked same =
    let t : g.machine.t ≡ m1.t = sym (ap (λ (m : MachineValue). m.t) same) in
    let beam : (access_state g.run g.machine.t).beam ≡ m1.beam = is.machine.beam ∙ sym (ap (λ (m : MachineValue). m.beam) same) in
    let place : IsSamePlace (beam_at g.run g.machine.t) m1.beam =
    subst (λ b. IsSamePlace (beam_at g.run g.machine.t) b) beam (place_at_clock g.run g.machine.t) in
    record {
      asks = subst (λ k. ask ≡ ask_of (access_state g.run k)) t (asks (access_state g.run g.machine.t) is.machine);
      asked = subst (λ k. HasAskedOf m1 (access_state g.run k)) t (asked (access_state g.run g.machine.t) is.machine);
      place = subst (λ k. IsSamePlace (beam_at g.run k) m1.beam) t place;
    }

pub logged_once_asked : (g : ForeValue) (m1 : MachineValue) (first : ℕ) (seen : RasterValue) → IsBefore g first seen
    → m1 ≡ record g.machine { chips = m1.chips } → IsLoggedBefore (record g { machine = m1 }) first seen
logged_once_asked g m1 first seen is same =
    subst (λ k. IsLogged g.run k first m1.chip g.log g.clx seen) (sym (ap (λ (m : MachineValue). m.t) same))
    (subst (λ x. IsLogged g.run g.machine.t first x g.log g.clx seen) (sym (ap (λ (m : MachineValue). m.chip) same)) is.logged)

pub makes_by_access : (f g new : ForeValue) (m1 : MachineValue) (ask : Ask) (seen after : RasterValue) (out given : OutFilesValue) → g ≡ f
    → m1 ≡ record g.machine { chips = m1.chips } → MakesAskedAccess (record g { machine = m1 }) new seen after out given
    → MakesItsAccess f new seen after out given
makes_by_access f g new m1 ask seen after out given view same makes =
    subst (λ x. MakesItsAccess x new seen after out given) view (λ first is.
    let made : HasMadeAccess (record g { machine = m1 }) new first seen after out given = makes first (logged_once_asked g m1 first seen is same) in
    record {
      until = made.until;
      behind = made.behind;
      lines = made.lines;
      trace = subst (λ k. (accessed_state g.run k).trace ≡ (access_state g.run k).trace ++ made.lines) (ap (λ (m : MachineValue). m.t) same) made.trace;
      gives = made.gives;
    })

pub reads_of_access : (f g : ForeValue) (m1 : MachineValue) (ask : Ask) (first reads : ℕ) (seen : RasterValue) → g ≡ f → IsBefore f first seen
    → ((s : State) → IsMachineOf g.machine s → ask ≡ ask_of s) → m1 ≡ record g.machine { chips = m1.chips }
    → reads ≡ reads_more (reads_of_ask ask) m1.chip.reads → reads ≡ reads_more (bus_reads f.run f.machine.t) f.machine.chip.reads
reads_of_access f g m1 ask first reads seen view is asks same count =
    let so : IsBefore g first seen = subst (λ x. IsBefore x first seen) (sym view) is in
    let bus : reads_of_ask ask ≡ bus_reads g.run g.machine.t =
    reads_at_clock g.run g.machine.t ask (asks (access_state g.run g.machine.t) so.machine) in
    subst (λ (x : ForeValue). reads ≡ reads_more (bus_reads x.run x.machine.t) x.machine.chip.reads) view
    (count ∙ ap (λ n. reads_more n m1.chip.reads) bus
    ∙ ap (λ (m : MachineValue). reads_more (bus_reads g.run g.machine.t) m.chip.reads) same)

-- the lines of an access were given, also where memory was wanted for its touch
pub lines_of_access : (f g : ForeValue) (m2 : MachineValue) (ask : Ask) (made : Made) (out given : OutFilesValue) → g ≡ f → HasAskedNow ask f
    → is_clx_ask ask ≡ false → MakesAccess ask 0 made g.machine out m2 given → GivesLines out given
lines_of_access f g m2 ask made out given view now quiet makes =
    let so : HasAskedNow ask g = subst (λ x. HasAskedNow ask x) (sym view) now in
    let has = made_from g.run g.machine.t 0 ask made g.machine m2 out given so.asks so.asked (λ read. absurd (true_false (sym read ∙ quiet))) makes in
    (has.stands.told.lines, has.stands.told.text)

pub makes_quietly_of : (f g : ForeValue) (ask : Ask) (made : Made) (touch : Option Touch) (m2 : MachineValue) (noted : Log) (seen : RasterValue)
    (out given : OutFilesValue) → g ≡ f → HasAskedNow ask f → is_clx_ask ask ≡ false → MakesAccess ask 0 made g.machine out m2 given → CanDo made
    → StaysInPlace g.machine m2 → StoresMade g.machine.t ask made g.machine.chip m2.chip → touch ≡ touch_of made → (CanDo made → IsInRange touch)
    → noted ≡ with_access_touch m2.t touch g.log → MakesAskedAccess f (record g { machine = m2; log = noted }) seen seen out given
makes_quietly_of f g ask made touch m2 noted seen out given view now quiet makes able place stores by range notes =
    subst (λ x. MakesAskedAccess x (record g { machine = m2; log = noted }) seen seen out given) view
    (makes_quietly g ask made touch m2 noted seen out given (subst (λ x. HasAskedNow ask x) (sym view) now) quiet makes able place stores by range notes)

pub makes_with_read_of : (f f1 g : ForeValue) (bits : ℕ) (ask : Ask) (made : Made) (m2 : MachineValue) (seen after : RasterValue)
    (out between given : OutFilesValue)
    → g ≡ f1 → ReadsBits true f f1 bits seen after out between → HasAskedNow ask f → is_clx_ask ask ≡ true
    → MakesAccess ask bits made g.machine between m2 given → StaysInPlace g.machine m2 → StoresMade g.machine.t ask made g.machine.chip m2.chip
    → MakesAskedAccess f (record g { machine = m2 }) seen after out given
makes_with_read_of f f1 g bits ask made m2 seen after out between given view reads now is makes place stores first logged =
    makes_with_read f g first bits ask made m2 seen after out between given
    (subst (λ x. HasReadByAccess f x first bits seen after out between) (sym view) (reads first logged)) now.asks now.asked is makes place stores

pub part_of_read : (f f1 : ForeValue) (bits : ℕ) (seen after : RasterValue) (out between given : OutFilesValue)
    → ReadsBits true f f1 bits seen after out between → given ≡ between → AccessesPart f seen after out given
part_of_read f f1 bits seen after out between given reads same first logged =
    let read : HasReadByAccess f f1 first bits seen after out between = reads first logged in
    let t : ℕ = f.machine.t in
    let left : AreLeftFrom f1.run (t + 1) after =
    left_from f1.run f1.log.band.number (t + 1) (t + 1) after
    (subst (λ k. IsBeginOf f1.run k f1.log.band.number) read.at.begin (log_band f1.run (t + 1) f1.log f1.machine.chip read.at.log)) read.at.fits in
    subst (λ o. HasGivenPart f.run first seen after out o) (sym same)
    (part_of_given f.run first (t + 1) seen after out between []
    (subst (λ r. AreLeftFrom r (t + 1) after) (ap (λ (x : ForeValue). x.run) read.same) left) read.gives)

pub before_view : (f g : ForeValue) (first : ℕ) (seen : RasterValue) → g ≡ f → IsBefore f first seen → IsBefore g first seen
before_view f g first seen view is = subst (λ x. IsBefore x first seen) (sym view) is

pub some_state_asked : (f g : ForeValue) (ask : Ask) → g ≡ f → HasAskedNow ask f → (s : State) × (ask ≡ ask_of s) × HasAskedOf g.machine s
some_state_asked f g ask view now =
    let so : HasAskedNow ask g = subst (λ x. HasAskedNow ask x) (sym view) now in
    (access_state g.run g.machine.t, so.asks, so.asked)

-- what holds whatever was answered holds after a refusal
pub on_err : {T E P : Type 0} (r : Result T E) → P → OnErr r P
on_err (Ok x) p = tt
on_err (Err e) p = p

pub quiet_part : (f : ForeValue) (seen : RasterValue) (out given : OutFilesValue) → GivesLines out given → AccessesPart f seen seen out given
quiet_part f seen out given told first logged =
    part_of_lines f.run first seen out given told
    (left_from f.run f.log.band.number f.log.band.from first seen
    (shown_band f.run f.machine.t f.log f.machine.chip logged.shown) logged.fits)

pub on_ok_two : {T E P Q R : Type 0} (r : Result T E) → (P → Q → R) → OnOk r P → OnOk r Q → OnOk r R
on_ok_two (Ok x) both p q = both p q
on_ok_two (Err e) both p q = tt
