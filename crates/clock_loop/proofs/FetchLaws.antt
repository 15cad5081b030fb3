-- Clocks at which everybody but the bitplanes rests: what they make of machine, log and foreground.
use Rattle.std.proofs.Common.{◌≡◌, ◌≤◌, ◌<◌, ℕ, zero, suc, ◌+◌, false, List, [], ◌++◌}
use Rattle.std.proofs.Common.{Option, Some, None, IfSome, arith, refl, ap, subst, ◌∙◌, sym, append-nil, add-one}
use Rattle.std.specs.Option.{option_map}
use Rattle.mem_versions.specs.Chip.{ChipValue}
use Rattle.ocs_base.specs.declared.beam.Beam.{Beam}
use Rattle.ocs_base.specs.declared.script.At.{At}
use Rattle.ocs_base.specs.declared.system.System.{System}
use Rattle.out_files.specs.OutFiles.{OutFilesValue}
use Rattle.serial_model.specs.declared.bus.Made.{Made}
use Rattle.serial_model.specs.declared.fetch.PlaneAsk.{PlaneAsk}
use Rattle.serial_model.specs.Beam.{IsOnScreen, place_of, later_beam}
use Rattle.serial_model.specs.Bus.{plane_wish, plane_owner_ask, ask_at}
use Rattle.serial_model.specs.Cias.{tick_timers}
use Rattle.serial_model.specs.Events.{due_events, touches_of}
use Rattle.serial_model.specs.Laws.{made_in}
use Rattle.serial_model.specs.Made.{touch_of, is_clx_read}
use Rattle.serial_model.specs.PlaneFetch.{fetched_plane, last_unit, units_at, ask_for_plane, plane_ask, IsLastUnit}
use Rattle.serial_model.specs.Processor.{Processor}
use Rattle.serial_model.specs.Registers.{Registers, dmacon_of}
use Rattle.serial_model.specs.Side.{SideValue, later_side, no_side, bits_of_side, ask_of_side}
use Rattle.serial_model.specs.State.{Chips, State}
use Rattle.serial_model.specs.Tick.{before_access, ask_of}
use Rattle.serial_model.proofs.FetchLaws.{IsFetch, fetched_plane-is, last_unit-units_at, units_at-is}
use Rattle.serial_bands.specs.Bands.{begins, has_clx_read, has_read_at, has_read_before, is_band_place}
use Rattle.serial_model.specs.Bus.{reads_of_ask}
use Rattle.serial_bands.specs.BusReads.{bus_reads}
use Rattle.serial_bands.specs.Clock.{access_at, made_at, due_at, bus_touch_at}
use Rattle.serial_bands.specs.Run.{RunValue, state_of, beam_at, run_memory}
use Rattle.serial_bands.specs.Shadows.{IsInRange}
use Rattle.serial_bands.specs.Stores.{stores_of, stores_at}
use Rattle.serial_bands.proofs.Gathering.{gathered_start, gathered_next}
use Rattle.serial_bands.proofs.WholeRun.{frames_rise}
use Rattle.band_log.specs.Raster.{RasterValue}
use Rattle.chip_set.specs.Chips.{IsChipsOf, WorkingChips}
use Rattle.chip_set.specs.Quiet.{AreAtRest, HaveFetched, PassesFetches, fetching_in}
use Rattle.chip_set.proofs.FetchLaws.{fetches_pass}
use Rattle.quiet_clocks.specs.PlainClock.{AsksNothingNew, asked_by_side}
use Rattle.quiet_clocks.specs.QuietClocks.{clocks}
use Rattle.quiet_clocks.specs.FetchClocks.{IsAtRest, IsFetchClock, IsFetchSpan, AreResting, made_by_plane, Planes, planes_on, planes_of_chips, ask_of_planes}
use Rattle.quiet_clocks.specs.FetchClocks.{Fetching, fetching_on, ask_of_fetching, fetched_later, state_fetched_later}
use Rattle.quiet_clocks.proofs.FetchClocks.{fetch_makes, planes_have, fetch_span, fewer_fetch_clocks, each_is_fetch_clock, fetching_later, kept_on, AreKept}
use Rattle.quiet_clocks.proofs.PlainClock.{before_plain}
use Rattle.quiet_clocks.proofs.QuietClocks.{clocks_of_run}
use Rattle.foreground.specs.Clock.{IsAt}
use Rattle.clock_loop.specs.code.Fetches.{with_fetch, with_fetches, clocks_of_planes}
use Rattle.foreground.specs.Fore.{ForeValue, HasScript, IsUnderway, is_done}
use Rattle.picture_log.specs.Log.{IsLogOf, IsShown, with_waiting, with_script_touches, with_access_touch}
use Rattle.machine.specs.Machine.{MachineValue, IsMachineOf}
use Rattle.clock_loop.specs.code.Quiet.{HasPassed}
use Rattle.clock_loop.specs.RunTo.{RunsOn}
use Rattle.picture_log.specs.declared.log.Log.{Log}
use Rattle.machine.specs.declared.machine.Machine.{Machine}
use Rattle.foreground.proofs.AdvanceLaws.{going}
use Rattle.foreground.proofs.CutLaws.{gives_none}
use Rattle.picture_log.proofs.Logging.{log_starts, log_shown, log_accessed}
use Rattle.machine.proofs.QuietLaws.{none_later}
use Rattle.clock_loop.proofs.QuietLaws.{none_of, no_place, reads_no_bits, not_touched, not_both, IsKept, kept_next}
use Rattle.clock_loop.proofs.QuietLaws.{waits_no_more, on_later, script_later, kept_of, unread_before}
use Rattle.foreground.proofs.ReadingLaws.{fits_least}

-- ---- what a fetch makes

-- a plane that is fetched is one of six
range_of : (registers : Registers) (h : ℕ) (found : Option ℕ) → IfSome found (IsFetch h)
    → IsInRange (touch_of (made_by_plane (option_map (λ plane. ask_for_plane registers plane) found)))
range_of registers h None within = tt
range_of registers h (Some plane) within = (within.first, within.most)

in_range : (h : ℕ) (registers : Registers) (last : Option ℕ) → IsLastUnit last → IsInRange (touch_of (made_by_plane (plane_ask h registers last)))
in_range h registers last unit = range_of registers h (fetched_plane h registers last) (fetched_plane-is h registers last unit)

no_reads_of : (ask : Option PlaneAsk) → reads_of_ask (plane_owner_ask ask) ≡ 0
no_reads_of None = refl
no_reads_of (Some ask) = refl

no_clx_read : (ask : Option PlaneAsk) → is_clx_read (made_by_plane ask) ≡ false
no_clx_read None = refl
no_clx_read (Some ask) = refl

-- the access of such a clock
rest_timed : (t : ℕ) (b : Beam) (c : Chips) → IsAtRest b c → IsAtRest b (tick_timers t c)
rest_timed t b c rest = record {
  kinds = rest.kinds;
  sprite = rest.sprite;
  copper = rest.copper;
  steps = rest.steps;
  blit = rest.blit;
  wish = rest.wish;
}

fetch_asks : (system : System) (events : List At) (s : State) (after : Processor) → IsFetchClock events s after
    → ask_of (before_access system events s) ≡ plane_owner_ask (plane_wish s.beam s.chips)
unfolding ask_at
fetch_asks system events s after clock =
    ap (λ (x : State). ask_of x) (before_plain system events s clock.plain)
    ∙ planes_have (asked_by_side s) s.beam (tick_timers s.t s.chips) clock.side clock.unit (rest_timed s.t s.beam s.chips clock.rest)

-- ---- the states of a run

abbrev IsFetchedFrom : RunValue → ℕ → ℕ → (ℕ → Processor) → Type 0
IsFetchedFrom run c n processors = IsFetchSpan run.script.events (state_of run c) n processors

abbrev later_of : RunValue → ℕ → ℕ → (ℕ → Processor) → State
later_of run c k processors = state_fetched_later run.script.system run.script.events k processors (state_of run c)

state_later : (run : RunValue) (c n k : ℕ) (processors : ℕ → Processor) → IsFetchedFrom run c n processors → k ≤ n
    → state_of run (c + k) ≡ later_of run c k processors
state_later run c n k processors span low =
    clocks_of_run run.side run.image run.script c k
    ∙ fetch_span run.script.system run.script.events k (state_of run c) processors
    (fewer_fetch_clocks run.script.events k n (state_of run c) processors low span)

beam_later : (run : RunValue) (c n k : ℕ) (processors : ℕ → Processor) → IsFetchedFrom run c n processors → k ≤ n
    → beam_at run (c + k) ≡ later_beam k (beam_at run c)
unfolding state_fetched_later
beam_later run c n k processors span low = ap (λ (s : State). s.beam) (state_later run c n k processors span low)

trace_later : (run : RunValue) (c n : ℕ) (processors : ℕ → Processor) → IsFetchedFrom run c n processors
    → (state_of run (c + n)).trace ≡ (state_of run c).trace
unfolding state_fetched_later
trace_later run c n processors span = ap (λ (s : State). s.trace) (state_later run c n n processors span (omega arith))

-- what the planes ask for at a clock among them
abbrev planes_at : State → ℕ → Planes
planes_at s k = planes_on k s.beam (planes_of_chips s.chips)

abbrev asked_at : RunValue → ℕ → ℕ → Option PlaneAsk
asked_at run c k = ask_of_planes (later_beam k (beam_at run c)) (planes_at (state_of run c) k)

access_later : (run : RunValue) (c n k : ℕ) (processors : ℕ → Processor) → IsFetchedFrom run c n processors → k < n
    → access_at run (c + k) ≡ plane_owner_ask (asked_at run c k)
unfolding access_at state_fetched_later
access_later run c n k processors span low =
    ap (λ (s : State). ask_of (before_access run.script.system run.script.events s)) (state_later run c n k processors span (omega (arith, low)))
    ∙ fetch_asks run.script.system run.script.events (later_of run c k processors) (processors (suc k))
    (each_is_fetch_clock run.script.system run.script.events n k (state_of run c) processors span low)

made_later : (run : RunValue) (c n k : ℕ) (processors : ℕ → Processor) → IsFetchedFrom run c n processors → k < n
    → made_at run (c + k) ≡ made_by_plane (asked_at run c k)
unfolding made_at state_fetched_later
made_later run c n k processors span low =
    ap (λ (s : State). made_in_run run s) (state_later run c n k processors span (omega (arith, low)))
    ∙ fetch_makes run.script.system run.script.events (later_of run c k processors) (processors (suc k))
    (each_is_fetch_clock run.script.system run.script.events n k (state_of run c) processors span low)
  where
    made_in_run : RunValue → State → Made
    made_in_run run s = made_in run.script.system run.script.events s

no_reads_later : (run : RunValue) (c n k : ℕ) (processors : ℕ → Processor) → IsFetchedFrom run c n processors → k < n → bus_reads run (c + k) ≡ 0
no_reads_later run c n k processors span low = ap (λ a. reads_of_ask a) (access_later run c n k processors span low) ∙ no_reads_of (asked_at run c k)

due_later : (run : RunValue) (c n k : ℕ) (processors : ℕ → Processor) → IsFetchedFrom run c n processors → k < n → due_at run (c + k) ≡ []
due_later run c n k processors span low =
    ap (λ (b : Beam). due_events b run.script.events) (beam_later run c n k processors span (omega (arith, low))) ∙ span.due k low

read_before_later : (run : RunValue) (c n k : ℕ) (processors : ℕ → Processor) → IsFetchedFrom run c n processors → k < n
    → has_read_before run c ≡ false → has_read_before run (c + k) ≡ false
read_before_later run c n zero processors span low unread =
    let e : c + 0 ≡ c = omega arith in
    ap (λ j. has_read_before run j) e ∙ unread
read_before_later run c n (suc k) processors span low unread =
    let e : c + suc k ≡ suc (c + k) = omega arith in
    ap (λ j. has_read_before run j) e ∙ ap (λ m. is_clx_read m) (made_later run c n k processors span (omega (arith, low)))
    ∙ no_clx_read (asked_at run c k)

begins_later : (run : RunValue) (c n k : ℕ) (processors : ℕ → Processor) → IsFetchedFrom run c n processors → k < n → has_read_before run c ≡ false
    → begins run (c + k) ≡ false
unfolding begins has_read_at
begins_later run c n k processors span low unread =
    none_of (is_band_place run.height (beam_at run (c + k))) (has_clx_read (due_at run (c + k))) (has_read_before run (c + k))
    (ap (λ b. is_band_place run.height b) (beam_later run c n k processors span (omega (arith, low))) ∙ no_place run.height k (beam_at run c) span.inner)
    (reads_no_bits (due_at run (c + k)) (due_later run c n k processors span low))
    (read_before_later run c n k processors span low unread)

frame_later : (run : RunValue) (c n k : ℕ) (processors : ℕ → Processor) → IsFetchedFrom run c n processors → k ≤ n
    → (beam_at run (c + k)).frame ≡ (beam_at run c).frame
frame_later run c n k processors span low = ap (λ (b : Beam). b.frame) (beam_later run c n k processors span low)

-- ---- the log at a clock that makes a fetch at most

-- what is known of a clock of a run by which at most this fetch comes to the log with it
record MakesFetch (run : RunValue) (c : ℕ) (ask : Option PlaneAsk) : Type 0 where
  pub inner : begins run c ≡ false
  pub going : (beam_at run c).frame < run.script.frames
  pub due : due_at run c ≡ []
  pub made : made_at run c ≡ made_by_plane ask
  pub range : IsInRange (touch_of (made_by_plane ask))

makes_fetch : (run : RunValue) (c n k : ℕ) (processors : ℕ → Processor) → IsFetchedFrom run c n processors → k < n → has_read_before run c ≡ false
    → (beam_at run c).frame < run.script.frames → MakesFetch run (c + k) (asked_at run c k)
makes_fetch run c n k processors span low unread going =
    let p : Planes = planes_at (state_of run c) k in
    let b : Beam = later_beam k (beam_at run c) in
    let kept : AreKept p (planes_of_chips (state_of run c).chips) = kept_on k (beam_at run c) (planes_of_chips (state_of run c).chips) span.unit in
    record {
      inner = begins_later run c n k processors span low unread;
      going = omega (arith, going, frame_later run c n k processors span (omega (arith, low)));
      due = due_later run c n k processors span low;
      made = made_later run c n k processors span low;
      range = in_range b.h p.registers (last_unit (units_at b p.registers p.units)) (units_at-is b p.registers p.units kept.unit);
    }

log_fetches : (run : RunValue) (c : ℕ) (log : Log) (chip : ChipValue) (ask : PlaneAsk) → IsLogOf run c log chip → MakesFetch run c (Some ask)
    → IsLogOf run (c + 1) (with_fetch c (Some ask) (with_waiting log)) chip
log_fetches run c log chip ask is one =
    let touched : with_script_touches c (touches_of (due_at run c)) (with_waiting log) ≡ with_waiting log =
    ap (λ es. with_script_touches c (touches_of es) (with_waiting log)) one.due ∙ not_touched c (with_waiting log) in
    let shown : IsShown run c (with_waiting log) chip =
    subst (λ l. IsShown run c l chip) touched
    (log_shown run c (with_waiting log) chip (log_starts run c log chip is one.inner one.going)) in
    let range : IsInRange (bus_touch_at run c) = subst (λ m. IsInRange (touch_of m)) (sym one.made) one.range in
    let writes : chip.writes ≡ chip.writes ++ stores_at run c =
    sym (append-nil chip.writes) ∙ ap (λ m. chip.writes ++ stores_of c m (run_memory run c)) (sym one.made) in
    subst (λ l. IsLogOf run (c + 1) l chip) (ap (λ m. with_access_touch c (touch_of m) (with_waiting log)) one.made)
    (log_accessed run c (with_waiting log) chip chip shown range refl refl writes)

kept_with : (run : RunValue) (c first : ℕ) (chip : ChipValue) (log : Log) (clx : ℕ) (seen : RasterValue) (ask : Option PlaneAsk)
    → IsKept run c first chip log clx seen → MakesFetch run c ask → IsKept run (c + 1) first chip (with_fetch c ask (with_waiting log)) clx seen
kept_with run c first chip log clx seen None is one =
    kept_next run c first chip log clx seen is (record { inner = one.inner; going = one.going; due = one.due; made = one.made })
kept_with run c first chip log clx seen (Some ask) is one =
    let unread : is_clx_read (made_at run c) ≡ false = ap (λ m. is_clx_read m) one.made in
    let no_cut : has_read_before run (c + 1) ≡ false = ap (λ k. has_read_before run k) (add-one c) ∙ unread in
    record {
      logged = log_fetches run c log chip ask is.logged one;
      fits = is.fits;
      gathered = gathered_next run c clx first (omega (arith, fits_least run log.band.number log.band.from first seen is.fits, is.logged.least)) unread
          (gathered_start run c clx first (reads_no_bits (due_at run c) one.due) is.gathered);
      cut = λ read. absurd (not_both (has_read_before run (c + 1)) read no_cut);
      time = omega (arith, is.time);
    }

-- none waits behind a fetch
with_none : (c : ℕ) (ask : Option PlaneAsk) (log : Log) → with_waiting log ≡ log → with_waiting (with_fetch c ask log) ≡ with_fetch c ask log
with_none c None log none = none
with_none c (Some ask) log none =
    let noted : Log = with_fetch c (Some ask) log in
    ap (λ es. record noted { band = record noted.band { events = es } }) (append-nil noted.band.events)

none_waits : (n : ℕ) (b : Beam) (c : ℕ) (f : Fetching) (log : Log)
    → with_waiting (with_fetches n b c f (with_waiting log)) ≡ with_fetches n b c f (with_waiting log)
unfolding with_fetches
none_waits zero b c f log = waits_no_more log
none_waits (suc n) b c f log =
    with_none (c + n) (ask_of_fetching (later_beam n b) (fetching_on n b f)) (with_fetches n b c f (with_waiting log)) (none_waits n b c f log)

abbrev fetches_of : ℕ → Beam → ℕ → Fetching → Log → Log
fetches_of n b c f log = with_fetches n b c f (with_waiting log)

kept_later : (run : RunValue) (c n first : ℕ) (b : Beam) (f : Fetching) (chip : ChipValue) (log : Log) (clx : ℕ) (seen : RasterValue)
    → IsKept run c first chip log clx seen
    → ((k : ℕ) → k < suc n → MakesFetch run (c + k) (ask_of_fetching (later_beam k b) (fetching_on k b f)))
    → IsKept run (c + suc n) first chip (fetches_of (suc n) b c f log) clx seen
unfolding with_fetches fetching_on
kept_later run c zero first b f chip log clx seen is made =
    let here : c + 0 ≡ c = omega arith in
    let ask : Option PlaneAsk = ask_of_fetching (later_beam 0 b) f in
    subst (λ k. IsKept run (c + 1) first chip (with_fetch k ask (with_waiting log)) clx seen) (sym here)
    (kept_with run c first chip log clx seen ask is (subst (λ k. MakesFetch run k ask) here (made 0 (omega arith))))
kept_later run c (suc n) first b f chip log clx seen is made =
    let before : IsKept run (c + suc n) first chip (fetches_of (suc n) b c f log) clx seen =
    kept_later run c n first b f chip log clx seen is (λ k low. made k (omega (arith, low))) in
    let ask : Option PlaneAsk = ask_of_fetching (later_beam (suc n) b) (fetching_on (suc n) b f) in
    let e : c + suc n + 1 ≡ c + suc (suc n) = omega arith in
    subst (λ k. IsKept run k first chip (fetches_of (suc (suc n)) b c f log) clx seen) e
    (subst (λ l. IsKept run (c + suc n + 1) first chip (with_fetch (c + suc n) ask l) clx seen) (none_waits (suc n) b c f log)
    (kept_with run (c + suc n) first chip (fetches_of (suc n) b c f log) clx seen ask before (made (suc n) (omega arith))))

-- ---- the machine

abbrev moved : MachineValue → WorkingChips → ℕ → MachineValue
moved m chips n = record m { t = m.t + n; beam = later_beam n m.beam; chips = chips }

stays_none : (n : ℕ) (b : Beam) (dmacon : ℕ) (side : SideValue) → side ≡ no_side → later_side n b dmacon side ≡ no_side
stays_none n b dmacon side none = sym (none_later n b dmacon side none) ∙ none

span_of_chips : (events : List At) (s : State) (n : ℕ) (processors : ℕ → Processor) → 0 < s.beam.h → s.beam.h + n ≤ 226 → s.side ≡ no_side
    → ((k : ℕ) → k < n → due_events (later_beam k s.beam) events ≡ []) → AreResting s.beam s.t n processors s.chips
    → IsFetchSpan events s n processors
span_of_chips events s n processors inner last none due are =
    let dmacon = dmacon_of s.chips.registers in
    record {
      inner = inner;
      last = last;
      begin = are.begin;
      unit = are.unit;
      due = due;
      lines = λ k low. subst (λ (x : SideValue). AsksNothingNew (bits_of_side (later_beam k s.beam) dmacon x) s.chips)
          (sym (stays_none k s.beam dmacon s.side none)) are.lines;
      side = λ k low. ap (λ (x : SideValue). ask_of_side (later_beam k s.beam) dmacon x) (stays_none (suc k) s.beam dmacon s.side none);
      rest = are.rest;
      turns = are.turns;
      timers_a = are.timers_a;
      timers_b = are.timers_b;
    }

stands_later : (system : System) (events : List At) (m : MachineValue) (chips : WorkingChips) (n : ℕ) (s : State) (processors : ℕ → Processor)
    → IsMachineOf m s → m.side ≡ no_side → IsChipsOf chips (fetched_later s.beam s.t n processors s.chips)
    → IsMachineOf (moved m chips n) (state_fetched_later system events n processors s)
unfolding state_fetched_later
stands_later system events m chips n s processors is none stands = record {
  t = ap (λ k. k + n) is.t;
  beam = ap (λ b. later_beam n b) is.beam;
  memory = is.memory;
  chips = stands;
  side = stays_none n s.beam (dmacon_of s.chips.registers) s.side (is.side ∙ none) ∙ sym none;
}

-- a machine without a side, with n more clocks of its line at which no event of the script is due
pub record HasRoom (n : ℕ) (m : MachineValue) (events : List At) : Type 0 where
  pub inner : 0 < m.beam.h
  pub last : m.beam.h + n ≤ 226
  pub side : m.side ≡ no_side
  pub due : (k : ℕ) → k < n → due_events (later_beam k m.beam) events ≡ []

-- and in which nobody but the planes needs a slot at these
record CanFetch (n : ℕ) (m : MachineValue) (events : List At) : Type 0 where
  pub room : HasRoom n m events
  pub begun : IsLastUnit m.chips.last
  pub rest : AreAtRest m.beam m.t n m.chips

record Fetches (events : List At) (n : ℕ) (s : State) (new : MachineValue) : Type 0 where
  pub processors : ℕ → Processor
  pub span : IsFetchSpan events s n processors
  pub stands : (system : System) → IsMachineOf new (clocks system events n s)

machine_fetches : (events : List At) (m : MachineValue) (chips : WorkingChips) (n : ℕ) (s : State) → 0 < n → CanFetch n m events
    → HaveFetched m.beam m.t n m.chips chips → IsMachineOf m s → Fetches events n s (moved m chips n)
machine_fetches events m chips n s some can fetched is =
    let there : PassesFetches m.beam m.t n s.chips chips = fetches_pass m.beam m.t n m.chips chips s.chips some can.begun can.rest fetched is.chips in
    let one : PassesFetches s.beam s.t n s.chips chips =
    subst (λ b. PassesFetches b s.t n s.chips chips) (sym is.beam) (subst (λ t. PassesFetches m.beam t n s.chips chips) (sym is.t) there) in
    let span : IsFetchSpan events s n one.processors =
    span_of_chips events s n one.processors (subst (λ (b : Beam). 0 < b.h) (sym is.beam) can.room.inner)
    (subst (λ (b : Beam). b.h + n ≤ 226) (sym is.beam) can.room.last) (is.side ∙ can.room.side)
    (subst (λ (b : Beam). (k : ℕ) → k < n → due_events (later_beam k b) events ≡ []) (sym is.beam) can.room.due) one.rest in
    record {
      processors = one.processors;
      span = span;
      stands = λ system.
          subst (λ x. IsMachineOf (moved m chips n) x) (sym (fetch_span system events n s one.processors span))
          (stands_later system events m chips n s one.processors is can.room.side one.stands);
    }

-- ---- the foreground

-- what the working chips ask for is what the planes of the state ask for
abbrev fetching_from : Registers → Option ℕ → Fetching
fetching_from registers last = record { registers = registers; last = last }

asks_alike : (k : ℕ) (b : Beam) (now : WorkingChips) (c : Chips) → IsChipsOf now c
    → ask_of_planes (later_beam k b) (planes_on k b (planes_of_chips c)) ≡ ask_of_fetching (later_beam k b) (fetching_on k b (fetching_in now))
asks_alike k b now c is =
    let p : Planes = planes_on k b (planes_of_chips c) in
    ap (λ last. plane_ask (b.h + k) p.registers last) (last_unit-units_at (later_beam k b) p.registers p.units)
    ∙ ap (λ (f : Fetching). ask_of_fetching (later_beam k b) f)
    (fetching_later k b (planes_of_chips c)
    ∙ ap (λ (r : Registers). fetching_on k b (fetching_from r (last_unit c.units))) is.registers
    ∙ ap (λ (last : Option ℕ). fetching_on k b (fetching_from now.registers last)) is.last)

all_running : (run : RunValue) (c n : ℕ) (processors : ℕ → Processor) → IsFetchedFrom run c n processors
    → (beam_at run c).frame < run.script.frames → (k : ℕ) → k < c + n → (beam_at run k).frame < run.script.frames
all_running run c n processors span here k low =
    let rise : (beam_at run k).frame ≤ (beam_at run (c + n)).frame = frames_rise run k (c + n) (omega (arith, low)) in
    omega (arith, rise, frame_later run c n n processors span (omega arith), here)

abbrev log_behind : ForeValue → ℕ → Log
log_behind f n = fetches_of n f.machine.beam f.machine.t (fetching_in f.machine.chips) f.log

at_later : (f : ForeValue) (m : MachineValue) (n first : ℕ) (processors : ℕ → Processor) (seen : RasterValue) → IsUnderway f first seen
    → is_done f ≡ false → f.log.band.from < f.machine.t → IsFetchedFrom f.run f.machine.t (suc n) processors
    → IsMachineOf m (state_of f.run (f.machine.t + suc n)) → m.chip ≡ f.machine.chip
    → IsAt f.run (f.machine.t + suc n) first m (log_behind f (suc n)) f.clx seen
at_later f m n first processors seen is not before span stands chip =
    let run = f.run in
    let c = f.machine.t in
    let b = f.machine.beam in
    let fetching = fetching_in f.machine.chips in
    let unread : has_read_before run c ≡ false = unread_before f first seen is before in
    let alike : (k : ℕ) → asked_at run c k ≡ ask_of_fetching (later_beam k b) (fetching_on k b fetching) =
    λ k. (ap (λ (x : Beam). ask_of_planes (later_beam k x) (planes_on k x (planes_of_chips (state_of run c).chips))) is.at.machine.beam
    ∙ asks_alike k b f.machine.chips (state_of run c).chips is.at.machine.chips) in
    let kept : IsKept run (c + suc n) first f.machine.chip (log_behind f (suc n)) f.clx seen =
    kept_later run c n first b fetching f.machine.chip f.log f.clx seen (kept_of f first seen is)
    (λ k low. subst (λ (ask : Option PlaneAsk). MakesFetch run (c + k) ask) (alike k)
    (makes_fetch run c (suc n) k processors span low unread (going f first seen is not))) in
    record {
      machine = stands;
      logged = subst (λ x. IsLogOf run (c + suc n) (log_behind f (suc n)) x) (sym chip) kept.logged;
      fits = kept.fits;
      gathered = kept.gathered;
      cut = kept.cut;
      time = subst (λ (x : ChipValue). x.newest ≤ c + suc n) (sym chip) kept.time;
    }

abbrev fetched_on : ForeValue → MachineValue → ℕ → ForeValue
fetched_on f m n = record f { machine = m; log = log_behind f n }

underway_later : (f : ForeValue) (m : MachineValue) (n first : ℕ) (processors : ℕ → Processor) (seen : RasterValue) → IsUnderway f first seen
    → is_done f ≡ false → f.log.band.from < f.machine.t → IsFetchedFrom f.run f.machine.t (suc n) processors
    → IsMachineOf m (state_of f.run (f.machine.t + suc n)) → m.t ≡ f.machine.t + suc n → m.beam ≡ later_beam (suc n) f.machine.beam
    → m.chip ≡ f.machine.chip → IsUnderway (fetched_on f m (suc n)) first seen
underway_later f m n first processors seen is not before span stands t beam chip =
    let run = f.run in
    let c = f.machine.t in
    let b = f.machine.beam in
    let here : beam_at run c ≡ b = is.at.machine.beam in
    let low : b.h + suc n ≤ 226 = subst (λ (x : Beam). x.h + suc n ≤ 226) here span.last in
    let due : (k : ℕ) → k < suc n → due_events (later_beam k b) run.script.events ≡ [] =
    subst (λ (x : Beam). (k : ℕ) → k < suc n → due_events (later_beam k x) run.script.events ≡ []) here span.due in
    let place : place_of (later_beam (suc n) b) ≡ place_of b + suc n = omega arith in
    record {
      good = is.good;
      at = subst (λ k. IsAt run k first m (log_behind f (suc n)) f.clx seen) (sym t)
          (at_later f m n first processors seen is not before span stands chip);
      running = λ k less. all_running run c (suc n) processors span (going f first seen is not) k (omega (arith, less, t));
      frame = subst (λ (x : Beam). x.frame ≤ run.script.frames) (sym beam) is.frame;
      screen = subst IsOnScreen (sym beam) (on_later (suc n) b is.screen (omega (arith, low)));
      count = subst (λ (x : Beam). m.t ≤ place_of x) (sym beam) (omega (arith, is.count, t, place));
      script = subst (λ x. HasScript run x f.next) (sym beam) (script_later run b (suc n) f.next is.script is.screen (omega (arith, low)) due);
    }

fetches_from : (f : ForeValue) (chips : WorkingChips) (n first : ℕ) (seen : RasterValue) → IsUnderway f first seen → 0 < n
    → CanFetch n f.machine f.run.script.events → HaveFetched f.machine.beam f.machine.t n f.machine.chips chips
    → Fetches f.run.script.events n (state_of f.run f.machine.t) (moved f.machine chips n)
fetches_from f chips n first seen is some can fetched =
    machine_fetches f.run.script.events f.machine chips n (state_of f.run f.machine.t) some can fetched is.at.machine

runs_later : (f : ForeValue) (chips : WorkingChips) (n : ℕ) (seen : RasterValue) (out : OutFilesValue) → is_done f ≡ false
    → f.log.band.from < f.machine.t → CanFetch (suc n) f.machine f.run.script.events
    → HaveFetched f.machine.beam f.machine.t (suc n) f.machine.chips chips
    → RunsOn f (fetched_on f (moved f.machine chips (suc n)) (suc n)) seen seen out out
runs_later f chips n seen out not before can fetched first is =
    let run = f.run in
    let c = f.machine.t in
    let m : MachineValue = moved f.machine chips (suc n) in
    let one : Fetches run.script.events (suc n) (state_of run c) m = fetches_from f chips (suc n) first seen is (omega arith) can fetched in
    let stands : IsMachineOf m (state_of run (c + suc n)) =
    subst (λ s. IsMachineOf m s) (sym (clocks_of_run run.side run.image run.script c (suc n))) (one.stands run.script.system) in
    record {
      until = first;
      stands = underway_later f m n first one.processors seen is not before one.span stands refl refl refl;
      lines = [];
      trace = trace_later run c (suc n) one.processors one.span ∙ sym (append-nil (state_of run c).trace);
      gives = gives_none run first seen out;
    }

passes_some : (f : ForeValue) (chips : WorkingChips) (limit n first : ℕ) (seen : RasterValue) → IsUnderway f first seen → is_done f ≡ false
    → f.log.band.from < f.machine.t → CanFetch (suc n) f.machine f.run.script.events
    → HaveFetched f.machine.beam f.machine.t (suc n) f.machine.chips chips → f.machine.t + suc n ≤ limit
    → HasPassed limit f (fetched_on f (moved f.machine chips (suc n)) (suc n))
passes_some f chips limit n first seen is not before can fetched most =
    let one : Fetches f.run.script.events (suc n) (state_of f.run f.machine.t) (moved f.machine chips (suc n)) =
    fetches_from f chips (suc n) first seen is (omega arith) can fetched in
    record {
      spent = refl;
      on = omega arith;
      most = omega (arith, most);
      quiet = λ k low. no_reads_later f.run f.machine.t (suc n) k one.processors one.span (omega (arith, low));
      runs = λ seen out. runs_later f chips n seen out not before can fetched;
    }

-- planes were fetched in clocks of the foreground, seen as its fields are
pub fetches_now : (f g : ForeValue) (m : MachineValue) (log : Log) (limit n first : ℕ) (seen : RasterValue) → g ≡ f → IsUnderway f first seen
    → is_done f ≡ false → f.log.band.from < f.machine.t → 0 < n → HasRoom n f.machine f.run.script.events
    → IsLastUnit g.machine.chips.last → AreAtRest g.machine.beam g.machine.t n g.machine.chips
    → HaveFetched g.machine.beam g.machine.t n g.machine.chips m.chips
    → m ≡ record g.machine { t = g.machine.t + n; beam = later_beam n g.machine.beam; chips = m.chips } → f.machine.t + n ≤ limit
    → log ≡ fetches_of n g.machine.beam g.machine.t (fetching_in g.machine.chips) g.log → HasPassed limit f (record g { machine = m; log = log })
fetches_now f g m log limit zero first seen view is not before some room begun rest fetched same most logged = absurd (omega (arith, some))
fetches_now f g m log limit (suc n) first seen view is not before some room begun rest fetched same most logged =
    let can : CanFetch (suc n) f.machine f.run.script.events = record {
      room = room;
      begun = subst (λ (x : ForeValue). IsLastUnit x.machine.chips.last) view begun;
      rest = subst (λ (x : ForeValue). AreAtRest x.machine.beam x.machine.t (suc n) x.machine.chips) view rest;
    } in
    let here : HaveFetched f.machine.beam f.machine.t (suc n) f.machine.chips m.chips =
    subst (λ (x : ForeValue). HaveFetched x.machine.beam x.machine.t (suc n) x.machine.chips m.chips) view fetched in
    let there : HasPassed limit f (fetched_on f (moved f.machine m.chips (suc n)) (suc n)) =
    passes_some f m.chips limit n first seen is not before can here most in
    subst (λ l. HasPassed limit f (record g { machine = m; log = l })) (sym logged)
    (subst (λ (x : MachineValue). HasPassed limit f (record g { machine = x; log = log_behind g (suc n) })) (sym same)
    (subst (λ (x : ForeValue). HasPassed limit f (fetched_on x (moved x.machine m.chips (suc n)) (suc n))) (sym view) there))

-- ---- the loop over the clocks

pub no_clock_of_planes : {S : Type 0} (m : Machine S) → m ≡ clocks_of_planes 0 m
unfolding fetching_on
no_clock_of_planes m =
    let t : m.t ≡ m.t + 0 = omega arith in
    let h : m.beam.h ≡ m.beam.h + 0 = omega arith in
    ap (λ at. record m { t = at }) t ∙ ap (λ at. record m { t = m.t + 0; beam = record m.beam { h = at } }) h
