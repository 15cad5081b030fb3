-- Clocks at which nobody asks for the bus and nothing is due: what they make of log and foreground.
use Rattle.std.proofs.Common.{◌≡◌, ◌≤◌, ◌<◌, ℕ, zero, suc, ◌+◌, ◌-◌, ◌==◌, Bool, true, false, ◌||◌, List, []}
use Rattle.std.proofs.Common.{◌∷◌, ◌++◌, length, drop, arith, refl, ap, subst, ◌∙◌, sym, append-nil, add-one, true≢false}
use Rattle.std.proofs.lemmas.Bool.{and_right}
use Rattle.std.proofs.lemmas.Bool.Decides.{nat_tests}
use Rattle.mem_versions.specs.Chip.{ChipValue}
use Rattle.ocs_base.specs.Limits.{AreFrom, AreInLimits, time_of}
use Rattle.ocs_base.specs.declared.beam.Beam.{Beam}
use Rattle.ocs_base.specs.declared.script.At.{At}
use Rattle.ocs_base.specs.Systems.{lines}
use Rattle.ocs_base.specs.declared.system.System.{System}
use Rattle.ocs_base.specs.declared.system.System.TheVariants.{Pal, Ntsc}
use Rattle.out_files.specs.OutFiles.{OutFilesValue}
use Rattle.serial_model.specs.declared.bus.Ask.{Ask}
use Rattle.serial_model.specs.declared.bus.Ask.TheVariants as A
use Rattle.serial_model.specs.declared.bus.Made.{Made}
use Rattle.serial_model.specs.declared.bus.Made.TheVariants as M
use Rattle.serial_model.specs.declared.bus.SideAsk.TheVariants as S
use Rattle.serial_model.specs.Beam.{IsOnScreen, is_line_start, is_field_start, place_of, later_beam}
use Rattle.serial_model.specs.Bus.{answer_to, made_by_ask}
use Rattle.serial_model.specs.Cias.{time_chips}
use Rattle.serial_model.specs.Events.{due_events, do_events, touches_of, is_due}
use Rattle.serial_model.specs.Made.{touch_of, is_clx_read}
use Rattle.serial_model.specs.Picture.{clear_line}
use Rattle.serial_model.specs.Processor.{Processor}
use Rattle.serial_model.specs.State.{Chips, State}
use Rattle.serial_model.specs.Tick.{start_chips, count_timers, show_pixels, before_access, ask_of, side_bits}
use Rattle.serial_model.proofs.EventLaws.{due_events-more, due_events-none, AreFrom-le, IsQueue-end, IsQueue-empty}
use Rattle.serial_bands.specs.Bands.{begins, has_clx_read, has_read_at, has_read_before, is_band_place}
use Rattle.serial_model.specs.Bus.{reads_of_ask}
use Rattle.serial_bands.specs.BusReads.{bus_reads}
use Rattle.serial_bands.specs.Clock.{access_in, access_at, made_at, due_at, bus_touch_at}
use Rattle.serial_bands.specs.Gathering.{IsGathered}
use Rattle.serial_bands.specs.Run.{RunValue, state_of, beam_at, run_memory}
use Rattle.serial_bands.specs.Shadows.{IsInRange}
use Rattle.serial_bands.specs.Stores.{stores_of, stores_at}
use Rattle.serial_bands.proofs.Gathering.{gathered_start, gathered_next}
use Rattle.serial_bands.proofs.WholeRun.{frames_rise}
use Rattle.band_log.specs.Raster.{RasterValue}
use Rattle.quiet_clocks.specs.PlainClock.{asked_by_side}
use Rattle.quiet_clocks.specs.QuietClock.{IsCalm}
use Rattle.quiet_clocks.specs.QuietClocks.{later_units, later_chips, later_state, IsQuietSpan}
use Rattle.serial_model.specs.Side.{later_side}
use Rattle.quiet_clocks.proofs.PlainClock.{else_of}
use Rattle.quiet_clocks.proofs.QuietClock.{nobody_asks}
use Rattle.quiet_clocks.proofs.QuietClocks.{quiet_span, fewer_are_quiet, clocks_of_run}
use Rattle.foreground.specs.Clock.{IsAt}
use Rattle.foreground.specs.Fore.{ForeValue, HasScript, IsUnderway, is_done}
use Rattle.band_gather.specs.Gathered.{Fits}
use Rattle.picture_log.specs.Log.{IsLogOf, IsShown, with_waiting, with_script_touches, with_access_touch}
use Rattle.machine.specs.Machine.{MachineValue, IsMachineOf}
use Rattle.machine.specs.Quiet.{PassesClocks, PassesOver}
use Rattle.clock_loop.specs.code.Quiet.{HasPassed}
use Rattle.clock_loop.specs.RunTo.{RunsOn}
use Rattle.foreground.specs.Script.{IsLeft}
use Rattle.picture_log.specs.declared.log.Log.{Log}
use Rattle.foreground.proofs.AdvanceLaws.{going}
use Rattle.foreground.proofs.CutLaws.{gives_none}
use Rattle.picture_log.proofs.Logging.{log_starts, log_shown, log_accessed}
use Rattle.foreground.proofs.ReadingLaws.{fits_least}
use Rattle.clock_loop.proofs.RunToLaws.{runs_none}

-- ---- the access of a clock at which nobody asks

start_kept : (b : Beam) (c : Chips) → is_line_start b ≡ false → start_chips b c ≡ c
start_kept b c inner =
    else_of (is_line_start b) _ _ inner ∙ else_of (is_field_start b) _ c (and_right (b.v == 0) (b.h == 0) inner)

-- what the timers change is no part of the wishes
calm_timed : (bits t : ℕ) (b : Beam) (c : Chips) → IsCalm b c → IsCalm b (time_chips bits t c)
unfolding time_chips
calm_timed bits t b c calm = record {
  plane = calm.plane;
  kinds = calm.kinds;
  sprite = calm.sprite;
  copper = calm.copper;
  steps = calm.steps;
  blit = calm.blit;
  wish = calm.wish;
}

asks_for_none : (system : System) (events : List At) (s : State) → is_line_start s.beam ≡ false → due_events s.beam events ≡ []
    → asked_by_side s ≡ S.Nothing → IsCalm s.beam s.chips → access_in system events s ≡ A.Free
unfolding do_events time_chips
asks_for_none system events s inner due side calm =
    ap (λ (c : Chips). ask_of (show_pixels system (count_timers (do_events (due_events s.beam events)
    (record s { chips = c; picture = clear_line s.beam s.picture }))))) (start_kept s.beam s.chips inner)
    ∙ ap (λ es. ask_of (show_pixels system (count_timers (do_events es (record s { picture = clear_line s.beam s.picture }))))) due
    ∙ nobody_asks _ s.beam (time_chips (side_bits s) s.t s.chips) side (calm_timed (side_bits s) s.t s.beam s.chips calm)

calm_later : (b : Beam) (t n : ℕ) (processors : ℕ → Processor) (c : Chips)
    → IsCalm (later_beam n b) (record c { processor = processors n; units = later_units n b c.registers c.units })
    → IsCalm (later_beam n b) (later_chips b t n processors c)
calm_later b t n processors c calm = record {
  plane = calm.plane;
  kinds = calm.kinds;
  sprite = calm.sprite;
  copper = calm.copper;
  steps = calm.steps;
  blit = calm.blit;
  wish = calm.wish;
}

pub not_start : (n : ℕ) (b : Beam) → 0 < b.h → is_line_start (later_beam n b) ≡ false
not_start n b inner = grind (arith, nat_tests)

later_asks_none : (system : System) (events : List At) (s : State) (n k : ℕ) (processors : ℕ → Processor) → IsQuietSpan events s n processors → k < n
    → access_in system events (later_state system events k processors s) ≡ A.Free
unfolding later_state later_side
later_asks_none system events s n k processors span low =
    asks_for_none system events (later_state system events k processors s) (not_start k s.beam span.inner) (span.due k low) (span.side k low)
    (calm_later s.beam s.t k processors s.chips (span.calm k low))

-- ---- the clocks of a run

-- what is known of a clock of a run by which nothing comes to the log with it
pub record MakesNothing (run : RunValue) (c : ℕ) : Type 0 where
  pub inner : begins run c ≡ false
  pub going : (beam_at run c).frame < run.script.frames
  pub due : due_at run c ≡ []
  pub made : made_at run c ≡ M.Nothing

abbrev IsQuietFrom : RunValue → ℕ → ℕ → (ℕ → Processor) → Type 0
IsQuietFrom run c n processors = IsQuietSpan run.script.events (state_of run c) n processors

abbrev later_of : RunValue → ℕ → ℕ → (ℕ → Processor) → State
later_of run c k processors = later_state run.script.system run.script.events k processors (state_of run c)

pub state_later : (run : RunValue) (c n k : ℕ) (processors : ℕ → Processor) → IsQuietFrom run c n processors → k ≤ n
    → state_of run (c + k) ≡ later_of run c k processors
state_later run c n k processors span low =
    clocks_of_run run.side run.image run.script c k
    ∙ quiet_span run.script.system run.script.events k (state_of run c) processors
    (fewer_are_quiet run.script.events k n (state_of run c) processors low span)

beam_later : (run : RunValue) (c n k : ℕ) (processors : ℕ → Processor) → IsQuietFrom run c n processors → k ≤ n
    → beam_at run (c + k) ≡ later_beam k (beam_at run c)
unfolding later_state
beam_later run c n k processors span low = ap (λ (s : State). s.beam) (state_later run c n k processors span low)

pub trace_later : (run : RunValue) (c n : ℕ) (processors : ℕ → Processor) → IsQuietFrom run c n processors
    → (state_of run (c + n)).trace ≡ (state_of run c).trace
unfolding later_state
trace_later run c n processors span = ap (λ (s : State). s.trace) (state_later run c n n processors span (omega arith))

access_later : (run : RunValue) (c n k : ℕ) (processors : ℕ → Processor) → IsQuietFrom run c n processors → k < n → access_at run (c + k) ≡ A.Free
unfolding access_at
access_later run c n k processors span low =
    ap (λ (s : State). access_in run.script.system run.script.events s) (state_later run c n k processors span (omega (arith, low)))
    ∙ later_asks_none run.script.system run.script.events (state_of run c) n k processors span low

pub no_reads_later : (run : RunValue) (c n k : ℕ) (processors : ℕ → Processor) → IsQuietFrom run c n processors → k < n → bus_reads run (c + k) ≡ 0
no_reads_later run c n k processors span low = ap (λ a. reads_of_ask a) (access_later run c n k processors span low)

made_free : (run : RunValue) (c : ℕ) → access_at run c ≡ A.Free → made_at run c ≡ M.Nothing
unfolding made_at access_at made_by_ask
made_free run c free =
    let s : State = before_access run.script.system run.script.events (state_of run c) in
    ap (λ (a : Ask). made_by_ask a (answer_to a s.beam s.clx s.chips s.memory) s.chips) free

due_later : (run : RunValue) (c n k : ℕ) (processors : ℕ → Processor) → IsQuietFrom run c n processors → k < n → due_at run (c + k) ≡ []
due_later run c n k processors span low =
    ap (λ (b : Beam). due_events b run.script.events) (beam_later run c n k processors span (omega (arith, low))) ∙ span.due k low

read_none : (run : RunValue) (c : ℕ) → made_at run c ≡ M.Nothing → is_clx_read (made_at run c) ≡ false
read_none run c made = ap (λ m. is_clx_read m) made

read_before_later : (run : RunValue) (c n k : ℕ) (processors : ℕ → Processor) → IsQuietFrom run c n processors → k < n → has_read_before run c ≡ false
    → has_read_before run (c + k) ≡ false
read_before_later run c n zero processors span low unread =
    let e : c + 0 ≡ c = omega arith in
    ap (λ j. has_read_before run j) e ∙ unread
read_before_later run c n (suc k) processors span low unread =
    let e : c + suc k ≡ suc (c + k) = omega arith in
    ap (λ j. has_read_before run j) e
    ∙ read_none run (c + k) (made_free run (c + k) (access_later run c n k processors span (omega (arith, low))))

pub none_of : (a b c : Bool) → a ≡ false → b ≡ false → c ≡ false → (a || (b || c)) ≡ false
none_of true b c place unread before = place
none_of false true c place unread before = unread
none_of false false c place unread before = before

pub no_place : (height k : ℕ) (b : Beam) → 0 < b.h → is_band_place height (later_beam k b) ≡ false
no_place height k b inner = grind (arith, nat_tests)

pub reads_no_bits : (events : List At) → events ≡ [] → has_clx_read events ≡ false
unfolding has_clx_read
reads_no_bits events none = ap (λ es. has_clx_read es) none

begins_later : (run : RunValue) (c n k : ℕ) (processors : ℕ → Processor) → IsQuietFrom run c n processors → k < n → has_read_before run c ≡ false
    → begins run (c + k) ≡ false
unfolding begins has_read_at
begins_later run c n k processors span low unread =
    none_of (is_band_place run.height (beam_at run (c + k))) (has_clx_read (due_at run (c + k))) (has_read_before run (c + k))
    (ap (λ b. is_band_place run.height b) (beam_later run c n k processors span (omega (arith, low))) ∙ no_place run.height k (beam_at run c) span.inner)
    (reads_no_bits (due_at run (c + k)) (due_later run c n k processors span low))
    (read_before_later run c n k processors span low unread)

frame_later : (run : RunValue) (c n k : ℕ) (processors : ℕ → Processor) → IsQuietFrom run c n processors → k ≤ n
    → (beam_at run (c + k)).frame ≡ (beam_at run c).frame
frame_later run c n k processors span low = ap (λ (b : Beam). b.frame) (beam_later run c n k processors span low)

makes_nothing : (run : RunValue) (c n k : ℕ) (processors : ℕ → Processor) → IsQuietFrom run c n processors → k < n → has_read_before run c ≡ false
    → (beam_at run c).frame < run.script.frames → MakesNothing run (c + k)
makes_nothing run c n k processors span low unread going = record {
  inner = begins_later run c n k processors span low unread;
  going = omega (arith, going, frame_later run c n k processors span (omega (arith, low)));
  due = due_later run c n k processors span low;
  made = made_free run (c + k) (access_later run c n k processors span low);
}

-- ---- the log at a clock that makes nothing

-- what stands at the start of a clock beside the machine
pub record IsKept (run : RunValue) (c first : ℕ) (chip : ChipValue) (log : Log) (clx : ℕ) (seen : RasterValue) : Type 0 where
  pub logged : IsLogOf run c log chip
  pub fits : Fits run log.band.number log.band.from first seen
  pub gathered : IsGathered run c clx first
  pub cut : has_read_before run c ≡ true → log.band.from ≡ c
  pub time : chip.newest ≤ c

pub not_touched : (c : ℕ) (log : Log) → with_script_touches c (touches_of []) log ≡ log
unfolding touches_of with_script_touches
not_touched c log = refl

log_same : (c : ℕ) (log : Log) (made : Made) → made ≡ M.Nothing → with_access_touch c (touch_of made) (with_waiting log) ≡ with_waiting log
log_same c log made is =
    ap (λ m. with_access_touch c (touch_of m) (with_waiting log)) is
    ∙ ap (λ es. record (with_waiting log) { band = record (with_waiting log).band { events = es } }) (append-nil (with_waiting log).band.events)

log_stays : (run : RunValue) (c : ℕ) (log : Log) (chip : ChipValue) → IsLogOf run c log chip → MakesNothing run c
    → IsLogOf run (c + 1) (with_waiting log) chip
log_stays run c log chip is none =
    let touched : with_script_touches c (touches_of (due_at run c)) (with_waiting log) ≡ with_waiting log =
    ap (λ es. with_script_touches c (touches_of es) (with_waiting log)) none.due ∙ not_touched c (with_waiting log) in
    let shown : IsShown run c (with_waiting log) chip =
    subst (λ l. IsShown run c l chip) touched
    (log_shown run c (with_waiting log) chip (log_starts run c log chip is none.inner none.going)) in
    let range : IsInRange (bus_touch_at run c) = subst (λ m. IsInRange (touch_of m)) (sym none.made) tt in
    let writes : chip.writes ≡ chip.writes ++ stores_at run c =
    sym (append-nil chip.writes) ∙ ap (λ m. chip.writes ++ stores_of c m (run_memory run c)) (sym none.made) in
    subst (λ l. IsLogOf run (c + 1) l chip) (log_same c log (made_at run c) none.made)
    (log_accessed run c (with_waiting log) chip chip shown range refl refl writes)

pub no_cut : (run : RunValue) (c : ℕ) → made_at run c ≡ M.Nothing → has_read_before run (c + 1) ≡ false
no_cut run c made = ap (λ k. has_read_before run k) (add-one c) ∙ read_none run c made

pub not_both : (b : Bool) → b ≡ true → b ≡ false → ⊥
not_both b one other = true≢false (sym one ∙ other)

pub kept_next : (run : RunValue) (c first : ℕ) (chip : ChipValue) (log : Log) (clx : ℕ) (seen : RasterValue) → IsKept run c first chip log clx seen
    → MakesNothing run c → IsKept run (c + 1) first chip (with_waiting log) clx seen
kept_next run c first chip log clx seen is none = record {
  logged = log_stays run c log chip is.logged none;
  fits = is.fits;
  gathered = gathered_next run c clx first (omega (arith, fits_least run log.band.number log.band.from first seen is.fits, is.logged.least))
      (read_none run c none.made)
      (gathered_start run c clx first (reads_no_bits (due_at run c) none.due) is.gathered);
  cut = λ read. absurd (not_both (has_read_before run (c + 1)) read (no_cut run c none.made));
  time = omega (arith, is.time);
}

pub waits_no_more : (log : Log) → with_waiting (with_waiting log) ≡ with_waiting log
waits_no_more log =
    ap (λ es. record (with_waiting log) { band = record (with_waiting log).band { events = es } }) (append-nil (with_waiting log).band.events)

kept_later : (run : RunValue) (c n first : ℕ) (chip : ChipValue) (log : Log) (clx : ℕ) (seen : RasterValue) → IsKept run c first chip log clx seen
    → ((k : ℕ) → k < suc n → MakesNothing run (c + k)) → IsKept run (c + suc n) first chip (with_waiting log) clx seen
kept_later run c zero first chip log clx seen is none =
    let here : c + 0 ≡ c = omega arith in
    kept_next run c first chip log clx seen is (subst (λ k. MakesNothing run k) here (none 0 (omega arith)))
kept_later run c (suc n) first chip log clx seen is none =
    let before : IsKept run (c + suc n) first chip (with_waiting log) clx seen =
    kept_later run c n first chip log clx seen is (λ k low. none k (omega (arith, low))) in
    let e : c + suc n + 1 ≡ c + suc (suc n) = omega arith in
    subst (λ k. IsKept run k first chip (with_waiting log) clx seen) e
    (subst (λ l. IsKept run (c + suc n + 1) first chip l clx seen) (waits_no_more log)
    (kept_next run (c + suc n) first chip (with_waiting log) clx seen before (none (suc n) (omega arith))))

-- ---- the script

not_first : (b : Beam) (e : At) (events : List At) → due_events b (e ∷ events) ≡ [] → is_due b e ≡ false
not_first b e events none = by_test (is_due b e) refl
  where
    by_test : (due : Bool) → is_due b e ≡ due → is_due b e ≡ false
    by_test true is = absurd (omega (arith, ap length (sym (due_events-more b e events is) ∙ none)))
    by_test false is = is

pub left_next : (b : Beam) (left : List At) → IsOnScreen b → IsLeft (place_of b) left → due_events b left ≡ [] → IsLeft (place_of b + 1) left
left_next b [] on queue none = record { system = queue.system; frames = queue.frames; queue = IsQueue-empty queue.system queue.frames (place_of b + 1) }
left_next b (e ∷ events) on queue none = record {
  system = queue.system;
  frames = queue.frames;
  queue = IsQueue-end queue.system queue.frames b e events queue.queue on (not_first b e events none);
}

script_next : (run : RunValue) (b : Beam) (next : ℕ) → HasScript run b next → IsOnScreen b → due_events b run.script.events ≡ []
    → HasScript run (record b { h = b.h + 1 }) next
script_next run b next script on none =
    let place : place_of b + 1 ≡ place_of (record b { h = b.h + 1 }) = omega arith in
    record {
      within = script.within;
      left = subst (λ p. IsLeft p (drop next run.script.events)) place
          (left_next b (drop next run.script.events) on script.left (sym (script.same b on (omega arith)) ∙ none));
      same = λ later screen from. script.same later screen (omega (arith, from));
    }

pub on_later : (n : ℕ) (b : Beam) → IsOnScreen b → b.h + n < 228 → IsOnScreen (later_beam n b)
on_later n b on low = record { line = on.line; clock = low }

pub script_later : (run : RunValue) (b : Beam) (n next : ℕ) → HasScript run b next → IsOnScreen b → b.h + n < 228
    → ((k : ℕ) → k < n → due_events (later_beam k b) run.script.events ≡ []) → HasScript run (later_beam n b) next
script_later run b zero next script on low none =
    let e : b.h ≡ b.h + 0 = omega arith in
    subst (λ h. HasScript run (record b { h = h }) next) e script
script_later run b (suc n) next script on low none =
    let e : b.h + n + 1 ≡ b.h + suc n = omega arith in
    subst (λ h. HasScript run (record b { h = h }) next) e
    (script_next run (later_beam n b) next (script_later run b n next script on (omega (arith, low)) (λ k less. none k (omega (arith, less))))
    (on_later n b on (omega (arith, low))) (none n (omega arith)))

-- ---- the foreground

-- with another machine and another log
abbrev pub passed_on : ForeValue → MachineValue → ForeValue
passed_on f m = record f { machine = m; log = with_waiting f.log }

pub kept_of : (f : ForeValue) (first : ℕ) (seen : RasterValue) → IsUnderway f first seen
    → IsKept f.run f.machine.t first f.machine.chip f.log f.clx seen
kept_of f first seen is = record {
  logged = is.at.logged;
  fits = is.at.fits;
  gathered = is.at.gathered;
  cut = is.at.cut;
  time = is.at.time;
}

pub unread_before : (f : ForeValue) (first : ℕ) (seen : RasterValue) → IsUnderway f first seen → f.log.band.from < f.machine.t
    → has_read_before f.run f.machine.t ≡ false
unread_before f first seen is before = by_test (has_read_before f.run f.machine.t) refl
  where
    by_test : (read : Bool) → has_read_before f.run f.machine.t ≡ read → has_read_before f.run f.machine.t ≡ false
    by_test true found = absurd (omega (arith, is.at.cut found, before))
    by_test false found = found

all_running : (run : RunValue) (c n : ℕ) (processors : ℕ → Processor) → IsQuietFrom run c n processors → (beam_at run c).frame < run.script.frames
    → (k : ℕ) → k < c + n → (beam_at run k).frame < run.script.frames
all_running run c n processors span here k low =
    let rise : (beam_at run k).frame ≤ (beam_at run (c + n)).frame = frames_rise run k (c + n) (omega (arith, low)) in
    omega (arith, rise, frame_later run c n n processors span (omega arith), here)

at_later : (f : ForeValue) (m : MachineValue) (n first : ℕ) (processors : ℕ → Processor) (seen : RasterValue) → IsUnderway f first seen
    → is_done f ≡ false → f.log.band.from < f.machine.t → IsQuietFrom f.run f.machine.t (suc n) processors
    → IsMachineOf m (state_of f.run (f.machine.t + suc n)) → m.chip ≡ f.machine.chip
    → IsAt f.run (f.machine.t + suc n) first m (with_waiting f.log) f.clx seen
at_later f m n first processors seen is not before span stands chip =
    let run = f.run in
    let c = f.machine.t in
    let unread : has_read_before run c ≡ false = unread_before f first seen is before in
    let kept : IsKept run (c + suc n) first f.machine.chip (with_waiting f.log) f.clx seen =
    kept_later run c n first f.machine.chip f.log f.clx seen (kept_of f first seen is)
    (λ k low. makes_nothing run c (suc n) k processors span low unread (going f first seen is not)) in
    record {
      machine = stands;
      logged = subst (λ x. IsLogOf run (c + suc n) (with_waiting f.log) x) (sym chip) kept.logged;
      fits = kept.fits;
      gathered = kept.gathered;
      cut = kept.cut;
      time = subst (λ (x : ChipValue). x.newest ≤ c + suc n) (sym chip) kept.time;
    }

underway_later : (f : ForeValue) (m : MachineValue) (n first : ℕ) (processors : ℕ → Processor) (seen : RasterValue) → IsUnderway f first seen
    → is_done f ≡ false → f.log.band.from < f.machine.t → IsQuietFrom f.run f.machine.t (suc n) processors
    → IsMachineOf m (state_of f.run (f.machine.t + suc n)) → m.t ≡ f.machine.t + suc n → m.beam ≡ later_beam (suc n) f.machine.beam
    → m.chip ≡ f.machine.chip → IsUnderway (passed_on f m) first seen
underway_later f m n first processors seen is not before span stands t beam chip =
    let run = f.run in
    let c = f.machine.t in
    let b = f.machine.beam in
    let here : beam_at run c ≡ b = is.at.machine.beam in
    let low : b.h + suc n ≤ 226 = subst (λ (x : Beam). x.h + suc n ≤ 226) here span.last in
    let due : (k : ℕ) → k < suc n → due_events (later_beam k b) run.script.events ≡ [] =
    subst (λ (x : Beam). (k : ℕ) → k < suc n → due_events (later_beam k x) run.script.events ≡ []) here span.due in
    let place : place_of (later_beam (suc n) b) ≡ place_of b + suc n = omega arith in
    record {
      good = is.good;
      at = subst (λ k. IsAt run k first m (with_waiting f.log) f.clx seen) (sym t)
          (at_later f m n first processors seen is not before span stands chip);
      running = λ k less. all_running run c (suc n) processors span (going f first seen is not) k (omega (arith, less, t));
      frame = subst (λ (x : Beam). x.frame ≤ run.script.frames) (sym beam) is.frame;
      screen = subst IsOnScreen (sym beam) (on_later (suc n) b is.screen (omega (arith, low)));
      count = subst (λ (x : Beam). m.t ≤ place_of x) (sym beam) (omega (arith, is.count, t, place));
      script = subst (λ x. HasScript run x f.next) (sym beam) (script_later run b (suc n) f.next is.script is.screen (omega (arith, low)) due);
    }

-- what the machine was made to pass over
span_of : (f : ForeValue) (m : MachineValue) (n first : ℕ) (seen : RasterValue) → IsUnderway f first seen → PassesOver n f.machine m
    → ((k : ℕ) → k < n → due_events (later_beam k f.machine.beam) f.run.script.events ≡ [])
    → PassesClocks f.run.script.events n (state_of f.run f.machine.t) m
span_of f m n first seen is passes due = passes f.run.script.events (state_of f.run f.machine.t) is.at.machine due

runs_later : (f : ForeValue) (m : MachineValue) (n : ℕ) (seen : RasterValue) (out : OutFilesValue) → is_done f ≡ false
    → f.log.band.from < f.machine.t → PassesOver (suc n) f.machine m
    → ((k : ℕ) → k < suc n → due_events (later_beam k f.machine.beam) f.run.script.events ≡ [])
    → m.t ≡ f.machine.t + suc n → m.beam ≡ later_beam (suc n) f.machine.beam → m.chip ≡ f.machine.chip → RunsOn f (passed_on f m) seen seen out out
runs_later f m n seen out not before passes due t beam chip first is =
    let run = f.run in
    let c = f.machine.t in
    let one : PassesClocks run.script.events (suc n) (state_of run c) m = span_of f m (suc n) first seen is passes due in
    let stands : IsMachineOf m (state_of run (c + suc n)) =
    subst (λ s. IsMachineOf m s) (sym (clocks_of_run run.side run.image run.script c (suc n))) (one.stands run.script.system) in
    record {
      until = first;
      stands = underway_later f m n first one.processors seen is not before one.quiet stands t beam chip;
      lines = [];
      trace = ap (λ k. (state_of run k).trace) t ∙ trace_later run c (suc n) one.processors one.quiet ∙ sym (append-nil (state_of run c).trace);
      gives = gives_none run first seen out;
    }

-- some clocks were passed over, and the write that waited is an event of the band
passes_some : (f : ForeValue) (m : MachineValue) (limit n first : ℕ) (seen : RasterValue) → IsUnderway f first seen → is_done f ≡ false
    → f.log.band.from < f.machine.t → PassesOver (suc n) f.machine m
    → ((k : ℕ) → k < suc n → due_events (later_beam k f.machine.beam) f.run.script.events ≡ [])
    → m.t ≡ f.machine.t + suc n → m.beam ≡ later_beam (suc n) f.machine.beam → m.chip ≡ f.machine.chip → f.machine.t + suc n ≤ limit
    → HasPassed limit f (passed_on f m)
passes_some f m limit n first seen is not before passes due t beam chip most =
    let one : PassesClocks f.run.script.events (suc n) (state_of f.run f.machine.t) m = span_of f m (suc n) first seen is passes due in
    record {
      spent = refl;
      on = omega (arith, t);
      most = omega (arith, t, most);
      quiet = λ k low. no_reads_later f.run f.machine.t (suc n) k one.processors one.quiet (omega (arith, low, t));
      runs = λ seen out. runs_later f m n seen out not before passes due t beam chip;
    }

-- the same where the foreground is seen as its fields are, and of as many as the machine passed over
pub passes_now : (f g : ForeValue) (m : MachineValue) (log : Log) (limit n first : ℕ) (seen : RasterValue) → g ≡ f → IsUnderway f first seen
    → is_done f ≡ false → f.log.band.from < f.machine.t → 0 < n → PassesOver n g.machine m
    → ((k : ℕ) → k < n → due_events (later_beam k f.machine.beam) f.run.script.events ≡ [])
    → m ≡ record g.machine { t = g.machine.t + n; beam = later_beam n g.machine.beam; chips = m.chips; side = m.side } → f.machine.t + n ≤ limit
    → log ≡ with_waiting g.log → HasPassed limit f (record g { machine = m; log = log })
passes_now f g m log limit zero first seen view is not before some passes due same most waits = absurd (omega (arith, some))
passes_now f g m log limit (suc n) first seen view is not before some passes due same most waits =
    let t : m.t ≡ f.machine.t + suc n =
    ap (λ (x : MachineValue). x.t) same ∙ ap (λ (x : ForeValue). x.machine.t + suc n) view in
    let beam : m.beam ≡ later_beam (suc n) f.machine.beam =
    ap (λ (x : MachineValue). x.beam) same ∙ ap (λ (x : ForeValue). later_beam (suc n) x.machine.beam) view in
    let chip : m.chip ≡ f.machine.chip = ap (λ (x : MachineValue). x.chip) same ∙ ap (λ (x : ForeValue). x.machine.chip) view in
    let here : PassesOver (suc n) f.machine m = subst (λ (x : ForeValue). PassesOver (suc n) x.machine m) view passes in
    let there : HasPassed limit f (passed_on f m) = passes_some f m limit n first seen is not before here due t beam chip most in
    subst (λ l. HasPassed limit f (record g { machine = m; log = l })) (sym waits)
    (subst (λ (x : ForeValue). HasPassed limit f (record x { machine = m; log = with_waiting x.log })) (sym view) there)

-- none were
pub passes_none : (f : ForeValue) (limit : ℕ) → f.machine.t < limit → HasPassed limit f f
passes_none f limit before = record {
  spent = refl;
  on = omega arith;
  most = omega (arith, before);
  quiet = λ k low. absurd (omega (arith, low));
  runs = λ seen out. runs_none f seen out;
}

-- ---- the events that are left

-- none of those that are not before a place further on in the line is due before it
none_before : (b : Beam) (n : ℕ) (left : List At) (system : System) (frames : ℕ) → IsOnScreen b → b.h + n ≤ 226 → AreInLimits system frames left
    → AreFrom (place_of b + n) left → (k : ℕ) → k < n → due_events (later_beam k b) left ≡ []
none_before b n left system frames on room limits from k low =
    let place : place_of (later_beam k b) + 1 ≤ place_of b + n = omega (arith, low) in
    due_events-none system frames (later_beam k b) left (AreFrom-le _ _ left place from) limits (on_later k b on (omega (arith, low, room)))

-- the first of them is so many clocks on
line_of_event : (system : System) (e : At) → e.v < lines system false → e.v ≤ 311
line_of_event Pal e below = omega (arith, below)
line_of_event Ntsc e below = omega (arith, below)

abbrev ComesLater : Beam → At → ℕ → Type 0
ComesLater b e n = place_of b ≤ time_of e → e.h ≤ 226 → e.v ≤ 311 → place_of b + n ≤ time_of e

first_later : (b : Beam) (left others : List At) (e : At) (n : ℕ) → IsOnScreen b → b.h + n ≤ 226 → IsLeft (place_of b) left → left ≡ e ∷ others
    → ComesLater b e n → (k : ℕ) → k < n → due_events (later_beam k b) left ≡ []
first_later b left others e n on room queue is later =
    let here : IsLeft (place_of b) (e ∷ others) = subst (λ es. IsLeft (place_of b) es) is queue in
    let from : place_of b + n ≤ time_of e =
    later here.queue.from.0 here.queue.limits.0.clock (line_of_event here.system e here.queue.limits.0.line) in
    subst (λ es. (k : ℕ) → k < n → due_events (later_beam k b) es ≡ []) (sym is)
    (none_before b n (e ∷ others) here.system here.frames on room here.queue.limits (from, AreFrom-le _ _ others from here.queue.order.0))

-- at another line, or at another frame, or so many clocks on in this line
other_frame : (b : Beam) (e : At) (n : ℕ) → IsOnScreen b → b.h + n ≤ 226 → (e.frame ≡ b.frame → ⊥) → ComesLater b e n
other_frame b e n on room other from h v =
    let line : b.v < 313 = on.line in
    let clock : b.h < 228 = on.clock in
    omega (arith, room, other, from, h, v, line, clock)

other_line : (b : Beam) (e : At) (n : ℕ) → IsOnScreen b → b.h + n ≤ 226 → e.frame ≡ b.frame → (e.v ≡ b.v → ⊥) → ComesLater b e n
other_line b e n on room same other from h v =
    let line : b.v < 313 = on.line in
    let clock : b.h < 228 = on.clock in
    omega (arith, room, same, other, from, h, v, line, clock)

same_line : (b : Beam) (e : At) (n : ℕ) → e.frame ≡ b.frame → e.v ≡ b.v → n ≤ e.h - b.h → ComesLater b e n
same_line b e n frame line few from h v = omega (arith, frame, line, few, from)

pub none_in_frame : (b : Beam) (left others : List At) (e : At) (n : ℕ) → IsOnScreen b → b.h + n ≤ 226 → IsLeft (place_of b) left
    → left ≡ e ∷ others → (e.frame ≡ b.frame → ⊥) → (k : ℕ) → k < n → due_events (later_beam k b) left ≡ []
none_in_frame b left others e n on room queue is other = first_later b left others e n on room queue is (other_frame b e n on room other)

pub none_in_line : (b : Beam) (left others : List At) (e : At) (n : ℕ) → IsOnScreen b → b.h + n ≤ 226 → IsLeft (place_of b) left
    → left ≡ e ∷ others → e.frame ≡ b.frame → (e.v ≡ b.v → ⊥) → (k : ℕ) → k < n → due_events (later_beam k b) left ≡ []
none_in_line b left others e n on room queue is frame other =
    first_later b left others e n on room queue is (other_line b e n on room frame other)

pub none_until : (b : Beam) (left others : List At) (e : At) (n : ℕ) → IsOnScreen b → b.h + n ≤ 226 → IsLeft (place_of b) left
    → left ≡ e ∷ others → e.frame ≡ b.frame → e.v ≡ b.v → n ≤ e.h - b.h → (k : ℕ) → k < n → due_events (later_beam k b) left ≡ []
none_until b left others e n on room queue is frame line few = first_later b left others e n on room queue is (same_line b e n frame line few)

pub no_event : (b : Beam) (left : List At) (n : ℕ) → length left ≡ 0 → (k : ℕ) → k < n → due_events (later_beam k b) left ≡ []
unfolding due_events
no_event b [] n none k low = refl
no_event b (e ∷ others) n none k low = absurd (omega (arith, none))

pub due_none : (run : RunValue) (b : Beam) (next n : ℕ) → HasScript run b next → IsOnScreen b → b.h + n ≤ 226
    → ((k : ℕ) → k < n → due_events (later_beam k b) (drop next run.script.events) ≡ [])
    → (k : ℕ) → k < n → due_events (later_beam k b) run.script.events ≡ []
due_none run b next n script on room none k low =
    script.same (later_beam k b) (on_later k b on (omega (arith, low, room))) (omega arith) ∙ none k low
