-- The machine without its picture at a clock of a run.
use Rattle.std.proofs.Common.{◌≡◌, true, ℕ, zero, suc, ◌+◌, ◌++◌, Option, refl, ap, subst, ◌∙◌, sym, add-one}
use Rattle.mem_versions.specs.Chip.{ChipValue}
use Rattle.ocs_base.specs.declared.system.System.{System}
use Rattle.out_files.specs.OutFiles.{OutFilesValue}
use Rattle.serial_model.specs.declared.bus.Ask.{Ask}
use Rattle.serial_model.specs.declared.bus.Made.{Made}
use Rattle.serial_model.specs.declared.picture.Touch.{Touch}
use Rattle.serial_model.specs.Events.{due_events, do_events}
use Rattle.serial_model.specs.Made.{touch_of}
use Rattle.serial_model.specs.Serial.{state_over}
use Rattle.serial_model.specs.State.{State, reset}
use Rattle.serial_model.specs.Tick.{start_clock, run_script, count_timers, show_pixels, before_access}
use Rattle.serial_model.specs.Tick.{ask_of, made_of, make_access, run_processor, advance_beam, tick}
use Rattle.serial_model.proofs.NextLaws.{memory_kept, count_kept, place_kept}
use Rattle.serial_model.specs.Bus.{reads_of_ask}
use Rattle.serial_bands.specs.BusReads.{bus_reads}
use Rattle.serial_bands.specs.Bands.{has_clx_read}
use Rattle.serial_bands.specs.Clock.{access_at, made_at, bus_touch_at, due_at}
use Rattle.serial_bands.specs.Run.{RunValue, state_of, beam_at, run_memory}
use Rattle.serial_bands.specs.Shadows.{IsInRange}
use Rattle.serial_bands.specs.Stores.{stores_of, stores_at}
use Rattle.chip_set.specs.Chips.{CanDo}
use Rattle.machine.specs.Machine.{MachineValue, IsMachineOf, Start, Stands, Makes, MakesQuietly, IsReset, StoresMade}
use Rattle.machine.proofs.ToldLaws.{told_same, told_none}

-- the state in which the access of a clock is made
abbrev pub state_in : RunValue → ℕ → State
state_in run c = before_access run.script.system run.script.events (state_of run c)

-- at reset it stands for the run's first state
pub machine_at_reset : (run : RunValue) (m : MachineValue) → IsReset run.side run.image run.script.chip run.script.cpu m → IsMachineOf m (state_of run 0)
unfolding state_over reset
machine_at_reset run m is = record {
  t = sym is.t;
  beam = sym is.beam;
  memory = ap (λ (c : ChipValue). c.words) (sym is.chip);
  chips = is.chips;
  side = sym is.side;
}

-- the picture step leaves it
pub stands_shown : (system : System) (start : Start) (m : MachineValue) (out : OutFilesValue) (s : State) → Stands start m out s
    → Stands start m out (show_pixels system s)
stands_shown system start m out s is = record {
  machine = record { t = is.machine.t; beam = is.machine.beam; memory = is.machine.memory; chips = is.machine.chips; side = is.machine.side };
  told = told_same start out s (show_pixels system s) refl is.told;
}

-- what is told is told from here on
pub stands_from : (m : MachineValue) (out : OutFilesValue) (s : State) → IsMachineOf m s → Stands (record { out = out; trace = s.trace }) m out s
stands_from m out s is = record { machine = is; told = told_none out s }

-- the access of a clock
pub ask_at_clock : (run : RunValue) (c : ℕ) (ask : Ask) → ask ≡ ask_of (state_in run c) → ask ≡ access_at run c
unfolding access_at
ask_at_clock run c ask is = is

pub made_at_clock : (run : RunValue) (c : ℕ) (made : Made) → made ≡ made_of (state_in run c) → made ≡ made_at run c
unfolding made_at
made_at_clock run c made is = is

pub reads_at_clock : (run : RunValue) (c : ℕ) (ask : Ask) → ask ≡ ask_of (state_in run c) → reads_of_ask ask ≡ bus_reads run c
reads_at_clock run c ask is = ap (λ a. reads_of_ask a) (ask_at_clock run c ask is)

pub memory_at_clock : (run : RunValue) (c : ℕ) → (state_in run c).memory ≡ run_memory run c
memory_at_clock run c = memory_kept (due_events (beam_at run c) run.script.events) (start_clock (state_of run c))

pub place_at_clock : (run : RunValue) (c : ℕ) → (state_in run c).beam ≡ record (beam_at run c) { lof = (state_in run c).beam.lof }
place_at_clock run c = place_kept (due_events (beam_at run c) run.script.events) (start_clock (state_of run c))

-- the state's count of clocks is the clock, also at its access
pub count_of_clock : (run : RunValue) (c : ℕ) → (state_of run c).t ≡ c
unfolding state_over reset tick
count_of_clock run zero = refl
count_of_clock run (suc c) =
    ap (λ t. t + 1) (count_kept (due_events (beam_at run c) run.script.events) (start_clock (state_of run c)) ∙ count_of_clock run c) ∙ add-one c

pub count_at_clock : (run : RunValue) (c : ℕ) → (state_in run c).t ≡ c
count_at_clock run c =
    count_kept (due_events (beam_at run c) run.script.events) (start_clock (state_of run c)) ∙ count_of_clock run c

-- the stores of a clock
pub stores_at_clock : (run : RunValue) (c t : ℕ) (ask : Ask) (made : Made) (old new : ChipValue) → StoresMade t ask made old new → t ≡ c
    → made ≡ made_at run c → old.words ≡ run_memory run c → new.writes ≡ old.writes ++ stores_at run c
stores_at_clock run c t ask made old new stores clock is words =
    stores.writes
    ∙ ap (λ n. old.writes ++ stores_of n made old.words) clock
    ∙ ap (λ m. old.writes ++ stores_of c m old.words) is
    ∙ ap (λ w. old.writes ++ stores_of c (made_at run c) w) words

-- what touches the picture
pub touch_at_clock : (run : RunValue) (c : ℕ) (made : Made) (touch : Option Touch) → made ≡ made_at run c → touch ≡ touch_of made
    → touch ≡ bus_touch_at run c
touch_at_clock run c made touch is by = by ∙ ap (λ m. touch_of m) is

pub range_at_clock : (run : RunValue) (c : ℕ) (made : Made) (touch : Option Touch) → made ≡ made_at run c → touch ≡ touch_of made
    → (CanDo made → IsInRange touch) → CanDo made → IsInRange (bus_touch_at run c)
range_at_clock run c made touch is by range able = subst IsInRange (touch_at_clock run c made touch is by) (range able)

-- the next state
pub state_next : (run : RunValue) (c : ℕ) → state_of run (c + 1) ≡ advance_beam run.script.system (run_processor (make_access (state_in run c)))
unfolding state_over tick
state_next run c = ap (λ n. state_of run n) (add-one c)

-- the steps up to the access, where the collision bits are these if one of the script's events reads them
pub stands_before_access : (run : RunValue) (c clx : ℕ) (m0 m1 m2 m3 : MachineValue) (out after : OutFilesValue) → MakesQuietly start_clock m0 m1
    → ((start : Start) (s : State) → (has_clx_read (due_at run c) ≡ true → s.clx ≡ clx) → Stands start m1 out s
    → Stands start m2 after (do_events (due_at run c) s))
    → MakesQuietly count_timers m2 m3 → (has_clx_read (due_at run c) ≡ true → (state_of run c).clx ≡ clx) → (start : Start)
    → Stands start m0 out (state_of run c) → Stands start m3 after (state_in run c)
stands_before_access run c clx m0 m1 m2 m3 out after starts happens counts read start is =
    let s : State = state_of run c in
    let scripted : Stands start m2 after (run_script run.script.events (start_clock s)) =
    happens start (start_clock s) read (starts out start s is) in
    stands_shown run.script.system start m3 after (count_timers (run_script run.script.events (start_clock s)))
    (counts after start (run_script run.script.events (start_clock s)) scripted)

-- and those behind it
pub stands_behind_access : (run : RunValue) (c : ℕ) (m0 m1 m2 : MachineValue) (out after : OutFilesValue) → Makes run_processor m0 out m1 after
    → MakesQuietly (advance_beam run.script.system) m1 m2 → (start : Start) → Stands start m0 out (make_access (state_in run c))
    → Stands start m2 after (state_of run (c + 1))
stands_behind_access run c m0 m1 m2 out after turns advances start is =
    let s : State = make_access (state_in run c) in
    subst (λ x. Stands start m2 after x) (sym (state_next run c)) (advances after start (run_processor s) (turns start s is))
