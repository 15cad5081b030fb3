-- A checkpoint of a run as contracts see it, and the foreground that is made of it.
use Rattle.std.specs.Prelude.{◌≡◌, ◌<◌, ◌*◌, ℕ, true, false, [], None}
use Rattle.ocs_base.specs.declared.beam.Beam.{Beam}
use Rattle.mem_versions.specs.Kept.{KeptValue, kept_of, chip_back}
use Rattle.serial_model.specs.declared.picture.Denise.{Denise}
use Rattle.serial_model.specs.Picture.{clear_line}
use Rattle.serial_model.specs.Side.{SideValue}
use Rattle.serial_model.specs.StandsFor.{StandsFor}
use Rattle.serial_bands.specs.declared.shadow.Shadow.{Shadow}
use Rattle.serial_bands.specs.Bands.{begins, begun}
use Rattle.serial_bands.specs.Clock.{opening_at}
use Rattle.serial_bands.specs.Fetches.{IsInRangeOf, IsLeftBy}
use Rattle.serial_bands.specs.Run.{RunOf, RunValue, IsGoodRun, run_over, state_of, beam_at}
use Rattle.serial_bands.specs.Shadows.{IsShadowOf}
use Rattle.chip_set.specs.Chips.{WorkingChips}
use Rattle.foreground.specs.Fore.{ForeOf, ForeValue, HasScript}
use Rattle.machine.specs.Machine.{MachineValue, IsMachineOf}
use Rattle.picture_log.specs.declared.log.Log.{Log}

pub record CheckpointOf (S : Type 0) : Type 0 where
  pub run : RunOf S
  pub t : ℕ
  pub beam : Beam
  pub kept : KeptValue
  pub chips : WorkingChips
  pub side : S
  -- the next band: its number, a picture state that stands for its opening, and the shadow of that
  pub number : ℕ
  pub opening : Denise
  pub shadow : Shadow
  -- how many of the script's events have happened
  pub next : ℕ
  -- the collision bits since CLXDAT was last read
  pub clx : ℕ

-- what is kept of a foreground
abbrev pub checkpoint_of : {S : Type 0} → ForeOf S → CheckpointOf S
checkpoint_of fore = record {
  run = fore.run;
  t = fore.machine.t;
  beam = fore.machine.beam;
  kept = kept_of fore.machine.chip;
  chips = fore.machine.chips;
  side = fore.machine.side;
  number = fore.log.band.number;
  opening = fore.log.band.opening;
  shadow = fore.log.shadow;
  next = fore.next;
  clx = fore.clx;
}

-- the log with which the next band begins
abbrev pub log_from : {S : Type 0} → CheckpointOf S → Log
log_from k = record {
  band = record { number = k.number; from = k.t; beam = k.beam; opening = k.opening; events = [] };
  waiting = None;
  shadow = k.shadow;
}

-- the machine that is made of it: no word of its memory was read
abbrev pub machine_from : {S : Type 0} → (S → SideValue) → CheckpointOf S → MachineValue
machine_from seen k = record { t = k.t; beam = k.beam; chip = chip_back k.kept; chips = k.chips; side = seen k.side }

-- and the foreground
abbrev pub fore_from : {S : Type 0} → (S → SideValue) → CheckpointOf S → ForeValue
fore_from seen k = record {
  run = run_over seen k.run;
  machine = machine_from seen k;
  log = log_from k;
  next = k.next;
  clx = k.clx;
  spent = false;
}

-- It stands for the state in which a clock of a run begins, or with which the run ends, and a band begins there: the next one.
pub record IsCheckpointOf {S : Type 0} (seen : S → SideValue) (run : RunValue) (t : ℕ) (k : CheckpointOf S) : Type 0 where
  pub run_of : run_over seen k.run ≡ run
  pub good : IsGoodRun run
  pub clock : k.t ≡ t
  pub running : (c : ℕ) → c < t → (beam_at run c).frame < run.script.frames
  -- all but the picture: the count of clocks, the place of the beam, the words of memory, the chips and the side
  pub machine : IsMachineOf (machine_from seen k) (state_of run t)
  pub cut : k.kept.clock ≡ t
  -- the picture: the band's number, its opening, not yet cleared if a line starts, and the shadow of that, which has no fetch of an earlier band
  pub begin : begins run t ≡ true
  pub number : k.number ≡ begun run t
  pub opening : StandsFor (4 * (beam_at run t).h) (clear_line (beam_at run t) k.opening) (opening_at run t)
  pub shadow : IsShadowOf run k.shadow (opening_at run t)
  pub range : IsInRangeOf t t k.shadow
  pub left : IsLeftBy [] k.shadow
  pub script : HasScript run k.beam k.next
  pub clx : k.clx ≡ (state_of run t).clx
