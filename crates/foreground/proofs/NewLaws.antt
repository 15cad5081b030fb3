-- The foreground at reset.
use Rattle.std.proofs.Common.{◌≡◌, ◌≤◌, ℕ, true, false, List, [], ◌∷◌, refl, sym, ap, ◌∙◌, subst, arith}
use Rattle.ocs_base.specs.Limits.{AreFrom}
use Rattle.ocs_base.specs.declared.beam.Beam.{Beam}
use Rattle.ocs_base.specs.declared.script.At.{At}
use Rattle.mem_versions.specs.Chip.{ChipValue, memory_from}
use Rattle.serial_model.specs.Beam.{IsOnScreen, first_place}
use Rattle.serial_model.specs.Serial.{state_over}
use Rattle.serial_model.specs.State.{reset}
use Rattle.serial_model.specs.Side.{SideValue}
use Rattle.serial_bands.specs.Run.{RunOf, RunValue, run_over, IsGoodRun, state_of}
use Rattle.serial_bands.specs.Bands.{begun, has_read_before}
use Rattle.serial_bands.proofs.Gathering.{gathered_first}
use Rattle.band_log.specs.Raster.{RasterValue, Takes}
use Rattle.foreground.specs.Clock.{IsAt}
use Rattle.foreground.specs.Fore.{HasScript, IsNew}
use Rattle.band_gather.specs.Gathered.{Fits}
use Rattle.picture_log.specs.Log.{IsLogOf}
use Rattle.machine.specs.Machine.{MachineValue, IsMachineOf, IsReset}
use Rattle.picture_log.specs.declared.log.Log.{Log}
use Rattle.band_gather.proofs.GatherLaws.{fits_begin}
use Rattle.foreground.proofs.SettleLaws.{number_here}

machine_first : (run : RunValue) (m : MachineValue) → IsReset run.side run.image run.script.chip run.script.cpu m → IsMachineOf m (state_of run 0)
unfolding state_over reset
machine_first run m is = record {
  t = sym is.t;
  beam = sym is.beam;
  memory = sym (ap (λ (c : ChipValue). c.words) is.chip);
  chips = is.chips;
  side = sym is.side;
}

-- a run is good whatever its side is
pub good_over : {S : Type 0} (seen : S → SideValue) (run : RunOf S) → IsGoodRun run → IsGoodRun (run_over seen run)
good_over seen run good = record { image = good.image; fits = good.fits; script = good.script; least = good.least; most = good.most }

none_read : (run : RunValue) → has_read_before run 0 ≡ true → ⊥
none_read run read = wrong read
  where
    wrong : false ≡ true → ⊥
    wrong here = cc

none_begun : (run : RunValue) → begun run 0 ≡ 0
unfolding begun
none_begun run = refl

first_at : (run : RunValue) (m : MachineValue) (log : Log) (seen : RasterValue) →
    IsReset run.side run.image run.script.chip run.script.cpu m → IsLogOf run 0 log m.chip →
    seen.outstanding ≡ [] → seen.next ≡ 0 → Takes seen.bound run → IsAt run 0 0 m log 0 seen
first_at run m log seen is logged none next takes =
    let from : log.band.from ≡ 0 = (let least : log.band.from ≤ 0 = logged.least in omega (arith, least)) in
    let number : log.band.number ≡ 0 = sym (number_here run 0 log m.chip logged from) ∙ none_begun run in
    let fits : Fits run 0 0 0 seen = fits_begin run 0 0 seen none next takes in
    record {
      machine = machine_first run m is;
      logged = logged;
      fits = subst (λ (k : ℕ). Fits run k log.band.from 0 seen) (sym number) (subst (λ (k : ℕ). Fits run 0 k 0 seen) (sym from) fits);
      gathered = gathered_first run;
      cut = λ read. absurd (none_read run read);
      time = (let newest : m.chip.newest ≡ 0 = ap (λ (c : ChipValue). c.newest) is.chip in omega (arith, newest));
    }

from_first : (events : List At) → AreFrom 0 events
from_first [] = tt
from_first (e ∷ events) = (omega arith, from_first events)

script_first : (run : RunValue) (b : Beam) → IsGoodRun run → b ≡ first_place → HasScript run b 0
script_first run b good is = subst (λ (x : Beam). HasScript run x 0) (sym is) (record {
  within = omega arith;
  left = record {
    system = run.script.system;
    frames = run.script.frames;
    queue = record { from = from_first run.script.events; order = good.script.order; limits = good.script.limits };
  };
  same = λ later on order. refl;
})

screen_first : (b : Beam) → b ≡ first_place → IsOnScreen b
screen_first b is = subst IsOnScreen (sym is) (record { line = omega arith; clock = omega arith })

pub new_fore : (run : RunValue) (m : MachineValue) (log : Log) → IsGoodRun run → IsReset run.side run.image run.script.chip run.script.cpu m →
    ((r : RunValue) (chip : ChipValue) → chip ≡ memory_from r.script.chip r.image → IsLogOf r 0 log chip) →
    IsNew run (record { run = run; machine = m; log = log; next = 0; clx = 0; spent = false })
new_fore run m log good is opens = record {
  run_of = refl;
  fresh = refl;
  clock = is.t;
  reads = ap (λ (c : ChipValue). c.reads) is.chip;
  fits = λ seen none next takes. record {
    good = good;
    at = subst (λ (k : ℕ). IsAt run k 0 m log 0 seen) (sym is.t) (first_at run m log seen is (opens run m.chip is.chip) none next takes);
    running = λ k low. absurd (let t : m.t ≡ 0 = is.t in omega (arith, t, low));
    frame = (let first : m.beam.frame ≡ 0 = ap (λ (b : Beam). b.frame) is.beam in omega (arith, first));
    screen = screen_first m.beam is.beam;
    count = (let t : m.t ≡ 0 = is.t in omega (arith, t));
    script = script_first run m.beam good is.beam;
  };
}
