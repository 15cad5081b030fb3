-- Clocks that refresh, sprites and the Copper leave to the planes, the blitter and the processor.
use Rattle.std.proofs.Common.{◌≡◌, ◌≤◌, ◌<◌, ℕ, suc, ◌+◌, ◌-◌, Bool, true, false, Option, Some, None, List, [], ◌++◌, arith, refl, ap, subst, ◌∙◌, sym}
use mathlib.Core.Bool.{beq}
use Rattle.std.proofs.lemmas.Bool.{false≢true}
use Rattle.std.proofs.lemmas.List.{append-nil}
use Rattle.ocs_base.specs.declared.beam.Beam.{Beam}
use Rattle.serial_model.specs.Beam.{later_beam}
use Rattle.serial_model.specs.Side.{SideValue}
use Rattle.serial_model.specs.SpriteFetch.{kinds_at}
use Rattle.bitplane_dma.specs.declared.rules.FetchRules.{FetchRules}
use Rattle.band_log.specs.Raster.{RasterValue}
use Rattle.chip_set.specs.Bus.{LeavesToPlanes, LeavesBeside, LeaveBus, KeepsBus, KeepsBeside, KeepsCias, CiasRest, IsUnitKept, is_bus_made}
use Rattle.chip_set.specs.declared.bus.Unit.{Unit}
use Rattle.chip_set.specs.Chips.{WorkingChips}
use Rattle.chip_set.proofs.BusLaws.{leaves_beside_kept, beside_kept, beside_then, rest_kept, none_kept, unit_kept}
use Rattle.out_files.specs.OutFiles.{OutFilesValue}
use Rattle.picture_log.specs.Log.{with_waiting, with_access_touch, waiting_list, waiting_write}
use Rattle.picture_log.specs.declared.log.Log.{Log}
use Rattle.serial_bands.specs.declared.event.Event.{Event}
use Rattle.serial_model.specs.Events.{due_events}
use Rattle.serial_model.specs.Made.{touch_of}
use Rattle.serial_model.specs.declared.bus.Made.{Made}
use Rattle.serial_model.specs.declared.bus.Made.TheVariants as M
use Rattle.serial_model.specs.declared.picture.Touch.{Touch}
use Rattle.clock_loop.specs.code.BusRun.{IsOpenForBus, StaysOnBus, StaysBehind, GoesOnBus, HasRunOnBus}
use Rattle.foreground.specs.Fore.{ForeOf, ForeValue, IsUnderway, over, is_done}
use Rattle.foreground.specs.Steps.{BeginsClock}
use Rattle.foreground.proofs.BeginLaws.{begins_within}
use Rattle.clock_loop.proofs.LineLaws.{no_band_place, no_read_due}
use Rattle.clock_loop.proofs.RunToLaws.{runs_none, no_reads}
use Rattle.clock_loop.specs.code.Line.{AreInLine}
use Rattle.machine.specs.Machine.{IsSamePlace}

-- whether a blit is under way stays where two looks at it tell the same
pub blits_on : (before after x y : Bool) → x ≡ before → y ≡ after → beq y x ≡ true → after ≡ before
blits_on before after true true at now same = sym now ∙ at
blits_on before after true false at now same = absurd (false≢true same)
blits_on before after false true at now same = absurd (false≢true same)
blits_on before after false false at now same = sym now ∙ at

pub stays_view : {S : Type 0} (seen : S → SideValue) (f g : ForeOf S) (new : ForeValue) → f ≡ g → StaysOnBus (over seen f) new
    → StaysOnBus (over seen g) new
stays_view seen f g new view stays = subst (λ (x : ForeOf _). StaysOnBus (over seen x) new) view stays

-- what is made on the bus leaves no write that waits
pub none_waits : (t : ℕ) (made : Made) (touch : Option Touch) → touch ≡ touch_of made → is_bus_made made ≡ true → waiting_write t touch ≡ None
none_waits t M.Nothing touch is bus = ap (λ k. waiting_write t k) is
none_waits t (M.Wrote reg word by) touch is bus = absurd (false≢true bus)
none_waits t (M.Read reg by) touch is bus = absurd (false≢true bus)
none_waits t (M.Stored at half word) touch is bus = ap (λ k. waiting_write t k) is
none_waits t (M.Plane plane at) touch is bus = ap (λ k. waiting_write t k) is
none_waits t (M.Sprite sprite second at) touch is bus = absurd (false≢true bus)

-- where none waits the band goes on as it is
as_it_is : (log : Log) → log.waiting ≡ None → log ≡ with_waiting log
as_it_is log none =
    let events : log.band.events ++ [] ≡ log.band.events = append-nil log.band.events in
    ap (λ waits. record log { waiting = waits }) none
    ∙ sym (ap (λ (waits : Option Event). record log { band = record log.band { events = log.band.events ++ waiting_list waits }; waiting = None }) none
    ∙ ap (λ (list : List Event). record log { band = record log.band { events = list }; waiting = None }) events)

pub untouched : (c : ℕ) (touch : Option Touch) (log : Log) → log.waiting ≡ None → touch ≡ None → log ≡ with_access_touch c touch log
untouched c touch log none is =
    let events : log.band.events ++ [] ≡ log.band.events = append-nil log.band.events in
    ap (λ waits. record log { waiting = waits }) none
    ∙ sym (ap (λ (list : List Event). record log { band = record log.band { events = list }; waiting = None }) events)
    ∙ sym (ap (λ (t : Option Touch). with_access_touch c t log) is)

pub begins_on_bus : (f : ForeValue) (first : ℕ) (before seen : RasterValue) (out : OutFilesValue) → IsUnderway f first before → IsOpenForBus f
    → is_done f ≡ false → 0 < f.machine.beam.h → due_events f.machine.beam f.run.script.events ≡ [] → BeginsClock f f 0 seen seen out out
begins_on_bus f first before seen out underway ready going inner due =
    begins_within f f.log seen out going ready.before (no_band_place f.run.height f.machine.beam inner) (no_read_due f first before underway due)
    (as_it_is f.log ready.waits)

-- of no clock it needs to be known that nothing is to be done for the CIAs
pub no_rest : (t : ℕ) (now : WorkingChips) → CiasRest t 0 now
no_rest t now k below = absurd (omega (arith, below))

pub rest_after : (t n m : ℕ) (old new : WorkingChips) (alone : Bool) → (alone ≡ true → m ≡ n) → (alone ≡ false → m ≡ 0)
    → (alone ≡ true → KeepsCias old new) → CiasRest t n old → CiasRest t m new
rest_after t n m old new true stays ends kept rest = subst (λ k. CiasRest t k new) (sym (stays refl)) (rest_kept t n old new (kept refl) rest)
rest_after t n m old new false stays ends kept rest = subst (λ k. CiasRest t k new) (sym (ends refl)) (no_rest t new)

pub rest_ended : (t at n m : ℕ) (old mid new : WorkingChips) (alone : Bool) → (alone ≡ true → m ≡ n) → (alone ≡ false → m ≡ 0)
    → (alone ≡ true → KeepsCias old mid) → at ≡ t + 1 → new ≡ mid → CiasRest (t + 1) n old → CiasRest at m new
rest_ended t at n m old mid new alone stays ends kept later same rest =
    subst (λ k. CiasRest k m new) (sym later)
    (subst (λ (now : WorkingChips). CiasRest (t + 1) m now) (sym same) (rest_after (t + 1) n m old mid alone stays ends kept rest))

pub rest_left : (n : ℕ) (asked accessed : ForeValue) → accessed.machine.t ≡ asked.machine.t → StaysOnBus asked accessed
    → CiasRest (asked.machine.t + 1) n asked.machine.chips → CiasRest (accessed.machine.t + 1) n accessed.machine.chips
rest_left n asked accessed same stays rest =
    subst (λ at. CiasRest (at + 1) n accessed.machine.chips) (sym same)
    (rest_kept (asked.machine.t + 1) n asked.machine.chips accessed.machine.chips stays.chips.1 rest)

pub goes_on_bus : (rules : Option FetchRules) (rest : ℕ) (f0 f1 f3 : ForeValue) → KeepsBeside rules f0.machine.chips f1.machine.chips
    → f1 ≡ record f0 { machine = f1.machine } → f1.machine.side ≡ f0.machine.side → StaysBehind f1 f3 → f3.machine.t ≡ f0.machine.t + 1
    → IsOpenForBus f0 → CiasRest f3.machine.t rest f3.machine.chips → GoesOnBus rules rest f0 f3
goes_on_bus rules rest f0 f1 f3 asks same alone stays later ready rests =
    let from : f3.log.band.from ≡ f0.log.band.from = stays.from ∙ ap (λ (f : ForeValue). f.log.band.from) same in
    record {
      chips = beside_then rules f0.machine.chips f1.machine.chips f3.machine.chips asks
          (beside_kept rules f1.machine.chips f3.machine.chips stays.chips);
      ready = record {
        waits = stays.waits;
        before = (let before = ready.before in omega (arith, before, from, later));
        side = stays.side ∙ alone ∙ ready.side;
      };
      rests = rests;
    }

-- no unit of bitplane fetch is kept
pub no_unit : (h : ℕ) (last : Option ℕ) (unit : Unit) → unit ≡ record { start = 0; until = 0 } → IsUnitKept unit h last
no_unit h last unit is = subst (λ u. IsUnitKept u h last) (sym is) (none_kept h last)

pub unit_view : {S : Type 0} (seen : S → SideValue) (g f : ForeOf S) (unit : Unit) → g ≡ f
    → IsUnitKept unit f.machine.beam.h f.machine.chips.last → IsUnitKept unit g.machine.beam.h g.machine.chips.last
unit_view seen g f unit view is = subst (λ (x : ForeOf _). IsUnitKept unit x.machine.beam.h x.machine.chips.last) (sym view) is

pub unit_as : (unit was : Unit) (h : ℕ) (last : Option ℕ) → unit ≡ was → IsUnitKept was h last → IsUnitKept unit h last
unit_as unit was h last is kept = subst (λ u. IsUnitKept u h last) (sym is) kept

-- where no clock was made it stays
pub unit_stays : {S : Type 0} (seen : S → SideValue) (f g : ForeOf S) (unit : Unit) (made : ℕ) → made ≡ 0 → g.machine.t ≡ f.machine.t + made
    → (g.machine.t ≡ f.machine.t → g ≡ f) → IsUnitKept unit f.machine.beam.h f.machine.chips.last
    → IsUnitKept unit g.machine.beam.h g.machine.chips.last
unit_stays seen f g unit made none count still is = unit_view seen g f unit (still (omega (arith, none, count))) is

-- and it is kept over the rest of a clock
pub unit_then : (unit : Unit) (f0 f1 f3 : ForeValue) → f1.machine.beam ≡ f0.machine.beam → IsSamePlace (later_beam 1 f0.machine.beam) f3.machine.beam
    → KeepsBus f1.machine.chips f3.machine.chips → IsUnitKept unit (f1.machine.beam.h + 1) f1.machine.chips.last
    → IsUnitKept unit f3.machine.beam.h f3.machine.chips.last
unit_then unit f0 f1 f3 same place kept is =
    let was : f1.machine.beam.h ≡ f0.machine.beam.h = ap (λ (b : Beam). b.h) same in
    let at : f3.machine.beam.h ≡ f0.machine.beam.h + 1 = ap (λ (b : Beam). b.h) place in
    let there : f1.machine.beam.h + 1 ≡ f3.machine.beam.h = omega (arith, was, at) in
    subst (λ h. IsUnitKept unit h f3.machine.chips.last) there
    (unit_kept unit (f1.machine.beam.h + 1) f1.machine.chips f3.machine.chips kept is)

-- LOF does not count
others_elsewhere : (b : Beam) (lof : Bool) (now : WorkingChips) → LeavesToPlanes b now → LeavesToPlanes (record b { lof = lof }) now
unfolding kinds_at
others_elsewhere b lof now leaves = record {
  inner = leaves.inner;
  refresh = leaves.refresh;
  unit = leaves.unit;
  sprites = record { stay = leaves.sprites.stay; ask = leaves.sprites.ask };
  copper = leaves.copper;
}

leaves_elsewhere : (rules : Option FetchRules) (b : Beam) (lof : Bool) (now : WorkingChips) → LeavesBeside rules b now
    → LeavesBeside rules (record b { lof = lof }) now
leaves_elsewhere None b lof now leaves =
    record { others = others_elsewhere b lof now leaves.others; begins = leaves.begins; runs = leaves.runs }
leaves_elsewhere (Some rules) b lof now leaves = (others_elsewhere b lof now leaves.0, leaves.1)

-- the first of such clocks, and those behind it
pub first_leaves : (rules : Option FetchRules) (n : ℕ) (b : Beam) (now : WorkingChips) → 0 < n → LeaveBus rules b n now → LeavesBeside rules b now
first_leaves rules n b now some leave =
    let e : b.h + 0 ≡ b.h = omega arith in
    subst (λ h. LeavesBeside rules (record b { h = h }) now) e (leave 0 some)

pub leave_next : (rules : Option FetchRules) (n : ℕ) (b next : Beam) (old new : WorkingChips) → 0 < n → LeaveBus rules b n old
    → IsSamePlace (later_beam 1 b) next → KeepsBeside rules old new → LeaveBus rules next (n - 1) new
leave_next rules n b next old new some leave place kept k below =
    let e : b.h + suc k ≡ b.h + 1 + k = omega arith in
    let there : LeavesBeside rules (record b { h = b.h + 1 + k }) old =
    subst (λ h. LeavesBeside rules (record b { h = h }) old) e (leave (suc k) (omega (arith, below))) in
    leaves_beside_kept rules (later_beam k next) old new kept
    (subst (λ (at : Beam). LeavesBeside rules (later_beam k at) old) (sym place)
    (leaves_elsewhere rules (record b { h = b.h + 1 + k }) next.lof old there))

-- where no clock is made
pub none_made : (limit : ℕ) (f : ForeValue) (seen : RasterValue) (out : OutFilesValue) → HasRunOnBus limit f f seen seen out out
none_made limit f seen out = record {
  clocks = runs_none f seen out;
  on = omega arith;
  most = omega arith;
  reads = no_reads f.run f.machine.t f.machine.chip.reads;
}

-- fewer clocks of a line
pub fewer_in_line : (limit m n : ℕ) (f : ForeValue) → m ≤ n → AreInLine limit n f → AreInLine limit m f
fewer_in_line limit m n f few are = record {
  inner = are.inner;
  line = omega (arith, are.line, few);
  before = omega (arith, are.before, few);
  due = λ k below. are.due k (omega (arith, below, few));
  running = are.running;
}
