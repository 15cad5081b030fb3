-- The rest of a clock on the bus, once its chips have asked for the slot.
use Rattle.std.proofs.Common.{◌≡◌, ◌<◌, ◌+◌, ℕ, Bool, true, false, if◌then◌else◌, [], Option, Some, None, Result, Ok, Err, IsErr, IfOk}
use Rattle.std.proofs.Common.{OnOk, OnErr, is_some, arith, refl, ap, subst, sym, ◌∙◌}
use Rattle.std.specs.Option.{option_map}
use Rattle.std.proofs.lemmas.Bool.{false≢true, true≢false}
use Rattle.ocs_base.specs.declared.beam.Beam.{Beam}
use Rattle.ocs_base.specs.declared.system.System.TheVariants.{Pal}
use Rattle.out_files.specs.OutFiles.{OutFilesValue}
use Rattle.serial_model.specs.declared.bus.Ask.{Ask}
use Rattle.serial_model.specs.declared.bus.Made.{Made}
use Rattle.serial_model.specs.declared.picture.Touch.{Touch}
use Rattle.serial_model.specs.Beam.{next_place}
use Rattle.serial_model.specs.Bus.{blit_owner_ask, processor_ask}
use Rattle.serial_model.specs.Side.{SideValue}
use Rattle.cpu_bus.specs.Bus.{wish_shown}
use Rattle.serial_model.specs.Made.{touch_of}
use Rattle.serial_model.specs.Registers.{is_interlaced, blitter_dma}
use Rattle.serial_model.specs.Tick.{run_processor}
use Rattle.serial_model.specs.Bus.{reads_of_ask}
use Rattle.serial_bands.specs.Shadows.{IsInRange}
use Rattle.chip_set.specs.Bus.{LeavesToPlanes, KeepsBus, KeepsBeside, KeepsCias, KeepsOnBus, CiasRest, IsUnitKept}
use Rattle.chip_set.specs.declared.bus.Unit.{Unit}
use Rattle.bitplane_dma.specs.declared.rules.FetchRules.{FetchRules}
use Rattle.chip_set.specs.Chips.{WorkingChips, CanDo, kept_wish, late_ask}
use Rattle.chip_set.proofs.BusLaws.{kept_then, cias_then, rest_kept}
use Rattle.band_log.specs.Raster.{RasterValue}
use Rattle.picture_log.specs.Log.{with_access_touch, waiting_write}
use Rattle.picture_log.specs.declared.log.Log.{Log}
use Rattle.machine.specs.Machine.{MachineValue, Makes, machine_over, reads_more}
use Rattle.machine.specs.declared.machine.Machine.{Machine}
use Rattle.machine.specs.Ahead.{IsAccessAtOnce, IsMadeAtOnce, IsUnseenAtOnce}
use Rattle.clock_loop.specs.code.BusRun.{IsWithinLine, HasAskedFor, HasServed, HasMadeClock, HasMadeClockInPart, StaysBehind, GoesOnBus}
use Rattle.clock_loop.specs.declared.clock.Access.{Access}
use Rattle.clock_loop.specs.declared.clock.Access.TheVariants as X
use Rattle.clock_loop.specs.code.BusRun.{IsTurned, AdvancesInLine, EndsBeside, EndsItsClock, EndsAlone, ServesAsk, is_made, stays_left}
use Rattle.foreground.specs.Access.{CanAccess}
use Rattle.foreground.specs.Fore.{ForeOf, ForeValue, over}
use Rattle.foreground.specs.Steps.{EndsClock, KeepsClock, MakesAskedAccess, HasAskedNow}
use Rattle.foreground.proofs.AdvanceLaws.{ends_clock}
use Rattle.foreground.proofs.MadeLaws.{makes_quietly, quiet_part}
use Rattle.foreground.proofs.ScriptLaws.{lines_same}
use Rattle.clock_loop.proofs.BusLaws.{untouched, rest_left, goes_on_bus, unit_then}
use Rattle.clock_loop.proofs.ClockLaws.{HasAskedWith, can_access, clock_made, accessed_in_part, ended_in_part}

-- output files without names and pending text
pub no_files : OutFilesValue
no_files = record { names = record { frames = []; trace = []; memory = [] }; system = Pal; frames = []; trace = []; given = 0 }

turned_at_once : (ask : Ask) (made : Made) (old new : MachineValue) (out given : OutFilesValue) → (at : IsMadeAtOnce ask made old out new given)
    → IsTurned at.accessed out new given
turned_at_once ask made old new out given at = record { turns = at.turns; same = at.same; keeps = at.keeps.0 }

pub asked_so : (ask : Ask) (f f1 : ForeValue) → HasAskedFor ask f f1 → HasAskedWith ask f f1
asked_so ask f f1 asked = record { asks = asked.asks; same = asked.same }

-- place and count of clocks are those of the clock
time_asked : (ask : Ask) (f f1 : ForeValue) → HasAskedFor ask f f1 → f1.machine.t ≡ f.machine.t
time_asked ask f f1 asked = ap (λ (m : MachineValue). m.t) asked.asks.same ∙ ap (λ (m : MachineValue). m.t) asked.asks.kept

beam_asked : (ask : Ask) (f f1 : ForeValue) → HasAskedFor ask f f1 → f1.machine.beam ≡ f.machine.beam
beam_asked ask f f1 asked = ap (λ (m : MachineValue). m.beam) asked.asks.same ∙ ap (λ (m : MachineValue). m.beam) asked.asks.kept

log_asked : (ask : Ask) (f f1 : ForeValue) → HasAskedFor ask f f1 → f1.log ≡ f.log
log_asked ask f f1 asked = ap (λ (x : ForeValue). x.log) asked.same

pub waits_asked : (ask : Ask) (f f1 : ForeValue) (before : RasterValue) → IsWithinLine f before → HasAskedFor ask f f1 → f1.log.waiting ≡ None
waits_asked ask f f1 before w asked = ap (λ (l : Log). l.waiting) (log_asked ask f f1 asked) ∙ w.ready.waits

pub line_asked : (ask : Ask) (f f1 : ForeValue) (before : RasterValue) → IsWithinLine f before → HasAskedFor ask f f1 → f1.machine.beam.h < 226
line_asked ask f f1 before w asked =
    let here : f1.machine.beam.h ≡ f.machine.beam.h = ap (λ (b : Beam). b.h) (beam_asked ask f f1 asked) in
    let last = w.last in
    omega (arith, last, here)

now_asked : (ask : Ask) (f f1 : ForeValue) (before : RasterValue) (out : OutFilesValue) → IsWithinLine f before → HasAskedFor ask f f1
    → HasAskedNow ask f1
now_asked ask f f1 before out w asked = (can_access ask f f1 before out w (asked_so ask f f1 asked) asked.able asked.wish).asked

-- the access that was made at once
access_made : (ask : Ask) (made : Made) (f f1 : ForeValue) (accessed : MachineValue) (noted : Log) (before seen : RasterValue) (out : OutFilesValue)
    → IsWithinLine f before → HasAskedFor ask f f1 → IsAccessAtOnce ask made f1.machine out accessed out
    → noted ≡ with_access_touch f1.machine.t (touch_of made) f1.log → (CanDo made → IsInRange (touch_of made))
    → MakesAskedAccess f1 (record f1 { machine = accessed; log = noted }) seen seen out out
access_made ask made f f1 accessed noted before seen out w asked access notes range =
    makes_quietly f1 ask made (touch_of made) accessed noted seen out out (now_asked ask f f1 before out w asked) access.quiet access.access access.does
    access.place access.stores refl range (notes ∙ ap (λ t. with_access_touch t (touch_of made) f1.log) (sym access.place.t))

access_keeps_clock : (ask : Ask) (made : Made) (f1 : ForeValue) (accessed : MachineValue) (noted : Log) (out : OutFilesValue)
    → IsAccessAtOnce ask made f1.machine out accessed out → KeepsClock f1 (record f1 { machine = accessed; log = noted })
access_keeps_clock ask made f1 accessed noted out access =
    record { run = refl; t = access.place.t; beam = access.place.beam; next = refl; spent = refl }

-- with the processor's turn behind it and the advance of the beam it is a clock
ended_whole : (ask : Ask) (made : Made) (f f1 : ForeValue) (accessed processed m : MachineValue) (noted : Log) (before seen : RasterValue)
    (out given : OutFilesValue) → IsWithinLine f before → HasAskedFor ask f f1 → IsAccessAtOnce ask made f1.machine out accessed out
    → noted ≡ with_access_touch f1.machine.t (touch_of made) f1.log → (CanDo made → IsInRange (touch_of made))
    → IsTurned accessed out processed given → AdvancesInLine processed m → HasMadeClock f (record f1 { machine = m; log = noted }) seen seen out given
ended_whole ask made f f1 accessed processed m noted before seen out given w asked access notes range turned advances =
    let behind : ForeValue = record f1 { machine = accessed; log = noted } in
    let ends : EndsClock behind (record behind { machine = m }) out given =
    ends_clock f1.run.script.system behind behind processed m out given refl refl turned.turns turned.same (advances.step _) advances.count
    advances.chip in
    let place : m.beam ≡ next_place f1.run.script.system (is_interlaced processed.chips.registers) accessed.beam =
    advances.beam f1.run.script.system
    ∙ ap (λ (x : MachineValue). next_place f1.run.script.system (is_interlaced processed.chips.registers) x.beam) turned.same in
    clock_made ask f f1 behind (record behind { machine = m }) (is_interlaced processed.chips.registers) before seen seen out out given w
    (asked_so ask f f1 asked) (access_made ask made f f1 accessed noted before seen out w asked access notes range)
    (access_keeps_clock ask made f1 accessed noted out access) access.reads ends place

-- memory was wanted for the turn
ended_part : (ask : Ask) (made : Made) (f f1 : ForeValue) (accessed m : MachineValue) (noted : Log) (before seen : RasterValue)
    (out given : OutFilesValue) → IsWithinLine f before → HasAskedFor ask f f1 → IsAccessAtOnce ask made f1.machine out accessed out
    → noted ≡ with_access_touch f1.machine.t (touch_of made) f1.log → (CanDo made → IsInRange (touch_of made))
    → m.chip ≡ accessed.chip → given ≡ out → HasMadeClockInPart f (record f1 { machine = m; log = noted }) seen seen out given
ended_part ask made f f1 accessed m noted before seen out given w asked access notes range chip refused =
    ended_in_part ask f f1 (record f1 { machine = accessed; log = noted }) (record f1 { machine = m; log = noted }) before seen seen out out given w
    (asked_so ask f f1 asked) (access_made ask made f f1 accessed noted before seen out w asked access notes range)
    (access_keeps_clock ask made f1 accessed noted out access) access.reads chip refused

-- or for the access
wanted_part : (ask : Ask) (f f1 new : ForeValue) (before seen : RasterValue) (out given : OutFilesValue) → IsWithinLine f before → HasAskedFor ask f f1
    → new.machine.chip.reads ≡ reads_more (reads_of_ask ask) f1.machine.chip.reads → given ≡ out → HasMadeClockInPart f new seen seen out given
wanted_part ask f f1 new before seen out given w asked reads same =
    accessed_in_part ask f f1 new before seen seen out given w (asked_so ask f f1 asked) (quiet_part f1 seen out given (lines_same out given same)) reads

-- ---- what stays

same_then : (old mid new : WorkingChips) → KeepsBus old mid → new ≡ mid → KeepsBus old new
same_then old mid new kept is = subst (λ (x : WorkingChips). KeepsBus old x) (sym is) kept

-- unless a blit has ended
made_keeps : (ask : Ask) (made : Made) (old new : MachineValue) (out given : OutFilesValue) → IsMadeAtOnce ask made old out new given
    → is_some new.chips.blit ≡ is_some old.chips.blit → KeepsOnBus old.chips new.chips
made_keeps ask made old new out given at busy =
    let one : KeepsOnBus old.chips at.accessed.chips = at.access.keeps (sym at.keeps.0.busy ∙ busy) in
    (kept_then old.chips at.accessed.chips new.chips one.0 at.keeps.0, cias_then old.chips at.accessed.chips new.chips one.1 at.keeps.1)

-- ---- a clock of the processor's or of nobody's

pub alone_whole : (ask : Ask) (f f1 : ForeValue) (processed m : MachineValue) (before seen : RasterValue) (out given : OutFilesValue)
    → IsWithinLine f before → HasAskedFor ask f f1 → IsUnseenAtOnce ask f1.machine out processed given → AdvancesInLine processed m
    → HasMadeClock f (record f1 { machine = m }) seen seen out given
alone_whole ask f f1 processed m before seen out given w asked unseen advances =
    let at = unseen.at in
    let notes : f1.log ≡ with_access_touch f1.machine.t (touch_of unseen.made) f1.log =
    untouched f1.machine.t (touch_of unseen.made) f1.log (waits_asked ask f f1 before w asked) unseen.unseen in
    ended_whole ask unseen.made f f1 at.accessed processed m f1.log before seen out given w asked at.access notes
    (λ able. subst IsInRange (sym unseen.unseen) tt) (turned_at_once ask unseen.made f1.machine processed out given at) advances

pub alone_stays : (ask : Ask) (f1 : ForeValue) (processed m : MachineValue) (out given : OutFilesValue) → f1.log.waiting ≡ None
    → IsUnseenAtOnce ask f1.machine out processed given → AdvancesInLine processed m → StaysBehind f1 (record f1 { machine = m })
alone_stays ask f1 processed m out given waits unseen advances =
    let at = unseen.at in
    let keeps = made_keeps ask unseen.made f1.machine processed out given at unseen.busy in
    record {
      chips = same_then f1.machine.chips processed.chips m.chips keeps.0 advances.chips;
      waits = waits;
      from = refl;
      side = advances.side ∙ ap (λ (x : MachineValue). x.side) at.same ∙ at.access.side;
    }

pub alone_cias : (ask : Ask) (old processed m : MachineValue) (out given : OutFilesValue) → IsUnseenAtOnce ask old out processed given
    → AdvancesInLine processed m → KeepsCias old.chips m.chips
alone_cias ask old processed m out given unseen advances =
    subst (λ (x : WorkingChips). KeepsCias old.chips x) (sym advances.chips)
    (made_keeps ask unseen.made old processed out given unseen.at unseen.busy).1

-- ---- a clock of a plane's or of a blit's

served_so : (ask : Ask) (made : Made) (waited : Bool) (f f1 f2 : ForeValue) (m : MachineValue) (seen : RasterValue) (out given : OutFilesValue)
    → HasServed ask made waited f1 f2 → HasMadeClock f (record f1 { machine = m; log = f2.log }) seen seen out given
    → HasMadeClock f (record f2 { machine = m }) seen seen out given
served_so ask made waited f f1 f2 m seen out given served is =
    subst (λ (x : ForeValue). HasMadeClock f (record x { machine = m }) seen seen out given) (sym served.same) is

served_made : (ask : Ask) (made : Made) (waited : Bool) (f f1 f2 : ForeValue) (m : MachineValue) (before seen : RasterValue)
    (out given : OutFilesValue) → IsWithinLine f before → HasAskedFor ask f f1 → HasServed ask made waited f1 f2
    → EndsBeside waited f2.machine out m given → HasMadeClock f (record f2 { machine = m }) seen seen out given
served_made ask made true f f1 f2 m before seen out given w asked served ends =
    let at = served.turned refl out in
    let same = ends.same refl in
    let turned : IsTurned at.accessed out f2.machine given =
    subst (λ o. IsTurned at.accessed out f2.machine o) (sym same.1) (turned_at_once ask made f1.machine f2.machine out out at) in
    let advances : AdvancesInLine f2.machine m = subst (λ x. AdvancesInLine x m) same.0 ends.advances in
    served_so ask made true f f1 f2 m seen out given served
    (ended_whole ask made f f1 at.accessed f2.machine m f2.log before seen out given w asked at.access served.notes served.range turned advances)
served_made ask made false f f1 f2 m before seen out given w asked served ends =
    served_so ask made false f f1 f2 m seen out given served
    (ended_whole ask made f f1 f2.machine ends.processed m f2.log before seen out given w asked (served.access refl out) served.notes served.range
    (ends.turned refl) ends.advances)

served_part : (ask : Ask) (made : Made) (waited : Bool) (f f1 f2 : ForeValue) (m : MachineValue) (before seen : RasterValue)
    (out given : OutFilesValue) → IsWithinLine f before → HasAskedFor ask f f1 → HasServed ask made waited f1 f2 → waited ≡ false
    → m.chip ≡ f2.machine.chip → given ≡ out → HasMadeClockInPart f (record f2 { machine = m }) seen seen out given
served_part ask made waited f f1 f2 m before seen out given w asked served left chip refused =
    subst (λ (x : ForeValue). HasMadeClockInPart f (record x { machine = m }) seen seen out given) (sym served.same)
    (ended_part ask made f f1 f2.machine m f2.log before seen out given w asked (served.access left out) served.notes served.range chip refused)

-- what the access and the turn of one that waited keep
served_keeps : (ask : Ask) (made : Made) (waited : Bool) (f1 f2 : ForeValue) (out : OutFilesValue) → HasServed ask made waited f1 f2
    → is_some f2.machine.chips.blit ≡ is_some f1.machine.chips.blit → KeepsOnBus f1.machine.chips f2.machine.chips
served_keeps ask made true f1 f2 out served busy = made_keeps ask made f1.machine f2.machine out out (served.turned refl out) busy
served_keeps ask made false f1 f2 out served busy = (served.access refl out).keeps busy

served_side : (ask : Ask) (made : Made) (waited : Bool) (f1 f2 : ForeValue) (out : OutFilesValue) → HasServed ask made waited f1 f2
    → f2.machine.side ≡ f1.machine.side
served_side ask made true f1 f2 out served =
    let at = served.turned refl out in
    ap (λ (x : MachineValue). x.side) at.same ∙ at.access.side
served_side ask made false f1 f2 out served = (served.access refl out).side

pub served_time : (ask : Ask) (made : Made) (waited : Bool) (f1 f2 : ForeValue) (out : OutFilesValue) → HasServed ask made waited f1 f2
    → f2.machine.t ≡ f1.machine.t
served_time ask made true f1 f2 out served =
    let at = served.turned refl out in
    ap (λ (x : MachineValue). x.t) at.same ∙ at.access.place.t
served_time ask made false f1 f2 out served = (served.access refl out).place.t

pub served_line : (ask : Ask) (made : Made) (waited : Bool) (f1 f2 : ForeValue) (out : OutFilesValue) → HasServed ask made waited f1 f2
    → f2.machine.beam.h ≡ f1.machine.beam.h
served_line ask made true f1 f2 out served =
    let at = served.turned refl out in
    ap (λ (x : MachineValue). x.beam.h) at.same ∙ ap (λ (b : Beam). b.h) at.access.place.beam
served_line ask made false f1 f2 out served = ap (λ (b : Beam). b.h) (served.access refl out).place.beam

-- and its end
beside_keeps : (waited : Bool) (old new : MachineValue) (out given : OutFilesValue) → EndsBeside waited old out new given
    → KeepsBus old.chips new.chips
beside_keeps true old new out given ends =
    let same : new.chips ≡ old.chips = ends.advances.chips ∙ ap (λ (x : MachineValue). x.chips) (ends.same refl).0 in
    subst (λ (x : WorkingChips). KeepsBus old.chips x) (sym same)
    (record { registers = refl; last = refl; kinds = refl; copper = refl; busy = refl })
beside_keeps false old new out given ends = same_then old.chips ends.processed.chips new.chips (ends.turned refl).keeps ends.advances.chips

beside_side : (waited : Bool) (old new : MachineValue) (out given : OutFilesValue) → EndsBeside waited old out new given → new.side ≡ old.side
beside_side true old new out given ends = ends.advances.side ∙ ap (λ (x : MachineValue). x.side) (ends.same refl).0
beside_side false old new out given ends = ends.advances.side ∙ ap (λ (x : MachineValue). x.side) (ends.turned refl).same

served_stays : (ask : Ask) (made : Made) (waited : Bool) (f1 f2 : ForeValue) (m : MachineValue) (out given : OutFilesValue)
    → HasServed ask made waited f1 f2 → KeepsBus f1.machine.chips f2.machine.chips → EndsBeside waited f2.machine out m given
    → StaysBehind f1 (record f2 { machine = m })
served_stays ask made waited f1 f2 m out given served kept ends = record {
  chips = kept_then f1.machine.chips f2.machine.chips m.chips kept (beside_keeps waited f2.machine m out given ends);
  waits = ap (λ (l : Log). l.waiting) served.notes ∙ served.waits;
  from = ap (λ (l : Log). l.band.from) served.notes;
  side = beside_side waited f2.machine m out given ends ∙ served_side ask made waited f1 f2 out served;
}

served_rest : (ask : Ask) (made : Made) (waited : Bool) (n : ℕ) (f1 f2 : ForeValue) (out : OutFilesValue) → HasServed ask made waited f1 f2
    → KeepsCias f1.machine.chips f2.machine.chips → CiasRest (f1.machine.t + 1) n f1.machine.chips → CiasRest (f2.machine.t + 1) n f2.machine.chips
served_rest ask made waited n f1 f2 out served kept rest =
    subst (λ t. CiasRest (t + 1) n f2.machine.chips) (sym (served_time ask made waited f1 f2 out served))
    (rest_kept (f1.machine.t + 1) n f1.machine.chips f2.machine.chips kept rest)

-- a blit that is under way behind the clock was under way behind the access
still_busy : (waited : Bool) (f1 f2 : ForeValue) (m : MachineValue) (out given : OutFilesValue) → is_some f1.machine.chips.blit ≡ true
    → EndsBeside waited f2.machine out m given → is_some m.chips.blit ≡ true → is_some f2.machine.chips.blit ≡ is_some f1.machine.chips.blit
still_busy waited f1 f2 m out given some ends on = sym (beside_keeps waited f2.machine m out given ends).busy ∙ on ∙ sym some

pub served_view : (ask : Ask) (made : Made) (waited : Bool) (g f1 f2 : ForeValue) → g ≡ f1 → HasServed ask made waited g f2
    → HasServed ask made waited f1 f2
served_view ask made waited g f1 f2 view served = subst (λ x. HasServed ask made waited x f2) view served

-- ---- answers

served_ends : {E : Type 0} (ask : Ask) (made : Made) (waited : Bool) (f1 f2 : ForeValue) (m : MachineValue) (access : Access)
    (out given : OutFilesValue) → HasServed ask made waited f1 f2 → EndsBeside waited f2.machine out m given → is_made access ≡ true
    → (stays_left access ≡ true → KeepsBus f1.machine.chips f2.machine.chips)
    → EndsItsClock {E = E} ask f1 (record f2 { machine = m }) out given (Ok access)
served_ends ask made waited f1 f2 m access out given served ends is kept = record {
  made = λ made_it f before seen w asked. served_made ask made waited f f1 f2 m before seen out given w asked served ends;
  part = tt;
  bus = λ stays. served_stays ask made waited f1 f2 m out given served (kept stays) ends;
  same = λ left. absurd (true≢false (sym is ∙ left));
  untold = λ left. absurd (true≢false (sym is ∙ left));
  run = ap (λ (x : ForeValue). x.run) served.same;
}

-- a refusal
refused_ends : {E : Type 0} (ask : Ask) (f1 f3 : ForeValue) (out given : OutFilesValue) (r : Result Access E) → IsErr r
    → ((f : ForeValue) (before seen : RasterValue) → IsWithinLine f before → HasAskedFor ask f f1 → HasMadeClockInPart f f3 seen seen out given)
    → f3.run ≡ f1.run → EndsItsClock ask f1 f3 out given r
refused_ends ask f1 f3 out given (Ok access) is part run = absurd (false≢true is)
refused_ends ask f1 f3 out given (Err e) is part run =
    record { made = tt; part = part; bus = tt; same = tt; untold = tt; run = run }

served_refused : {E : Type 0} (ask : Ask) (made : Made) (waited : Bool) (f1 f2 : ForeValue) (m : MachineValue) (out given : OutFilesValue)
    (r : Result Access E) → IsErr r → HasServed ask made waited f1 f2 → waited ≡ false → m.chip ≡ f2.machine.chip → given ≡ out
    → EndsItsClock ask f1 (record f2 { machine = m }) out given r
served_refused ask made waited f1 f2 m out given r is served left chip refused =
    refused_ends ask f1 (record f2 { machine = m }) out given r is
    (λ f before seen w asked. served_part ask made waited f f1 f2 m before seen out given w asked served left chip refused)
    (ap (λ (x : ForeValue). x.run) served.same)

pub wanted_refused : {E : Type 0} (ask : Ask) (f1 f2 : ForeValue) (out given : OutFilesValue) (r : Result Access E) → IsErr r
    → f2.machine.chip.reads ≡ reads_more (reads_of_ask ask) f1.machine.chip.reads → given ≡ out → f2.run ≡ f1.run
    → EndsItsClock ask f1 f2 out given r
wanted_refused ask f1 f2 out given r is reads refused run =
    refused_ends ask f1 f2 out given r is (λ f before seen w asked. wanted_part ask f f1 f2 before seen out given w asked reads refused) run

-- of a clock of the processor's or of nobody's
pub alone_ends : {E : Type 0} (ask : Ask) (f1 : ForeValue) (processed m : MachineValue) (out given : OutFilesValue) → f1.log.waiting ≡ None
    → IsUnseenAtOnce ask f1.machine out processed given → AdvancesInLine processed m
    → EndsAlone {E = E} ask f1 (record f1 { machine = m }) out given (Ok true)
alone_ends ask f1 processed m out given waits unseen advances = record {
  made = λ is f before seen w asked. alone_whole ask f f1 processed m before seen out given w asked unseen advances;
  part = tt;
  bus = λ is. alone_stays ask f1 processed m out given waits unseen advances;
  cias = λ is. alone_cias ask f1.machine processed m out given unseen advances;
  same = λ left. absurd (true≢false left);
  untold = λ left. absurd (true≢false left);
  run = refl;
}

pub alone_refused : {E : Type 0} (ask : Ask) (f1 f2 : ForeValue) (out given : OutFilesValue) (r : Result Bool E) → IsErr r
    → f2.machine.chip.reads ≡ reads_more (reads_of_ask ask) f1.machine.chip.reads → given ≡ out → f2.run ≡ f1.run
    → EndsAlone ask f1 f2 out given r
alone_refused ask f1 f2 out given (Ok made) is reads refused run = absurd (false≢true is)
alone_refused ask f1 f2 out given (Err e) is reads refused run = record {
  made = tt;
  part = λ f before seen w asked. wanted_part ask f f1 f2 before seen out given w asked reads refused;
  bus = tt;
  cias = tt;
  same = tt;
  untold = tt;
  run = run;
}

pub alone_view : {S E : Type 0} (seen : S → SideValue) (g f : ForeOf S) (f2 : ForeValue) (out given : OutFilesValue) (r : Result Bool E) → g ≡ f
    → EndsAlone (processor_ask (wish_shown g.machine.chips.processor)) (over seen g) f2 out given r
    → EndsAlone (processor_ask (wish_shown f.machine.chips.processor)) (over seen f) f2 out given r
alone_view seen g f f2 out given r view ends =
    subst (λ (x : ForeOf _). EndsAlone (processor_ask (wish_shown x.machine.chips.processor)) (over seen x) f2 out given r) view ends

pub ends_by_alone : {E : Type 0} (ask : Ask) (f1 f2 : ForeValue) (out given : OutFilesValue) (made : Bool) (access : Access)
    → EndsAlone {E = E} ask f1 f2 out given (Ok made) → is_made access ≡ made → stays_left access ≡ made
    → EndsItsClock {E = E} ask f1 f2 out given (Ok access)
ends_by_alone ask f1 f2 out given made access ends is stays = record {
  made = λ it. ends.made (sym is ∙ it);
  part = tt;
  bus = λ it. ends.bus (sym stays ∙ it);
  same = λ left. ends.same (sym is ∙ left);
  untold = λ left. ends.untold (sym is ∙ left);
  run = ends.run;
}

-- behind the access of a blit out of line
pub access_ends : {E : Type 0} (access : Access) (ask : Ask) (f1 f2 f3 : ForeValue) (lace : Bool) (told out given : OutFilesValue) → is_made access ≡ true
    → ServesAsk {E = E} ask f1 f2 told out (Ok access) → EndsClock f2 f3 out given
    → f3.machine.beam ≡ next_place f2.run.script.system lace f2.machine.beam
    → f3.run ≡ f2.run → KeepsBus f2.machine.chips f3.machine.chips → f3.machine.side ≡ f2.machine.side
    → EndsItsClock {E = E} ask f1 f3 told given (Ok access)
access_ends access ask f1 f2 f3 lace told out given is serves ends place run kept side = record {
  made = λ it f before seen w asked. clock_made ask f f1 f2 f3 lace before seen seen told out given w (asked_so ask f f1 asked) (serves.makes is seen)
      serves.kept (serves.reads is) ends place;
  part = tt;
  bus = λ it. (
      let stays = serves.bus it in
      record {
        chips = kept_then f1.machine.chips f2.machine.chips f3.machine.chips stays.chips.0 kept;
        waits = ap (λ (l : Log). l.waiting) ends.log ∙ stays.waits;
        from = ap (λ (l : Log). l.band.from) ends.log ∙ stays.from;
        side = side ∙ stays.side;
      });
  same = λ left. absurd (true≢false (sym is ∙ left));
  untold = λ left. absurd (true≢false (sym is ∙ left));
  run = run ∙ serves.kept.run;
}

pub access_refused : {E : Type 0} (access : Access) (ask : Ask) (f1 f2 f3 : ForeValue) (told out given : OutFilesValue) (r : Result Access E) → IsErr r
    → is_made access ≡ true → ServesAsk {E = E} ask f1 f2 told out (Ok access) → f3.machine.chip ≡ f2.machine.chip → given ≡ out
    → f3.run ≡ f2.run
    → EndsItsClock ask f1 f3 told given r
access_refused access ask f1 f2 f3 told out given r err is serves chip refused run =
    refused_ends ask f1 f3 told given r err
    (λ f before seen w asked. ended_in_part ask f f1 f2 f3 before seen seen told out given w (asked_so ask f f1 asked) (serves.makes is seen) serves.kept
    (serves.reads is) chip refused)
    (run ∙ serves.kept.run)

pub alone_refuses : {E : Type 0} (e : E) (ask : Ask) (f1 f2 : ForeValue) (out given : OutFilesValue) (r : Result Access E) → IsErr r
    → EndsAlone {E = E} ask f1 f2 out given (Err e) → EndsItsClock ask f1 f2 out given r
alone_refuses e ask f1 f2 out given r err ends = refused_ends ask f1 f2 out given r err ends.part ends.run

pub alone_rest : {E : Type 0} (n : ℕ) (ask : Ask) (f f1 f2 : ForeValue) (before : RasterValue) (out given : OutFilesValue) (made : Bool) (access : Access)
    → IsWithinLine f before → HasAskedFor ask f f1 → EndsAlone {E = E} ask f1 f2 out given (Ok made) → stays_left access ≡ made
    → stays_left access ≡ true → CiasRest (f1.machine.t + 1) n f1.machine.chips → CiasRest f2.machine.t n f2.machine.chips
alone_rest n ask f f1 f2 before out given made access w asked ends stays on was =
    let is : made ≡ true = sym stays ∙ on in
    let count : f2.machine.t ≡ f1.machine.t + 1 =
    (ends.made is f before before w asked).count ∙ ap (λ t. t + 1) (sym (time_asked ask f f1 asked)) in
    subst (λ t. CiasRest t n f2.machine.chips) (sym count)
    (rest_kept (f1.machine.t + 1) n f1.machine.chips f2.machine.chips (ends.cias is) was)

-- whose slot it is
pub blitter_turn : {S : Type 0} (seen : S → SideValue) (g f : ForeOf S) → g ≡ f → LeavesToPlanes f.machine.beam f.machine.chips
    → ((b : Beam) → LeavesToPlanes b g.machine.chips → late_ask b g.machine.chips ≡ blit_owner_ask (kept_wish g.machine.chips))
    → late_ask f.machine.beam f.machine.chips ≡ blit_owner_ask (kept_wish f.machine.chips)
blitter_turn seen g f view leaves turn =
    subst (λ (x : ForeOf _). (b : Beam) → LeavesToPlanes b x.machine.chips
    → late_ask b x.machine.chips ≡ blit_owner_ask (kept_wish x.machine.chips)) view turn f.machine.beam leaves

pub processor_turn : {S : Type 0} (seen : S → SideValue) (g f : ForeOf S) → g ≡ f → LeavesToPlanes f.machine.beam f.machine.chips
    → ((b : Beam) → LeavesToPlanes b g.machine.chips → late_ask b g.machine.chips ≡ processor_ask (wish_shown g.machine.chips.processor))
    → late_ask f.machine.beam f.machine.chips ≡ processor_ask (wish_shown f.machine.chips.processor)
processor_turn seen g f view leaves turn =
    subst (λ (x : ForeOf _). (b : Beam) → LeavesToPlanes b x.machine.chips
    → late_ask b x.machine.chips ≡ processor_ask (wish_shown x.machine.chips.processor)) view turn f.machine.beam leaves

-- the same with an ask that it is shown to be
pub ends_as : {E : Type 0} (ask other : Ask) (f1 f2 : ForeValue) (out given : OutFilesValue) (r : Result Access E) → ask ≡ other
    → EndsItsClock other f1 f2 out given r → EndsItsClock ask f1 f2 out given r
ends_as ask other f1 f2 out given r is ends = subst (λ a. EndsItsClock a f1 f2 out given r) (sym is) ends

pub asked_as : (ask other : Ask) (f f1 : ForeValue) → ask ≡ other → HasAskedFor ask f f1 → HasAskedFor other f f1
asked_as ask other f f1 is asked = subst (λ a. HasAskedFor a f f1) is asked

-- ---- the end of a clock behind its access

pub turned_over : {S : Type 0} (seen : S → SideValue) (g f : ForeOf S) (mid now : Machine S) (out told given : OutFilesValue) → g ≡ f
    → Makes run_processor (machine_over seen g.machine) out (machine_over seen mid) told → mid ≡ record g.machine { chips = mid.chips }
    → KeepsBus g.machine.chips mid.chips → now ≡ mid → given ≡ told → IsTurned (machine_over seen f.machine) out (machine_over seen now) given
turned_over seen g f mid now out told given view turns same keeps is gives =
    subst (λ (x : ForeOf _). IsTurned (machine_over seen x.machine) out (machine_over seen now) given) view
    (subst (λ (x : Machine _). IsTurned (machine_over seen g.machine) out (machine_over seen x) given) (sym is)
    (subst (λ o. IsTurned (machine_over seen g.machine) out (machine_over seen mid) o) (sym gives)
    (record { turns = turns; same = ap (machine_over seen) same; keeps = keeps })))

pub on_ok : {T E P : Type 0} (r : Result T E) → P → OnOk r P
on_ok (Ok x) p = p
on_ok (Err e) p = tt

-- the whole of it behind an access of an area blit
pub blit_ends : {E : Type 0} (ask : Ask) (made : Made) (waited : Bool) (f1 f2 f3 : ForeValue) (out given : OutFilesValue) (r : Result Access E)
    → HasServed ask made waited f1 f2 → is_some f1.machine.chips.blit ≡ true → OnOk r (EndsBeside waited f2.machine out f3.machine given)
    → f3 ≡ record f2 { machine = f3.machine } → f3.machine.chip ≡ f2.machine.chip → OnErr r (waited ≡ false) → OnErr r (given ≡ out)
    → IfOk r (λ access. is_made access ≡ true) → IfOk r (λ access. stays_left access ≡ is_some f3.machine.chips.blit)
    → EndsItsClock ask f1 f3 out given r
blit_ends {E} ask made waited f1 f2 f3 out given (Ok access) served some ends same chip left refused is stays =
    subst (λ x. EndsItsClock {E = E} ask f1 x out given (Ok access)) (sym same)
    (served_ends {E = E} ask made waited f1 f2 f3.machine access out given served ends is
    (λ on. (served_keeps ask made waited f1 f2 out served (still_busy waited f1 f2 f3.machine out given some ends (sym stays ∙ on))).0))
blit_ends {E} ask made waited f1 f2 f3 out given (Err e) served some ends same chip left refused is stays =
    subst (λ x. EndsItsClock {E = E} ask f1 x out given (Err e)) (sym same)
    (served_refused {E = E} ask made waited f1 f2 f3.machine out given (Err e) refl served left chip refused)

pub blit_rest : {E : Type 0} (ask : Ask) (made : Made) (waited : Bool) (n k : ℕ) (f1 f2 f3 : ForeValue) (out given : OutFilesValue) (r : Result Access E)
    → HasServed ask made waited f1 f2 → is_some f1.machine.chips.blit ≡ true → OnOk r (EndsBeside waited f2.machine out f3.machine given)
    → IfOk r (λ access. stays_left access ≡ is_some f3.machine.chips.blit)
    → OnOk r (CiasRest (f2.machine.t + 1) n f2.machine.chips → CiasRest f3.machine.t k f3.machine.chips)
    → IfOk r (λ access. stays_left access ≡ true → CiasRest (f1.machine.t + 1) n f1.machine.chips → CiasRest f3.machine.t k f3.machine.chips)
blit_rest ask made waited n k f1 f2 f3 out given (Ok access) served some ends stays rest =
    λ on was. rest (served_rest ask made waited n f1 f2 out served
    (served_keeps ask made waited f1 f2 out served (still_busy waited f1 f2 f3.machine out given some ends (sym stays ∙ on))).1 was)
blit_rest ask made waited n k f1 f2 f3 out given (Err e) served some ends stays rest = tt

-- that of a plane, whose slot leaves a blit
pub plane_ends : {E : Type 0} (ask : Ask) (made : Made) (waited : Bool) (f1 f2 f3 : ForeValue) (out given : OutFilesValue) → HasServed ask made waited
    f1 f2
    → is_some f2.machine.chips.blit ≡ is_some f1.machine.chips.blit → EndsBeside waited f2.machine out f3.machine given
    → f3 ≡ record f2 { machine = f3.machine } → EndsItsClock {E = E} ask f1 f3 out given (Ok X.Stays)
plane_ends {E} ask made waited f1 f2 f3 out given served busy ends same =
    subst (λ x. EndsItsClock {E = E} ask f1 x out given (Ok X.Stays)) (sym same)
    (served_ends {E = E} ask made waited f1 f2 f3.machine X.Stays out given served ends refl
    (λ on. (served_keeps ask made waited f1 f2 out served busy).0))

pub plane_refused : {E : Type 0} (ask : Ask) (made : Made) (waited : Bool) (f1 f2 f3 : ForeValue) (out given : OutFilesValue) (r : Result Access E)
    → IsErr r → HasServed ask made waited f1 f2 → waited ≡ false → f3.machine.chip ≡ f2.machine.chip → given ≡ out
    → f3 ≡ record f2 { machine = f3.machine } → EndsItsClock ask f1 f3 out given r
plane_refused ask made waited f1 f2 f3 out given r err served left chip refused same =
    subst (λ x. EndsItsClock ask f1 x out given r) (sym same) (served_refused ask made waited f1 f2 f3.machine out given r err served left chip refused)

pub plane_rest : (ask : Ask) (made : Made) (waited : Bool) (n k : ℕ) (f1 f2 f3 : ForeValue) → HasServed ask made waited f1 f2
    → is_some f2.machine.chips.blit ≡ is_some f1.machine.chips.blit
    → (CiasRest (f2.machine.t + 1) n f2.machine.chips → CiasRest f3.machine.t k f3.machine.chips) → CiasRest (f1.machine.t + 1) n f1.machine.chips
    → CiasRest f3.machine.t k f3.machine.chips
plane_rest ask made waited n k f1 f2 f3 served busy rest was =
    rest (served_rest ask made waited n f1 f2 no_files served (served_keeps ask made waited f1 f2 no_files served busy).1 was)

-- what is stored or read for a blit the picture does not see
pub blit_served : (ask : Ask) (made : Made) (waited : Bool) (f1 : ForeValue) (m : MachineValue) → touch_of made ≡ None → f1.log.waiting ≡ None
    → (waited ≡ true → (out : OutFilesValue) → IsMadeAtOnce ask made f1.machine out m out)
    → (waited ≡ false → (out : OutFilesValue) → IsAccessAtOnce ask made f1.machine out m out)
    → HasServed ask made waited f1 (record f1 { machine = m })
blit_served ask made waited f1 m unseen none turned access = record {
  turned = turned;
  access = access;
  notes = untouched f1.machine.t (touch_of made) f1.log none unseen;
  range = λ able. subst IsInRange (sym unseen) tt;
  waits = ap (λ (touch : Option Touch). waiting_write f1.machine.t touch) unseen;
  same = refl;
}

busy_by : {A B : Type 0} (shown : A → B) (on : Bool) (blit : Option A) → is_some (if on then option_map shown blit else None) ≡ true
    → is_some blit ≡ true
busy_by shown true (Some blit) is = refl
busy_by shown true None is = absurd (false≢true is)
busy_by shown false blit is = absurd (false≢true is)

pub busy_as_asked : (now : WorkingChips) → is_some (kept_wish now) ≡ true → is_some now.blit ≡ true
busy_as_asked now is = busy_by _ (blitter_dma now.registers) now.blit is

-- ---- a blit's clock out of line

pub serve_refused : {E : Type 0} (e : E) (ask : Ask) (f1 f2 : ForeValue) (out given : OutFilesValue) (r : Result Access E) → IsErr r
    → ServesAsk {E = E} ask f1 f2 out given (Err e) → EndsItsClock ask f1 f2 out given r
serve_refused e ask f1 f2 out given r err serves =
    refused_ends ask f1 f2 out given r err
    (λ f before seen w asked. accessed_in_part ask f f1 f2 before seen seen out given w (asked_so ask f f1 asked) (serves.part seen) serves.few)
    serves.kept.run

stays_made : (access : Access) → stays_left access ≡ true → is_made access ≡ true
stays_made X.Stays on = refl
stays_made X.Ends on = refl
stays_made X.Other on = absurd (false≢true on)

pub apart_rest : {E : Type 0} (access : Access) (ask : Ask) (f1 f2 f3 : ForeValue) (out given : OutFilesValue) (n k : ℕ) (r : Result Access E)
    → ServesAsk {E = E} ask f1 f2 out given (Ok access) → IfOk r (λ ended. ended ≡ access)
    → IfOk r (λ ended. is_made ended ≡ true → CiasRest (f2.machine.t + 1) n f2.machine.chips → CiasRest f3.machine.t k f3.machine.chips)
    → IfOk r (λ ended. stays_left ended ≡ true → CiasRest (f1.machine.t + 1) n f1.machine.chips → CiasRest f3.machine.t k f3.machine.chips)
apart_rest access ask f1 f2 f3 out given n k (Ok ended) serves same rest =
    λ on was. rest (stays_made ended on) (rest_left n f1 f2 serves.kept.t (serves.bus (sym (ap stays_left same) ∙ on)) was)
apart_rest access ask f1 f2 f3 out given n k (Err e) serves same rest = tt

pub can_access_asked : (ask : Ask) (f f1 : ForeValue) (before : RasterValue) → IsWithinLine f before → HasAskedFor ask f f1 → CanAccess ask f1 before
can_access_asked ask f f1 before w asked = can_access ask f f1 before no_files w (asked_so ask f f1 asked) asked.able asked.wish

-- ---- a clock from its ask on

pub clock_by_end : {E : Type 0} (ask : Ask) (f0 f1 f3 : ForeValue) (before : RasterValue) (out given : OutFilesValue) (r : Result Access E)
    → IsWithinLine f0 before → HasAskedFor ask f0 f1 → EndsItsClock ask f1 f3 out given r
    → IfOk r (λ access. is_made access ≡ true → (seen : RasterValue) → HasMadeClock f0 f3 seen seen out given)
clock_by_end ask f0 f1 f3 before out given (Ok access) w asked ends = λ is seen. ends.made is f0 before seen w asked
clock_by_end ask f0 f1 f3 before out given (Err e) w asked ends = tt

pub part_by_end : {E : Type 0} (ask : Ask) (f0 f1 f3 : ForeValue) (before : RasterValue) (out given : OutFilesValue) (r : Result Access E)
    → IsWithinLine f0 before → HasAskedFor ask f0 f1 → EndsItsClock ask f1 f3 out given r
    → OnErr r ((seen : RasterValue) → HasMadeClockInPart f0 f3 seen seen out given)
part_by_end ask f0 f1 f3 before out given (Ok access) w asked ends = tt
part_by_end ask f0 f1 f3 before out given (Err e) w asked ends = λ seen. ends.part f0 before seen w asked

pub bus_by_end : {E : Type 0} (rules : Option FetchRules) (n k : ℕ) (ask : Ask) (f0 f1 f3 : ForeValue) (before : RasterValue)
    (out given : OutFilesValue) (r : Result Access E) → IsWithinLine f0 before → HasAskedFor ask f0 f1 → EndsItsClock ask f1 f3 out given r
    → KeepsBeside rules f0.machine.chips f1.machine.chips → f1.machine.side ≡ f0.machine.side → CiasRest (f1.machine.t + 1) n f1.machine.chips
    → IfOk r (λ access. stays_left access ≡ true → CiasRest (f1.machine.t + 1) n f1.machine.chips → CiasRest f3.machine.t k f3.machine.chips)
    → IfOk r (λ access. stays_left access ≡ true → GoesOnBus rules k f0 f3)
bus_by_end rules n k ask f0 f1 f3 before out given (Ok access) w asked ends asks alone was rest =
    λ on. goes_on_bus rules k f0 f1 f3 asks asked.same alone (ends.bus on) (ends.made (stays_made access on) f0 before before w asked).count w.ready
    (rest on was)
bus_by_end rules n k ask f0 f1 f3 before out given (Err e) w asked ends asks alone was rest = tt

pub unit_by_end : {E : Type 0} (unit : Unit) (ask : Ask) (f0 f1 f3 : ForeValue) (before : RasterValue) (out given : OutFilesValue) (r : Result Access E)
    → IsWithinLine f0 before → HasAskedFor ask f0 f1 → EndsItsClock ask f1 f3 out given r
    → IsUnitKept unit (f1.machine.beam.h + 1) f1.machine.chips.last
    → IfOk r (λ access. stays_left access ≡ true → IsUnitKept unit f3.machine.beam.h f3.machine.chips.last)
unit_by_end unit ask f0 f1 f3 before out given (Ok access) w asked ends is =
    λ on. unit_then unit f0 f1 f3 (beam_asked ask f0 f1 asked) (ends.made (stays_made access on) f0 before before w asked).place (ends.bus on).chips is
unit_by_end unit ask f0 f1 f3 before out given (Err e) w asked ends is = tt
