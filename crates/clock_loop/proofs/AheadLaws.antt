-- Clocks on the bus that everybody else leaves to the processor, made at once.
use Rattle.std.proofs.Common.{◌≡◌, ◌≤◌, ◌<◌, ◌+◌, ◌-◌, ◌^◌, ℕ, Bool, true, false}
use Rattle.std.proofs.Common.{None, Result, Ok, Err, IfOk, OnErr}
use Rattle.std.proofs.Common.{arith, refl, ap, subst, sym, ◌∙◌}
use Rattle.ocs_base.specs.declared.beam.Beam.{Beam}
use Rattle.out_files.specs.OutFiles.{OutFilesValue}
use Rattle.serial_model.specs.declared.bus.Ask.{Ask}
use Rattle.serial_model.specs.declared.bus.Ask.TheVariants as A
use Rattle.serial_model.specs.Side.{SideValue}
use Rattle.cpu_bus.specs.Bus.{wish_shown}
use Rattle.serial_model.specs.Bus.{processor_ask}
use Rattle.cpu_bus.specs.Beside.{BeginsAnew}
use Rattle.serial_model.specs.Bus.{reads_of_ask}
use Rattle.serial_bands.specs.BusReads.{bus_reads}
use Rattle.serial_model.specs.Beam.{later_beam}
use Rattle.chip_set.specs.Bus.{CiasRest, KeepsCias}
use Rattle.chip_set.specs.Chips.{CanAsk, IsBlitAsk, kept_wish, late_ask}
use Rattle.chip_set.specs.declared.bus.BlitterClaim.{BlitterClaim}
use Rattle.chip_set.proofs.AheadLaws.{asked_alone}
use Rattle.chip_set.proofs.BusLaws.{HasAskedOnBus, asked_without_planes, rest_kept, rest_next}
use Rattle.chip_set.proofs.TurnLaws.{rested}
use Rattle.band_log.specs.Raster.{RasterValue}
use Rattle.machine.specs.Machine.{MachineValue, reads_more}
use Rattle.machine.specs.MachineSteps.{AsksInTime}
use Rattle.machine.specs.Ahead.{IsLeftToProcessor, IsLeftThen, IsClockAtOnce, IsAccessInTwo, IsAccessInPart}
use Rattle.machine.proofs.AskedLaws.{asks_alone}
use Rattle.machine.proofs.BusLaws.{place_in_line}
use Rattle.machine.proofs.StepLaws.{Makes-advanced}
use Rattle.clock_loop.specs.code.BusRun.{HasAskedFor, AdvancesInLine, StaysBehind, EndsAlone}
use Rattle.clock_loop.specs.code.BusRun.{CanMakeClock, HasMadeClock, HasMadeClockInPart, GoesOnBus, CanMakeClocks, HasRunOnBus, HasRunInPart}
use Rattle.foreground.specs.Clock.{Rises}
use Rattle.foreground.specs.Fore.{ForeOf, ForeValue, CanGo, GivesPart, looked_up}
use Rattle.foreground.proofs.BeginLaws.{begins_no_part}
use Rattle.clock_loop.proofs.BusLaws.{none_made}
use Rattle.clock_loop.proofs.EndLaws.{no_files, alone_whole, alone_stays, alone_cias}
use Rattle.clock_loop.proofs.ClockLaws.{rises_within_line}
use Rattle.clock_loop.proofs.ClockLaws.{first_can, next_can, run_and_clock, run_and_part, fewer_left}
use Rattle.clock_loop.proofs.RunToLaws.{can_go_on}

-- the machine is left to the processor
left_alone : (rest : ℕ) (claim : BlitterClaim) (f : ForeValue) (seen : RasterValue) → CanMakeClock None rest claim f seen → 0 < rest
    → claim.asks ≡ false → IsLeftToProcessor rest f.machine
left_alone rest claim f seen can some none = record {
  side = can.within.ready.side;
  leaves = can.leaves;
  alone = sym can.claims.asks ∙ none;
  rests = can.rests;
  some = some;
  line = can.within.last;
}

-- the words that it reads, where memory was wanted
few_at_once : (rest : ℕ) (claim : BlitterClaim) (ask : Ask) (f : ForeValue) (seen : RasterValue) (reads : ℕ)
    → CanMakeClock None rest claim f seen → AsksInTime ask f.machine f.machine → reads ≡ reads_more (reads_of_ask ask) f.machine.chip.reads
    → Rises 0 (bus_reads f.run f.machine.t + looked_up f) f.machine.chip.reads reads
few_at_once rest claim ask f seen reads can asks is =
    (rises_within_line ask f f reads reads seen no_files can.within (record { asks = asks; same = refl }) is refl).1

-- the chips of such a clock ask as they stand
pub asked_as_it_stands : (rest : ℕ) (claim : BlitterClaim) (f : ForeValue) (seen : RasterValue) → CanMakeClock None rest claim f seen → 0 < rest
    → claim.asks ≡ false → HasAskedFor (processor_ask (wish_shown f.machine.chips.processor)) f f
asked_as_it_stands rest claim f seen can some none =
    let m : MachineValue = f.machine in
    let alone : IsLeftToProcessor rest m = left_alone rest claim f seen can some none in
    let asked : HasAskedOnBus m.beam m.chips m.chips None = asked_without_planes m.beam m.chips alone.leaves in
    let ask : Ask = processor_ask (wish_shown m.chips.processor) in
    let is : late_ask m.beam m.chips ≡ ask = asked_alone m.beam m.chips _ alone.leaves.others alone.alone refl in
    record {
      asks = asks_alone m m m.chips ask alone.side (λ c stands. rested m.t rest m.chips c alone.rests alone.some stands)
          (λ c stands. sym is ∙ asked.ask c stands) asked.chips refl;
      able = subst CanAsk is asked.able;
      wish = subst (λ a. IsBlitAsk a (kept_wish m.chips)) is asked.wish;
      same = refl;
    }

-- a clock that was made at once
asked_at_once : (ask : Ask) (f : ForeValue) (m : MachineValue) (out given : OutFilesValue) → IsClockAtOnce ask f.machine out m given → HasAskedFor ask f f
asked_at_once ask f m out given at = record { asks = at.asks; able = at.able; wish = at.wish; same = refl }

in_line : (m : MachineValue) → m.beam.h < 226 → AdvancesInLine m (record m { t = m.t + 1; beam = later_beam 1 m.beam })
in_line m low = record {
  step = λ system. Makes-advanced system m (record m { t = m.t + 1; beam = later_beam 1 m.beam }) refl (sym (place_in_line system _ m.beam low)) refl;
  beam = λ system. sym (place_in_line system _ m.beam low);
  count = refl;
  chip = refl;
  chips = refl;
  side = refl;
}

advances_at_once : (ask : Ask) (old new : MachineValue) (out given : OutFilesValue) → (at : IsClockAtOnce ask old out new given)
    → AdvancesInLine at.processed new
advances_at_once ask old new out given at =
    let made = at.rest.at in
    let here : at.processed.beam.h ≡ old.beam.h =
    ap (λ (x : MachineValue). x.beam.h) made.same ∙ ap (λ (b : Beam). b.h) made.access.place.beam in
    let line = at.line in
    subst (λ x. AdvancesInLine at.processed x) (sym at.advanced) (in_line at.processed (omega (arith, line, here)))

made_at_once : (rest : ℕ) (claim : BlitterClaim) (ask : Ask) (f : ForeValue) (m : MachineValue) (before seen : RasterValue) (out given : OutFilesValue)
    → CanMakeClock None rest claim f before → IsClockAtOnce ask f.machine out m given → HasMadeClock f (record f { machine = m }) seen seen out given
made_at_once rest claim ask f m before seen out given can at =
    alone_whole ask f f at.processed m before seen out given can.within (asked_at_once ask f m out given at) at.rest
    (advances_at_once ask f.machine m out given at)

-- further ones may come behind it
goes_alone_on : (rest : ℕ) (claim : BlitterClaim) (f g : ForeValue) (before : RasterValue) → CanMakeClock None rest claim f before → StaysBehind f g
    → KeepsCias f.machine.chips g.machine.chips → g.machine.t ≡ f.machine.t + 1 → GoesOnBus None (rest - 1) f g
goes_alone_on rest claim f g before can stays kept count = record {
  chips = stays.chips;
  ready = record {
    waits = stays.waits;
    before = (let before = can.within.ready.before in let from = stays.from in omega (arith, before, from, count));
    side = stays.side ∙ can.within.ready.side;
  };
  rests = subst (λ t. CiasRest t (rest - 1) g.machine.chips) (sym count)
      (rest_kept (f.machine.t + 1) (rest - 1) f.machine.chips g.machine.chips kept (rest_next f.machine.t rest f.machine.chips can.rests));
}

pub alone_goes_on : {E : Type 0} (rest : ℕ) (claim : BlitterClaim) (ask : Ask) (f g : ForeValue) (before : RasterValue) (out given : OutFilesValue)
    (r : Result Bool E) → CanMakeClock None rest claim f before → HasAskedFor ask f f → EndsAlone ask f g out given r
    → IfOk r (λ made. made ≡ true → GoesOnBus None (rest - 1) f g)
alone_goes_on rest claim ask f g before out given (Ok made) can asked ends =
    λ is. goes_alone_on rest claim f g before can (ends.bus is) (ends.cias is) (ends.made is f before before can.within asked).count
alone_goes_on rest claim ask f g before out given (Err e) can asked ends = tt

stays_at_once : (rest : ℕ) (claim : BlitterClaim) (ask : Ask) (f : ForeValue) (m : MachineValue) (before : RasterValue) (out given : OutFilesValue)
    → CanMakeClock None rest claim f before → IsClockAtOnce ask f.machine out m given → GoesOnBus None (rest - 1) f (record f { machine = m })
stays_at_once rest claim ask f m before out given can at =
    let advances = advances_at_once ask f.machine m out given at in
    goes_alone_on rest claim f (record f { machine = m }) before can
    (alone_stays ask f at.processed m out given can.within.ready.waits at.rest advances)
    (alone_cias ask f.machine at.processed m out given at.rest advances)
    (made_at_once rest claim ask f m before before out given can at).count

-- one that wanted memory
wanted_at_once : (rest : ℕ) (claim : BlitterClaim) (ask : Ask) (f new : ForeValue) (before seen : RasterValue) (out given : OutFilesValue)
    → CanMakeClock None rest claim f before → AsksInTime ask f.machine f.machine
    → new.machine.chip.reads ≡ reads_more (reads_of_ask ask) f.machine.chip.reads → given ≡ out → HasMadeClockInPart f new seen seen out given
wanted_at_once rest claim ask f new before seen out given can asks reads same = record {
  part = subst (λ o. GivesPart f seen seen out o) (sym same) (begins_no_part f seen out);
  few = few_at_once rest claim ask f before new.machine.chip.reads can asks reads;
}

-- the same of a foreground that is seen in two ways
pub alone_now : (rest : ℕ) (claim : BlitterClaim) (f g : ForeValue) (seen : RasterValue) → g ≡ f → CanMakeClock None rest claim f seen → 0 < rest
    → claim.asks ≡ false → IsLeftToProcessor rest g.machine
alone_now rest claim f g seen view can some none =
    subst (λ x. IsLeftToProcessor rest x.machine) (sym view) (left_alone rest claim f seen can some none)

-- ---- both clocks of an access

-- the first of them was made
record HasMadeFirst (limit n rest : ℕ) (claim : BlitterClaim) (f f1 : ForeValue) (able : RasterValue) (out : OutFilesValue) : Type 0 where
  made : (seen : RasterValue) → HasMadeClock f f1 seen seen out out
  go : CanGo f1 able
  can : CanMakeClocks limit (n - 1) None (rest - 1) claim f1
  one : CanMakeClock None (rest - 1) claim f1 able
  before : f1.machine.t < limit

first_of_two : (limit n rest : ℕ) (claim : BlitterClaim) (f : ForeValue) (mid : MachineValue) (able : RasterValue) (out : OutFilesValue) → CanGo f able
    → f.spent ≡ false → CanMakeClocks limit n None rest claim f → 1 < n → 1 < rest → IsClockAtOnce A.Free f.machine out mid out
    → HasMadeFirst limit n rest claim f (record f { machine = mid }) able out
first_of_two limit n rest claim f mid able out go fresh can two rests begins =
    let f1 : ForeValue = record f { machine = mid } in
    let some : 0 < n = omega (arith, two) in
    let next : 0 < n - 1 = omega (arith, two) in
    let one : CanMakeClock None rest claim f able = first_can limit n None rest claim f able some can go fresh in
    let made : (seen : RasterValue) → HasMadeClock f f1 seen seen out out =
    λ seen. made_at_once rest claim A.Free f mid able seen out out one begins in
    let more : CanMakeClocks limit (n - 1) None (rest - 1) claim f1 =
    next_can limit n None rest (rest - 1) claim f f1 able able out out some can refl (made able)
    (stays_at_once rest claim A.Free f mid able out out one begins) in
    let there : CanGo f1 able = can_go_on f f1 able able out out (made able).clock fresh go in
    let line = (more.line next).before in
    record {
      made = made;
      go = there;
      can = more;
      one = first_can limit (n - 1) None (rest - 1) claim f1 able next more there fresh;
      before = omega (arith, line, next);
    }

-- so the clock behind it is left to the processor too
pub left_then : (limit n rest : ℕ) (claim : BlitterClaim) (f g : ForeValue) (able : RasterValue) (out : OutFilesValue) → g ≡ f → CanGo f able
    → f.spent ≡ false → CanMakeClocks limit n None rest claim f → 1 < n → 1 < rest → claim.asks ≡ false → IsLeftThen g.machine out
left_then limit n rest claim f g able out view go fresh can two rests none mid begins =
    let first : HasMadeFirst limit n rest claim f (record f { machine = mid }) able out =
    first_of_two limit n rest claim f mid able out go fresh can two rests (subst (λ x. IsClockAtOnce A.Free x.machine out mid out) view begins) in
    (rest - 1, left_alone (rest - 1) claim (record f { machine = mid }) able first.one (omega (arith, rests)) none)

-- both were made
pub record HasMadeTwo (limit n rest : ℕ) (claim : BlitterClaim) (f h : ForeValue) (out given : OutFilesValue) : Type 0 where
  pub runs : (seen : RasterValue) → HasRunOnBus limit f h seen seen out given
  pub can : CanMakeClocks limit (n - 2) None (rest - 2) claim h
  pub count : h.machine.t ≡ f.machine.t + 2

two_at_once : (limit n rest : ℕ) (claim : BlitterClaim) (f : ForeValue) (m : MachineValue) (able : RasterValue) (out given : OutFilesValue) → CanGo f able
    → f.spent ≡ false → CanMakeClocks limit n None rest claim f → 1 < n → 1 < rest → IsAccessInTwo f.machine out m given
    → HasMadeTwo limit n rest claim f (record f { machine = m }) out given
two_at_once limit n rest claim f m able out given go fresh can two rests made =
    let f1 : ForeValue = record f { machine = made.mid } in
    let f2 : ForeValue = record f { machine = m } in
    let first : HasMadeFirst limit n rest claim f f1 able out = first_of_two limit n rest claim f made.mid able out go fresh can two rests made.begins in
    let second : (seen : RasterValue) → HasMadeClock f1 f2 seen seen out given =
    λ seen. made_at_once (rest - 1) claim made.ask f1 m able seen out given first.one made.accesses in
    let behind : CanMakeClocks limit (n - 1 - 1) None (rest - 1 - 1) claim f2 =
    next_can limit (n - 1) None (rest - 1) (rest - 1 - 1) claim f1 f2 able able out given (omega (arith, two)) first.can refl (second able)
    (stays_at_once (rest - 1) claim made.ask f1 m able out given first.one made.accesses) in
    let before = first.before in
    let one = (first.made able).count in
    let other = (second able).count in
    record {
      runs = λ seen. run_and_clock limit f f1 f2 able seen seen seen out out given first.go fresh refl first.before
          (run_and_clock limit f f f1 able seen seen seen out out out go fresh refl (omega (arith, before, one)) (none_made limit f seen out)
          (first.made seen)) (second seen);
      can = fewer_left limit n 1 1 rest None claim f2 behind;
      count = omega (arith, one, other);
    }

pub two_now : (limit n rest : ℕ) (claim : BlitterClaim) (f g : ForeValue) (m : MachineValue) (able : RasterValue) (out given : OutFilesValue) → g ≡ f
    → CanGo f able → f.spent ≡ false → CanMakeClocks limit n None rest claim f → 1 < n → 1 < rest → IsAccessInTwo g.machine out m given
    → HasMadeTwo limit n rest claim f (record g { machine = m }) out given
two_now limit n rest claim f g m able out given view go fresh can two rests made =
    subst (λ x. HasMadeTwo limit n rest claim f (record x { machine = m }) out given) (sym view)
    (two_at_once limit n rest claim f m able out given go fresh can two rests (subst (λ x. IsAccessInTwo x.machine out m given) view made))

-- memory was wanted in the second
pub two_in_part : (limit n rest : ℕ) (claim : BlitterClaim) (f g h : ForeValue) (m : MachineValue) (able seen : RasterValue) (out given : OutFilesValue)
    → g ≡ f → h.machine.chip.reads ≡ m.chip.reads → CanGo f able → f.spent ≡ false → CanMakeClocks limit n None rest claim f → 1 < n
    → 1 < rest
    → IsAccessInPart g.machine out m given → HasRunInPart limit f h seen seen out given
two_in_part limit n rest claim f g h m able seen out given view same go fresh can two rests part =
    let f1 : ForeValue = record f { machine = part.mid } in
    let first : HasMadeFirst limit n rest claim f f1 able out =
    first_of_two limit n rest claim f part.mid able out go fresh can two rests
    (subst (λ x. IsClockAtOnce A.Free x.machine out part.mid out) view part.begins) in
    let before = first.before in
    let one = (first.made able).count in
    run_and_part limit f f1 h able seen seen seen out out given first.go fresh refl first.before
    (run_and_clock limit f f f1 able seen seen seen out out out go fresh refl (omega (arith, before, one)) (none_made limit f seen out) (first.made seen))
    (wanted_at_once (rest - 1) claim part.ask f1 h able seen out given first.one part.asks (same ∙ part.reads) part.same)

pub time_view : {S : Type 0} (seen : S → SideValue) (g f : ForeOf S) → g ≡ f → f.machine.chip.newest ≤ f.machine.t
    → g.machine.chip.newest ≤ g.machine.t
time_view seen g f view time = subst (λ (x : ForeOf _). x.machine.chip.newest ≤ x.machine.t) (sym view) time

pub room_view : {S : Type 0} (seen : S → SideValue) (g f : ForeOf S) → g ≡ f → f.machine.t + 2 < 2 ^ 64 → g.machine.t + 2 < 2 ^ 64
room_view seen g f view room = subst (λ (x : ForeOf _). x.machine.t + 2 < 2 ^ 64) (sym view) room

pub anew_view : {S : Type 0} (seen : S → SideValue) (g f : ForeOf S) → g ≡ f → BeginsAnew f.machine.chips.processor
    → BeginsAnew g.machine.chips.processor
anew_view seen g f view anew = subst (λ (x : ForeOf _). BeginsAnew x.machine.chips.processor) (sym view) anew

-- what follows from what an answer tells
pub if_ok_then : {T E : Type 0} {P Q : T → Type 0} (r : Result T E) → ((x : T) → P x → Q x) → IfOk r P → IfOk r Q
if_ok_then (Ok x) next told = next x told
if_ok_then (Err e) next told = tt

pub on_err_then : {T E P Q : Type 0} (r : Result T E) → (P → Q) → OnErr r P → OnErr r Q
on_err_then (Ok x) next told = tt
on_err_then (Err e) next told = next told
