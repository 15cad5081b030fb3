-- Clocks at which everybody but the planes only waits.
use Rattle.std.proofs.Common.{◌≡◌, ◌<◌, ℕ, suc, ◌==◌, true, false, List, Option, Some, None, IfSome, arith, refl, ap, subst, sym, ◌∙◌}
use Rattle.std.proofs.lemmas.Bool.{false≢true}
use Rattle.std.proofs.lemmas.Bool.Decides.{nat_tests}
use Rattle.cpu_bus.specs.Bus.{wish_shown}
use Rattle.cpu_bus.specs.Quiet.{waited}
use Rattle.cpu_bus.proofs.QuietLaws.{waited_none}
use Rattle.irq_cia.specs.Interrupts.{Interrupts}
use Rattle.irq_cia.specs.Ticks.{HasNoUnderflow, ticks_on}
use Rattle.irq_cia.specs.declared.cia.CiaState.{CiaState}
use Rattle.ocs_base.specs.declared.beam.Beam.{Beam}
use Rattle.serial_model.specs.declared.bus.Ask.{Ask}
use Rattle.serial_model.specs.declared.bus.Ask.TheVariants as A
use Rattle.serial_model.specs.declared.bus.Made.{Made}
use Rattle.serial_model.specs.declared.bus.SideAsk.{SideAsk}
use Rattle.serial_model.specs.declared.copper.CopperAct.{CopperAct}
use Rattle.serial_model.specs.Bus.{ask_at, copper_after, copper_word, missed_after}
use Rattle.serial_model.specs.Side.{IsInTime}
use Rattle.serial_model.specs.PlaneFetch.{last_unit, fetched_plane, ask_for_plane, plane_ask, IsLastUnit}
use Rattle.serial_model.specs.Registers.{Registers}
use Rattle.serial_model.specs.State.{Chips}
use Rattle.serial_model.specs.declared.fetch.PlaneAsk.{PlaneAsk}
use Rattle.serial_model.proofs.FetchLaws.{IsFetch, fetched_plane-is}
use Rattle.std.specs.Option.{option_map}
use Rattle.sprite_dma.specs.Quiet.{ReadsNothing}
use Rattle.quiet_clocks.specs.QuietClock.{TurnsTo}
use Rattle.serial_model.specs.Beam.{later_beam}
use Rattle.quiet_clocks.specs.Ticks.{ticks_in}
use Rattle.quiet_clocks.specs.FetchClocks.{IsStillBesidePlanes, AreResting, Fetching, fetching_on, fetching_of, planes_on, planes_of_chips, fetched_later}
use Rattle.quiet_clocks.proofs.FetchClocks.{still_is_at_rest, fetching_later}
use Rattle.quiet_clocks.proofs.PlainClock.{else_of}
use Rattle.chip_set.specs.Bus.{is_fetch_ask}
use Rattle.bus_slots.specs.Asks.{made_with}
use Rattle.chip_set.specs.Chips.{WorkingChips, IsChipsOf, IsPlane, IsAnswer, AnswersOwner, HasAsked, HasAccessed, plain_chips, answering, act_at}
use Rattle.chip_set.specs.Quiet.{AreAtRest, HaveFetched, FetchesPass, fetching_in, with_fetching}
use Rattle.chip_set.proofs.AskLaws.{answer_is}
use Rattle.chip_set.proofs.QuietLaws.{sprites_of, copper_of, blit_of, lines_of}

-- a plane that is asked for is one of six
can_ask : (registers : Registers) (h : ℕ) (found : Option ℕ) → IfSome found (IsFetch h)
    → IfSome (option_map (λ plane. ask_for_plane registers plane) found) (λ ask. IsPlane ask.plane)
can_ask registers h None within = tt
can_ask registers h (Some plane) within = record { first = within.first; last = within.most }

pub one_of_six : (h : ℕ) (registers : Registers) (last : Option ℕ) (ask : Option PlaneAsk) → IsLastUnit last → ask ≡ plane_ask h registers last
    → IfSome ask (λ ask. IsPlane ask.plane)
one_of_six h registers last ask begun asks =
    subst (λ (a : Option PlaneAsk). IfSome a (λ ask. IsPlane ask.plane)) (sym asks)
    (can_ask registers h (fetched_plane h registers last) (fetched_plane-is h registers last begun))

-- a clock among them
still_at : (b : Beam) (t n k : ℕ) (now : WorkingChips) (c : Chips) → AreAtRest b t n now → IsChipsOf now c → k < n
    → IsStillBesidePlanes (later_beam k b) (record c { processor = waited now.processor k c.processor })
still_at b t n k now c rest is below =
    let reads : ReadsNothing (later_beam k b) c.registers c.kinds = sprites_of (later_beam k b) now c is (rest.sprites k below) in
    record {
      kinds = reads.stay;
      sprite = reads.ask;
      copper = copper_of (later_beam k b) now c is (rest.copper k below);
      blit = blit_of now c is rest.blit;
      wish = (rest.processor c.processor is.processor k below).1;
    }

are_resting : (b : Beam) (t n : ℕ) (now : WorkingChips) (c : Chips) → IsLastUnit now.last → AreAtRest b t n now → IsChipsOf now c
    → AreResting b t n (λ k. waited now.processor k c.processor) c
are_resting b t n now c begun rest is = record {
  begin = waited_none now.processor c.processor;
  unit = subst IsLastUnit (sym is.last) begun;
  lines = lines_of now c is rest.lines;
  rest = λ k below. still_is_at_rest (later_beam k b) (record c { processor = waited now.processor k c.processor })
      (still_at b t n k now c rest is below);
  turns = λ k below.
      subst (λ (irq : Interrupts). TurnsTo irq (waited now.processor k c.processor) (waited now.processor (suc k) c.processor)) (sym is.irq)
      (rest.processor c.processor is.processor k below).0;
  timers_a = subst (λ (cia : CiaState). HasNoUnderflow (ticks_in t n) cia) (sym is.cia_a) rest.timers_a;
  timers_b = subst (λ (cia : CiaState). HasNoUnderflow (ticks_in t n) cia) (sym is.cia_b) rest.timers_b;
}

-- and the chips behind them
abbrev fetching_with : Registers → Option ℕ → Fetching
fetching_with registers last = record { registers = registers; last = last }

same_fetching : (n : ℕ) (b : Beam) (old : WorkingChips) (c : Chips) → IsChipsOf old c
    → fetching_of (planes_on n b (planes_of_chips c)) ≡ fetching_on n b (fetching_in old)
same_fetching n b old c is =
    fetching_later n b (planes_of_chips c)
    ∙ ap (λ (r : Registers). fetching_on n b (fetching_with r (last_unit c.units))) is.registers
    ∙ ap (λ (last : Option ℕ). fetching_on n b (fetching_with old.registers last)) is.last

stand_fetched : (b : Beam) (t n : ℕ) (old new : WorkingChips) (c : Chips) → 0 < n → HaveFetched b t n old new
    → IsChipsOf old c → IsChipsOf new (fetched_later b t n (λ k. waited old.processor k c.processor) c)
stand_fetched b t n old new c some later is =
    let not_zero : (n == 0) ≡ false = grind (arith, nat_tests, some) in
    let mid : WorkingChips = with_fetching (fetching_on n b (fetching_in old)) old in
    let stands : IsChipsOf (record mid {
      processor = new.processor;
      missed = 0;
      cia_a = ticks_on (ticks_in t n) old.cia_a;
      cia_b = ticks_on (ticks_in t n) old.cia_b;
    }) (fetched_later b t n (λ k. waited old.processor k c.processor) c) = record {
      registers = ap (λ (f : Fetching). f.registers) (same_fetching n b old c is);
      last = ap (λ (f : Fetching). f.last) (same_fetching n b old c is);
      kinds = is.kinds;
      copper = is.copper;
      blit = is.blit;
      zero = is.zero;
      irq = is.irq;
      processor = later.processor c.processor is.processor;
      missed = else_of (n == 0) c.missed 0 not_zero;
      cia_a = ap (λ (cia : CiaState). ticks_on (ticks_in t n) cia) is.cia_a;
      cia_b = ap (λ (cia : CiaState). ticks_on (ticks_in t n) cia) is.cia_b;
      inputs = is.inputs;
    } in
    subst (λ (now : WorkingChips). IsChipsOf now (fetched_later b t n (λ k. waited old.processor k c.processor) c)) (sym later.rest) stands

pub fetches_pass : FetchesPass
fetches_pass b t n old new c some begun rest later is = record {
  processors = λ k. waited old.processor k c.processor;
  rest = are_resting b t n old c begun rest is;
  stands = stand_fetched b t n old new c some later is;
}

-- ---- the access of a plane, a sprite, the Copper or nobody

owner_stays : (ask : Ask) (word : ℕ) (now : WorkingChips) → is_fetch_ask ask ≡ true → AnswersOwner ask word now now
owner_stays A.Free word now is = refl
owner_stays (A.Side ask) word now is = absurd (false≢true is)
owner_stays (A.Plane ask) word now is = refl
owner_stays (A.Sprite ask) word now is = refl
owner_stays (A.Copper at) word now is = refl
owner_stays (A.Blit ask) word now is = absurd (false≢true is)
owner_stays (A.Processor ask) word now is = absurd (false≢true is)

pub fetch_answered : (b : Beam) (clx : ℕ) (memory : List ℕ) (ask : Ask) (old mid new : WorkingChips) (word : ℕ) (act : CopperAct) (made : Made)
    → is_fetch_ask ask ≡ true → IsAnswer ask b clx old memory word
    → mid ≡ record old { copper = copper_after b (copper_word ask word) (plain_chips old) }
    → new ≡ record mid { missed = missed_after (wish_shown mid.processor) ask mid.missed }
    → act ≡ act_at b ask word (plain_chips old) → made ≡ made_with ask word act
    → (side : SideAsk) (c : Chips) → IsInTime b side → HasAsked b c old → ask ≡ ask_at side b c → HasAccessed side b clx c memory made new
fetch_answered b clx memory ask old mid new word act made is answer steps counts acts makes =
    let both : new ≡ answering b ask word old =
    counts ∙ ap (λ (m : WorkingChips). record m { missed = missed_after (wish_shown m.processor) ask m.missed }) steps in
    answer_is b clx memory ask old new made (record {
      word = word;
      answer = answer;
      owner = subst (λ n. AnswersOwner ask word (answering b ask word old) n) (sym both) (owner_stays ask word (answering b ask word old) is);
      makes = makes ∙ ap (λ act. made_with ask word act) acts;
    })
