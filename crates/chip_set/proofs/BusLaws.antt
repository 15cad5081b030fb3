-- Clocks that refresh, sprites and the Copper leave to the planes, the blitter and the processor.
use Rattle.std.proofs.Common.{◌≡◌, ◌⊎◌, inl, inr, ◌<◌, ◌≤◌, ℕ, suc, ◌+◌, ◌-◌, ◌%◌, ◌==◌, bit_or, Bool, true, false, not, ◌&&◌, ◌||◌, if◌then◌else◌, true≢false}
use Rattle.std.proofs.Common.{List, [], ◌∷◌, Option, Some, None, is_some, arith, refl, ap, subst, ◌∙◌, sym}
use Rattle.std.proofs.lemmas.Bool.{false≢true}
use Rattle.std.proofs.lemmas.Bool.Decides.{nat_tests}
use Rattle.std.specs.Option.{option_map}
use Rattle.blit_words.specs.declared.blit.SlotAsk.{SlotAsk}
use Rattle.blit_words.specs.declared.blit.SlotAsk.TheVariants.{Read, Write, Rest, Done}
use Rattle.blitter.specs.declared.Blit.{Blit}
use Rattle.ocs_base.specs.declared.addr.Addr.{Addr}
use Rattle.ocs_base.specs.declared.beam.Beam.{Beam}
use Rattle.serial_model.specs.declared.bus.Ask.{Ask}
use Rattle.serial_model.specs.declared.bus.Ask.TheVariants as A
use Rattle.serial_model.specs.declared.bus.Made.{Made}
use Rattle.serial_model.specs.declared.bus.ProcessorAsk.{ProcessorAsk}
use Rattle.serial_model.specs.declared.bus.ProcessorAsk.TheVariants as P
use Rattle.serial_model.specs.declared.bus.SideAsk.{SideAsk}
use Rattle.serial_model.specs.declared.bus.SideAsk.TheVariants as S
use Rattle.serial_model.specs.declared.copper.CopperAct.TheVariants.{None as NoAct}
use Rattle.serial_model.specs.Beam.{is_line_start}
use Rattle.serial_model.specs.Bus.{ask_at, copper_runs, copper_wish, copper_after, copper_word, missed_after, blit_owner_ask, processor_ask}
use Rattle.serial_model.specs.Copper.{copper_act, act_in}
use Rattle.serial_model.specs.declared.copper.CopperPhase.{CopperPhase}
use Rattle.serial_model.specs.declared.copper.CopperPhase.TheVariants.{First, Second, Waiting, Stopped}
use Rattle.serial_model.specs.declared.copper.CopperState.{CopperState}
use Rattle.serial_model.specs.declared.fetch.SpriteKind.{SpriteKind}
use Rattle.copper.specs.Quiet.{DoesNothing}
use Rattle.sprite_dma.specs.Quiet.{ReadsNothing}
use Rattle.serial_model.specs.Owner.{is_refresh, owner_of}
use Rattle.serial_model.specs.Beam.{later_beam}
use Rattle.serial_model.specs.PlaneFetch.{last_unit_at, begins_unit, begins_next, begins_first, is_running, last_unit, units_at}
use Rattle.serial_model.specs.PlaneFetch.{fetched_plane, fetches_plane, slot_plane, high_resolution}
use Rattle.serial_model.specs.PlaneFetch.{ask_for_plane, move_planes, move_if_fetched, IsLastUnit}
use Rattle.serial_model.specs.Registers.{Registers, copper_dma, is_danger, dmacon_of, blitter_dma}
use Rattle.serial_model.specs.SpriteFetch.{kinds_at, sprite_ask, move_if_asked}
use Rattle.serial_model.specs.State.{Chips}
use Rattle.serial_model.specs.Side.{IsInTime}
use Rattle.quiet_clocks.specs.PlainClock.{comes_first}
use Rattle.quiet_clocks.specs.QuietClock.{CopperIsStill}
use Rattle.quiet_clocks.proofs.IdleClocks.{none_begins}
use Rattle.quiet_clocks.proofs.Owners.{asked_in, late_wishes}
use Rattle.quiet_clocks.proofs.QuietClock.{still_copper, still_steps, if_either}
use Rattle.cpu_bus.specs.Bus.{wish_shown}
use Rattle.chip_set.specs.Bus.{LeavesToPlanes, LeavesBus, LeavesBeside, KeepsBus, KeepsToPlanes, KeepsBeside, KeepsCias, TimersStand, CiasRest, IsClaim}
use Rattle.chip_set.specs.declared.bus.BlitterClaim.{BlitterClaim}
use Rattle.chip_set.specs.declared.bus.Unit.{Unit}
use Rattle.blitter.specs.StandsFor.{slot_shown}
use Rattle.irq_cia.specs.Cia.{after_tick}
use Rattle.irq_cia.specs.Icr.{is_active}
use Rattle.irq_cia.specs.Interrupts.{Interrupts, after_request}
use Rattle.irq_cia.specs.declared.cia.CiaState.{CiaState}
use Rattle.quiet_clocks.specs.PlainClock.{AsksNothingNew}
use Rattle.chip_set.specs.Bus.{ask_beside_planes, is_bus_ask, is_bus_made, reaches_memory, KeepsOnBus, IsUnitKept}
use Rattle.bus_slots.specs.Asks.{made_with}
use Rattle.chip_set.specs.Chips.{WorkingChips, IsChipsOf, HasAsked, HasAccessed, CanAsk, IsBlitAsk, some_blit, plain_chips, kept_wish, late_ask}
use Rattle.chip_set.specs.Chips.{wishes_with, ask_with, answering, act_at, IsAnswer, AnswersOwner}
use Rattle.chip_set.specs.Quiet.{IsCopperIdle, fetching_in, with_fetching}
use Rattle.quiet_clocks.specs.FetchClocks.{fetching_after, ask_of_fetching}
use Rattle.bitplane_dma.specs.Quiet.{IsUnitAt}
use Rattle.bitplane_dma.specs.Rules.{rules_of}
use Rattle.bitplane_dma.specs.declared.rules.FetchRules.{FetchRules}
use Rattle.bitplane_dma.proofs.RuleLaws.{rules_kept}
use Rattle.irq_cia.specs.Bits.{has_bits}
use Rattle.serial_model.proofs.FetchLaws.{last_unit-units_at, last_unit_at-is}
use Rattle.serial_model.proofs.SlotLaws.{SameForSprites, move_planes-same, kinds_at-same, sprite_ask-same}
use Rattle.serial_model.specs.declared.fetch.PlaneAsk.{PlaneAsk}
use Rattle.chip_set.proofs.AbleLaws.{ask_can}
use Rattle.chip_set.proofs.AskLaws.{HasFetched, ask_is_at, has_asked, ask_is_of_blit, answer_is}
use Rattle.chip_set.proofs.QuietLaws.{StillWith, still_with, same_busy}

-- ---- the Copper

some_kept : (blit : Option Blit) → is_some (option_map some_blit blit) ≡ is_some blit
some_kept None = refl
some_kept (Some blit) = refl

still_by : (b : Beam) (now : WorkingChips) → IsCopperIdle b now → CopperIsStill b (plain_chips now)
still_by b now idle =
    subst (λ busy. StillWith b now.registers busy now.copper) (sym (some_kept now.blit)) (still_with b now.registers (is_some now.blit) now.copper idle)

abbrev IdleWith : Beam → Registers → Bool → CopperState → Type 0
IdleWith b registers busy copper = (copper_dma registers ≡ false) ⊎ DoesNothing b busy copper

-- ---- who has the slot

late_whole : (b : Beam) (now : WorkingChips)
    → late_ask b now
    ≡ asked_in (is_refresh b.h) (comes_first (plain_chips now)) (late_wishes (copper_wish b (plain_chips now)) (kept_wish now) (wish_shown now.processor))
unfolding ask_with owner_of
late_whole b now = refl

late_left : (b : Beam) (now : WorkingChips) → LeavesToPlanes b now
    → late_ask b now ≡ asked_in false (comes_first (plain_chips now)) (late_wishes None (kept_wish now) (wish_shown now.processor))
late_left b now leaves =
    late_whole b now
    ∙ ap (λ refresh. asked_in refresh (comes_first (plain_chips now))
    (late_wishes (copper_wish b (plain_chips now)) (kept_wish now) (wish_shown now.processor))) leaves.refresh
    ∙ ap (λ (at : Option Addr). asked_in false (comes_first (plain_chips now)) (late_wishes at (kept_wish now) (wish_shown now.processor)))
    (still_copper b (plain_chips now) (still_by b now leaves.copper))

by_blitter : (first : Bool) (blit : Option SlotAsk) (processor : Option ProcessorAsk) → (is_some blit && not (first && is_some processor)) ≡ true
    → asked_in false first (late_wishes None blit processor) ≡ blit_owner_ask blit
by_blitter first None processor turn = absurd (false≢true turn)
by_blitter false (Some ask) processor turn = refl
by_blitter true (Some ask) None turn = refl
by_blitter true (Some ask) (Some other) turn = absurd (false≢true turn)

by_processor : (first : Bool) (blit : Option SlotAsk) (processor : Option ProcessorAsk) → (is_some blit && not (first && is_some processor)) ≡ false
    → asked_in false first (late_wishes None blit processor) ≡ processor_ask processor
by_processor false None None turn = refl
by_processor false None (Some ask) turn = refl
by_processor true None None turn = refl
by_processor true None (Some ask) turn = refl
by_processor false (Some ask) processor turn = absurd (true≢false turn)
by_processor true (Some ask) None turn = absurd (true≢false turn)
by_processor true (Some ask) (Some other) turn = refl

abbrev pub has_turn : WorkingChips → Bool
has_turn now = is_some (kept_wish now) && not (comes_first (plain_chips now) && is_some (wish_shown now.processor))

pub turn_of_blitter : (now : WorkingChips) (turn : Bool) → turn ≡ has_turn now → turn ≡ true → (b : Beam) → LeavesToPlanes b now
    → late_ask b now ≡ blit_owner_ask (kept_wish now)
turn_of_blitter now turn is has b leaves =
    late_left b now leaves ∙ by_blitter (comes_first (plain_chips now)) (kept_wish now) (wish_shown now.processor) (sym is ∙ has)

pub turn_of_processor : (now : WorkingChips) (turn : Bool) → turn ≡ has_turn now → turn ≡ false → (b : Beam) → LeavesToPlanes b now
    → late_ask b now ≡ processor_ask (wish_shown now.processor)
turn_of_processor now turn is has b leaves =
    late_left b now leaves ∙ by_processor (comes_first (plain_chips now)) (kept_wish now) (wish_shown now.processor) (sym is ∙ has)

pub turn_if_first : (now : WorkingChips) (wish first : Bool) → wish ≡ is_some (kept_wish now) → wish ≡ true
    → first ≡ (comes_first (plain_chips now) && is_some (wish_shown now.processor)) → not first ≡ has_turn now
turn_if_first now wish first is asks comes =
    ap (λ f. not f) comes ∙ sym (ap (λ w. w && not (comes_first (plain_chips now) && is_some (wish_shown now.processor))) (sym is ∙ asks))

pub no_turn : (now : WorkingChips) (wish : Bool) → wish ≡ is_some (kept_wish now) → wish ≡ false → wish ≡ has_turn now
no_turn now wish is none =
    none ∙ sym (ap (λ w. w && not (comes_first (plain_chips now) && is_some (wish_shown now.processor))) (sym is ∙ none))

-- ---- planes and sprites have nothing to do

units_stay : (b : Beam) (registers : Registers) (units : List ℕ) → 0 < b.h → begins_unit b registers (last_unit units) ≡ false
    → units_at b registers units ≡ units
unfolding units_at
units_stay b registers units inner none =
    let line : is_line_start b ≡ false = grind (arith, nat_tests, inner) in
    ap (λ is. let before = if is then [] else units in if begins_unit b registers (last_unit before) then b.h ∷ before else before) line
    ∙ ap (λ is. if is then b.h ∷ units else units) none

none_fetched : (h : ℕ) (registers : Registers) (last : Option ℕ) → is_running h last ≡ false → fetched_plane h registers last ≡ None
none_fetched h registers None none = refl
none_fetched h registers (Some start) none =
    let plane : ℕ = slot_plane (high_resolution registers) (h - start) in
    ap (λ within. if within && fetches_plane registers plane then Some plane else None) none

nobody_fetches : (b : Beam) (now : WorkingChips) → LeavesBus b now → HasFetched b now now None None
nobody_fetches b now leaves =
    let none : fetched_plane b.h now.registers now.last ≡ None = none_fetched b.h now.registers now.last leaves.runs in
    let stays : move_planes b.h now.last now.registers ≡ now.registers = ap (λ found. move_if_fetched b.h now.last found now.registers) none in
    record {
      begun = leaves.others.unit;
      units = λ units is. is ∙ sym (ap (λ (us : List ℕ). last_unit us) (units_stay b now.registers units leaves.others.inner
          (subst (λ (last : Option ℕ). begins_unit b now.registers last ≡ false) is leaves.begins)));
      plane_ask = sym (ap (λ found. option_map (λ plane. ask_for_plane now.registers plane) found) none);
      kinds = sym (ap (λ (r : Registers). kinds_at b r now.kinds) stays ∙ leaves.others.sprites.stay);
      sprite_ask = sym (ap (λ (r : Registers). sprite_ask b.h r now.kinds false) stays ∙ leaves.others.sprites.ask false);
      moved = sym (ap (λ (r : Registers). move_if_asked (sprite_ask b.h r now.kinds false) r) stays
          ∙ ap (λ asked. move_if_asked asked now.registers) (leaves.others.sprites.ask false));
      rest = refl;
    }

-- ---- or a plane has its fetch, and sprites have nothing to do

-- the fetch of a plane is not seen by them
abbrev fetched : Beam → WorkingChips → WorkingChips
fetched b now = with_fetching (fetching_after b (fetching_in now)) now

fetch_same : (b : Beam) (now : WorkingChips) → IsLastUnit now.last → SameForSprites (fetched b now).registers now.registers
fetch_same b now begun =
    move_planes-same b.h (last_unit_at b now.registers now.last) now.registers (last_unit_at-is b now.registers now.last begun)

reads_behind : (b : Beam) (moved registers : Registers) (kinds : List SpriteKind) → SameForSprites moved registers → ReadsNothing b registers kinds
    → ReadsNothing b moved kinds
reads_behind b moved registers kinds same reads = record {
  stay = kinds_at-same b moved registers kinds same ∙ reads.stay;
  ask = λ taken. sprite_ask-same b.h moved registers kinds taken same ∙ reads.ask taken;
}

plane_fetches : (b : Beam) (now : WorkingChips) (plane : Option PlaneAsk) → LeavesToPlanes b now → plane ≡ ask_of_fetching b (fetching_in now)
    → HasFetched b now (fetched b now) plane None
plane_fetches b now plane leaves asks =
    let moved : Registers = (fetched b now).registers in
    let reads : ReadsNothing b moved now.kinds = reads_behind b moved now.registers now.kinds (fetch_same b now leaves.unit) leaves.sprites in
    record {
      begun = last_unit_at-is b now.registers now.last leaves.unit;
      units = λ units is. ap (λ last. last_unit_at b now.registers last) is ∙ sym (last_unit-units_at b now.registers units);
      plane_ask = asks;
      kinds = sym reads.stay;
      sprite_ask = sym (reads.ask (is_some plane));
      moved = sym (ap (λ asked. move_if_asked asked moved) (reads.ask (is_some plane)));
      rest = refl;
    }

ask_by : (plane : Option PlaneAsk) (b : Beam) (now : WorkingChips) → is_refresh b.h ≡ false
    → ask_beside_planes plane b now ≡ ask_with S.Nothing b plane None (kept_wish now) (wish_shown now.processor) (plain_chips now)
unfolding ask_with owner_of
ask_by None b now none = refl
ask_by (Some ask) b now none =
    sym (ap (λ refresh. asked_in refresh (comes_first (plain_chips now))
    (wishes_with S.Nothing b (Some ask) None (kept_wish now) (wish_shown now.processor) (plain_chips now))) none)

pub record HasAskedOnBus (b : Beam) (old new : WorkingChips) (plane : Option PlaneAsk) : Type 0 where
  pub ask : (c : Chips) → IsChipsOf old c → ask_beside_planes plane b new ≡ ask_at S.Nothing b c
  pub chips : (c : Chips) → IsChipsOf old c → HasAsked b c new
  pub able : CanAsk (ask_beside_planes plane b new)
  pub wish : IsBlitAsk (ask_beside_planes plane b new) (kept_wish new)

has_asked_by : (b : Beam) (old new : WorkingChips) (plane : Option PlaneAsk) → is_refresh b.h ≡ false → HasFetched b old new plane None
    → HasAskedOnBus b old new plane
has_asked_by b old new plane none fetched =
    let is : ask_beside_planes plane b new ≡ ask_with S.Nothing b plane None (kept_wish new) (wish_shown new.processor) (plain_chips new) =
    ask_by plane b new none in
    record {
      ask = ask_is_at S.Nothing b (ask_beside_planes plane b new) old new plane None fetched is;
      chips = has_asked b old new plane None fetched;
      able = ask_can S.Nothing b (ask_beside_planes plane b new) old new plane None fetched is;
      wish = subst (λ a. IsBlitAsk a (kept_wish new)) (sym is)
          (ask_is_of_blit S.Nothing b plane None (kept_wish new) (wish_shown new.processor) (plain_chips new));
    }

pub asked_without_planes : (b : Beam) (now : WorkingChips) → LeavesBus b now → HasAskedOnBus b now now None
asked_without_planes b now leaves = has_asked_by b now now None leaves.others.refresh (nobody_fetches b now leaves)

-- the planes' part of such a clock
pub record HasFetchedBeside (rules : Option FetchRules) (b : Beam) (old new : WorkingChips) (plane : Option PlaneAsk) : Type 0 where
  pub asks : HasAskedOnBus b old new plane
  pub leaves : LeavesToPlanes b new
  pub keeps : KeepsBeside rules old new

-- ---- the answer

no_word : (ask : Ask) (word : ℕ) → is_bus_ask ask ≡ true → copper_word ask word ≡ None
no_word A.Free word is = refl
no_word (A.Side ask) word is = absurd (false≢true is)
no_word (A.Plane ask) word is = refl
no_word (A.Sprite ask) word is = absurd (false≢true is)
no_word (A.Copper at) word is = absurd (false≢true is)
no_word (A.Blit ask) word is = refl
no_word (A.Processor ask) word is = refl

abbrev counted : Ask → WorkingChips → WorkingChips
counted ask now = record now { missed = missed_after (wish_shown now.processor) ask now.missed }

copper_rests : (b : Beam) (ask : Ask) (word : ℕ) (now : WorkingChips) → LeavesToPlanes b now → is_bus_ask ask ≡ true
    → answering b ask word now ≡ counted ask now
copper_rests b ask word now leaves is =
    let missed : ℕ = missed_after (wish_shown now.processor) ask now.missed in
    ap (λ w. record now { copper = copper_after b w (plain_chips now); missed = missed }) (no_word ask word is)
    ∙ ap (λ x. record now { copper = x; missed = missed }) (still_steps b (plain_chips now) (still_by b now leaves.copper))

act_none : (danger : Bool) (phase : CopperPhase) (first : ℕ) → act_in danger None phase first ≡ NoAct
act_none danger First first = refl
act_none danger Second first = refl
act_none danger Waiting first = refl
act_none danger Stopped first = refl

no_act : (b : Beam) (ask : Ask) (word : ℕ) (c : Chips) → is_bus_ask ask ≡ true → act_at b ask word c ≡ NoAct
unfolding copper_act
no_act b ask word c is =
    ap (λ w. if copper_runs b c then copper_act (is_danger c.registers) w c.copper else NoAct) (no_word ask word is)
    ∙ if_either (copper_runs b c) (act_in (is_danger c.registers) None c.copper.phase c.copper.first) NoAct
    (act_none (is_danger c.registers) c.copper.phase c.copper.first)

pub bus_answered : (b : Beam) (clx : ℕ) (memory : List ℕ) (ask : Ask) (old new : WorkingChips) (word : ℕ) (made : Made) → LeavesToPlanes b old
    → is_bus_ask ask ≡ true → IsAnswer ask b clx old memory word → AnswersOwner ask word (counted ask old) new → made ≡ made_with ask word NoAct
    → (side : SideAsk) (c : Chips) → IsInTime b side → HasAsked b c old → ask ≡ ask_at side b c → HasAccessed side b clx c memory made new
bus_answered b clx memory ask old new word made leaves is answer owner makes =
    answer_is b clx memory ask old new made (record {
      word = word;
      answer = answer;
      owner = subst (λ mid. AnswersOwner ask word mid new) (sym (copper_rests b ask word old leaves is)) owner;
      makes = makes ∙ ap (λ act. made_with ask word act) (sym (no_act b ask word (plain_chips old) is));
    })

blit_makes : (ask : SlotAsk) (word : ℕ) → is_bus_made (made_with (A.Blit ask) word NoAct) ≡ true
blit_makes (Read at) word = refl
blit_makes (Write at stored) word = refl
blit_makes Rest word = refl
blit_makes Done word = refl

processor_makes : (ask : ProcessorAsk) (word : ℕ) → reaches_memory ask ≡ true → is_bus_made (made_with (A.Processor ask) word NoAct) ≡ true
processor_makes (P.Read at) word is = refl
processor_makes (P.Write at half stored) word is = refl
processor_makes (P.ReadRegister reg) word is = absurd (false≢true is)
processor_makes (P.WriteRegister reg stored) word is = absurd (false≢true is)

owner_makes : (ask : Ask) (word : ℕ) → is_bus_ask ask ≡ true → is_bus_made (made_with ask word NoAct) ≡ true
owner_makes A.Free word is = refl
owner_makes (A.Side ask) word is = absurd (false≢true is)
owner_makes (A.Plane ask) word is = refl
owner_makes (A.Sprite ask) word is = absurd (false≢true is)
owner_makes (A.Copper at) word is = absurd (false≢true is)
owner_makes (A.Blit ask) word is = blit_makes ask word
owner_makes (A.Processor ask) word is = processor_makes ask word is

pub bus_makes : (ask : Ask) (word : ℕ) (made : Made) → is_bus_ask ask ≡ true → made ≡ made_with ask word NoAct → is_bus_made made ≡ true
bus_makes ask word made is makes = ap (λ m. is_bus_made m) makes ∙ owner_makes ask word is

pub timers_kept : (old new : WorkingChips) → new ≡ record old { irq = new.irq; cia_a = new.cia_a; cia_b = new.cia_b } → KeepsBus old new
timers_kept old new is = record {
  registers = ap (λ (w : WorkingChips). w.registers) is;
  last = ap (λ (w : WorkingChips). w.last) is;
  kinds = ap (λ (w : WorkingChips). w.kinds) is;
  copper = ap (λ (w : WorkingChips). w.copper) is;
  busy = ap (λ (w : WorkingChips). is_some w.blit) is;
}

pub kept_then : (old mid new : WorkingChips) → KeepsBus old mid → KeepsBus mid new → KeepsBus old new
kept_then old mid new one two = record {
  registers = two.registers ∙ one.registers;
  last = two.last ∙ one.last;
  kinds = two.kinds ∙ one.kinds;
  copper = two.copper ∙ one.copper;
  busy = two.busy ∙ one.busy;
}

-- what stands for the same chips is the same to it
pub kept_alike : (old new : WorkingChips) (c : Chips) → IsChipsOf old c → IsChipsOf new c → KeepsBus old new
kept_alike old new c before after = record {
  registers = sym after.registers ∙ before.registers;
  last = sym after.last ∙ before.last;
  kinds = sym after.kinds ∙ before.kinds;
  copper = sym after.copper ∙ before.copper;
  busy = same_busy new.blit c.blit after.blit ∙ sym (same_busy old.blit c.blit before.blit);
}

-- ---- clocks one behind the other

-- what tells that the bus is left stays
pub leaves_to_planes_kept : (b : Beam) (old new : WorkingChips) → KeepsBus old new → LeavesToPlanes b old → LeavesToPlanes b new
leaves_to_planes_kept b old new kept leaves = record {
  inner = leaves.inner;
  refresh = leaves.refresh;
  unit = subst IsLastUnit (sym kept.last) leaves.unit;
  sprites = subst (λ (r : Registers). ReadsNothing b r new.kinds) (sym kept.registers)
      (subst (λ (kinds : List SpriteKind). ReadsNothing b old.registers kinds) (sym kept.kinds) leaves.sprites);
  copper = subst (λ (r : Registers). IdleWith b r (is_some new.blit) new.copper) (sym kept.registers)
      (subst (λ (copper : CopperState). IdleWith b old.registers (is_some new.blit) copper) (sym kept.copper)
      (subst (λ busy. IdleWith b old.registers busy old.copper) (sym kept.busy) leaves.copper));
}

leaves_kept : (b : Beam) (old new : WorkingChips) → KeepsBus old new → LeavesBus b old → LeavesBus b new
leaves_kept b old new kept leaves = record {
  others = leaves_to_planes_kept b old new kept leaves.others;
  begins = ap (λ (r : Registers). begins_unit b r new.last) kept.registers
      ∙ ap (λ last. begins_unit b old.registers last) kept.last ∙ leaves.begins;
  runs = ap (λ last. is_running b.h last) kept.last ∙ leaves.runs;
}

copper_behind : (b : Beam) (busy : Bool) (copper : CopperState) (moved registers : Registers) → SameForSprites moved registers
    → IdleWith b registers busy copper → IdleWith b moved busy copper
copper_behind b busy copper moved registers same (inl off) = inl (ap (λ word. has_bits word 640) (same.kept 0x96 (inl (omega arith))) ∙ off)
copper_behind b busy copper moved registers same (inr idle) = inr idle

pub fetch_keeps : (b : Beam) (now : WorkingChips) → IsLastUnit now.last → KeepsToPlanes now (fetched b now)
fetch_keeps b now begun =
    let behind : IsLastUnit (fetched b now).last = last_unit_at-is b now.registers now.last begun in
    let same : SameForSprites (fetched b now).registers now.registers = fetch_same b now begun in
    record {
      leaves = λ at leaves. record {
        inner = leaves.inner;
        refresh = leaves.refresh;
        unit = behind;
        sprites = reads_behind at (fetched b now).registers now.registers now.kinds same leaves.sprites;
        copper = copper_behind at (is_some now.blit) now.copper (fetched b now).registers now.registers same leaves.copper;
      };
      rules = λ v. rules_kept v b.h (fetched b now).last now.registers behind;
      dma = same.kept 0x96 (inl (omega arith));
      busy = refl;
    }

bus_kept : (old new : WorkingChips) → KeepsBus old new → KeepsToPlanes old new
bus_kept old new kept = record {
  leaves = λ b leaves. leaves_to_planes_kept b old new kept leaves;
  rules = λ v. ap (λ (r : Registers). rules_of v r) kept.registers;
  dma = ap (λ (r : Registers). dmacon_of r) kept.registers;
  busy = kept.busy;
}

pub beside_kept : (rules : Option FetchRules) (old new : WorkingChips) → KeepsBus old new → KeepsBeside rules old new
beside_kept None old new kept = kept
beside_kept (Some rules) old new kept = bus_kept old new kept

pub beside_then : (rules : Option FetchRules) (old mid new : WorkingChips) → KeepsBeside rules old mid → KeepsBeside rules mid new
    → KeepsBeside rules old new
beside_then None old mid new one two = kept_then old mid new one two
beside_then (Some rules) old mid new one two = record {
  leaves = λ b leaves. two.leaves b (one.leaves b leaves);
  rules = λ v. two.rules v ∙ one.rules v;
  dma = two.dma ∙ one.dma;
  busy = two.busy ∙ one.busy;
}

pub leaves_beside_kept : (rules : Option FetchRules) (b : Beam) (old new : WorkingChips) → KeepsBeside rules old new → LeavesBeside rules b old
    → LeavesBeside rules b new
leaves_beside_kept None b old new kept leaves = leaves_kept b old new kept leaves
leaves_beside_kept (Some rules) b old new kept leaves = (kept.leaves b leaves.0, leaves.1 ∙ sym (kept.rules b.v))

pub others_left : (rules : Option FetchRules) (b : Beam) (now : WorkingChips) → LeavesBeside rules b now → LeavesToPlanes b now
others_left None b now leaves = leaves.others
others_left (Some rules) b now leaves = leaves.0

pub fetched_beside : (rules : FetchRules) (b : Beam) (old new : WorkingChips) (plane : Option PlaneAsk) → LeavesToPlanes b old
    → plane ≡ ask_of_fetching b (fetching_in old) → new ≡ fetched b old → HasFetchedBeside (Some rules) b old new plane
fetched_beside rules b old new plane leaves asks is =
    let keeps : KeepsToPlanes old (fetched b old) = fetch_keeps b old leaves.unit in
    subst (λ now. HasFetchedBeside (Some rules) b old now plane) (sym is) (record {
      asks = has_asked_by b old (fetched b old) plane leaves.refresh (plane_fetches b old plane leaves asks);
      leaves = keeps.leaves b leaves;
      keeps = keeps;
    })

-- refresh has its slots at a line's ends
pub no_refresh : (h : ℕ) → 6 ≤ h → h < 225 → is_refresh h ≡ false
no_refresh h late before = grind (arith, nat_tests, late, before)

-- ---- the unit of bitplane fetch that is kept

-- a unit goes on to its end: no other begins while it runs
pub unit_goes_on : (b : Beam) (registers : Registers) (last : Option ℕ) (start : ℕ) → 0 < b.h → IsUnitAt start b.h last
    → last_unit_at b registers last ≡ last
unit_goes_on b registers last start inner unit =
    let within : is_running b.h (Some start) ≡ true = grind (arith, nat_tests, unit.low, unit.high) in
    let runs : is_running b.h last ≡ true = ap (λ unit. is_running b.h unit) unit.began ∙ within in
    none_begins b registers last inner (ap (λ is. not is && (begins_next b.h registers last || begins_first b registers)) runs)

pub none_kept : (h : ℕ) (last : Option ℕ) → IsUnitKept (record { start = 0; until = 0 }) h last
none_kept h last k from below = absurd (omega (arith, below))

pub unit_later : (unit : Unit) (h next : ℕ) (last : Option ℕ) → h ≤ next → IsUnitKept unit h last → IsUnitKept unit next last
unit_later unit h next last late kept k from below = kept k (omega (arith, late, from)) below

pub unit_kept : (unit : Unit) (h : ℕ) (old new : WorkingChips) → KeepsBus old new → IsUnitKept unit h old.last → IsUnitKept unit h new.last
unit_kept unit h old new kept is = subst (λ (last : Option ℕ). IsUnitKept unit h last) (sym kept.last) is

pub unit_kept_on_bus : (unit : Unit) (h : ℕ) (old new : WorkingChips) → KeepsOnBus old new → IsUnitKept unit h old.last
    → IsUnitKept unit h new.last
unit_kept_on_bus unit h old new kept is = unit_kept unit h old new kept.0 is

-- ---- the blitter's claim, and the CIAs

asks_with : (on : Bool) (blit : Option Blit) → is_some (if on then option_map slot_shown blit else None) ≡ (on && is_some blit)
asks_with true None = refl
asks_with true (Some blit) = refl
asks_with false blit = refl

claim_by : (claim : BlitterClaim) (old new : WorkingChips) → dmacon_of new.registers ≡ dmacon_of old.registers → is_some new.blit ≡ is_some old.blit
    → IsClaim claim old → IsClaim claim new
claim_by claim old new dma busy is = record {
  asks = is.asks ∙ asks_with (blitter_dma old.registers) old.blit ∙ ap (λ word. has_bits word 576 && is_some old.blit) (sym dma)
      ∙ ap (λ b. blitter_dma new.registers && b) (sym busy) ∙ sym (asks_with (blitter_dma new.registers) new.blit);
  yields = is.yields ∙ ap (λ word. not (has_bits word 1024)) (sym dma);
}

pub claim_kept : (claim : BlitterClaim) (rules : Option FetchRules) (old new : WorkingChips) → KeepsBeside rules old new → IsClaim claim old
    → IsClaim claim new
claim_kept claim None old new kept is = claim_by claim old new (ap (λ (r : Registers). dmacon_of r) kept.registers) kept.busy is
claim_kept claim (Some rules) old new kept is = claim_by claim old new kept.dma kept.busy is

on_if_asks : (on : Bool) (wish : Option SlotAsk) → is_some (if on then wish else None) ≡ true → on ≡ true
on_if_asks true wish asks = refl
on_if_asks false wish asks = absurd (false≢true asks)

pub asked_of : (now : WorkingChips) → is_some (kept_wish now) ≡ true → kept_wish now ≡ option_map slot_shown now.blit
asked_of now asks =
    ap (λ on. if on then option_map slot_shown now.blit else None)
    (on_if_asks (blitter_dma now.registers) (option_map slot_shown now.blit) asks)

pub cias_beside : (b : Beam) (old new : WorkingChips) → new ≡ with_fetching (fetching_after b (fetching_in old)) old → KeepsCias old new
cias_beside b old new is = record {
  irq = ap (λ (w : WorkingChips). w.irq) is;
  cia_a = ap (λ (w : WorkingChips). w.cia_a) is;
  cia_b = ap (λ (w : WorkingChips). w.cia_b) is;
}

pub cias_then : (old mid new : WorkingChips) → KeepsCias old mid → KeepsCias mid new → KeepsCias old new
cias_then old mid new one two = record { irq = two.irq ∙ one.irq; cia_a = two.cia_a ∙ one.cia_a; cia_b = two.cia_b ∙ one.cia_b }

-- what stands for the same chips is the same to them
pub cias_of_same : (old new : WorkingChips) (c : Chips) → IsChipsOf old c → IsChipsOf new c → KeepsCias old new
cias_of_same old new c before after = record {
  irq = sym after.irq ∙ before.irq;
  cia_a = sym after.cia_a ∙ before.cia_a;
  cia_b = sym after.cia_b ∙ before.cia_b;
}

abbrev Requested : Interrupts → CiaState → CiaState → Type 0
Requested irq a b = after_request (bit_or 0 ((if is_active a.icr then 8 else 0) + (if is_active b.icr then 0x2000 else 0))) irq ≡ irq

requested_kept : (old new : WorkingChips) → KeepsCias old new → AsksNothingNew 0 (plain_chips old) → AsksNothingNew 0 (plain_chips new)
requested_kept old new kept asks =
    let a : Requested old.irq new.cia_a old.cia_b = subst (λ (cia : CiaState). Requested old.irq cia old.cia_b) (sym kept.cia_a) asks in
    let b : Requested old.irq new.cia_a new.cia_b = subst (λ (cia : CiaState). Requested old.irq new.cia_a cia) (sym kept.cia_b) a in
    subst (λ (irq : Interrupts). Requested irq new.cia_a new.cia_b) (sym kept.irq) b

ticks_kept : (ticks : Bool) (old new : WorkingChips) → KeepsCias old new → ((ticks ≡ false) ⊎ TimersStand old)
    → ((ticks ≡ false) ⊎ TimersStand new)
ticks_kept ticks old new kept (inl off) = inl off
ticks_kept ticks old new kept (inr stand) =
    inr (
      subst (λ (cia : CiaState). after_tick cia ≡ cia) (sym kept.cia_a) stand.0,
      subst (λ (cia : CiaState). after_tick cia ≡ cia) (sym kept.cia_b) stand.1,
    )

pub rest_kept : (t n : ℕ) (old new : WorkingChips) → KeepsCias old new → CiasRest t n old → CiasRest t n new
rest_kept t n old new kept rest k below =
    (ticks_kept ((t + k) % 5 == 0) old new kept (rest k below).0, requested_kept old new kept (rest k below).1)

pub rest_next : (t n : ℕ) (now : WorkingChips) → CiasRest t n now → CiasRest (t + 1) (n - 1) now
rest_next t n now rest k below =
    let e : t + suc k ≡ t + 1 + k = omega arith in
    let there = rest (suc k) (omega (arith, below)) in
    (subst (λ at. ((at % 5 == 0) ≡ false) ⊎ TimersStand now) e there.0, there.1)

-- where the planes have no unit the others' leave is that of all
pub alone_on_bus : (b : Beam) (k : ℕ) (inside now : WorkingChips) → inside ≡ now → LeavesToPlanes (later_beam k b) now
    → begins_unit (later_beam k b) inside.registers inside.last ≡ false → is_running (b.h + k) inside.last ≡ false
    → LeavesBus (later_beam k b) now
alone_on_bus b k inside now same leaves begins runs = record {
  others = leaves;
  begins = subst (λ (w : WorkingChips). begins_unit (later_beam k b) w.registers w.last ≡ false) same begins;
  runs = subst (λ (w : WorkingChips). is_running (b.h + k) w.last ≡ false) same runs;
}
