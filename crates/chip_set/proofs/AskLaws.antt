-- The access of a clock: the code's way to the ask and to its answer is the definition's.
use Rattle.std.proofs.Common.{◌≡◌, ℕ, ◌+◌, ◌*◌, ◌%◌, ◌<◌, ◌≤◌, bit_and, Bool, true, false, ◌==◌, ◌&&◌, ◌||◌, if◌then◌else◌}
use Rattle.std.proofs.Common.{List, [], ◌∷◌, ◌++◌, Option, Some, None, is_some, IfSome, arith, refl, ap, subst, inl, ◌∙◌, sym}
use Rattle.std.proofs.lemmas.Bool.{false≢true}
use Rattle.std.proofs.lemmas.Bool.Decides.{nat_tests}
use Rattle.std.specs.Option.{option_map}
use Rattle.blit_words.specs.Blitter.{is_done}
use Rattle.blit_words.specs.declared.blit.SlotAsk.{SlotAsk}
use Rattle.blit_words.specs.declared.blit.SlotAsk.TheVariants.{Read, Write, Rest, Done}
use Rattle.blitter.proofs.Showing.{slot_shown-is}
use Rattle.blitter.specs.StandsFor.{slot_shown}
use Rattle.blitter.specs.declared.Blit.{Blit}
use Rattle.ocs_base.specs.declared.addr.Addr.{Addr}
use Rattle.ocs_base.specs.declared.beam.Beam.{Beam}
use Rattle.ocs_base.specs.declared.reg.Reg.{Reg}
use Rattle.serial_model.specs.declared.bus.Ask.{Ask}
use Rattle.serial_model.specs.declared.bus.Ask.TheVariants as A
use Rattle.serial_model.specs.declared.bus.Made.{Made}
use Rattle.serial_model.specs.declared.bus.ProcessorAsk.{ProcessorAsk}
use Rattle.serial_model.specs.declared.bus.ProcessorAsk.TheVariants as P
use Rattle.serial_model.specs.declared.bus.SideAsk.{SideAsk}
use Rattle.serial_model.specs.declared.bus.SideAsk.TheVariants as S
use Rattle.serial_model.specs.declared.copper.CopperAct.{CopperAct}
use Rattle.serial_model.specs.declared.copper.CopperAct.TheVariants.{None as NoAct}
use Rattle.serial_model.specs.declared.copper.CopperState.{CopperState}
use Rattle.serial_model.specs.declared.fetch.PlaneAsk.{PlaneAsk}
use Rattle.serial_model.specs.declared.fetch.SpriteAsk.{SpriteAsk}
use Rattle.serial_model.specs.declared.fetch.SpriteAsk.TheVariants.{Control, Words}
use Rattle.serial_model.specs.declared.fetch.SpriteKind.{SpriteKind}
use Rattle.serial_model.specs.declared.registers.Live.{Live}
use Rattle.serial_model.specs.declared.registers.Reading.{Reading}
use Rattle.serial_model.specs.declared.registers.Reading.TheVariants.{Zero, DmaAndBlitter, FieldAndLine, LineAndClock, Joystick, Elsewhere}
use Rattle.serial_model.specs.declared.slots.Owner.{Owner}
use Rattle.serial_model.specs.declared.slots.Owner.TheVariants.{Refresh, Disk, Audio, Plane, Sprite, Copper, Blitter, Processor, Free}
use Rattle.serial_model.specs.declared.slots.SlotState.{SlotState}
use Rattle.cpu_bus.specs.Bus.{IsProcessorOf, wish_shown}
use Rattle.cpu_bus.proofs.BusLaws.{wish_shown-is}
use Rattle.serial_model.specs.Bus.{Wishes, copper_after, units_now, plane_wish, kinds_now, sprite_wish, is_disk, channel_of}
use Rattle.serial_model.specs.Bus.{ask_of_blit, blit_wish, slot_state, owner_ask, ask_at, answer_to, answer_owner}
use Rattle.serial_model.specs.Bus.{answer_chips, end_blit, give_blit, give_chips, missed_after, copper_word, answer_processor}
use Rattle.serial_model.specs.Copper.{wish_of, copper_act, step_copper}
use Rattle.serial_model.specs.Owner.{owner_of, is_refresh}
use Rattle.serial_model.specs.PlaneFetch.{units_at, last_unit, IsLastUnit, plane_ask, fetched_plane}
use Rattle.serial_model.specs.PlaneFetch.{ask_for_plane, move_planes, move_plane_pointer, move_if_fetched}
use Rattle.irq_cia.specs.Bits.{has_bits}
use Rattle.serial_model.specs.Processor.{processor_wish}
use Rattle.serial_model.specs.RegisterTable.{reading_at}
use Rattle.serial_model.specs.Registers.{Registers, kept_word, blitter_dma, bit_worth, word_in, word_at}
use Rattle.serial_model.specs.Side.{IsInTime}
use Rattle.serial_model.specs.SpriteFetch.{kinds_at, is_sprite_slot, sprite_ask, asking_sprite, move_sprites, move_sprite_pointer, move_if_asked}
use Rattle.serial_model.specs.State.{BlitUnderWay, Chips, is_busy, live_words, read_word}
use Rattle.serial_model.proofs.FetchLaws.{IsFetch, fetched_plane-is, kept_word-move_planes}
use Rattle.serial_model.proofs.SlotLaws.{SameForSprites, move_planes-same, kinds_at-same, sprite_ask-same, sprite_ask-slot}
use Rattle.serial_model.proofs.SlotLaws.{sprite_ask-taken, kept_word-move_sprites, AsksBefore, owner_by, plane_wins, sprite_wins}
use Rattle.bus_slots.specs.Asks.{made_with}
use Rattle.chip_set.specs.Chips.{WorkingChips, IsBlitOf, IsChipsOf, some_blit, plain_chips, kept_wish, wishes_with, ask_with, IsBlitAsk}
use Rattle.chip_set.specs.Chips.{AnswersOwner, answering, act_at, IsAnswer, fetched_registers, fetched_chips, HasAsked, HasAccessed}
use Rattle.chip_set.proofs.BlitLaws.{read_is_none, write_is_none, rest_is_none}
use Rattle.chip_set.proofs.MadeLaws.{made-act, Serves, made_by_answer, copper_by_answer}

-- registers that the fetches left alone but for pointers: the words of DMACON and COPCON are the same
record SameWords (moved registers : Registers) : Type 0 where
  dmacon : kept_word moved 0x96 ≡ kept_word registers 0x96
  copcon : kept_word moved 0x2e ≡ kept_word registers 0x2e

words_same : (h : ℕ) (last : Option ℕ) (kinds : List SpriteKind) (taken : Bool) (registers : Registers) → IsLastUnit last
    → SameWords (move_sprites h kinds taken (move_planes h last registers)) registers
words_same h last kinds taken registers at = record {
  dmacon = kept_word-move_sprites h kinds taken (move_planes h last registers) 0x96 (omega arith)
      ∙ kept_word-move_planes h last registers 0x96 at (inl (omega arith));
  copcon = kept_word-move_sprites h kinds taken (move_planes h last registers) 0x2e (omega arith)
      ∙ kept_word-move_planes h last registers 0x2e at (inl (omega arith));
}

-- then the ask, the Copper's step and what it makes are the same
abbrev wish_by : Beam → CopperState → ℕ → Option Addr
wish_by b copper dmacon = if (b.h % 2 == 0) && has_bits dmacon 640 then wish_of copper else None

abbrev state_by : SideAsk → Beam → Option PlaneAsk → Option SpriteAsk → Option SlotAsk → Option ProcessorAsk → ℕ → CopperState → ℕ
    → SlotState
state_by side b plane sprite blit processor missed copper dmacon = record {
  h = b.h;
  disk = is_disk side;
  audio = channel_of side;
  plane = option_map (λ (ask : PlaneAsk). ask.plane) plane;
  sprite = option_map asking_sprite sprite;
  copper = is_some (wish_by b copper dmacon);
  blitter = is_some blit;
  processor = is_some processor;
  missed = missed;
  nasty = has_bits dmacon 1024;
}

abbrev ask_by : SideAsk → Beam → Option PlaneAsk → Option SpriteAsk → Option SlotAsk → Option ProcessorAsk → ℕ → CopperState → ℕ → Ask
ask_by side b plane sprite blit processor missed copper dmacon =
    owner_ask (owner_of (state_by side b plane sprite blit processor missed copper dmacon))
    (record { side = side; plane = plane; sprite = sprite; copper = wish_by b copper dmacon; blit = blit; processor = processor })

ask_same : (side : SideAsk) (b : Beam) (plane : Option PlaneAsk) (sprite : Option SpriteAsk) (blit : Option SlotAsk) (processor : Option ProcessorAsk)
    (moved c : Chips) → SameWords moved.registers c.registers → moved.copper ≡ c.copper → moved.missed ≡ c.missed
    → ask_with side b plane sprite blit processor moved ≡ ask_with side b plane sprite blit processor c
unfolding ask_with
ask_same side b plane sprite blit processor moved c same copper missed =
    ap (λ dmacon. ask_by side b plane sprite blit processor moved.missed moved.copper dmacon) same.dmacon
    ∙ ap (λ n. ask_by side b plane sprite blit processor n moved.copper (kept_word c.registers 0x96)) missed
    ∙ ap (λ x. ask_by side b plane sprite blit processor c.missed x (kept_word c.registers 0x96)) copper

-- the Copper's step and what it makes, by the words that it looks at
abbrev step_by : Beam → Bool → Option ℕ → CopperState → ℕ → ℕ → CopperState
step_by b busy fetched copper dmacon copcon =
    if (b.h % 2 == 0) && has_bits dmacon 640 then step_copper b busy (has_bits copcon 2) fetched copper else copper

copper_same : (b : Beam) (fetched : Option ℕ) (moved c : Chips) → SameWords moved.registers c.registers → moved.copper ≡ c.copper
    → is_busy moved ≡ is_busy c → copper_after b fetched moved ≡ copper_after b fetched c
copper_same b fetched moved c same copper busy =
    ap (λ dmacon. step_by b (is_busy moved) fetched moved.copper dmacon (kept_word moved.registers 0x2e)) same.dmacon
    ∙ ap (λ copcon. step_by b (is_busy moved) fetched moved.copper (kept_word c.registers 0x96) copcon) same.copcon
    ∙ ap (λ is. step_by b is fetched moved.copper (kept_word c.registers 0x96) (kept_word c.registers 0x2e)) busy
    ∙ ap (λ x. step_by b (is_busy c) fetched x (kept_word c.registers 0x96) (kept_word c.registers 0x2e)) copper

abbrev act_by : Beam → Ask → ℕ → CopperState → ℕ → ℕ → CopperAct
act_by b ask word copper dmacon copcon =
    if (b.h % 2 == 0) && has_bits dmacon 640 then copper_act (has_bits copcon 2) (copper_word ask word) copper else NoAct

act_same : (b : Beam) (ask : Ask) (word : ℕ) (moved c : Chips) → SameWords moved.registers c.registers → moved.copper ≡ c.copper
    → act_at b ask word moved ≡ act_at b ask word c
act_same b ask word moved c same copper =
    ap (λ dmacon. act_by b ask word moved.copper dmacon (kept_word moved.registers 0x2e)) same.dmacon
    ∙ ap (λ copcon. act_by b ask word moved.copper (kept_word c.registers 0x96) copcon) same.copcon
    ∙ ap (λ x. act_by b ask word x (kept_word c.registers 0x96) (kept_word c.registers 0x2e)) copper

-- the ask of the machine is the one with its wishes
ask_is : (side : SideAsk) (b : Beam) (c : Chips)
    → ask_at side b c ≡ ask_with side b (plane_wish b c) (sprite_wish b c) (blit_wish c) (processor_wish c.processor) c
unfolding ask_at ask_with
ask_is side b c = refl

-- in its time a side has the slot for which it asks
disk_clock : (h : ℕ) → ((h == 7) || (h == 9) || (h == 11)) ≡ true → is_refresh h ≡ false
disk_clock h time = grind (arith, nat_tests)

audio_clock : (h channel : ℕ) → channel < 4 → h ≡ 13 + 2 * channel → is_refresh h ≡ false
audio_clock h channel few at = grind (arith, nat_tests)

pub disk_has : (b : Beam) (at : Addr) (word : ℕ) (plane : Option PlaneAsk) (sprite : Option SpriteAsk) (blit : Option SlotAsk)
    (processor : Option ProcessorAsk) (c : Chips) → IsInTime b (S.Disk at word)
    → A.Side (S.Disk at word) ≡ ask_with (S.Disk at word) b plane sprite blit processor c
unfolding ask_with owner_of
disk_has b at word plane sprite blit processor c time =
    let w : Wishes = wishes_with (S.Disk at word) b plane sprite blit processor c in
    sym (ap (λ refresh. owner_ask (owner_by refresh true None (slot_state b c w).plane (slot_state b c w).sprite (slot_state b c w)) w)
    (disk_clock b.h time))

pub audio_has : (b : Beam) (channel : ℕ) (at : Addr) (plane : Option PlaneAsk) (sprite : Option SpriteAsk) (blit : Option SlotAsk)
    (processor : Option ProcessorAsk) (c : Chips) → IsInTime b (S.Audio channel at)
    → A.Side (S.Audio channel at) ≡ ask_with (S.Audio channel at) b plane sprite blit processor c
unfolding ask_with owner_of
audio_has b channel at plane sprite blit processor c time =
    let w : Wishes = wishes_with (S.Audio channel at) b plane sprite blit processor c in
    sym (ap (λ refresh. owner_ask (owner_by refresh false (Some channel) (slot_state b c w).plane (slot_state b c w).sprite (slot_state b c w)) w)
    (audio_clock b.h channel time.0 time.1))

-- a blit's ask is what the blit asks for
abbrev All : SideAsk → Option PlaneAsk → Option SpriteAsk → Option Addr → Option SlotAsk → Option ProcessorAsk → Wishes
All side plane sprite copper blit processor =
    record { side = side; plane = plane; sprite = sprite; copper = copper; blit = blit; processor = processor }

asks_of_owner : (owner : Owner) (side : SideAsk) (plane : Option PlaneAsk) (sprite : Option SpriteAsk) (copper : Option Addr)
    (blit : Option SlotAsk) (processor : Option ProcessorAsk) → IsBlitAsk (owner_ask owner (All side plane sprite copper blit processor)) blit
asks_of_owner Refresh side plane sprite copper blit processor = tt
asks_of_owner Disk side plane sprite copper blit processor = tt
asks_of_owner (Audio channel) side plane sprite copper blit processor = tt
asks_of_owner (Plane number) side None sprite copper blit processor = tt
asks_of_owner (Plane number) side (Some ask) sprite copper blit processor = tt
asks_of_owner (Sprite number) side plane None copper blit processor = tt
asks_of_owner (Sprite number) side plane (Some ask) copper blit processor = tt
asks_of_owner Copper side plane sprite None blit processor = tt
asks_of_owner Copper side plane sprite (Some at) blit processor = tt
asks_of_owner Blitter side plane sprite copper None processor = tt
asks_of_owner Blitter side plane sprite copper (Some (Read at)) processor = (refl, read_is_none at)
asks_of_owner Blitter side plane sprite copper (Some (Write at word)) processor = (refl, write_is_none at word)
asks_of_owner Blitter side plane sprite copper (Some Rest) processor = (refl, rest_is_none)
asks_of_owner Blitter side plane sprite copper (Some Done) processor = tt
asks_of_owner Processor side plane sprite copper blit None = tt
asks_of_owner Processor side plane sprite copper blit (Some ask) = tt
asks_of_owner Free side plane sprite copper blit processor = tt

pub ask_is_of_blit : (side : SideAsk) (b : Beam) (plane : Option PlaneAsk) (sprite : Option SpriteAsk) (blit : Option SlotAsk)
    (processor : Option ProcessorAsk) (c : Chips) → IsBlitAsk (ask_with side b plane sprite blit processor c) blit
unfolding ask_with
ask_is_of_blit side b plane sprite blit processor c =
    asks_of_owner (owner_of (slot_state b c (wishes_with side b plane sprite blit processor c))) side plane sprite
    (wishes_with side b plane sprite blit processor c).copper blit processor

-- the registers once the owner of the slot has its answer, as far as the fetches go
abbrev registers_after : Beam → Ask → Chips → Registers
registers_after b A.Free c = c.registers
registers_after b (A.Side ask) c = c.registers
registers_after b (A.Plane ask) c = move_plane_pointer b.h (last_unit (units_now b c)) ask.plane c.registers
registers_after b (A.Sprite ask) c = move_sprite_pointer (asking_sprite ask) c.registers
registers_after b (A.Copper at) c = c.registers
registers_after b (A.Blit ask) c = c.registers
registers_after b (A.Processor ask) c = c.registers

-- where neither a plane nor a sprite asks, the access leaves them
no_fetch : (b : Beam) (owner : Owner) (side : SideAsk) (wish : Option Addr) (blit : Option SlotAsk) (processor : Option ProcessorAsk)
    (c : Chips) → registers_after b (owner_ask owner (All side None None wish blit processor)) c ≡ c.registers
no_fetch b Refresh side wish blit processor c = refl
no_fetch b Disk side wish blit processor c = refl
no_fetch b (Audio channel) side wish blit processor c = refl
no_fetch b (Plane plane) side wish blit processor c = refl
no_fetch b (Sprite sprite) side wish blit processor c = refl
no_fetch b Copper side None blit processor c = refl
no_fetch b Copper side (Some at) blit processor c = refl
no_fetch b Blitter side wish None processor c = refl
no_fetch b Blitter side wish (Some (Read at)) processor c = refl
no_fetch b Blitter side wish (Some (Write at word)) processor c = refl
no_fetch b Blitter side wish (Some Rest) processor c = refl
no_fetch b Blitter side wish (Some Done) processor c = refl
no_fetch b Processor side wish blit None c = refl
no_fetch b Processor side wish blit (Some ask) c = refl
no_fetch b Free side wish blit processor c = refl

-- where one does it has the slot, and the access moves its pointer
disk_early : (h : ℕ) → ((h == 7) || (h == 9) || (h == 11)) ≡ true → h < 21
disk_early h time = grind (arith, nat_tests)

audio_early : (h channel : ℕ) → channel < 4 → h ≡ 13 + 2 * channel → h < 21
audio_early h channel few at = omega (arith, few, at)

before_all : (side : SideAsk) (b : Beam) (plane : Option PlaneAsk) (sprite : Option SpriteAsk) (blit : Option SlotAsk)
    (processor : Option ProcessorAsk) (missed : ℕ) (copper : CopperState) (dmacon : ℕ) → IsInTime b side
    → AsksBefore (state_by side b plane sprite blit processor missed copper dmacon)
before_all S.Nothing b plane sprite blit processor missed copper dmacon time = record { disk = λ asks. absurd (false≢true asks); audio = tt }
before_all (S.Disk at word) b plane sprite blit processor missed copper dmacon time =
    record { disk = λ asks. disk_early b.h time; audio = tt }
before_all (S.Audio channel at) b plane sprite blit processor missed copper dmacon time =
    record { disk = λ asks. absurd (false≢true asks); audio = audio_early b.h channel time.0 time.1 }

by_sprite : (side : SideAsk) (b : Beam) (asked : Option SpriteAsk) (blit : Option SlotAsk) (processor : Option ProcessorAsk) (c : Chips)
    → IsInTime b side → sprite_ask b.h c.registers (kinds_now b c) false ≡ asked
    → registers_after b (ask_with side b None asked blit processor c) c ≡ move_if_asked asked c.registers
unfolding ask_with
by_sprite side b None blit processor c time is =
    no_fetch b (owner_of (slot_state b c (wishes_with side b None None blit processor c))) side
    (wishes_with side b None None blit processor c).copper blit processor c
by_sprite side b (Some ask) blit processor c time is =
    let slot : is_sprite_slot b.h ≡ true = sprite_ask-slot b.h c.registers (kinds_now b c) false ask is in
    let low : 21 ≤ b.h = grind (arith, nat_tests, slot) in
    let high : b.h ≤ 223 = grind (arith, nat_tests, slot) in
    ap (λ owner. registers_after b (owner_ask owner (wishes_with side b None (Some ask) blit processor c)) c)
    (sprite_wins (state_by side b None (Some ask) blit processor c.missed c.copper (kept_word c.registers 0x96)) (asking_sprite ask)
    (before_all side b None (Some ask) blit processor c.missed c.copper (kept_word c.registers 0x96) time) low high refl refl)

plane_moves : (side : SideAsk) (b : Beam) (plane : ℕ) (sprite : Option SpriteAsk) (blit : Option SlotAsk) (processor : Option ProcessorAsk)
    (c : Chips) → IsInTime b side → 21 ≤ b.h → b.h ≤ 223
    → registers_after b (ask_with side b (Some (ask_for_plane c.registers plane)) sprite blit processor c) c
    ≡ move_if_fetched b.h (last_unit (units_now b c)) (Some plane) c.registers
unfolding ask_with
plane_moves side b plane sprite blit processor c time low high =
    let asked : Option PlaneAsk = Some (ask_for_plane c.registers plane) in
    ap (λ owner. registers_after b (owner_ask owner (wishes_with side b asked sprite blit processor c)) c)
    (plane_wins (state_by side b asked sprite blit processor c.missed c.copper (kept_word c.registers 0x96)) plane
    (before_all side b asked sprite blit processor c.missed c.copper (kept_word c.registers 0x96) time) low high refl)

by_found : (side : SideAsk) (b : Beam) (found : Option ℕ) (blit : Option SlotAsk) (processor : Option ProcessorAsk) (c : Chips)
    → IsInTime b side → IfSome found (IsFetch b.h)
    → registers_after b (ask_with side b (option_map (λ plane. ask_for_plane c.registers plane) found)
    (sprite_ask b.h c.registers (kinds_now b c) (is_some (option_map (λ plane. ask_for_plane c.registers plane) found))) blit processor c) c
    ≡ move_sprites b.h (kinds_now b c) (is_some (option_map (λ plane. ask_for_plane c.registers plane) found))
    (move_if_fetched b.h (last_unit (units_now b c)) found c.registers)
by_found side b None blit processor c time within =
    by_sprite side b (sprite_ask b.h c.registers (kinds_now b c) false) blit processor c time refl
by_found side b (Some plane) blit processor c time within =
    let last : Option ℕ = last_unit (units_now b c) in
    let low : 21 ≤ b.h = omega (arith, within.low) in
    plane_moves side b plane (sprite_ask b.h c.registers (kinds_now b c) true) blit processor c time low within.high
    ∙ sym (ap (λ ask. move_if_asked ask (move_if_fetched b.h last (Some plane) c.registers))
    (sprite_ask-taken b.h (move_if_fetched b.h last (Some plane) c.registers) (kinds_now b c)))

-- with the ask of the machine, its registers are those after the fetches
registers_is : (side : SideAsk) (b : Beam) (c : Chips) → IsInTime b side → IsLastUnit (last_unit (units_now b c))
    → registers_after b (ask_at side b c) c ≡ fetched_registers b c
registers_is side b c time at =
    ap (λ ask. registers_after b ask c) (ask_is side b c)
    ∙ by_found side b (fetched_plane b.h c.registers (last_unit (units_now b c))) (blit_wish c) (processor_wish c.processor) c time
    (fetched_plane-is b.h c.registers (last_unit (units_now b c)) at)

-- what the owner's answer does beside the fetches: a blit goes on, and the processor has its word
abbrev after_owner : Ask → ℕ → Chips → Chips
after_owner A.Free word c = c
after_owner (A.Side ask) word c = c
after_owner (A.Plane ask) word c = c
after_owner (A.Sprite ask) word c = c
after_owner (A.Copper at) word c = c
after_owner (A.Blit ask) word c = give_blit word c.blit c
after_owner (A.Processor ask) word c = give_chips word c

abbrev with_others : List ℕ → List SpriteKind → CopperState → ℕ → Chips → Chips
with_others units kinds copper missed c = record c { units = units; kinds = kinds; copper = copper; missed = missed }

abbrev with_fetch : Registers → List ℕ → List SpriteKind → CopperState → ℕ → Chips → Chips
with_fetch registers units kinds copper missed c =
    record c { registers = registers; units = units; kinds = kinds; copper = copper; missed = missed }

-- a blit that goes on leaves the units and kinds of the line, the Copper and the count of the processor
go_on_if : (done : Bool) (run : BlitUnderWay) (units : List ℕ) (kinds : List SpriteKind) (copper : CopperState) (missed : ℕ) (c : Chips)
    → with_others units kinds copper missed (if done then end_blit run c else record c { blit = Some run })
    ≡ (let d = with_others units kinds copper missed c in if done then end_blit run d else record d { blit = Some run })
go_on_if true run units kinds copper missed c = refl
go_on_if false run units kinds copper missed c = refl

gives : (word : ℕ) (blit : Option BlitUnderWay) (units : List ℕ) (kinds : List SpriteKind) (copper : CopperState) (missed : ℕ) (c : Chips)
    → with_others units kinds copper missed (give_blit word blit c) ≡ give_blit word blit (with_others units kinds copper missed c)
gives word None units kinds copper missed c = refl
gives word (Some run) units kinds copper missed c =
    go_on_if (is_done (ask_of_blit (record run { answers = run.answers ++ word ∷ [] }))) (record run { answers = run.answers ++ word ∷ [] })
    units kinds copper missed c

owner_is : (b : Beam) (ask : Ask) (word : ℕ) (c : Chips) (registers : Registers) (units : List ℕ) (kinds : List SpriteKind) (copper : CopperState) (missed : ℕ)
    → registers_after b ask c ≡ registers
    → with_others units kinds copper missed (answer_owner b ask word c) ≡ after_owner ask word (with_fetch registers units kinds copper missed c)
owner_is b A.Free word c registers units kinds copper missed is = ap (λ r. with_fetch r units kinds copper missed c) is
owner_is b (A.Side ask) word c registers units kinds copper missed is = ap (λ r. with_fetch r units kinds copper missed c) is
owner_is b (A.Plane ask) word c registers units kinds copper missed is = ap (λ r. with_fetch r units kinds copper missed c) is
owner_is b (A.Sprite ask) word c registers units kinds copper missed is = ap (λ r. with_fetch r units kinds copper missed c) is
owner_is b (A.Copper at) word c registers units kinds copper missed is = ap (λ r. with_fetch r units kinds copper missed c) is
owner_is b (A.Blit ask) word c registers units kinds copper missed is =
    gives word c.blit units kinds copper missed c ∙ ap (λ r. give_blit word c.blit (with_fetch r units kinds copper missed c)) is
owner_is b (A.Processor ask) word c registers units kinds copper missed is =
    ap (λ r. give_chips word (with_fetch r units kinds copper missed c)) is

-- the word that the owner is given is the machine's too
after_by_answer : (ask : Ask) (b : Beam) (clx : ℕ) (c : Chips) (memory : List ℕ) (word : ℕ) (after : Chips) → Serves ask b clx c memory word
    → after_owner ask word after ≡ after_owner ask (answer_to ask b clx c memory) after
after_by_answer A.Free b clx c memory word after is = refl
after_by_answer (A.Side ask) b clx c memory word after is = refl
after_by_answer (A.Plane ask) b clx c memory word after is = refl
after_by_answer (A.Sprite ask) b clx c memory word after is = refl
after_by_answer (A.Copper at) b clx c memory word after is = refl
after_by_answer (A.Blit ask) b clx c memory word after is = ap (λ w. give_blit w after.blit after) is
after_by_answer (A.Processor ask) b clx c memory word after is = ap (λ w. give_chips w after) is

-- the code's blitter and processor do the same
owner_answered : (ask : Ask) (word : ℕ) (mid new : WorkingChips) (c : Chips) → AnswersOwner ask word mid new → IsChipsOf mid c
    → IsChipsOf new (after_owner ask word c)
owner_answered A.Free word mid new c answers is = subst (λ n. IsChipsOf n c) (sym answers) is
owner_answered (A.Side ask) word mid new c answers is = subst (λ n. IsChipsOf n c) (sym answers) is
owner_answered (A.Plane ask) word mid new c answers is = subst (λ n. IsChipsOf n c) (sym answers) is
owner_answered (A.Sprite ask) word mid new c answers is = subst (λ n. IsChipsOf n c) (sym answers) is
owner_answered (A.Copper at) word mid new c answers is = subst (λ n. IsChipsOf n c) (sym answers) is
owner_answered (A.Blit ask) word mid new c answers is = answers c is
owner_answered (A.Processor ask) word mid new c answers is = answers c is

-- planes and sprites had their steps: the fetch of the clock moved its pointer, and asks for its word
pub record HasFetched (b : Beam) (old mid : WorkingChips) (plane : Option PlaneAsk) (sprite : Option SpriteAsk) : Type 0 where
  pub begun : IsLastUnit mid.last
  pub units : (units : List ℕ) → old.last ≡ last_unit units → mid.last ≡ last_unit (units_at b old.registers units)
  pub plane_ask : plane ≡ plane_ask b.h old.registers mid.last
  pub kinds : mid.kinds ≡ kinds_at b (move_planes b.h mid.last old.registers) old.kinds
  pub sprite_ask : sprite ≡ sprite_ask b.h (move_planes b.h mid.last old.registers) mid.kinds (is_some plane)
  pub moved : mid.registers ≡ move_sprites b.h mid.kinds (is_some plane) (move_planes b.h mid.last old.registers)
  pub rest : mid ≡ record old { registers = mid.registers; last = mid.last; kinds = mid.kinds }

-- and the clock's ask was answered
pub record HasAnswered (b : Beam) (clx : ℕ) (memory : List ℕ) (ask : Ask) (mid new : WorkingChips) (made : Made) : Type 0 where
  pub word : ℕ
  pub answer : IsAnswer ask b clx mid memory word
  pub owner : AnswersOwner ask word (answering b ask word mid) new
  pub makes : made ≡ made_with ask word (act_at b ask word (plain_chips mid))

-- the kept blit asks for what the blit under way asks for, and there is one where there is one
wish_of_blit : (kept : Option Blit) (run : Option BlitUnderWay) → IsBlitOf kept run → option_map slot_shown kept ≡ option_map ask_of_blit run
wish_of_blit None None is = refl
wish_of_blit None (Some run) is = absurd is
wish_of_blit (Some blit) None is = absurd is
wish_of_blit (Some blit) (Some run) is = ap (λ ask. Some ask) (slot_shown-is blit run.start run.answers is)

some_with_blit : (kept : Option Blit) (run : Option BlitUnderWay) → IsBlitOf kept run → is_some (option_map some_blit kept) ≡ is_some run
some_with_blit None None is = refl
some_with_blit None (Some run) is = absurd is
some_with_blit (Some blit) None is = absurd is
some_with_blit (Some blit) (Some run) is = refl

-- what the steps found, for chips that these stand for and that have their registers, kinds and Copper
record Found (b : Beam) (mid : WorkingChips) (plane : Option PlaneAsk) (sprite : Option SpriteAsk) (c : Chips) : Type 0 where
  last : mid.last ≡ last_unit (units_now b c)
  plane_is : plane ≡ plane_wish b c
  kinds : mid.kinds ≡ kinds_now b c
  sprite_is : sprite ≡ sprite_wish b c
  same : SameWords mid.registers c.registers
  moved : mid.registers ≡ fetched_registers b c
  copper : mid.copper ≡ c.copper
  blit : IsBlitOf mid.blit c.blit
  zero : c.zero ≡ mid.zero
  irq : c.irq ≡ mid.irq
  processor : IsProcessorOf mid.processor c.processor
  missed : mid.missed ≡ c.missed
  cia_a : c.cia_a ≡ mid.cia_a
  cia_b : c.cia_b ≡ mid.cia_b
  inputs : c.inputs ≡ mid.inputs

abbrev chips_like : WorkingChips → Chips → Chips
chips_like old c = record c { registers = old.registers; kinds = old.kinds; copper = old.copper }

found_by : (b : Beam) (old mid : WorkingChips) (plane : Option PlaneAsk) (sprite : Option SpriteAsk) (c : Chips)
    → HasFetched b old mid plane sprite → IsChipsOf old c → Found b mid plane sprite (chips_like old c)
found_by b old mid plane sprite like fetched is =
    let c : Chips = chips_like old like in
    let last : mid.last ≡ last_unit (units_now b c) = fetched.units like.units (sym is.last) in
    let plane_is : plane ≡ plane_wish b c = fetched.plane_ask ∙ ap (λ l. plane_ask b.h old.registers l) last in
    let at : SameForSprites (move_planes b.h mid.last old.registers) old.registers = move_planes-same b.h mid.last old.registers fetched.begun in
    let kinds : mid.kinds ≡ kinds_now b c =
    fetched.kinds ∙ kinds_at-same b (move_planes b.h mid.last old.registers) old.registers old.kinds at in
    record {
      last = last;
      plane_is = plane_is;
      kinds = kinds;
      sprite_is = fetched.sprite_ask
          ∙ sprite_ask-same b.h (move_planes b.h mid.last old.registers) old.registers mid.kinds (is_some plane) at
          ∙ ap (λ ks. sprite_ask b.h old.registers ks (is_some plane)) kinds
          ∙ ap (λ p. sprite_ask b.h old.registers (kinds_now b c) (is_some p)) plane_is;
      same = subst (λ r. SameWords r old.registers) (sym fetched.moved)
          (words_same b.h mid.last mid.kinds (is_some plane) old.registers fetched.begun);
      moved = fetched.moved
          ∙ ap (λ ks. move_sprites b.h ks (is_some plane) (move_planes b.h mid.last old.registers)) kinds
          ∙ ap (λ p. move_sprites b.h (kinds_now b c) (is_some p) (move_planes b.h mid.last old.registers)) plane_is
          ∙ ap (λ l. move_sprites b.h (kinds_now b c) (is_some (plane_wish b c)) (move_planes b.h l old.registers)) last;
      copper = ap (λ (m : WorkingChips). m.copper) fetched.rest;
      blit = subst (λ x. IsBlitOf x like.blit) (sym (ap (λ (m : WorkingChips). m.blit) fetched.rest)) is.blit;
      zero = is.zero ∙ sym (ap (λ (m : WorkingChips). m.zero) fetched.rest);
      irq = is.irq ∙ sym (ap (λ (m : WorkingChips). m.irq) fetched.rest);
      processor = subst (λ x. IsProcessorOf x like.processor) (sym (ap (λ (m : WorkingChips). m.processor) fetched.rest)) is.processor;
      missed = ap (λ (m : WorkingChips). m.missed) fetched.rest ∙ sym is.missed;
      cia_a = is.cia_a ∙ sym (ap (λ (m : WorkingChips). m.cia_a) fetched.rest);
      cia_b = is.cia_b ∙ sym (ap (λ (m : WorkingChips). m.cia_b) fetched.rest);
      inputs = is.inputs ∙ sym (ap (λ (m : WorkingChips). m.inputs) fetched.rest);
    }

-- the wish of the blitter is the machine's
wish_found : (b : Beam) (mid : WorkingChips) (plane : Option PlaneAsk) (sprite : Option SpriteAsk) (c : Chips) → Found b mid plane sprite c
    → kept_wish mid ≡ blit_wish c
wish_found b mid plane sprite c found =
    ap (λ dmacon. if has_bits dmacon 576 then option_map slot_shown mid.blit else None) found.same.dmacon
    ∙ ap (λ asks. if blitter_dma c.registers then asks else None) (wish_of_blit mid.blit c.blit found.blit)

-- what the processor waits for is shown as the machine has it
processor_found : (b : Beam) (mid : WorkingChips) (plane : Option PlaneAsk) (sprite : Option SpriteAsk) (c : Chips)
    → Found b mid plane sprite c → wish_shown mid.processor ≡ processor_wish c.processor
processor_found b mid plane sprite c found = wish_shown-is mid.processor c.processor found.processor

ask_found : (side : SideAsk) (b : Beam) (ask : Ask) (mid : WorkingChips) (plane : Option PlaneAsk) (sprite : Option SpriteAsk) (c : Chips)
    → ask ≡ ask_with side b plane sprite (kept_wish mid) (wish_shown mid.processor) (plain_chips mid) → Found b mid plane sprite c
    → ask ≡ ask_at side b c
ask_found side b ask mid plane sprite c is found =
    let processor : Option ProcessorAsk = wish_shown mid.processor in
    is
    ∙ ap (λ p. ask_with side b p sprite (kept_wish mid) processor (plain_chips mid)) found.plane_is
    ∙ ap (λ s. ask_with side b (plane_wish b c) s (kept_wish mid) processor (plain_chips mid)) found.sprite_is
    ∙ ap (λ w. ask_with side b (plane_wish b c) (sprite_wish b c) w processor (plain_chips mid)) (wish_found b mid plane sprite c found)
    ∙ ap (λ w. ask_with side b (plane_wish b c) (sprite_wish b c) (blit_wish c) w (plain_chips mid)) (processor_found b mid plane sprite c found)
    ∙ ask_same side b (plane_wish b c) (sprite_wish b c) (blit_wish c) (processor_wish c.processor) (plain_chips mid) c found.same found.copper
    found.missed
    ∙ sym (ask_is side b c)

-- and the chips stand for those whose fetches moved their pointers
asked_found : (b : Beam) (mid : WorkingChips) (plane : Option PlaneAsk) (sprite : Option SpriteAsk) (c : Chips) → IsLastUnit mid.last
    → Found b mid plane sprite c → HasAsked b c mid
asked_found b mid plane sprite c begun found = record {
  begun = subst IsLastUnit found.last begun;
  chips = record {
    registers = sym found.moved;
    last = sym found.last;
    kinds = sym found.kinds;
    copper = sym found.copper;
    blit = found.blit;
    zero = found.zero;
    irq = found.irq;
    processor = found.processor;
    missed = sym found.missed;
    cia_a = found.cia_a;
    cia_b = found.cia_b;
    inputs = found.inputs;
  };
}

-- chips that these stand for have their registers, kinds and Copper
same_chips : (old : WorkingChips) (c : Chips) → IsChipsOf old c → c ≡ chips_like old c
same_chips old c is =
    ap (λ r. record c { registers = r }) is.registers
    ∙ ap (λ ks. record c { registers = old.registers; kinds = ks }) is.kinds
    ∙ ap (λ x. record c { registers = old.registers; kinds = old.kinds; copper = x }) is.copper

pub ask_is_at : (side : SideAsk) (b : Beam) (ask : Ask) (old mid : WorkingChips) (plane : Option PlaneAsk) (sprite : Option SpriteAsk)
    → HasFetched b old mid plane sprite → ask ≡ ask_with side b plane sprite (kept_wish mid) (wish_shown mid.processor) (plain_chips mid)
    → (c : Chips) → IsChipsOf old c → ask ≡ ask_at side b c
ask_is_at side b ask old mid plane sprite fetched asks c is =
    subst (λ x. ask ≡ ask_at side b x) (sym (same_chips old c is))
    (ask_found side b ask mid plane sprite (chips_like old c) asks (found_by b old mid plane sprite c fetched is))

pub has_asked : (b : Beam) (old mid : WorkingChips) (plane : Option PlaneAsk) (sprite : Option SpriteAsk)
    → HasFetched b old mid plane sprite → (c : Chips) → IsChipsOf old c → HasAsked b c mid
has_asked b old mid plane sprite fetched c is =
    subst (λ x. HasAsked b x mid) (sym (same_chips old c is))
    (asked_found b mid plane sprite (chips_like old c) fetched.begun (found_by b old mid plane sprite c fetched is))

-- the words that the Copper looks at are the same in the chips that were asked
same_words : (b : Beam) (c : Chips) (mid : WorkingChips) → HasAsked b c mid → SameWords (fetched_registers b c) c.registers
same_words b c mid asked =
    words_same b.h (last_unit (units_now b c)) (kinds_now b c) (is_some (plane_wish b c)) c.registers asked.begun

-- no register that is read is a pointer of a plane or a sprite
word_by : (reading : Reading) (live : Live) (moved registers : Registers) → SameWords moved registers
    → word_in reading live moved ≡ word_in reading live registers
word_by Zero live moved registers same = refl
word_by DmaAndBlitter live moved registers same =
    ap (λ w. bit_and w 0x7ff + bit_worth live.zero 8192 + bit_worth live.busy 16384) same.dmacon
word_by FieldAndLine live moved registers same = refl
word_by LineAndClock live moved registers same = refl
word_by (Joystick port) live moved registers same = refl
word_by Elsewhere live moved registers same = refl

processor_serves : (ask : ProcessorAsk) (b : Beam) (clx : ℕ) (c : Chips) (memory : List ℕ) → SameWords (fetched_registers b c) c.registers
    → answer_processor ask b clx (fetched_chips b c) memory ≡ answer_processor ask b clx c memory
unfolding read_word word_at
processor_serves (P.Read at) b clx c memory same = refl
processor_serves (P.Write at half word) b clx c memory same = refl
processor_serves (P.ReadRegister reg) b clx c memory same =
    ap (λ w. if reg.offset == 0x0e then clx else if reg.offset == 0x1c then c.irq.ena else if reg.offset == 0x1e then c.irq.req else w)
    (word_by (reading_at reg.offset) (live_words b c) (fetched_registers b c) c.registers same)
processor_serves (P.WriteRegister reg word) b clx c memory same = refl

-- so a read gives in the chips that were asked what it gave before
pub read_once_asked : (reg : Reg) (b : Beam) (clx : ℕ) (c : Chips) (mid : WorkingChips) (word : ℕ) → HasAsked b c mid
    → ((d : Chips) → IsChipsOf mid d → word ≡ read_word reg.offset b clx d) → word ≡ read_word reg.offset b clx c
read_once_asked reg b clx c mid word asked is =
    is (fetched_chips b c) asked.chips ∙ processor_serves (P.ReadRegister reg) b clx c [] (same_words b c mid asked)

serves : (ask : Ask) (b : Beam) (clx : ℕ) (mid : WorkingChips) (c : Chips) (memory : List ℕ) (word : ℕ) → IsAnswer ask b clx mid memory word
    → SameWords (fetched_registers b c) c.registers → IsChipsOf mid (fetched_chips b c) → Serves ask b clx c memory word
serves A.Free b clx mid c memory word is same stands = is
serves (A.Side ask) b clx mid c memory word is same stands = tt
serves (A.Plane ask) b clx mid c memory word is same stands = tt
serves (A.Sprite (Control sprite second at)) b clx mid c memory word is same stands = is
serves (A.Sprite (Words sprite second at)) b clx mid c memory word is same stands = tt
serves (A.Copper at) b clx mid c memory word is same stands = is
serves (A.Blit ask) b clx mid c memory word is same stands = is
serves (A.Processor ask) b clx mid c memory word is same stands = is (fetched_chips b c) stands ∙ processor_serves ask b clx c memory same

-- an answer to the clock's ask is the access
answer_found : (side : SideAsk) (b : Beam) (clx : ℕ) (memory : List ℕ) (mid new : WorkingChips) (made : Made) (c : Chips) → IsInTime b side
    → HasAnswered b clx memory (ask_at side b c) mid new made → HasAsked b c mid → HasAccessed side b clx c memory made new
unfolding answer_chips
answer_found side b clx memory mid new made c time answered asked =
    let ask : Ask = ask_at side b c in
    let is : IsChipsOf mid (fetched_chips b c) = asked.chips in
    let found : SameWords (fetched_registers b c) c.registers = same_words b c mid asked in
    let same : SameWords mid.registers c.registers = subst (λ r. SameWords r c.registers) is.registers found in
    let answer : Serves ask b clx c memory answered.word = serves ask b clx mid c memory answered.word answered.answer found is in
    let word : ℕ = answer_to ask b clx c memory in
    let copper : CopperState = copper_after b (copper_word ask word) c in
    let missed : ℕ = missed_after (processor_wish c.processor) ask c.missed in
    let stepped : copper_after b (copper_word ask answered.word) (plain_chips mid) ≡ copper =
    copper_same b (copper_word ask answered.word) (plain_chips mid) c same (sym is.copper) (some_with_blit mid.blit c.blit is.blit)
    ∙ ap (λ w. copper_after b w c) (copper_by_answer ask b clx c memory answered.word answer) in
    let counted : missed_after (wish_shown mid.processor) ask mid.missed ≡ missed =
    ap (λ w. missed_after w ask mid.missed) (wish_shown-is mid.processor c.processor is.processor)
    ∙ ap (λ n. missed_after (processor_wish c.processor) ask n) (sym is.missed) in
    let after : Chips = with_fetch (fetched_registers b c) (units_now b c) (kinds_now b c) copper missed c in
    let stands : IsChipsOf (answering b ask answered.word mid) after = record {
      registers = is.registers;
      last = is.last;
      kinds = is.kinds;
      copper = sym stepped;
      blit = is.blit;
      zero = is.zero;
      irq = is.irq;
      processor = is.processor;
      missed = sym counted;
      cia_a = is.cia_a;
      cia_b = is.cia_b;
      inputs = is.inputs;
    } in
    let owner : with_others (units_now b c) (kinds_now b c) copper missed (answer_owner b ask word c) ≡ after_owner ask word after =
    owner_is b ask word c (fetched_registers b c) (units_now b c) (kinds_now b c) copper missed (registers_is side b c time asked.begun) in
    record {
      makes = answered.makes
          ∙ ap (λ act. made_with ask answered.word act) (act_same b ask answered.word (plain_chips mid) c same (sym is.copper))
          ∙ sym (made-act side b answered.word c)
          ∙ made_by_answer ask b clx c memory answered.word answer;
      chips = subst (λ x. IsChipsOf new x) (after_by_answer ask b clx c memory answered.word after answer ∙ sym owner)
          (owner_answered ask answered.word (answering b ask answered.word mid) new after answered.owner stands);
    }

pub answer_is : (b : Beam) (clx : ℕ) (memory : List ℕ) (ask : Ask) (mid new : WorkingChips) (made : Made)
    → HasAnswered b clx memory ask mid new made → (side : SideAsk) (c : Chips) → IsInTime b side → HasAsked b c mid
    → ask ≡ ask_at side b c → HasAccessed side b clx c memory made new
answer_is b clx memory ask mid new made answered side c time asked same =
    answer_found side b clx memory mid new made c time (subst (λ a. HasAnswered b clx memory a mid new made) same answered) asked

-- the fetches had their steps, where the sprites are told whether a plane has the slot
pub fetched_by_steps : (b : Beam) (old mid : WorkingChips) (moved : Registers) (plane : Option PlaneAsk) (sprite : Option SpriteAsk) → IsLastUnit mid.last
    → ((units : List ℕ) → old.last ≡ last_unit units → mid.last ≡ last_unit (units_at b old.registers units))
    → plane ≡ plane_ask b.h old.registers mid.last → moved ≡ move_planes b.h mid.last old.registers → mid.kinds ≡ kinds_at b moved old.kinds
    → sprite ≡ sprite_ask b.h moved mid.kinds (is_some plane) → mid.registers ≡ move_sprites b.h mid.kinds (is_some plane) moved
    → mid ≡ record old { registers = mid.registers; last = mid.last; kinds = mid.kinds } → HasFetched b old mid plane sprite
fetched_by_steps b old mid moved plane sprite begun units asks moves kinds sprites registers rest = record {
  begun = begun;
  units = units;
  plane_ask = asks;
  kinds = kinds ∙ ap (λ r. kinds_at b r old.kinds) moves;
  sprite_ask = sprites ∙ ap (λ r. sprite_ask b.h r mid.kinds (is_some plane)) moves;
  moved = registers ∙ ap (λ r. move_sprites b.h mid.kinds (is_some plane) r) moves;
  rest = rest;
}
