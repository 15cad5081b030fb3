-- What the chips of the clock loop stand for, and the access of a clock as they make it.
use Rattle.std.specs.Prelude.{◌≡◌, ◌≢◌, ℕ, ◌≤◌, ◌==◌, Bool, if◌then◌else◌, List, [], Option, Some, None, is_some}
use Rattle.std.specs.Option.{option_map}
use Rattle.blit_words.specs.declared.blit.SlotAsk.{SlotAsk}
use Rattle.blit_words.specs.declared.blit.SlotAsk.TheVariants.{Done}
use Rattle.blitter.specs.StandsFor.{StandsFor, slot_shown}
use Rattle.blitter.specs.declared.Blit.{Blit}
use Rattle.cpu_bus.specs.Bus.{IsProcessorOf, wish_shown}
use Rattle.cpu_bus.specs.declared.BusCpu.{BusCpu}
use Rattle.irq_cia.specs.declared.cia.CiaState.{CiaState}
use Rattle.ocs_base.specs.declared.addr.Addr.{Addr}
use Rattle.ocs_base.specs.declared.beam.Beam.{Beam}
use Rattle.ocs_base.specs.declared.chip_size.ChipSize.TheVariants.{Kib512}
use Rattle.serial_model.specs.declared.bus.Ask.{Ask}
use Rattle.serial_model.specs.declared.bus.Ask.TheVariants as A
use Rattle.serial_model.specs.declared.bus.Made.{Made}
use Rattle.serial_model.specs.declared.bus.Made.TheVariants as M
use Rattle.serial_model.specs.declared.bus.ProcessorAsk.{ProcessorAsk}
use Rattle.serial_model.specs.declared.bus.SideAsk.{SideAsk}
use Rattle.serial_model.specs.declared.bus.SideAsk.TheVariants as S
use Rattle.serial_model.specs.declared.copper.CopperAct.{CopperAct}
use Rattle.serial_model.specs.declared.copper.CopperAct.TheVariants.{None as NoAct}
use Rattle.serial_model.specs.declared.copper.CopperState.{CopperState}
use Rattle.serial_model.specs.declared.fetch.PlaneAsk.{PlaneAsk}
use Rattle.serial_model.specs.declared.fetch.SpriteAsk.{SpriteAsk}
use Rattle.serial_model.specs.declared.fetch.SpriteAsk.TheVariants.{Control, Words}
use Rattle.serial_model.specs.declared.fetch.SpriteKind.{SpriteKind}
use Rattle.serial_model.specs.declared.registers.Inputs.{Inputs}
use Rattle.chip_set.specs.declared.late.LateOwner.{LateOwner}
use Rattle.chip_set.specs.declared.late.LateOwner.TheVariants as L
use Rattle.mem_versions.specs.Chip.{ChipValue, after_reads}
use Rattle.serial_model.specs.Bus.{reads_of_blit, reads_of_processor}
use Rattle.serial_model.specs.Bus.{Wishes, copper_wish, plane_wish, units_now, kinds_now, slot_state, owner_ask, copper_runs}
use Rattle.serial_model.specs.Bus.{copper_ask, blit_owner_ask, processor_ask}
use Rattle.serial_model.specs.Bus.{copper_word, copper_after, missed_after, ask_at, answer_processor, answer_to, answer_chips, give_blit}
use Rattle.serial_model.specs.Bus.{give_chips, end_blit, made_by_ask, answer_blit}
use Rattle.serial_model.specs.BlitRegisters.{blit_start}
use Rattle.irq_cia.specs.Interrupts.{Interrupts}
use Rattle.serial_model.specs.Copper.{copper_act}
use Rattle.serial_model.specs.Made.{word_of}
use Rattle.serial_model.specs.Owner.{owner_of}
use Rattle.serial_model.specs.declared.slots.Owner.{Owner}
use Rattle.serial_model.specs.declared.slots.Owner.TheVariants.{Refresh, Disk, Audio, Plane, Sprite, Copper, Blitter, Processor, Free}
use Rattle.serial_model.specs.PlaneFetch.{last_unit, IsLastUnit, move_planes}
use Rattle.serial_model.specs.Processor.{reset_processor}
use Rattle.serial_model.specs.Registers.{Registers, no_registers, blitter_dma, is_danger}
use Rattle.serial_model.specs.SpriteFetch.{asking_sprite, move_sprites}
use Rattle.serial_model.specs.State.{BlitUnderWay, Chips}

-- the working state of the chips: of the line's units of bitplane fetch, the clock at which the last one began; and the
-- blit under way as the blitter keeps it
pub record WorkingChips : Type 0 where
  pub registers : Registers
  pub last : Option ℕ
  pub kinds : List SpriteKind
  pub copper : CopperState
  pub blit : Option Blit
  pub zero : Bool
  pub irq : Interrupts
  pub processor : BusCpu
  pub missed : ℕ
  pub cia_a : CiaState
  pub cia_b : CiaState
  pub inputs : Inputs

-- a kept blit stands for the blit under way, and none for none
abbrev pub IsBlitOf : Option Blit → Option BlitUnderWay → Type 0
IsBlitOf None None = Unit {0}
IsBlitOf None (Some run) = ⊥
IsBlitOf (Some blit) None = ⊥
IsBlitOf (Some blit) (Some run) = StandsFor blit run.start run.answers

-- it stands for chips whose units end with that one
pub record IsChipsOf (now : WorkingChips) (c : Chips) : Type 0 where
  pub registers : c.registers ≡ now.registers
  pub last : last_unit c.units ≡ now.last
  pub kinds : c.kinds ≡ now.kinds
  pub copper : c.copper ≡ now.copper
  pub blit : IsBlitOf now.blit c.blit
  pub zero : c.zero ≡ now.zero
  pub irq : c.irq ≡ now.irq
  pub processor : IsProcessorOf now.processor c.processor
  pub missed : c.missed ≡ now.missed
  pub cia_a : c.cia_a ≡ now.cia_a
  pub cia_b : c.cia_b ≡ now.cia_b
  pub inputs : c.inputs ≡ now.inputs

-- chips of which only registers, Copper, whether a blit is under way and the clocks that the processor missed are looked at
abbrev pub some_blit : Blit → BlitUnderWay
some_blit blit = record { start = blit_start (no_registers Kib512); answers = [] }

abbrev pub plain_chips : WorkingChips → Chips
plain_chips now = record {
  registers = now.registers;
  units = [];
  kinds = now.kinds;
  copper = now.copper;
  blit = option_map some_blit now.blit;
  zero = now.zero;
  irq = now.irq;
  processor = reset_processor now.processor.chip now.processor.on;
  missed = now.missed;
  cia_a = now.cia_a;
  cia_b = now.cia_b;
  inputs = now.inputs;
}

-- what the kept blit asks for, while the blitter's DMA is on
abbrev pub kept_wish : WorkingChips → Option SlotAsk
kept_wish now = if blitter_dma now.registers then option_map slot_shown now.blit else None

-- the ask of a clock at which the side, planes, sprites, the blitter and the processor ask for this
abbrev pub wishes_with : SideAsk → Beam → Option PlaneAsk → Option SpriteAsk → Option SlotAsk → Option ProcessorAsk → Chips → Wishes
wishes_with side b plane sprite blit processor c =
    record { side = side; plane = plane; sprite = sprite; copper = copper_wish b c; blit = blit; processor = processor }

unfoldable pub ask_with : SideAsk → Beam → Option PlaneAsk → Option SpriteAsk → Option SlotAsk → Option ProcessorAsk → Chips → Ask
ask_with side b plane sprite blit processor c =
    owner_ask (owner_of (slot_state b c (wishes_with side b plane sprite blit processor c))) (wishes_with side b plane sprite blit processor c)

-- the ask of a clock for whose slot neither the side nor a plane nor a sprite asks
abbrev pub late_ask : Beam → WorkingChips → Ask
late_ask b now = ask_with S.Nothing b None None (kept_wish now) (wish_shown now.processor) (plain_chips now)

-- the ask of a clock, where planes and sprites ask for this, and else the Copper, the blitter and the processor may
abbrev pub ask_or_late : Option Ask → Beam → WorkingChips → Ask
ask_or_late None b now = late_ask b now
ask_or_late (Some ask) b now = ask

-- who of those has its slot
abbrev pub late_by : Owner → LateOwner
late_by Refresh = L.Nobody
late_by Disk = L.Nobody
late_by (Audio channel) = L.Nobody
late_by (Plane plane) = L.Nobody
late_by (Sprite sprite) = L.Nobody
late_by Copper = L.Copper
late_by Blitter = L.Blitter
late_by Processor = L.Processor
late_by Free = L.Nobody

abbrev pub late_owner_of : Beam → WorkingChips → LateOwner
late_owner_of b now =
    late_by (owner_of (slot_state b (plain_chips now)
    (wishes_with S.Nothing b None None (kept_wish now) (wish_shown now.processor) (plain_chips now))))

-- what each of them asks for
abbrev pub ask_of_late : LateOwner → Beam → WorkingChips → Ask
ask_of_late L.Copper b now = copper_ask (copper_wish b (plain_chips now))
ask_of_late L.Blitter b now = blit_owner_ask (kept_wish now)
ask_of_late L.Processor b now = processor_ask (wish_shown now.processor)
ask_of_late L.Nobody b now = A.Free

-- an ask of the blitter is what the blit asks for, and no end
abbrev pub IsBlitAsk : Ask → Option SlotAsk → Type 0
IsBlitAsk A.Free wish = Unit {0}
IsBlitAsk (A.Side ask) wish = Unit {0}
IsBlitAsk (A.Plane ask) wish = Unit {0}
IsBlitAsk (A.Sprite ask) wish = Unit {0}
IsBlitAsk (A.Copper at) wish = Unit {0}
IsBlitAsk (A.Blit ask) wish = (wish ≡ Some ask) × (ask ≢ Done)
IsBlitAsk (A.Processor ask) wish = Unit {0}

-- a kept blit has not ended
abbrev pub IsGoing : Option Blit → Type 0
IsGoing None = Unit {0}
IsGoing (Some blit) = slot_shown blit ≢ Done

-- the end of a blit that is under way
abbrev pub end_if_blit : Option BlitUnderWay → Chips → Chips
end_if_blit None c = c
end_if_blit (Some run) c = end_blit run c

-- the kept blit after an answer of the blitter's slot, and the chips that it is part of
abbrev pub GivesBlit : ℕ → WorkingChips → WorkingChips → Type 0
GivesBlit word old new = (c : Chips) → IsChipsOf old c → IsChipsOf new (give_blit word c.blit c)

-- and the processor after the answer of its slot
abbrev pub GivesProcessor : ℕ → WorkingChips → WorkingChips → Type 0
GivesProcessor word old new = (c : Chips) → IsChipsOf old c → IsChipsOf new (give_chips word c)

-- the owner of the slot has its answer, as far as blitter and processor go; what the fetches did was done before
abbrev pub AnswersOwner : Ask → ℕ → WorkingChips → WorkingChips → Type 0
AnswersOwner A.Free word old new = new ≡ old
AnswersOwner (A.Side ask) word old new = new ≡ old
AnswersOwner (A.Plane ask) word old new = new ≡ old
AnswersOwner (A.Sprite ask) word old new = new ≡ old
AnswersOwner (A.Copper at) word old new = new ≡ old
AnswersOwner (A.Blit ask) word old new = GivesBlit word old new
AnswersOwner (A.Processor ask) word old new = GivesProcessor word old new

-- the chips once the Copper had its step and the clocks that the processor missed were counted
abbrev pub answering : Beam → Ask → ℕ → WorkingChips → WorkingChips
answering b ask word mid = record mid {
  copper = copper_after b (copper_word ask word) (plain_chips mid);
  missed = missed_after (wish_shown mid.processor) ask mid.missed;
}

-- what the Copper's step makes, with the word that answers the clock's ask
abbrev pub act_at : Beam → Ask → ℕ → Chips → CopperAct
act_at b ask word c =
    if copper_runs b c then copper_act (is_danger c.registers) (copper_word ask word) c.copper else NoAct

-- a word answers the processor: the one that the machine gives, whatever chips these stand for
abbrev pub IsRead : ProcessorAsk → Beam → ℕ → WorkingChips → List ℕ → ℕ → Type 0
IsRead ask b clx now memory word = (c : Chips) → IsChipsOf now c → word ≡ answer_processor ask b clx c memory

-- a word answers an ask: it is the one that the machine gives, but where nobody looks at it here
abbrev pub IsAnswer : Ask → Beam → ℕ → WorkingChips → List ℕ → ℕ → Type 0
IsAnswer A.Free b clx now memory word = word ≡ 0
IsAnswer (A.Side ask) b clx now memory word = Unit {0}
IsAnswer (A.Plane ask) b clx now memory word = Unit {0}
IsAnswer (A.Sprite (Control sprite second at)) b clx now memory word = word ≡ word_of memory at.value
IsAnswer (A.Sprite (Words sprite second at)) b clx now memory word = Unit {0}
IsAnswer (A.Copper at) b clx now memory word = word ≡ word_of memory at.value
IsAnswer (A.Blit ask) b clx now memory word = word ≡ answer_blit ask memory
IsAnswer (A.Processor ask) b clx now memory word = IsRead ask b clx now memory word

-- how many words of chip memory the chips read with an ask: the word of a sample is read by whoever gives it to the side
abbrev pub reads_by_chips : Ask → ℕ
reads_by_chips A.Free = 0
reads_by_chips (A.Side ask) = 0
reads_by_chips (A.Plane ask) = 0
reads_by_chips (A.Sprite (Control sprite second at)) = 1
reads_by_chips (A.Sprite (Words sprite second at)) = 0
reads_by_chips (A.Copper at) = 1
reads_by_chips (A.Blit ask) = reads_of_blit ask
reads_by_chips (A.Processor ask) = reads_of_processor ask

-- the memory once so many words were read, which counts
abbrev pub read_by : ℕ → ChipValue → ChipValue
read_by count chip = if count == 0 then chip else after_reads chip count

-- the registers and the chips once the fetches of a clock had their steps: the pointer of the plane or sprite that has the
-- slot has moved
abbrev pub fetched_registers : Beam → Chips → Registers
fetched_registers b c =
    move_sprites b.h (kinds_now b c) (is_some (plane_wish b c)) (move_planes b.h (last_unit (units_now b c)) c.registers)

abbrev pub fetched_chips : Beam → Chips → Chips
fetched_chips b c = record c { registers = fetched_registers b c; units = units_now b c; kinds = kinds_now b c }

-- the owner of the slot was asked: these chips stand for such
pub record HasAsked (b : Beam) (c : Chips) (now : WorkingChips) : Type 0 where
  pub begun : IsLastUnit (last_unit (units_now b c))
  pub chips : IsChipsOf now (fetched_chips b c)

-- the access of a clock at which the side asks for this was made: this is what it makes, and the chips have their answers
pub record HasAccessed (side : SideAsk) (b : Beam) (clx : ℕ) (c : Chips) (memory : List ℕ) (made : Made) (new : WorkingChips) : Type 0 where
  pub makes : made ≡ made_by_ask (ask_at side b c) (answer_to (ask_at side b c) b clx c memory) c
  pub chips : IsChipsOf new (answer_chips b (ask_at side b c) (answer_to (ask_at side b c) b clx c memory) c)

-- there are six planes, 1 to 6, and eight sprites, 0 to 7
pub record IsPlane (plane : ℕ) : Type 0 where
  pub first : 1 ≤ plane
  pub last : plane ≤ 6

-- what the owner of a slot asks for is of these
abbrev pub CanAsk : Ask → Type 0
CanAsk A.Free = Unit {0}
CanAsk (A.Side ask) = Unit {0}
CanAsk (A.Plane ask) = IsPlane ask.plane
CanAsk (A.Sprite ask) = asking_sprite ask ≤ 7
CanAsk (A.Copper at) = Unit {0}
CanAsk (A.Blit ask) = Unit {0}
CanAsk (A.Processor ask) = Unit {0}

-- and so is what the clock loop does
abbrev pub CanDo : Made → Type 0
CanDo M.Nothing = Unit {0}
CanDo (M.Wrote reg word by) = Unit {0}
CanDo (M.Read reg by) = Unit {0}
CanDo (M.Stored at half word) = Unit {0}
CanDo (M.Plane plane at) = IsPlane plane
CanDo (M.Sprite sprite second at) = sprite ≤ 7
