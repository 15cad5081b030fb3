-- The access of a clock: who asks for the slot, who gets it, what answers it and what it makes.
use Rattle.std.specs.Prelude.{ℕ, ◌+◌, ◌*◌, ◌%◌, Bool, true, false, not, min, ◌==◌, ◌&&◌, if◌then◌else◌, List, [], ◌∷◌, ◌++◌, Option, Some, None, is_some}
use Rattle.std.specs.Option.{option_map}
use Rattle.ocs_base.specs.declared.addr.Addr.{Addr}
use Rattle.blit_words.specs.Blitter.{blit_ask, is_done, blit_zero, blit_end}
use Rattle.blit_words.specs.declared.blit.SlotAsk.{SlotAsk}
use Rattle.blit_words.specs.declared.blit.SlotAsk.TheVariants.{Read, Write, Rest, Done}
use Rattle.ocs_base.specs.Register.{register_of}
use Rattle.ocs_base.specs.declared.beam.Beam.{Beam}
use Rattle.ocs_base.specs.declared.reg.Reg.{Reg}
use Rattle.serial_model.specs.declared.bus.Ask.{Ask}
use Rattle.serial_model.specs.declared.bus.Ask.TheVariants as A
use Rattle.serial_model.specs.declared.bus.Half.TheVariants.{Both}
use Rattle.serial_model.specs.declared.bus.Made.{Made}
use Rattle.serial_model.specs.declared.bus.Made.TheVariants as M
use Rattle.serial_model.specs.declared.bus.ProcessorAsk.{ProcessorAsk}
use Rattle.serial_model.specs.declared.bus.ProcessorAsk.TheVariants as P
use Rattle.serial_model.specs.declared.bus.SideAsk.{SideAsk}
use Rattle.serial_model.specs.declared.bus.SideAsk.TheVariants as S
use Rattle.serial_model.specs.declared.copper.CopperAct.{CopperAct}
use Rattle.serial_model.specs.declared.copper.CopperAct.TheVariants.{None as NoAct, Move}
use Rattle.serial_model.specs.declared.copper.CopperState.{CopperState}
use Rattle.serial_model.specs.declared.fetch.PlaneAsk.{PlaneAsk}
use Rattle.serial_model.specs.declared.fetch.SpriteAsk.{SpriteAsk}
use Rattle.serial_model.specs.declared.fetch.SpriteAsk.TheVariants.{Control, Words}
use Rattle.serial_model.specs.declared.fetch.SpriteKind.{SpriteKind}
use Rattle.serial_model.specs.declared.slots.Owner.{Owner}
use Rattle.serial_model.specs.declared.slots.Owner.TheVariants.{Refresh, Disk, Audio, Plane, Sprite, Copper, Blitter, Processor, Free}
use Rattle.serial_model.specs.declared.slots.SlotState.{SlotState}
use Rattle.serial_model.specs.declared.trace.Source.TheVariants.{Copper as ByCopper, Processor as ByProcessor}
use Rattle.serial_model.specs.BlitRegisters.{with_blit}
use Rattle.irq_cia.specs.Interrupts.{after_request}
use Rattle.serial_model.specs.Registers.{copper_dma, blitter_dma, blitter_first, is_danger}
use Rattle.serial_model.specs.Copper.{wish_of, step_copper, copper_act}
use Rattle.serial_model.specs.Made.{word_of}
use Rattle.serial_model.specs.Owner.{owner_of}
use Rattle.serial_model.specs.PlaneFetch.{units_at, last_unit, plane_ask, move_plane_pointer}
use Rattle.serial_model.specs.SpriteFetch.{kinds_at, sprite_ask, asking_sprite, sprite_address, move_sprite_pointer}
use Rattle.serial_model.specs.Processor.{processor_wish, give_processor}
use Rattle.serial_model.specs.State.{BlitUnderWay, Chips, is_busy, read_word}

-- the Copper takes part in even clocks while its DMA is on
abbrev pub copper_runs : Beam → Chips → Bool
copper_runs b c = (b.h % 2 == 0) && copper_dma c.registers

-- the word that the Copper asks for at this clock
abbrev pub copper_wish : Beam → Chips → Option Addr
copper_wish b c = if copper_runs b c then wish_of c.copper else None

-- the clocks of this line at which units of bitplane fetch began, with what this clock adds
abbrev pub units_now : Beam → Chips → List ℕ
units_now b c = units_at b c.registers c.units

-- the plane that is fetched at this clock, and the address of its word
abbrev pub plane_wish : Beam → Chips → Option PlaneAsk
plane_wish b c = plane_ask b.h c.registers (last_unit (units_now b c))

-- what each sprite reads on this line, with what this clock decides
abbrev pub kinds_now : Beam → Chips → List SpriteKind
kinds_now b c = kinds_at b c.registers c.kinds

-- what the sprites ask for at this clock, where no plane has the slot
abbrev pub sprite_wish : Beam → Chips → Option SpriteAsk
sprite_wish b c = sprite_ask b.h c.registers (kinds_now b c) (is_some (plane_wish b c))

-- what the blit under way does with its next slot, for which it asks while DMAEN and BLTEN are set
abbrev pub ask_of_blit : BlitUnderWay → SlotAsk
ask_of_blit run = blit_ask run.start run.answers

abbrev pub blit_wish : Chips → Option SlotAsk
blit_wish c = if blitter_dma c.registers then option_map ask_of_blit c.blit else None

-- what each asker wishes at a clock
pub record Wishes : Type 0 where
  pub side : SideAsk
  pub plane : Option PlaneAsk
  pub sprite : Option SpriteAsk
  pub copper : Option Addr
  pub blit : Option SlotAsk
  pub processor : Option ProcessorAsk

abbrev pub wishes_of : SideAsk → Beam → Chips → Wishes
wishes_of side b c = record {
  side = side;
  plane = plane_wish b c;
  sprite = sprite_wish b c;
  copper = copper_wish b c;
  blit = blit_wish c;
  processor = processor_wish c.processor;
}

abbrev pub is_disk : SideAsk → Bool
is_disk S.Nothing = false
is_disk (S.Disk at word) = true
is_disk (S.Audio channel at) = false

abbrev pub channel_of : SideAsk → Option ℕ
channel_of S.Nothing = None
channel_of (S.Disk at word) = None
channel_of (S.Audio channel at) = Some channel

-- who asks for the slot
abbrev pub slot_state : Beam → Chips → Wishes → SlotState
slot_state b c w = record {
  h = b.h;
  disk = is_disk w.side;
  audio = channel_of w.side;
  plane = option_map (λ (ask : PlaneAsk). ask.plane) w.plane;
  sprite = option_map asking_sprite w.sprite;
  copper = is_some w.copper;
  blitter = is_some w.blit;
  processor = is_some w.processor;
  missed = c.missed;
  nasty = blitter_first c.registers;
}

-- the ask of one asker, where it asks
abbrev pub plane_owner_ask : Option PlaneAsk → Ask
plane_owner_ask None = A.Free
plane_owner_ask (Some ask) = A.Plane ask

abbrev pub sprite_owner_ask : Option SpriteAsk → Ask
sprite_owner_ask None = A.Free
sprite_owner_ask (Some ask) = A.Sprite ask

abbrev pub copper_ask : Option Addr → Ask
copper_ask None = A.Free
copper_ask (Some at) = A.Copper at

abbrev pub blit_owner_ask : Option SlotAsk → Ask
blit_owner_ask None = A.Free
blit_owner_ask (Some (Read at)) = A.Blit (Read at)
blit_owner_ask (Some (Write at word)) = A.Blit (Write at word)
blit_owner_ask (Some Rest) = A.Blit Rest
blit_owner_ask (Some Done) = A.Free

abbrev pub processor_ask : Option ProcessorAsk → Ask
processor_ask None = A.Free
processor_ask (Some ask) = A.Processor ask

-- the ask of the slot's owner
abbrev pub owner_ask : Owner → Wishes → Ask
owner_ask Refresh w = A.Free
owner_ask Disk w = A.Side w.side
owner_ask (Audio channel) w = A.Side w.side
owner_ask (Plane plane) w = plane_owner_ask w.plane
owner_ask (Sprite sprite) w = sprite_owner_ask w.sprite
owner_ask Copper w = copper_ask w.copper
owner_ask Blitter w = blit_owner_ask w.blit
owner_ask Processor w = processor_ask w.processor
owner_ask Free w = A.Free

-- the ask of this clock, from the state as it is then
unfoldable pub ask_at : SideAsk → Beam → Chips → Ask
ask_at side b c = owner_ask (owner_of (slot_state b c (wishes_of side b c))) (wishes_of side b c)

-- the word that answers it, 0 where nothing is read: a word of memory, or what a register gives where these collision bits
-- were gathered
abbrev pub answer_processor : ProcessorAsk → Beam → ℕ → Chips → List ℕ → ℕ
answer_processor (P.Read at) b clx c memory = word_of memory at.value
answer_processor (P.Write at half word) b clx c memory = 0
answer_processor (P.ReadRegister reg) b clx c memory = read_word reg.offset b clx c
answer_processor (P.WriteRegister reg word) b clx c memory = 0

abbrev pub answer_to_side : SideAsk → List ℕ → ℕ
answer_to_side S.Nothing memory = 0
answer_to_side (S.Disk at word) memory = 0
answer_to_side (S.Audio channel at) memory = word_of memory at.value

abbrev pub answer_blit : SlotAsk → List ℕ → ℕ
answer_blit (Read at) memory = word_of memory at.value
answer_blit (Write at word) memory = 0
answer_blit Rest memory = 0
answer_blit Done memory = 0

abbrev pub answer_to : Ask → Beam → ℕ → Chips → List ℕ → ℕ
answer_to A.Free b clx c memory = 0
answer_to (A.Side ask) b clx c memory = answer_to_side ask memory
answer_to (A.Plane ask) b clx c memory = word_of memory ask.at.value
answer_to (A.Sprite ask) b clx c memory = word_of memory (sprite_address ask).value
answer_to (A.Copper at) b clx c memory = word_of memory at.value
answer_to (A.Blit ask) b clx c memory = answer_blit ask memory
answer_to (A.Processor ask) b clx c memory = answer_processor ask b clx c memory

-- the word that the Copper gets: that of its own ask alone
abbrev pub copper_word : Ask → ℕ → Option ℕ
copper_word A.Free word = None
copper_word (A.Side ask) word = None
copper_word (A.Plane ask) word = None
copper_word (A.Sprite ask) word = None
copper_word (A.Copper at) word = Some word
copper_word (A.Blit ask) word = None
copper_word (A.Processor ask) word = None

-- the Copper's step of this clock
abbrev pub copper_after : Beam → Option ℕ → Chips → CopperState
copper_after b fetched c =
    if copper_runs b c then step_copper b (is_busy c) (is_danger c.registers) fetched c.copper else c.copper

-- a blit has one more answer; with that of its last ask it ends: pointers and data registers have the values of the end, and
-- BLIT, bit 6 of INTREQ, is requested
abbrev pub end_blit : BlitUnderWay → Chips → Chips
end_blit run c = record c {
  registers = with_blit (blit_end run.start run.answers) c.registers;
  blit = None;
  zero = blit_zero run.start run.answers;
  irq = after_request 0x40 c.irq;
}

abbrev pub go_on : BlitUnderWay → Chips → Chips
go_on run c = if is_done (ask_of_blit run) then end_blit run c else record c { blit = Some run }

abbrev pub give_blit : ℕ → Option BlitUnderWay → Chips → Chips
give_blit word None c = c
give_blit word (Some run) c = go_on (record run { answers = run.answers ++ word ∷ [] }) c

-- the processor has the word of its access, with which it goes on later in this clock
abbrev pub give_chips : ℕ → Chips → Chips
give_chips word c = record c { processor = give_processor word c.processor }

-- the chips once the owner of the slot has its answer: a fetch moves the pointer of its plane or sprite, a blit goes on, and
-- the processor has its word
abbrev pub answer_owner : Beam → Ask → ℕ → Chips → Chips
answer_owner b A.Free word c = c
answer_owner b (A.Side ask) word c = c
answer_owner b (A.Plane ask) word c =
    record c { registers = move_plane_pointer b.h (last_unit (units_now b c)) ask.plane c.registers }
answer_owner b (A.Sprite ask) word c = record c { registers = move_sprite_pointer (asking_sprite ask) c.registers }
answer_owner b (A.Copper at) word c = c
answer_owner b (A.Blit ask) word c = give_blit word c.blit c
answer_owner b (A.Processor ask) word c = give_chips word c

-- an ask of the processor
abbrev pub is_processor_ask : Ask → Bool
is_processor_ask A.Free = false
is_processor_ask (A.Side ask) = false
is_processor_ask (A.Plane ask) = false
is_processor_ask (A.Sprite ask) = false
is_processor_ask (A.Copper at) = false
is_processor_ask (A.Blit ask) = false
is_processor_ask (A.Processor ask) = true

-- the count of clocks in a row at which the processor asked and did not get the slot, which stands still at 3
abbrev pub missed_after : Option ProcessorAsk → Ask → ℕ → ℕ
missed_after wish ask missed = if is_some wish && not (is_processor_ask ask) then min 3 (missed + 1) else 0

-- the chips once each has its answer
unfoldable pub answer_chips : Beam → Ask → ℕ → Chips → Chips
answer_chips b ask word c = record (answer_owner b ask word c) {
  units = units_now b c;
  kinds = kinds_now b c;
  copper = copper_after b (copper_word ask word) c;
  missed = missed_after (processor_wish c.processor) ask c.missed;
}

-- a MOVE is a write by the Copper
abbrev pub made_by_copper : CopperAct → Made
made_by_copper NoAct = M.Nothing
made_by_copper (Move reg word) = M.Wrote reg word (Some ByCopper)

-- SPRxPOS or, second, SPRxCTL of a sprite
abbrev pub control_register : ℕ → Bool → Reg
control_register sprite second = register_of (0x140 + 8 * sprite + (if second then 2 else 0))

-- a read of CLXDAT by the processor clears the collision bits, and the trace tells it; other reads make nothing
abbrev pub made_by_read : Reg → Made
made_by_read reg = if reg.offset == 0x0e then M.Read reg ByProcessor else M.Nothing

abbrev pub made_by_processor : ProcessorAsk → Made
made_by_processor (P.Read at) = M.Nothing
made_by_processor (P.Write at half word) = M.Stored at half word
made_by_processor (P.ReadRegister reg) = made_by_read reg
made_by_processor (P.WriteRegister reg word) = M.Wrote reg word (Some ByProcessor)

-- a sprite's control word is written to its register, and its image word fills a latch
abbrev pub made_by_sprite : SpriteAsk → ℕ → Made
made_by_sprite (Control sprite second at) word = M.Wrote (control_register sprite second) word None
made_by_sprite (Words sprite second at) word = M.Sprite sprite second at

abbrev pub made_by_side : SideAsk → Made
made_by_side S.Nothing = M.Nothing
made_by_side (S.Disk at stored) = M.Stored at Both stored
made_by_side (S.Audio channel at) = M.Nothing

abbrev pub made_by_blit : SlotAsk → Made
made_by_blit (Read at) = M.Nothing
made_by_blit (Write at stored) = M.Stored at Both stored
made_by_blit Rest = M.Nothing
made_by_blit Done = M.Nothing

-- what an access makes, with the word that answers it, of the chips as they were before
unfoldable pub made_by_ask : Ask → ℕ → Chips → Made
made_by_ask A.Free word c = M.Nothing
made_by_ask (A.Side ask) word c = made_by_side ask
made_by_ask (A.Plane ask) word c = M.Plane ask.plane ask.at
made_by_ask (A.Sprite ask) word c = made_by_sprite ask word
made_by_ask (A.Copper at) word c = made_by_copper (copper_act (is_danger c.registers) (Some word) c.copper)
made_by_ask (A.Blit ask) word c = made_by_blit ask
made_by_ask (A.Processor ask) word c = made_by_processor ask

-- how many words of chip memory an ask reads while its clock runs. The words of plane latches and of a sprite's image are looked
-- up later
abbrev pub reads_of_side : SideAsk → ℕ
reads_of_side S.Nothing = 0
reads_of_side (S.Disk at word) = 0
reads_of_side (S.Audio channel at) = 1

abbrev pub reads_of_sprite : SpriteAsk → ℕ
reads_of_sprite (Control sprite second at) = 1
reads_of_sprite (Words sprite second at) = 0

abbrev pub reads_of_blit : SlotAsk → ℕ
reads_of_blit (Read at) = 1
reads_of_blit (Write at word) = 0
reads_of_blit Rest = 0
reads_of_blit Done = 0

abbrev pub reads_of_processor : ProcessorAsk → ℕ
reads_of_processor (P.Read at) = 1
reads_of_processor (P.Write at half word) = 0
reads_of_processor (P.ReadRegister reg) = 0
reads_of_processor (P.WriteRegister reg word) = 0

abbrev pub reads_of_ask : Ask → ℕ
reads_of_ask A.Free = 0
reads_of_ask (A.Side ask) = reads_of_side ask
reads_of_ask (A.Plane ask) = 0
reads_of_ask (A.Sprite ask) = reads_of_sprite ask
reads_of_ask (A.Copper at) = 1
reads_of_ask (A.Blit ask) = reads_of_blit ask
reads_of_ask (A.Processor ask) = reads_of_processor ask
