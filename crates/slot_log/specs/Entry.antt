-- What the log of slots has of one clock.
use Rattle.std.specs.Prelude.{ℕ, ◌%◌, if◌then◌else◌, Option, Some, None}
use Rattle.blit_words.specs.declared.blit.SlotAsk.{SlotAsk}
use Rattle.blit_words.specs.declared.blit.SlotAsk.TheVariants.{Read, Write, Rest, Done}
use Rattle.ocs_base.specs.declared.addr.Addr.{Addr}
use Rattle.serial_model.specs.declared.bus.Ask.{Ask}
use Rattle.serial_model.specs.declared.bus.Ask.TheVariants as A
use Rattle.serial_model.specs.declared.bus.ProcessorAsk.{ProcessorAsk}
use Rattle.serial_model.specs.declared.bus.ProcessorAsk.TheVariants as P
use Rattle.serial_model.specs.declared.bus.SideAsk.{SideAsk}
use Rattle.serial_model.specs.declared.bus.SideAsk.TheVariants as S
use Rattle.serial_model.specs.declared.fetch.SpriteAsk.{SpriteAsk}
use Rattle.serial_model.specs.declared.fetch.SpriteAsk.TheVariants.{Control, Words}
use Rattle.serial_model.specs.Owner.{is_refresh}
use Rattle.serial_model.specs.SpriteFetch.{sprite_address}
use Rattle.slot_log.specs.declared.entry.Entry.{Entry}
use Rattle.slot_log.specs.declared.purpose.Purpose.{Purpose}
use Rattle.slot_log.specs.declared.purpose.Purpose.TheVariants.{Free, Refresh, BlitterRests, CopperReads, BlitterReads, BlitterWrites}
use Rattle.slot_log.specs.declared.purpose.Purpose.TheVariants.{ProcessorReads, ProcessorWrites, ProcessorReadsRegister, ProcessorWritesRegister}
use Rattle.slot_log.specs.declared.purpose.Purpose.TheVariants.{DiskWrites, AudioReads, PlaneReads, ControlOfSprite, ImageOfSprite}

-- An entry is: who has the slot and what for; the address of the word in chip memory, or the offset of the register; and the word that
-- is moved, which is the answer where one is read.
abbrev pub moved_entry : Purpose → ℕ → ℕ → Entry
moved_entry purpose address word = record { purpose = purpose; address = address; word = word }

-- nothing is accessed
abbrev pub idle_entry : Purpose → Entry
idle_entry purpose = moved_entry purpose 0 0

abbrev pub free_entry : ℕ → Entry
free_entry h = idle_entry (if is_refresh h then Refresh else Free)

-- The numbers of channels, planes and sprites count by their remainder: the machine has no others.
abbrev pub side_entry : ℕ → SideAsk → Entry
side_entry answer S.Nothing = idle_entry Free
side_entry answer (S.Disk at word) = moved_entry DiskWrites at.value word
side_entry answer (S.Audio channel at) = moved_entry (AudioReads (channel % 4)) at.value answer

abbrev pub sprite_entry : ℕ → SpriteAsk → Entry
sprite_entry answer (Control sprite second at) = moved_entry (ControlOfSprite (sprite % 8) second) at.value answer
sprite_entry answer (Words sprite second at) = moved_entry (ImageOfSprite (sprite % 8) second) at.value answer

abbrev pub blit_entry : ℕ → SlotAsk → Entry
blit_entry answer (Read at) = moved_entry BlitterReads at.value answer
blit_entry answer (Write at word) = moved_entry BlitterWrites at.value word
blit_entry answer Rest = idle_entry BlitterRests
blit_entry answer Done = idle_entry BlitterRests

-- of a byte that is written the word is that byte
abbrev pub processor_entry : ℕ → ProcessorAsk → Entry
processor_entry answer (P.Read at) = moved_entry ProcessorReads at.value answer
processor_entry answer (P.Write at half word) = moved_entry (ProcessorWrites half) at.value word
processor_entry answer (P.ReadRegister reg) = moved_entry ProcessorReadsRegister reg.offset answer
processor_entry answer (P.WriteRegister reg word) = moved_entry ProcessorWritesRegister reg.offset word

-- at a clock of the line, with the word that answers what the owner of the slot asks for
abbrev pub entry_of : ℕ → ℕ → Ask → Entry
entry_of h answer A.Free = free_entry h
entry_of h answer (A.Side ask) = side_entry answer ask
entry_of h answer (A.Plane ask) = moved_entry (PlaneReads (ask.plane % 8)) ask.at.value answer
entry_of h answer (A.Sprite ask) = sprite_entry answer ask
entry_of h answer (A.Copper at) = moved_entry CopperReads at.value answer
entry_of h answer (A.Blit ask) = blit_entry answer ask
entry_of h answer (A.Processor ask) = processor_entry answer ask

-- the address of the word of chip memory that the owner of the slot reads
abbrev pub side_address : SideAsk → Option Addr
side_address S.Nothing = None
side_address (S.Disk at word) = None
side_address (S.Audio channel at) = Some at

abbrev pub blit_address : SlotAsk → Option Addr
blit_address (Read at) = Some at
blit_address (Write at word) = None
blit_address Rest = None
blit_address Done = None

abbrev pub processor_address : ProcessorAsk → Option Addr
processor_address (P.Read at) = Some at
processor_address (P.Write at half word) = None
processor_address (P.ReadRegister reg) = None
processor_address (P.WriteRegister reg word) = None

abbrev pub read_address : Ask → Option Addr
read_address A.Free = None
read_address (A.Side ask) = side_address ask
read_address (A.Plane ask) = Some ask.at
read_address (A.Sprite ask) = Some (sprite_address ask)
read_address (A.Copper at) = Some at
read_address (A.Blit ask) = blit_address ask
read_address (A.Processor ask) = processor_address ask
