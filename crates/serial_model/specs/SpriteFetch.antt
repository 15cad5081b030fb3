-- Sprite fetch: what each sprite reads on a line, and its two slots.
use Rattle.std.specs.Prelude.{ℕ, ◌+◌, ◌-◌, ◌*◌, ◌/◌, ◌%◌, Bool, not, ◌&&◌, ◌||◌, ◌==◌, nat_le, nat_lt}
use Rattle.std.specs.Prelude.{if◌then◌else◌, List, replicate, get_or, slice_set, Option, Some, None}
use Rattle.ocs_base.specs.declared.addr.Addr.{Addr}
use Rattle.ocs_base.specs.declared.beam.Beam.{Beam}
use Rattle.serial_model.specs.declared.fetch.SpriteAsk.{SpriteAsk}
use Rattle.serial_model.specs.declared.fetch.SpriteAsk.TheVariants as A
use Rattle.serial_model.specs.declared.fetch.SpriteKind.{SpriteKind}
use Rattle.serial_model.specs.declared.fetch.SpriteKind.TheVariants.{Nothing, Control, Words}
use Rattle.serial_model.specs.Beam.{is_line_start}
use Rattle.serial_model.specs.PlaneFetch.{move_pointer}
use Rattle.irq_cia.specs.Bits.{has_bits}
use Rattle.serial_model.specs.Registers.{kept_word, dmacon_of, pointer_at, Registers}

-- DMAEN and SPREN of DMACON are both set
abbrev pub sprite_dma : Registers → Bool
sprite_dma registers = has_bits (dmacon_of registers) 0x220

-- SPRxPOS and SPRxCTL of a sprite
abbrev pub position_word : Registers → ℕ → ℕ
position_word registers sprite = kept_word registers (0x140 + 8 * sprite)

abbrev pub control_word : Registers → ℕ → ℕ
control_word registers sprite = kept_word registers (0x142 + 8 * sprite)

-- VSTART: bits 15 to 8 of SPRxPOS, with SV8, bit 2 of SPRxCTL
abbrev pub sprite_start : ℕ → ℕ → ℕ
sprite_start pos ctl = pos / 256 + 256 * (ctl / 4 % 2)

-- VSTOP: bits 15 to 8 of SPRxCTL, with EV8, its bit 1
abbrev pub sprite_stop : ℕ → ℕ
sprite_stop ctl = ctl / 256 + 256 * (ctl / 2 % 2)

-- the first line on which sprites read their control words
abbrev pub first_sprite_line : ℕ
first_sprite_line = 25

abbrev pub is_control_line : ℕ → ℕ → Bool
is_control_line v ctl = (v == first_sprite_line) || (nat_lt first_sprite_line v && (v == sprite_stop ctl))

abbrev pub is_image_line : ℕ → ℕ → ℕ → Bool
is_image_line v pos ctl =
    nat_lt first_sprite_line v && nat_le (sprite_start pos ctl) v && nat_lt v (sprite_stop ctl)

-- what a sprite with these words reads on line v
abbrev pub kind_by : ℕ → ℕ → ℕ → SpriteKind
kind_by v pos ctl = if is_control_line v ctl then Control else if is_image_line v pos ctl then Words else Nothing

-- what a sprite reads on line v by the registers as they are now: nothing while DMA is off
abbrev pub kind_of : ℕ → Registers → ℕ → SpriteKind
kind_of v registers sprite =
    if sprite_dma registers then kind_by v (position_word registers sprite) (control_word registers sprite) else Nothing

-- the slots of the sprites, two for each: clocks 15 and 17 (hexadecimal) for sprite 0, and four clocks on for the next
abbrev pub is_sprite_slot : ℕ → Bool
is_sprite_slot h = nat_le 0x15 h && nat_le h 0x33 && (h % 2 == 1)

abbrev pub is_second_slot : ℕ → Bool
is_second_slot h = h % 4 == 3

abbrev pub sprite_of : ℕ → ℕ
sprite_of h = (h - 0x15) / 4

-- no sprite's kind is known yet
abbrev pub no_kinds : List SpriteKind
no_kinds = replicate 8 Nothing

-- each sprite's kind for this line: none at the line's start, and decided at the sprite's first slot
unfoldable pub kinds_at : Beam → Registers → List SpriteKind → List SpriteKind
kinds_at b registers kinds =
    let before = if is_line_start b then no_kinds else kinds in
    if is_sprite_slot b.h && not (is_second_slot b.h)
    then slice_set before (sprite_of b.h) (kind_of b.v registers (sprite_of b.h))
    else before

-- the sprite that may fetch at clock h: in its slot and while DMA is on. `taken` says that a bitplane has the slot, which the sprite
-- then loses (profile)
abbrev pub sprite_in_slot : ℕ → Registers → Bool → Option ℕ
sprite_in_slot h registers taken =
    if is_sprite_slot h && sprite_dma registers && not taken then Some (sprite_of h) else None

-- the high word of a sprite's pointer: SPR0PTH to SPR7PTH
abbrev pub sprite_pointer : ℕ → ℕ
sprite_pointer sprite = 0x120 + 4 * sprite

-- what a sprite of this kind asks for, in its first or its second slot
abbrev pub ask_by_kind : SpriteKind → Bool → Registers → ℕ → Option SpriteAsk
ask_by_kind Nothing second registers sprite = None
ask_by_kind Control second registers sprite = Some (A.Control sprite second (pointer_at registers (sprite_pointer sprite)))
ask_by_kind Words second registers sprite = Some (A.Words sprite second (pointer_at registers (sprite_pointer sprite)))

abbrev pub ask_in_slot : Option ℕ → ℕ → Registers → List SpriteKind → Option SpriteAsk
ask_in_slot None h registers kinds = None
ask_in_slot (Some sprite) h registers kinds = ask_by_kind (get_or kinds sprite Nothing) (is_second_slot h) registers sprite

-- what the sprites ask of the bus, where the kinds of this line, with this clock's, are these
abbrev pub sprite_ask : ℕ → Registers → List SpriteKind → Bool → Option SpriteAsk
sprite_ask h registers kinds taken = ask_in_slot (sprite_in_slot h registers taken) h registers kinds

-- the sprite that asks
abbrev pub asking_sprite : SpriteAsk → ℕ
asking_sprite (A.Control sprite second at) = sprite
asking_sprite (A.Words sprite second at) = sprite

-- the address of the word that it asks for
abbrev pub sprite_address : SpriteAsk → Addr
sprite_address (A.Control sprite second at) = at
sprite_address (A.Words sprite second at) = at

-- the fetch of a sprite moves its pointer
abbrev pub move_sprite_pointer : ℕ → Registers → Registers
move_sprite_pointer sprite registers = move_pointer (sprite_pointer sprite) 0 registers

abbrev pub move_if_asked : Option SpriteAsk → Registers → Registers
move_if_asked None registers = registers
move_if_asked (Some ask) registers = move_sprite_pointer (asking_sprite ask) registers

-- what the fetch of clock h, if there is one, does to the registers
abbrev pub move_sprites : ℕ → List SpriteKind → Bool → Registers → Registers
move_sprites h kinds taken registers = move_if_asked (sprite_ask h registers kinds taken) registers
