-- The state of the machine between two colour clocks.
use Rattle.std.specs.Prelude.{ℕ, ◌==◌, Bool, true, false, if◌then◌else◌, List, [], Option, Some, None, is_some}
use Rattle.blit_words.specs.Blitter.{blit_zero}
use Rattle.blit_words.specs.declared.blit.BlitRegs.{BlitRegs}
use Rattle.irq_cia.specs.Cia.{reset_cia}
use Rattle.irq_cia.specs.declared.cia.CiaState.{CiaState}
use Rattle.ocs_base.specs.AddressOf.{addr_at}
use Rattle.ocs_base.specs.declared.beam.Beam.{Beam}
use Rattle.ocs_base.specs.declared.chip_size.ChipSize.{ChipSize}
use Rattle.ocs_base.specs.Memory.{memory_of}
use Rattle.serial_model.specs.declared.copper.CopperState.{CopperState}
use Rattle.serial_model.specs.declared.fetch.SpriteKind.{SpriteKind}
use Rattle.serial_model.specs.declared.picture.Denise.{Denise}
use Rattle.serial_model.specs.declared.registers.Inputs.{Inputs}
use Rattle.serial_model.specs.declared.registers.Live.{Live}
use Rattle.serial_model.specs.declared.trace.TraceLine.{TraceLine}
use Rattle.serial_model.specs.Beam.{first_place}
use Rattle.serial_model.specs.Registers.{Registers, no_registers, word_at}
use Rattle.serial_model.specs.Copper.{copper_from}
use Rattle.irq_cia.specs.Interrupts.{Interrupts, no_interrupts}
use Rattle.serial_model.specs.Picture.{reset_picture}
use Rattle.serial_model.specs.Processor.{Processor, reset_processor}
use Rattle.serial_model.specs.Side.{SideValue}
use Rattle.serial_model.specs.SpriteFetch.{no_kinds}

-- a blit under way: its registers at the start, and the answers of its slots so far, of which only the words that it reads
-- count
pub record BlitUnderWay : Type 0 where
  pub start : BlitRegs
  pub answers : List ℕ

-- the joysticks at rest
abbrev pub no_inputs : Inputs
no_inputs = record {
  joy0 = 0;
  joy1 = 0;
  fire0 = false;
  fire1 = false;
}

-- everything but memory and picture
pub record Chips : Type 0 where
  -- the custom registers, with the size of chip memory
  pub registers : Registers
  -- the clocks of this line at which units of bitplane fetch began, the newest first
  pub units : List ℕ
  -- what each sprite reads on this line
  pub kinds : List SpriteKind
  pub copper : CopperState
  -- the blit under way
  pub blit : Option BlitUnderWay
  -- BZERO as the last blit left it
  pub zero : Bool
  -- INTENA and INTREQ
  pub irq : Interrupts
  pub processor : Processor
  -- for how many clocks in a row the processor asked for the slot and did not get it, at most 3
  pub missed : ℕ
  pub cia_a : CiaState
  pub cia_b : CiaState
  pub inputs : Inputs

pub record State : Type 0 where
  -- the number of colour clocks since reset
  pub t : ℕ
  pub beam : Beam
  -- the words of chip memory
  pub memory : List ℕ
  pub chips : Chips
  -- what stands beside the chips
  pub side : SideValue
  pub picture : Denise
  -- the collision bits gathered since CLXDAT was last read
  pub clx : ℕ
  -- the pixel bytes shown so far
  pub shown : List ℕ
  -- the trace lines so far
  pub trace : List TraceLine

abbrev pub reset_chips : ChipSize → Bool → Chips
reset_chips size cpu = record {
  registers = no_registers size;
  units = [];
  kinds = no_kinds;
  copper = copper_from (addr_at size 0);
  blit = None;
  zero = true;
  irq = no_interrupts;
  processor = reset_processor size cpu;
  missed = 0;
  cia_a = reset_cia;
  cia_b = reset_cia;
  inputs = no_inputs;
}

-- the state at reset with a side as it is then, chip memory of a size, and the processor started or not
unfoldable pub reset : SideValue → List ℕ → ChipSize → Bool → State
reset side image size cpu = record {
  t = 0;
  beam = first_place;
  memory = memory_of size image;
  chips = reset_chips size cpu;
  side = side;
  picture = reset_picture;
  clx = 0;
  shown = [];
  trace = [];
}

-- the blitter is busy while a blit is under way
abbrev pub is_busy : Chips → Bool
is_busy c = is_some c.blit

-- BZERO: of the blit under way, or as the last one left it; it is 1 at reset (profile)
abbrev pub zero_of : Option BlitUnderWay → Bool → Bool
zero_of None zero = zero
zero_of (Some run) zero = blit_zero run.start run.answers

-- what a read sees beside the kept words
abbrev pub live_words : Beam → Chips → Live
live_words b c = record { beam = b; busy = is_busy c; zero = zero_of c.blit c.zero; joy0 = c.inputs.joy0; joy1 = c.inputs.joy1 }

-- what a read of a register gives, where these collision bits were gathered
unfoldable pub read_word : ℕ → Beam → ℕ → Chips → ℕ
read_word offset b clx c =
    if offset == 0x0e then clx
    else if offset == 0x1c then c.irq.ena
    else if offset == 0x1e then c.irq.req
    else word_at (live_words b c) c.registers offset
