-- Laws of the asks: which access reads CLXDAT, and that no other looks at the collision bits.
use Rattle.std.specs.Prelude.{◌≡◌, ℕ, ◌==◌, Bool, false, List}
use Rattle.ocs_base.specs.declared.beam.Beam.{Beam}
use Rattle.serial_model.specs.Bus.{answer_to, made_by_ask}
use Rattle.serial_model.specs.Made.{is_clx_read}
use Rattle.serial_model.specs.State.{Chips}
use Rattle.serial_model.specs.declared.bus.Ask.{Ask}
use Rattle.serial_model.specs.declared.bus.Ask.TheVariants as A
use Rattle.serial_model.specs.declared.bus.ProcessorAsk.{ProcessorAsk}
use Rattle.serial_model.specs.declared.bus.ProcessorAsk.TheVariants as P

-- the processor asks to read CLXDAT
abbrev pub reads_clx : ProcessorAsk → Bool
reads_clx (P.Read at) = false
reads_clx (P.Write at half word) = false
reads_clx (P.ReadRegister reg) = reg.offset == 0x0e
reads_clx (P.WriteRegister reg word) = false

-- the owner of a slot does, which is the processor then
abbrev pub is_clx_ask : Ask → Bool
is_clx_ask A.Free = false
is_clx_ask (A.Side ask) = false
is_clx_ask (A.Plane ask) = false
is_clx_ask (A.Sprite ask) = false
is_clx_ask (A.Copper at) = false
is_clx_ask (A.Blit ask) = false
is_clx_ask (A.Processor ask) = reads_clx ask

-- an access is a read of CLXDAT exactly where its owner asks for it
abbrev pub IsClxRead : Type 0
IsClxRead = (ask : Ask) (word : ℕ) (c : Chips) → is_clx_read (made_by_ask ask word c) ≡ is_clx_ask ask

-- and the word that answers another ask does not depend on the collision bits
abbrev pub ClxCountsForItAlone : Type 0
ClxCountsForItAlone = (ask : Ask) (b : Beam) (clx other : ℕ) (c : Chips) (memory : List ℕ) → is_clx_ask ask ≡ false →
    answer_to ask b clx c memory ≡ answer_to ask b other c memory
