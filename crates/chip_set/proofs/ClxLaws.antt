-- Which accesses read CLXDAT, and that the others do not look at the collision bits.
use Rattle.std.proofs.Common.{◌≡◌, ℕ, ◌==◌, Bool, true, false, if◌then◌else◌, List, refl, ap, sym, ◌∙◌}
use Rattle.blit_words.specs.declared.blit.SlotAsk.TheVariants.{Read, Write, Rest, Done}
use Rattle.ocs_base.specs.declared.beam.Beam.{Beam}
use Rattle.ocs_base.specs.declared.reg.Reg.{Reg}
use Rattle.serial_model.specs.Bus.{answer_to, answer_processor, made_by_ask, made_by_copper, made_by_processor}
use Rattle.serial_model.specs.Made.{is_clx_read}
use Rattle.serial_model.specs.State.{Chips, read_word}
use Rattle.serial_model.specs.declared.bus.Ask.{Ask}
use Rattle.serial_model.specs.declared.bus.Ask.TheVariants as A
use Rattle.serial_model.specs.declared.bus.Made.TheVariants as M
use Rattle.serial_model.specs.declared.bus.ProcessorAsk.{ProcessorAsk}
use Rattle.serial_model.specs.declared.bus.ProcessorAsk.TheVariants as P
use Rattle.serial_model.specs.declared.bus.SideAsk.TheVariants as S
use Rattle.serial_model.specs.declared.copper.CopperAct.{CopperAct}
use Rattle.serial_model.specs.declared.copper.CopperAct.TheVariants.{None as NoAct, Move}
use Rattle.serial_model.specs.declared.fetch.SpriteAsk.TheVariants.{Control, Words}
use Rattle.serial_model.specs.declared.trace.Source.TheVariants.{Processor as ByProcessor}
use Rattle.chip_set.specs.AskLaws.{reads_clx, is_clx_ask}

-- the Copper reads no register
by_copper : (act : CopperAct) → is_clx_read (made_by_copper act) ≡ false
by_copper NoAct = refl
by_copper (Move reg word) = refl

by_read : (clxdat : Bool) (reg : Reg) → reg.offset == 0x0e ≡ clxdat
    → is_clx_read (if clxdat then M.Read reg ByProcessor else M.Nothing) ≡ clxdat
by_read true reg is = is
by_read false reg is = refl

by_processor : (ask : ProcessorAsk) → is_clx_read (made_by_processor ask) ≡ reads_clx ask
by_processor (P.Read at) = refl
by_processor (P.Write at half word) = refl
by_processor (P.ReadRegister reg) = by_read (reg.offset == 0x0e) reg refl
by_processor (P.WriteRegister reg word) = refl

pub clx_read : (ask : Ask) (word : ℕ) (c : Chips) → is_clx_read (made_by_ask ask word c) ≡ is_clx_ask ask
unfolding made_by_ask
clx_read A.Free word c = refl
clx_read (A.Side S.Nothing) word c = refl
clx_read (A.Side (S.Disk at stored)) word c = refl
clx_read (A.Side (S.Audio channel at)) word c = refl
clx_read (A.Plane ask) word c = refl
clx_read (A.Sprite (Control sprite second at)) word c = refl
clx_read (A.Sprite (Words sprite second at)) word c = refl
clx_read (A.Copper at) word c = by_copper _
clx_read (A.Blit (Read at)) word c = refl
clx_read (A.Blit (Write at stored)) word c = refl
clx_read (A.Blit Rest) word c = refl
clx_read (A.Blit Done) word c = refl
clx_read (A.Processor ask) word c = by_processor ask

-- of the reads of registers that of CLXDAT alone looks at the collision bits
other_word : (clxdat : Bool) (clx other word : ℕ) → clxdat ≡ false → (if clxdat then clx else word) ≡ (if clxdat then other else word)
other_word clxdat clx other word is =
    ap (λ b. if b then clx else word) is ∙ sym (ap (λ b. if b then other else word) is)

processor_alone : (ask : ProcessorAsk) (b : Beam) (clx other : ℕ) (c : Chips) (memory : List ℕ) → reads_clx ask ≡ false
    → answer_processor ask b clx c memory ≡ answer_processor ask b other c memory
unfolding read_word
processor_alone (P.Read at) b clx other c memory none = refl
processor_alone (P.Write at half word) b clx other c memory none = refl
processor_alone (P.ReadRegister reg) b clx other c memory none = other_word (reg.offset == 0x0e) clx other _ none
processor_alone (P.WriteRegister reg word) b clx other c memory none = refl

pub clx_alone : (ask : Ask) (b : Beam) (clx other : ℕ) (c : Chips) (memory : List ℕ) → is_clx_ask ask ≡ false
    → answer_to ask b clx c memory ≡ answer_to ask b other c memory
clx_alone A.Free b clx other c memory none = refl
clx_alone (A.Side ask) b clx other c memory none = refl
clx_alone (A.Plane ask) b clx other c memory none = refl
clx_alone (A.Sprite ask) b clx other c memory none = refl
clx_alone (A.Copper at) b clx other c memory none = refl
clx_alone (A.Blit ask) b clx other c memory none = refl
clx_alone (A.Processor ask) b clx other c memory none = processor_alone ask b clx other c memory none
