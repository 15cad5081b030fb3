-- The word of a custom register that answers an ask.
use Rattle.std.specs.Prelude.{ℕ, Option, Some, None}
use Rattle.serial_model.specs.declared.bus.Ask.{Ask}
use Rattle.serial_model.specs.declared.bus.Ask.TheVariants as A
use Rattle.serial_model.specs.declared.bus.ProcessorAsk.{ProcessorAsk}
use Rattle.serial_model.specs.declared.bus.ProcessorAsk.TheVariants as P

-- the word that answers an ask, where it is that of a custom register, which the processor alone reads
abbrev pub word_of_processor : ProcessorAsk → ℕ → Option ℕ
word_of_processor (P.Read at) word = None
word_of_processor (P.Write at half stored) word = None
word_of_processor (P.ReadRegister reg) word = Some word
word_of_processor (P.WriteRegister reg stored) word = None

abbrev pub register_read : Ask → ℕ → Option ℕ
register_read A.Free word = None
register_read (A.Side ask) word = None
register_read (A.Plane ask) word = None
register_read (A.Sprite ask) word = None
register_read (A.Copper at) word = None
register_read (A.Blit ask) word = None
register_read (A.Processor ask) word = word_of_processor ask word
