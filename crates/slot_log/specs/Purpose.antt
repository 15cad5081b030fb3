-- Who has a slot and what for, and the codes that the log has of them.
use Rattle.std.specs.Prelude.{ℕ, ◌+◌, false, true}
use Rattle.serial_model.specs.declared.bus.Half.TheVariants.{Both, High, Low}
use Rattle.slot_log.specs.declared.purpose.Purpose.{Purpose}
use Rattle.slot_log.specs.declared.purpose.Purpose.TheVariants as P

-- the table of codes
abbrev pub code_of : Purpose → ℕ
code_of P.Free = 0
code_of P.Refresh = 1
code_of P.BlitterRests = 2
code_of P.CopperReads = 3
code_of P.BlitterReads = 4
code_of P.BlitterWrites = 5
code_of P.ProcessorReads = 6
code_of (P.ProcessorWrites Both) = 7
code_of (P.ProcessorWrites High) = 8
code_of (P.ProcessorWrites Low) = 9
code_of P.ProcessorReadsRegister = 10
code_of P.ProcessorWritesRegister = 11
code_of P.DiskWrites = 12
code_of (P.AudioReads channel) = 16 + channel
code_of (P.PlaneReads plane) = 32 + plane
code_of (P.ControlOfSprite sprite false) = 40 + sprite
code_of (P.ControlOfSprite sprite true) = 48 + sprite
code_of (P.ImageOfSprite sprite false) = 56 + sprite
code_of (P.ImageOfSprite sprite true) = 64 + sprite
