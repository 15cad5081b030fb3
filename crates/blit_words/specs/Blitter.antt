-- A blit of either kind: from the registers that start it to the registers that it leaves.
use Rattle.std.specs.Prelude.{ℕ, Bool, true, false, if◌then◌else◌, List}
use Rattle.blit_words.specs.declared.blit.BlitRegs.{BlitRegs}
use Rattle.blit_words.specs.declared.blit.SlotAsk.{SlotAsk}
use Rattle.blit_words.specs.declared.blit.SlotAsk.TheVariants.{Read, Write, Rest, Done}
use Rattle.blit_words.specs.Blit.{is_line}
use Rattle.blit_words.specs.AreaBlit.{area_ask, area_zero, area_end}
use Rattle.blit_words.specs.LineBlit.{line_ask, line_zero, line_end}

-- the ask of a blit after these answers; LINE, bit 0 of BLTCON1, makes it a line
unfoldable pub blit_ask : BlitRegs → List ℕ → SlotAsk
blit_ask s ws = if is_line s then line_ask s ws else area_ask s ws

-- a blit that asks for no slot any more has ended
abbrev pub is_done : SlotAsk → Bool
is_done (Read at) = false
is_done (Write at word) = false
is_done Rest = false
is_done Done = true

-- BZERO, which is 1 from the start on
unfoldable pub blit_zero : BlitRegs → List ℕ → Bool
blit_zero s ws = if is_line s then line_zero s ws else area_zero s ws

-- the registers that it leaves when all its asks have answers
unfoldable pub blit_end : BlitRegs → List ℕ → BlitRegs
blit_end s ws = if is_line s then line_end s ws else area_end s ws
