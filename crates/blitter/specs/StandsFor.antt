-- What a blit of either kind stands for.
use Rattle.std.specs.Prelude.{ℕ, List}
use Rattle.blit_words.specs.declared.blit.BlitRegs.{BlitRegs}
use Rattle.blit_words.specs.declared.blit.SlotAsk.{SlotAsk}
use Rattle.blitter_area.specs.Walk.{Stands as AreaStands, shown as area_shown}
use Rattle.blitter_line.specs.Walk.{Stands as LineStands, shown as line_shown}
use Rattle.blitter.specs.declared.Blit.{Blit}
use Rattle.blitter.specs.declared.Blit.TheVariants.{Area, Line}

-- a blit stands for its registers at the start and the answers so far
abbrev pub StandsFor : Blit → BlitRegs → List ℕ → Type 0
StandsFor (Area blit) s ws = AreaStands blit s ws
StandsFor (Line blit) s ws = LineStands blit s ws

-- the ask that it shows
abbrev pub slot_shown : Blit → SlotAsk
slot_shown (Area blit) = area_shown blit
slot_shown (Line blit) = line_shown blit

-- a fact about whatever a blit stands for
abbrev pub ForWhatItStands : Blit → (BlitRegs → List ℕ → Type 0) → Type 0
ForWhatItStands b P = (s : BlitRegs) (ws : List ℕ) → StandsFor b s ws → P s ws
