-- A blit shows the ask of what it stands for.
use Rattle.std.proofs.Common.{◌≡◌, ℕ, List}
use Rattle.blit_words.specs.declared.blit.BlitRegs.{BlitRegs}
use Rattle.blit_words.specs.Blitter.{blit_ask}
use Rattle.blitter_area.proofs.Walking.{shows as area_shows}
use Rattle.blitter_line.proofs.Walking.{shows as line_shows}
use Rattle.blitter.specs.StandsFor.{StandsFor, slot_shown}
use Rattle.blitter.specs.declared.Blit.{Blit}
use Rattle.blitter.specs.declared.Blit.TheVariants.{Area, Line}

pub slot_shown-is : (b : Blit) (s : BlitRegs) (ws : List ℕ) → StandsFor b s ws → slot_shown b ≡ blit_ask s ws
slot_shown-is (Area blit) s ws stands = area_shows blit s ws stands
slot_shown-is (Line blit) s ws stands = line_shows blit s ws stands
