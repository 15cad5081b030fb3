-- The row of asks that a blit keeps.
use Rattle.std.specs.Prelude.{◌≡◌, ℕ, ◌+◌, nat_lt, if◌then◌else◌}
use Rattle.blit_words.specs.declared.blit.BlitRegs.{BlitRegs}
use Rattle.blit_words.specs.declared.blit.WordAsk.{WordAsk}
use Rattle.blit_words.specs.declared.blit.WordAsk.TheVariants.{D, Rest}
use Rattle.blit_words.specs.Blit.{height_of}
use Rattle.blit_words.specs.AreaBlit.{asks_in, code_of, asks_per_word, word_ask, is_used}
use Rattle.blitter_area.specs.declared.asks.AskRow.{AskRow}
use Rattle.blitter_area.specs.Rows.{pad_row}

-- the asks of each word of a blit, the place of the last, and that of the last which is not the write
pub record IsRowOf (r : AskRow) (s : BlitRegs) : Type 0 where
  pub asks : r.asks ≡ pad_row (asks_in (code_of s))
  pub last : r.last + 1 ≡ asks_per_word s
  pub last_input : (if is_used s D then r.last_input + 1 else r.last_input) ≡ r.last

-- an ask is that at a place of whatever blit the row is of
abbrev pub AsksAt : AskRow → ℕ → WordAsk → Type 0
AsksAt r place ask = (s : BlitRegs) → IsRowOf r s → ask ≡ word_ask s place

-- the ask at a place of a word in a row, and a rest where all rows are done
abbrev pub ask_in_row : BlitRegs → ℕ → ℕ → WordAsk
ask_in_row s row place = if nat_lt row (height_of s) then word_ask s place else Rest
