-- What a word makes of its inputs and of what the word before it left.
use Rattle.std.specs.Prelude.{ℕ, ◌+◌, Bool, if◌then◌else◌, count_ones}
use Rattle.blit_words.specs.declared.blit.BlitRegs.{BlitRegs}
use Rattle.blit_words.specs.declared.blit.WordAsk.{WordAsk}
use Rattle.blit_words.specs.declared.blit.WordAsk.TheVariants.{A, B, C, D, Rest}
use Rattle.blit_words.specs.BlitWords.{minterm_of, shifted_input, masked_word, filled_word, one_if}
use Rattle.blit_words.specs.Blit.{width_of, shift_of_a, shift_of_b, minterms_of}
use Rattle.blit_words.specs.AreaBlit.{is_descending, is_filling, is_exclusive}
use Rattle.blit_words.specs.Parity.{is_carry}
use Rattle.blitter_area.specs.declared.data_path.Words.{Words}
use Rattle.blitter_area.specs.declared.data_path.Past.{Past}
use Rattle.blitter_area.specs.declared.data_path.Outcome.{Outcome}

-- the data registers once an ask is answered
abbrev pub words_with : WordAsk → ℕ → Words → Words
words_with A word w = record w { a = word }
words_with B word w = record w { b = word }
words_with C word w = record w { c = word }
words_with D word w = w
words_with Rest word w = w

-- the minterm of the inputs, with A already masked
unfoldable pub joined_by : BlitRegs → Past → Words → ℕ
joined_by s past w =
    minterm_of (minterms_of s) (shifted_input (is_descending s) (shift_of_a s) past.a w.a)
    (shifted_input (is_descending s) (shift_of_b s) past.b w.b) w.c

abbrev pub mask_words : BlitRegs → ℕ → Words → Words
mask_words s c w = record w { a = masked_word s.afwm s.alwm (width_of s) c w.a }

-- a result with fill, and one without, from the minterm
abbrev pub outcome_filled : Bool → Past → Words → ℕ → Outcome
outcome_filled exclusive past w joined = record {
  word = filled_word exclusive (one_if past.carry) joined;
  past = record { a = w.a; b = w.b; carry = is_carry (one_if past.carry + count_ones joined) };
}

abbrev pub outcome_plain : Past → Words → ℕ → Outcome
outcome_plain past w joined = record { word = joined; past = record { a = w.a; b = w.b; carry = past.carry } }

abbrev pub outcome_in : BlitRegs → Past → Words → ℕ → Outcome
outcome_in s past w joined =
    if is_filling s then outcome_filled (is_exclusive s) past w joined else outcome_plain past w joined

-- the result of a word in column c, and what it leaves for the next in its row
abbrev pub outcome_of : BlitRegs → Past → ℕ → Words → Outcome
outcome_of s past c w = outcome_in s past (mask_words s c w) (joined_by s past (mask_words s c w))

-- what is kept of that: of a copied word A alone, which is the result
abbrev pub past_after : Bool → Past → Outcome → Past
past_after copied past ready = if copied then record past { a = ready.word } else ready.past
