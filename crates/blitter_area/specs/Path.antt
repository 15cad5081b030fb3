-- The data path that a blit keeps ready, and what it makes of a word.
use Rattle.std.specs.Prelude.{◌≡◌, ℕ, ◌+◌, true, if◌then◌else◌}
use Rattle.blit_words.specs.declared.blit.BlitRegs.{BlitRegs}
use Rattle.blit_words.specs.BlitWords.{minterm_of, shifted_input, masked_word}
use Rattle.blit_words.specs.Blit.{width_of, shift_of_a, shift_of_b, minterms_of}
use Rattle.blit_words.specs.AreaBlit.{is_descending, is_filling, is_exclusive, code_of}
use Rattle.blitter_area.specs.declared.data_path.DataPath.{DataPath}
use Rattle.blitter_area.specs.declared.data_path.Words.{Words}
use Rattle.blitter_area.specs.declared.data_path.Past.{Past}
use Rattle.blitter_area.specs.declared.data_path.Outcome.{Outcome}
use Rattle.blitter_area.specs.Data.{outcome_filled, outcome_plain}

-- a data path made ready for a blit
pub record IsPathOf (d : DataPath) (s : BlitRegs) : Type 0 where
  pub minterms : d.minterms.lf ≡ minterms_of s
  pub descending : d.descending ≡ is_descending s
  pub shift_a : d.shift_a ≡ shift_of_a s
  pub shift_b : d.shift_b ≡ shift_of_b s
  pub first_mask : d.first_mask ≡ s.afwm
  pub last_mask : d.last_mask ≡ s.alwm
  pub last_column : d.last_column + 1 ≡ width_of s
  pub fills : d.fills ≡ is_filling s
  pub exclusive : d.exclusive ≡ is_exclusive s
  -- it copies only from A to D
  pub copies : d.copies ≡ true → code_of s ≡ 9

-- the minterm of the inputs, with A already masked
abbrev pub joined_with : DataPath → Past → Words → ℕ
joined_with d past w =
    minterm_of d.minterms.lf (shifted_input d.descending d.shift_a past.a w.a)
    (shifted_input d.descending d.shift_b past.b w.b) w.c

abbrev pub mask_with : DataPath → ℕ → Words → Words
mask_with d c w = record w { a = masked_word d.first_mask d.last_mask (d.last_column + 1) c w.a }

-- the result of a word in column c, and what it leaves for the next in its row
abbrev pub outcome_with : DataPath → Past → ℕ → Words → Outcome
outcome_with d past c w =
    let masked = mask_with d c w in
    let joined = joined_with d past masked in
    if d.fills then outcome_filled d.exclusive past masked joined else outcome_plain past masked joined
