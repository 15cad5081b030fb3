-- The points of a line blit, and its asks.
--
-- A blit is its registers at the start and the answers to its asks so far. The answer to a read is the word that was read;
-- any other ask has an answer too, which does not count. The line steps by the axis of the greater distance at each point, and
-- by the other where the accumulator is not negative (Bresenham's algorithm).
use Rattle.std.specs.Prelude.{ℕ, zero, suc, ◌+◌, ◌-◌, ◌*◌, ◌/◌, ◌%◌, ◌^◌, Bool, true, false, ◌&&◌, ◌==◌, nat_lt}
use Rattle.std.specs.Prelude.{if◌then◌else◌, List, length, slice_index, ℤ, pos, negsuc, ◌+ℤ◌, ◌-ℤ◌, bit_and}
use Rattle.std.specs.Int.{w16, cast_signed, cast_unsigned, int_wrap, is_negative}
use Rattle.blit_words.specs.declared.blit.BlitRegs.{BlitRegs}
use Rattle.blit_words.specs.declared.blit.LinePoint.{LinePoint}
use Rattle.blit_words.specs.declared.blit.SlotAsk.{SlotAsk}
use Rattle.blit_words.specs.declared.blit.SlotAsk.TheVariants as S
use Rattle.blit_words.specs.BlitWords.{is_set, minterm_of}
use Rattle.blit_words.specs.Blit.{height_of, shift_of_a, shift_of_b, minterms_of, even_part, address_on}

-- BLTCON0: bits 11 USEA, 9 USEC, 8 USED
abbrev pub uses_sum : BlitRegs → Bool
uses_sum s = is_set s.con0 11

abbrev pub uses_source : BlitRegs → Bool
uses_source s = is_set s.con0 9

abbrev pub uses_target : BlitRegs → Bool
uses_target s = is_set s.con0 8

-- BLTCON1: bits 6 SIGN, 4 SUD, 3 SUL, 2 AUL, 1 SING
abbrev pub sign_at_start : BlitRegs → Bool
sign_at_start s = is_set s.con1 6

abbrev pub is_x_major : BlitRegs → Bool
is_x_major s = is_set s.con1 4

abbrev pub goes_back_sometimes : BlitRegs → Bool
goes_back_sometimes s = is_set s.con1 3

abbrev pub goes_back_always : BlitRegs → Bool
goes_back_always s = is_set s.con1 2

abbrev pub is_single_dot : BlitRegs → Bool
is_single_dot s = is_set s.con1 1

-- ---- the points

-- one step of a point. Left and right go by bits of a word, and to the next word past its edge
unfoldable pub step_right : LinePoint → LinePoint
step_right p =
    if p.shift == 15 then record p { shift = 0; at = address_on p.at (pos 2) } else record p { shift = p.shift + 1 }

unfoldable pub step_left : LinePoint → LinePoint
step_left p =
    if p.shift == 0 then record p { shift = 15; at = address_on p.at (negsuc 1) } else record p { shift = p.shift - 1 }

-- up and down go by BLTCMOD, and begin a row, which has no point yet
unfoldable pub step_down : BlitRegs → LinePoint → LinePoint
step_down s p = record p { at = address_on p.at (even_part s.cmod); dotted = false }

unfoldable pub step_up : BlitRegs → LinePoint → LinePoint
step_up s p = record p { at = address_on p.at (pos 0 -ℤ even_part s.cmod); dotted = false }

abbrev pub step_x : Bool → LinePoint → LinePoint
step_x back p = if back then step_left p else step_right p

abbrev pub step_y : BlitRegs → Bool → LinePoint → LinePoint
step_y s back p = if back then step_up s p else step_down s p

-- where the sign is clear: with SUD set y moves, up with SUL set; with SUD clear x moves, left with SUL set
unfoldable pub step_sometimes : BlitRegs → LinePoint → LinePoint
step_sometimes s p =
    if p.sign then p else (if is_x_major s then step_y s (goes_back_sometimes s) p else step_x (goes_back_sometimes s) p)

-- always: with SUD set x moves, left with AUL set; with SUD clear y moves, up with AUL set
unfoldable pub step_always : BlitRegs → LinePoint → LinePoint
step_always s p = if is_x_major s then step_x (goes_back_always s) p else step_y s (goes_back_always s) p

-- where USEA is set, BLTBMOD is added to the accumulator if the sign is set, else BLTAMOD, modulo 65536; the sign becomes set
-- exactly where the accumulator is negative
unfoldable pub next_sum : BlitRegs → LinePoint → ℤ
next_sum s p = int_wrap w16 (p.sum +ℤ (if p.sign then s.bmod else s.amod))

unfoldable pub add_to_sum : BlitRegs → LinePoint → LinePoint
add_to_sum s p = if uses_sum s then record p { sum = next_sum s p; sign = is_negative (next_sum s p) } else p

-- the point after one that was drawn
unfoldable pub point_after : BlitRegs → LinePoint → LinePoint
point_after s p = add_to_sum s (step_always s (step_sometimes s (record p { dotted = true })))

unfoldable pub first_point : BlitRegs → LinePoint
first_point s = record {
  at = s.cpt;
  shift = shift_of_a s;
  sum = cast_signed w16 s.aptl;
  sign = sign_at_start s;
  dotted = false;
}

-- point k of the line, counted from 0
unfoldable pub line_point : BlitRegs → ℕ → LinePoint
line_point s zero = first_point s
line_point s (suc k) = point_after s (line_point s k)

-- ---- the words

-- the dot: BLTADAT under BLTAFWM, shifted to the point's bit; none where SING allows one point a row and the row has one
unfoldable pub dot_of : BlitRegs → LinePoint → ℕ
dot_of s p = if is_single_dot s && p.dotted then 0 else bit_and s.adat s.afwm / 2 ^ p.shift

-- the texture: bit (BSH - k) modulo 16 of BLTBDAT, in all bits of the word
unfoldable pub texture_of : BlitRegs → ℕ → ℕ
texture_of s k = if is_set s.bdat ((shift_of_b s + 15 * k) % 16) then 0xffff else 0

-- what BLTCDAT holds after the reads of k points: each has four asks, of which the second reads
unfoldable pub source_after : BlitRegs → List ℕ → ℕ → ℕ
source_after s ws zero = s.cdat
source_after s ws (suc k) = if uses_source s then slice_index ws (4 * k + 1) else s.cdat

-- the result of point k
unfoldable pub point_word : BlitRegs → List ℕ → ℕ → ℕ
point_word s ws k = minterm_of (minterms_of s) (dot_of s (line_point s k)) (texture_of s k) (source_after s ws (suc k))

-- ---- the asks

-- the asks of a point are a rest, the read of C, a rest and the write of D; C or D is a rest where it is unused (profile)
abbrev pub read_ask : BlitRegs → ℕ → SlotAsk
read_ask s k = if uses_source s then S.Read (line_point s k).at else S.Rest

abbrev pub write_ask : BlitRegs → List ℕ → ℕ → SlotAsk
write_ask s ws k = if uses_target s then S.Write (line_point s k).at (point_word s ws k) else S.Rest

abbrev pub point_ask : BlitRegs → List ℕ → ℕ → ℕ → SlotAsk
point_ask s ws k place = if place == 1 then read_ask s k else (if place == 3 then write_ask s ws k else S.Rest)

-- how many points have all their answers
abbrev pub points_done : List ℕ → ℕ
points_done ws = length ws / 4

-- the ask after these answers: the number of points is the height, and the width is not looked at
unfoldable pub line_ask : BlitRegs → List ℕ → SlotAsk
line_ask s ws =
    if nat_lt (points_done ws) (height_of s) then point_ask s ws (points_done ws) (length ws % 4) else S.Done

-- ---- BZERO and the registers

-- whether the results of the first k points are all 0
unfoldable pub points_are_zero : BlitRegs → List ℕ → ℕ → Bool
points_are_zero s ws zero = true
points_are_zero s ws (suc k) = points_are_zero s ws k && (point_word s ws k == 0)

-- BZERO: it becomes 0 with the fourth ask of a point whose result is not 0, also where D is unused
unfoldable pub line_zero : BlitRegs → List ℕ → Bool
line_zero s ws = points_are_zero s ws (points_done ws)

-- The registers after these answers; at the end these stay. BLTCPT and BLTDPT have the point's address and BLTAPTL the
-- accumulator; BLTCDAT has the word that the last point read where USEC is set, and the other data registers are as they
-- were (profile).
unfoldable pub line_end : BlitRegs → List ℕ → BlitRegs
line_end s ws =
    let p = line_point s (points_done ws) in
    record s {
      cpt = p.at;
      dpt = p.at;
      aptl = cast_unsigned w16 p.sum;
      cdat = source_after s ws ((length ws + 2) / 4);
    }
