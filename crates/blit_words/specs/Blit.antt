-- The fields of the blitter's registers, and what area and line blits share.
use Rattle.std.specs.Prelude.{ℕ, ◌/◌, ◌%◌, Bool, ◌==◌, if◌then◌else◌, ℤ, pos, ◌+ℤ◌, ◌-ℤ◌, unsigned_abs}
use Rattle.std.specs.Int.{int_rem_euclid}
use Rattle.ocs_base.specs.AddressOf.{addr_at}
use Rattle.ocs_base.specs.Span.{span_of}
use Rattle.ocs_base.specs.declared.addr.Addr.{Addr}
use Rattle.blit_words.specs.declared.blit.BlitRegs.{BlitRegs}
use Rattle.blit_words.specs.BlitWords.{is_set}

-- BLTSIZE: bits 15 to 6 are the height, 0 meaning 1024, and bits 5 to 0 the width in words, 0 meaning 64
unfoldable pub height_of : BlitRegs → ℕ
height_of s = if s.size / 64 == 0 then 1024 else s.size / 64

unfoldable pub width_of : BlitRegs → ℕ
width_of s = if s.size % 64 == 0 then 64 else s.size % 64

-- BLTCON0: bits 15 to 12 ASH, 11 USEA, 10 USEB, 9 USEC, 8 USED, 7 to 0 LF
abbrev pub shift_of_a : BlitRegs → ℕ
shift_of_a s = s.con0 / 4096

abbrev pub minterms_of : BlitRegs → ℕ
minterms_of s = s.con0 % 256

-- BLTCON1: bits 15 to 12 BSH, 0 LINE
abbrev pub shift_of_b : BlitRegs → ℕ
shift_of_b s = s.con1 / 4096

abbrev pub is_line : BlitRegs → Bool
is_line s = is_set s.con1 0

-- in an address bit 0 of a modulo counts as 0 (profile)
abbrev pub even_part : ℤ → ℤ
even_part z = z -ℤ int_rem_euclid z (pos 2)

-- the address so many bytes on, or back where the number is negative, modulo the span of the address
unfoldable pub address_on : Addr → ℤ → Addr
address_on a bytes = addr_at a.size (unsigned_abs (int_rem_euclid (pos a.value +ℤ bytes) (pos (span_of a))))
