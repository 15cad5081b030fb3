-- The status register: its flags, its masks, the conditions, and what an exception makes of it.
use Rattle.std.specs.Prelude.{ℕ, Bool, true, false, not, ◌&&◌, ◌==◌, ◌+◌, ◌*◌, ◌/◌, ◌%◌, if◌then◌else◌, nat_le, bit_and}
use Rattle.m68k_opcodes.specs.declared.instr.Instr.{Instr}
use Rattle.m68k_opcodes.specs.declared.instr.Instr.TheVariants as I
use Rattle.m68k_decode.specs.declared.outcome.Flags.{Flags}
use Rattle.m68k_decode.specs.declared.trap.Trap.{Trap}
use Rattle.m68k_decode.specs.declared.trap.Trap.TheVariants as T
use Rattle.m68k_decode.specs.Registers.{has_supervisor}
use Rattle.m68k_decode.specs.Results.{one_if}

-- ---- flags

-- the flags of a status register: bits 4 to 0 are X, N, Z, V, C
unfoldable pub flags_of : ℕ → Flags
flags_of sr =
    record { x = sr / 16 % 2 == 1; n = sr / 8 % 2 == 1; z = sr / 4 % 2 == 1; v = sr / 2 % 2 == 1; c = sr % 2 == 1 }

-- the status register with other flags
unfoldable pub with_flags : ℕ → Flags → ℕ
with_flags sr f = sr / 32 * 32 + 16 * one_if f.x + 8 * one_if f.n + 4 * one_if f.z + 2 * one_if f.v + one_if f.c

-- the status register with the flags of a word's low five bits
unfoldable pub with_code : ℕ → ℕ → ℕ
with_code sr word = sr / 32 * 32 + word % 32

-- the bits of a word that the status register keeps
unfoldable pub kept_status : ℕ → ℕ
kept_status word = bit_and word 0xa71f

-- ---- conditions: 0 T, 2 HI, 4 CC, 6 NE, 8 VC, A PL, C GE, E GT; an odd one is the contrary of the even one before it

abbrev pub even_condition : ℕ → Flags → Bool
even_condition pair f =
    if pair == 0 then true
    else (if pair == 1 then not f.c && not f.z
    else (if pair == 2 then not f.c
    else (if pair == 3 then not f.z
    else (if pair == 4 then not f.v
    else (if pair == 5 then not f.n
    else (if pair == 6 then (if f.n then f.v else not f.v)
    else (if f.n then f.v else not f.v) && not f.z))))))

unfoldable pub condition : ℕ → Flags → Bool
condition c f = if c % 2 == 1 then not (even_condition (c / 2) f) else even_condition (c / 2) f

-- ---- privilege, trace, interrupts

-- the instructions that only the supervisor may use: STOP, RESET, RTE, MOVE to SR, the SR operations, MOVE USP
unfoldable pub needs_supervisor : Instr → Bool
needs_supervisor (I.ImmediateToStatus which) = nat_le 3 which
needs_supervisor (I.MoveToStatus which mode) = which == 1
needs_supervisor (I.MoveUsp d r) = true
needs_supervisor (I.ResetNopStopRte which) = not (which == 1)
needs_supervisor _ = false

-- the trace bit
abbrev pub has_trace : ℕ → Bool
has_trace sr = sr / 32768 % 2 == 1

-- the level up to which interrupts are masked
abbrev pub mask_of : ℕ → ℕ
mask_of sr = sr / 256 % 8

-- ---- the entry of an exception sets S and clears the trace bit, and an interrupt sets the mask to its level

abbrev pub untraced : ℕ → ℕ
untraced sr = sr % 32768

abbrev pub supervised : ℕ → ℕ
supervised sr = if has_supervisor sr then sr else sr + 8192

unfoldable pub with_mask : ℕ → ℕ → ℕ
with_mask sr level = sr / 2048 * 2048 + level % 8 * 256 + sr % 256

unfoldable pub entered_status : Trap → ℕ → ℕ
entered_status (T.Interrupt level) sr = with_mask (supervised (untraced sr)) level
entered_status _ sr = supervised (untraced sr)
