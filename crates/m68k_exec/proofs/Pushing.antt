-- The words of a frame, one after another.
use Rattle.std.proofs.Common.{◌≡◌, ◌≤◌, ◌<◌, ℕ, suc, ◌+◌, List, ◌∷◌, length, drop, get_or, Some, None, refl, ◌∙◌, arith, drop-cons}
use Rattle.std.specs.List.{slice_get}
use Rattle.std.proofs.lemmas.Option.{slice_get_read, slice_get_past, slice_get_cases, slice_get_within, get_or_from_slice_get}
use Rattle.std.proofs.lemmas.List.{drop_all}
use Rattle.m68k_opcodes.specs.declared.operand.Size.TheVariants as S
use Rattle.m68k_decode.specs.declared.regs.CpuRegs.{CpuRegs}
use Rattle.m68k_decode.specs.declared.trap.Trap.{Trap}
use Rattle.m68k_decode.specs.declared.trap.Trap.TheVariants as T
use Rattle.m68k_decode.specs.Frames.{frame_of}
use Rattle.m68k_decode.specs.Run.{Run, write_word, address_before}
use Rattle.m68k_decode.specs.Entries.{pushes, vectored}

-- a frame has seven words at most
pub frame_short : (kind : Trap) (regs : CpuRegs) → length (frame_of kind regs) ≤ 7
frame_short (T.AddressError at opcode read program instruction) regs = omega arith
frame_short _ regs = omega arith

pub within_frame : (kind : Trap) (regs : CpuRegs) (n w : ℕ) → slice_get (frame_of kind regs) n ≡ Some w → n < 7
within_frame kind regs n w e = omega (arith, slice_get_within (frame_of kind regs) n w e, frame_short kind regs)

pub pushes_word : (kind : Trap) (ea at n w : ℕ) (s : Run) (words : List ℕ) → slice_get words n ≡ Some w
    → pushes kind ea at (drop n words) s ≡ write_word s (address_before S.Word at) w (pushes kind ea (address_before S.Word at) (drop (n + 1) words) s)
unfolding pushes
pushes_word kind ea at n w s words e =
    let within : n < length words = slice_get_within words n w e in
    let this : get_or words n 0 ≡ w = get_or_from_slice_get words n w 0 e in
    let next : suc n ≡ n + 1 = omega arith in
    let cut : drop n words ≡ w ∷ drop (n + 1) words = drop-cons words n 0 within ∙ rw (this, next) refl in
    rw cut refl

-- no word is there past the end
past : (words : List ℕ) (n : ℕ) → slice_get words n ≡ None → length words ≤ n
past words n e = grind (arith, slice_get_cases words n)

pub pushes_end : (kind : Trap) (ea at n : ℕ) (s : Run) (words : List ℕ) → slice_get words n ≡ None → pushes kind ea at (drop n words) s ≡ vectored kind ea at s
unfolding pushes
pushes_end kind ea at n s words e = rw (drop_all n words (past words n e)) refl

-- ---- a list's element, or none past its end

pub get_within : (words same : List ℕ) (n w : ℕ) → same ≡ words → n < length words → w ≡ get_or words n w → slice_get same n ≡ Some w
get_within words same n w e h this = rw e (slice_get_read words (length words) n w refl h this)

pub get_past : (words same : List ℕ) (n : ℕ) → same ≡ words → length words ≤ n → slice_get same n ≡ None
get_past words same n e h = rw e (slice_get_past words n h)
