-- The rows with a source, a destination and a result.
use Rattle.std.proofs.Common.{◌≡◌, ℕ, Bool, true, false, if◌then◌else◌, Option, Some, None, refl, sym, subst}
use Rattle.m68k_opcodes.specs.declared.operand.Size.{Size}
use Rattle.m68k_opcodes.specs.declared.operand.Mode.{Mode}
use Rattle.m68k_opcodes.specs.declared.instr.Instr.{Instr}
use Rattle.m68k_opcodes.specs.Clocks.{number}
use Rattle.m68k_opcodes.specs.Table.{clocks_at}
use Rattle.m68k_decode.specs.declared.place.Place68.{Place68}
use Rattle.m68k_decode.specs.declared.place.Place68.TheVariants as D
use Rattle.m68k_decode.specs.declared.regs.CpuRegs.{CpuRegs}
use Rattle.m68k_decode.specs.declared.trap.Trap.{Trap}
use Rattle.m68k_decode.specs.Places.{extensions}
use Rattle.m68k_decode.specs.Access.{Prog}
use Rattle.m68k_decode.specs.Run.{Run, with_regs, place, load}
use Rattle.m68k_decode.specs.RowData.{dest_size, source_size, has_source, source_mode, constant, has_dest}
use Rattle.m68k_decode.specs.RowData.{dest_mode, takes_old, writes, target, trap_of, trap_ea}
use Rattle.m68k_decode.specs.General as G
use Rattle.m68k_time.proofs.Fits.{more, loads, with_source, with_dest, result_words}
use Rattle.m68k_time.proofs.Counting.{BeginsWith, Holds}
use Rattle.m68k_time.proofs.Parts.{words_at, place_holds, load_holds, store_holds}

-- ---- the result

-- the exception that the operands make, where they make one
abbrev pub Breaks : ℕ → ℕ → ℕ → Option Trap → Type 0
Breaks e k ea None = Unit {0}
Breaks e k ea (Some kind) = BeginsWith e k kind ea

completed_holds : (P : ℕ → ℕ → ℕ → Type 0) (e k l : ℕ) (trap : Option Trap) (i : Instr) (p : Place68) (value clocks : ℕ) (s : Run)
    → ((w : ℕ) → P (more (words_at (target i p) (dest_size i)) k) w clocks)
    → Breaks e k (trap_ea i) trap
    → Holds s.taking P e k l (G.completed trap i p value clocks s)
unfolding G.completed
completed_holds P e k l None i p value clocks s h begins = store_holds P e k l s (dest_size i) (target i p) value clocks h
completed_holds P e k l (Some kind) i p value clocks s h begins = begins

-- what the instruction does at its end, whatever the count, and where it is broken off
pub record Closes (P : ℕ → ℕ → ℕ → Type 0) (e k : ℕ) (i : Instr) (s : Run) (words : ℕ) : Type 0 where
  pub ends : (w x : ℕ) → P (more words k) w (number (clocks_at s.opcode) x)
  pub begins : (value old : ℕ) → Breaks e k (trap_ea i) (trap_of i value old)

compute_holds : (P : ℕ → ℕ → ℕ → Type 0) (e k l : ℕ) (i : Instr) (value : ℕ) (p : Place68) (old : ℕ) (s : Run)
    → Closes P e k i s (words_at (target i p) (dest_size i)) → Holds s.taking P e k l (G.compute i value p old s)
unfolding G.compute
compute_holds P e k l i value p old s h =
    completed_holds P e k l (trap_of i value old) i p _ _ _ (λ w. h.ends w _) (h.begins value old)

-- ---- the destination

old_holds : (P : ℕ → ℕ → ℕ → Type 0) (e k l : ℕ) (b : Bool) (s : Run) (z : Size) (p : Place68) (c : ℕ → Prog)
    → ((old w : ℕ) → Holds s.taking P e (if b then more (words_at p z) k else k) w (c old)) → Holds s.taking P e k l (if b then load s z false p c else c 0)
old_holds P e k l true s z p c h = load_holds P e k l s z false p c h
old_holds P e k l false s z p c h = h 0 l

-- what follows the old value of the destination
abbrev Then : (ℕ → ℕ → ℕ → Type 0) → ℕ → ℕ → Run → Size → ℕ → (Place68 → ℕ → Run → Prog) → Type 0
Then P e k s z n c = (p : Place68) (regs : CpuRegs) (old w : ℕ) → words_at p z ≡ n → Holds s.taking P e k w (c p old (with_regs s regs))

dest_step : (P : ℕ → ℕ → ℕ → Type 0) (e k l : ℕ) (has takes : Bool) (s : Run) (z : Size) (m : Mode) (c : Place68 → ℕ → Run → Prog)
    → Then P e (if has then (if takes then more (loads m z) (more (extensions m z) k) else more (extensions m z) k) else k) s z (if has then loads m z else 0) c
    → Holds s.taking P e k l (if has then place s z m (λ p t. if takes then load t z false p (λ old. c p old t) else c p 0 t) else c (D.Value 0) 0 s)
dest_step P e k l true takes s z m c h =
    place_holds P e k l s z m _ (λ p regs v fits. old_holds P e (more (extensions m z) k) v takes (with_regs s regs) z p (λ old. c p old (with_regs s regs))
    (λ old w. subst (λ n. Holds s.taking P e (if takes then more n (more (extensions m z) k) else more (extensions m z) k) w (c p old (with_regs s regs)))
    (sym fits) (h p regs old w fits)))
dest_step P e k l false takes s z m c h = h (D.Value 0) s.regs 0 l refl

target_words : (b has : Bool) (z : Size) (n : ℕ) (p : Place68) → words_at p z ≡ (if has then n else 0)
    → words_at (if b then p else D.Value 0) z ≡ (if b then (if has then n else 0) else 0)
target_words true has z n p h = h
target_words false has z n p h = refl

dest_holds : (P : ℕ → ℕ → ℕ → Type 0) (e k l : ℕ) (i : Instr) (value : ℕ) (s : Run)
    → Closes P e (with_dest i k) i s (result_words i) → Holds s.taking P e k l (G.dest i value s)
unfolding G.dest G.with_dest with_dest result_words
dest_holds P e k l i value s h =
    dest_step P e k l (has_dest i) (takes_old i) s (dest_size i) (dest_mode i) (λ p old t. G.compute i value p old t)
    (λ p regs old w fits. compute_holds P e (with_dest i k) w i value p old (with_regs s regs)
    (subst (λ n. Closes P e (with_dest i k) i (with_regs s regs) n)
    (sym (target_words (writes i) (has_dest i) (dest_size i) (loads (dest_mode i) (dest_size i)) p fits))
    (record { ends = h.ends; begins = h.begins })))

-- ---- the source

source_step : (P : ℕ → ℕ → ℕ → Type 0) (e k l : ℕ) (has program : Bool) (s : Run) (z : Size) (m : Mode) (first : ℕ) (c : ℕ → Run → Prog)
    → ((value : ℕ) (regs : CpuRegs) (w : ℕ) → Holds s.taking P e (if has then more (loads m z) (more (extensions m z) k) else k) w (c value (with_regs s regs)))
    → Holds s.taking P e k l (if has then place s z m (λ p t. load t z program p (λ value. c value t)) else c first s)
source_step P e k l true program s z m first c h =
    place_holds P e k l s z m _ (λ p regs v fits.
    load_holds P e (more (extensions m z) k) v (with_regs s regs) z program p (λ value. c value (with_regs s regs))
    (λ value w. subst (λ n. Holds s.taking P e (more n (more (extensions m z) k)) w (c value (with_regs s regs))) (sym fits) (h value regs w)))
source_step P e k l false program s z m first c h = h first s.regs l

-- What a row does at its end, after the accesses of its operands, and where it is broken off.
pub general_holds : (P : ℕ → ℕ → ℕ → Type 0) (e k l : ℕ) (i : Instr) (s : Run)
    → Closes P e (with_dest i (with_source i k)) i s (result_words i) → Holds s.taking P e k l (G.general i s)
unfolding G.general G.with_source with_source
general_holds P e k l i s h =
    source_step P e k l (has_source i) (G.is_program (source_mode i)) s (source_size i) (source_mode i) (constant i) (λ value t. G.dest i value t)
    (λ value regs w. dest_holds P e (with_source i k) w i value (with_regs s regs) (record { ends = h.ends; begins = h.begins }))
