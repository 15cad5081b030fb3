-- An entry while an address error is being taken is the same entry while none is, but that it halts where the other has an
-- address error.
use Rattle.std.proofs.Common.{◌≡◌, ℕ, ◌*◌, ◌%◌, ◌==◌, Bool, true, false, if◌then◌else◌, List, [], ◌∷◌, refl, sym, subst}
use Rattle.m68k_opcodes.specs.declared.operand.Size.TheVariants as S
use Rattle.m68k_decode.specs.declared.regs.CpuRegs.{CpuRegs}
use Rattle.m68k_decode.specs.declared.trap.Trap.{Trap}
use Rattle.m68k_decode.specs.declared.trap.Trap.TheVariants as T
use Rattle.m68k_decode.specs.declared.under.Under.{Under}
use Rattle.m68k_decode.specs.declared.under.Under.TheVariants as U
use Rattle.m68k_decode.specs.Frames.{frame_of, vector_of}
use Rattle.m68k_decode.specs.Access.{Access, Read, Write, Prog, Ask, End, Enter, Halt}
use Rattle.m68k_decode.specs.Run.{Run, with_stack, stack_of, address_before, address_after, fault, read_word, read, write_word}
use Rattle.m68k_decode.specs.Entries.{is_instruction, handled, vectored, pushes, entry}
use Rattle.m68k_decode.specs.Walk.{program, entering}
use Rattle.m68k_time.specs.Time.{ComesTo}

-- a program is the entry of an address error
pub record IsError (p : Prog) : Type 0 where
  pub at : ℕ
  pub opcode : ℕ
  pub read : Bool
  pub program_space : Bool
  pub instruction : Bool
  pub regs : CpuRegs
  pub same : p ≡ Enter regs (U.Entry (T.AddressError at opcode read program_space instruction) 0 true)

-- the two programs ask the same and end together, and where the first is broken off it halts and the second has an error
abbrev pub Twins : CpuRegs → Prog → Prog → Type 0
Twins r (Ask a k) q = (j : ℕ → Prog) × (q ≡ Ask a j) × ((w : ℕ) → Twins r (k w) (j w))
Twins r (End t s u) q = (v : Under) × (q ≡ End t s v)
Twins r (Enter s u) q = (Enter s u ≡ Enter r U.Halted) × IsError q
Twins r Halt q = ⊥

-- the second comes to an error after some answers
pub record ErrorAfter (q : Prog) (ws : List ℕ) : Type 0 where
  pub at : ℕ
  pub opcode : ℕ
  pub read : Bool
  pub program_space : Bool
  pub instruction : Bool
  pub regs : CpuRegs
  pub comes : ComesTo q ws (Enter regs (U.Entry (T.AddressError at opcode read program_space instruction) 0 true))

error_now : (q : Prog) → IsError q → ErrorAfter q []
error_now q e =
    record {
      at = e.at;
      opcode = e.opcode;
      read = e.read;
      program_space = e.program_space;
      instruction = e.instruction;
      regs = e.regs;
      comes = e.same;
    }

asked_error : (q : Prog) (a : Access) (j : ℕ → Prog) (w : ℕ) (ws : List ℕ) → q ≡ Ask a j → ErrorAfter (j w) ws → ErrorAfter q (w ∷ ws)
asked_error q a j w ws same e =
    subst (λ p. ErrorAfter p (w ∷ ws)) (sym same) (record {
      at = e.at;
      opcode = e.opcode;
      read = e.read;
      program_space = e.program_space;
      instruction = e.instruction;
      regs = e.regs;
      comes = e.comes;
    })

pub halt_is_error : (r : CpuRegs) (p q : Prog) (ws : List ℕ) (r' : CpuRegs) → Twins r p q → ComesTo p ws (Enter r' U.Halted) → ErrorAfter q ws
halt_is_error r (Ask a k) q [] r' twins here = cc
halt_is_error r (Ask a k) q (w ∷ ws) r' twins here =
    asked_error q a twins.0 w ws twins.1 (halt_is_error r (k w) (twins.0 w) ws r' (twins.2 w) here)
halt_is_error r (End t s u) q [] r' twins here = cc
halt_is_error r (End t s u) q (w ∷ ws) r' twins here = absurd here
halt_is_error r (Enter s u) q [] r' twins here = error_now q twins.1
halt_is_error r (Enter s u) q (w ∷ ws) r' twins here = absurd here
halt_is_error r Halt q ws r' twins here = absurd twins

-- what is broken off does not ask, and has no end
asks_none : (q : Prog) (a : Access) (j : ℕ → Prog) (s : CpuRegs) (u : Under) → q ≡ Ask a j → q ≡ Enter s u → ⊥
asks_none q a j s u x y = cc

ends_none : (q : Prog) (t : ℕ) (v : CpuRegs) (u' : Under) (s : CpuRegs) (u : Under) → q ≡ End t v u' → q ≡ Enter s u → ⊥
ends_none q t v u' s u x y = cc

pub error_is_halt : (r : CpuRegs) (p q : Prog) (ws : List ℕ) (s : CpuRegs) (u : Under) → Twins r p q → ComesTo q ws (Enter s u)
    → ComesTo p ws (Enter r U.Halted)
error_is_halt r (Ask a k) q [] s u twins here = absurd (asks_none q a twins.0 s u twins.1 here)
error_is_halt r (Ask a k) q (w ∷ ws) s u twins here =
    error_is_halt r (k w) (twins.0 w) ws s u (twins.2 w) (subst (λ p. ComesTo p (w ∷ ws) (Enter s u)) twins.1 here)
error_is_halt r (End t v u') q [] s u twins here = absurd (ends_none q t v twins.0 s u twins.1 here)
error_is_halt r (End t v u') q (w ∷ ws) s u twins here = absurd (subst (λ p. ComesTo p (w ∷ ws) (Enter s u)) twins.1 here)
error_is_halt r (Enter v u') q [] s u twins here = twins.0
error_is_halt r (Enter v u') q (w ∷ ws) s u twins here = absurd (subst (λ p. ComesTo p (w ∷ ws) (Enter s u)) twins.1.same here)
error_is_halt r Halt q ws s u twins here = absurd twins

-- ---- the parts of an entry

-- what began with r, at some registers
abbrev run : CpuRegs → CpuRegs → Bool → Bool → Run
run r regs instruction taking = record { start = r; regs = regs; opcode = 0; taking = taking; instruction = instruction }

fault_twins : (r regs : CpuRegs) (instruction : Bool) (at : ℕ) (reads program_space : Bool)
    → Twins r (fault (run r regs instruction true) at reads program_space) (fault (run r regs instruction false) at reads program_space)
unfolding fault
fault_twins r regs instruction at reads program_space = (
  refl,
  record {
    at = at;
    opcode = 0;
    read = reads;
    program_space = program_space;
    instruction = instruction;
    regs = record r { pc = regs.pc };
    same = refl;
  },
)

odd_twins : (odd : Bool) (r : CpuRegs) (p q : Prog) (a : Access) (k j : ℕ → Prog) → Twins r p q → ((w : ℕ) → Twins r (k w) (j w))
    → Twins r (if odd then p else Ask a k) (if odd then q else Ask a j)
odd_twins true r p q a k j broken on = broken
odd_twins false r p q a k j broken on = (j, refl, on)

read_word_twins : (r regs : CpuRegs) (instruction program_space : Bool) (at : ℕ) (k j : ℕ → Prog) → ((w : ℕ) → Twins r (k w) (j w))
    → Twins r (read_word (run r regs instruction true) program_space at k) (read_word (run r regs instruction false) program_space at j)
unfolding read_word
read_word_twins r regs instruction program_space at k j on =
    odd_twins (at % 2 == 1) r _ _ (Read at false) k j (fault_twins r regs instruction at true program_space) on

write_word_twins : (r regs : CpuRegs) (instruction : Bool) (at word : ℕ) (p q : Prog) → Twins r p q
    → Twins r (write_word (run r regs instruction true) at word p) (write_word (run r regs instruction false) at word q)
unfolding write_word
write_word_twins r regs instruction at word p q on =
    odd_twins (at % 2 == 1) r _ _ (Write at false word) (λ _. p) (λ _. q) (fault_twins r regs instruction at false false) (λ _. on)

vectored_twins : (r regs : CpuRegs) (instruction : Bool) (kind : Trap) (ea at : ℕ)
    → Twins r (vectored kind ea at (run r regs instruction true)) (vectored kind ea at (run r regs instruction false))
unfolding vectored read handled
vectored_twins r regs instruction kind ea at =
    let stacked : CpuRegs = (with_stack (run r regs instruction true) at).regs in
    read_word_twins r stacked instruction false (4 * vector_of kind) _ _ (λ high.
    read_word_twins r stacked instruction false (address_after S.Word (4 * vector_of kind)) _ _ (λ low. (U.Instruction false, refl)))

pushes_twins : (r regs : CpuRegs) (instruction : Bool) (kind : Trap) (ea at : ℕ) (ws : List ℕ)
    → Twins r (pushes kind ea at ws (run r regs instruction true)) (pushes kind ea at ws (run r regs instruction false))
unfolding pushes
pushes_twins r regs instruction kind ea at [] = vectored_twins r regs instruction kind ea at
pushes_twins r regs instruction kind ea at (w ∷ ws) =
    write_word_twins r regs instruction (address_before S.Word at) w _ _ (pushes_twins r regs instruction kind ea (address_before S.Word at) ws)

pub entry_twins : (r : CpuRegs) (kind : Trap) (ea : ℕ) → Twins r (program r (U.Entry kind ea true)) (program r (U.Entry kind ea false))
unfolding program entry
entry_twins r kind ea =
    pushes_twins r (entering r kind true).regs (is_instruction kind) kind ea (stack_of (entering r kind true)) (frame_of kind r)
