-- Accesses, and what the processor does one access after another.
use Rattle.std.specs.Prelude.{ℕ, Bool, List, [], ◌∷◌, ◌-◌, ◌*◌, ◌/◌}
use Rattle.m68k_decode.specs.declared.regs.CpuRegs.{CpuRegs}
use Rattle.m68k_decode.specs.declared.under.Under.{Under}

-- An access. A read is answered with the whole word; a byte read takes the half that its address says. What a byte write
-- writes is the byte.
pub data Access : Type 0 where
  Read : (at : ℕ) (byte : Bool) → Access
  Write : (at : ℕ) (byte : Bool) (word : ℕ) → Access

pub data Prog : Type 0 where
  -- an access, and what follows its answer
  Ask : Access → (ℕ → Prog) → Prog
  -- the end of what was under way: its number of clocks, the registers, and what is under way next
  End : ℕ → CpuRegs → Under → Prog
  -- what was under way is broken off, and this begins with these registers
  Enter : CpuRegs → Under → Prog
  -- no access any more
  Halt : Prog

-- what follows these answers
abbrev pub after : Prog → List ℕ → Prog
after (End t r u) ws = End t r u
after (Enter r u) ws = Enter r u
after Halt ws = Halt
after (Ask a k) [] = Ask a k
after (Ask a k) (w ∷ ws) = after (k w) ws

-- what the processor does next
pub data Next : Type 0 where
  -- it makes an access
  Asks : Access → Next
  -- it ends after so many idle colour clocks, with these registers, and this is under way next
  Ends : CpuRegs → ℕ → Under → Next
  -- it does nothing any more
  Halts : Next

-- the colour clocks that a number of clocks leaves after so many accesses of two colour clocks each
abbrev pub idle_clocks : ℕ → ℕ → ℕ
idle_clocks clocks accesses = (clocks - 4 * accesses) / 2

-- what is next, after so many accesses
abbrev pub next_of : Prog → ℕ → Next
next_of (Ask a k) accesses = Asks a
next_of (End t r u) accesses = Ends r (idle_clocks t accesses) u
next_of (Enter r u) accesses = Ends r 0 u
next_of Halt accesses = Halts
