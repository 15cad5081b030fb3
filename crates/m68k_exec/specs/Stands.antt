-- The processor between two accesses stands for registers, what is under way, and the answers since it began.
use Rattle.std.specs.Prelude.{◌≡◌, ℕ, Bool, true, false, if◌then◌else◌, List, length, min, Option, Some, None}
use Rattle.m68k_decode.specs.declared.regs.CpuRegs.{CpuRegs}
use Rattle.m68k_decode.specs.declared.under.Under.{Under}
use Rattle.m68k_decode.specs.Access.{Next, Asks, Ends, Halts, Read, Write, after}
use Rattle.m68k_decode.specs.Walk.{Stage, program, settled, is_traced}
use Rattle.m68k_exec.specs.declared.ask.Ask.{Ask}
use Rattle.m68k_exec.specs.declared.ask.Ask.TheVariants as A
use Rattle.m68k_exec.specs.declared.state.Step.{Step}
use Rattle.m68k_exec.specs.declared.state.Step.TheVariants as T
use Rattle.m68k_exec.specs.declared.state.Cpu.{Cpu}
use Rattle.m68k_exec.specs.Meaning.{meaning}

-- the registers and what is under way are those of the begin; what is left of the walk is what follows the answers
pub record Stands (c : Cpu) (r : CpuRegs) (u : Under) (ws : List ℕ) : Type 0 where
  pub regs : c.context.start ≡ r
  pub same : meaning c.context c.machine ≡ after (program r u) ws
  pub done : c.done ≡ min (length ws) 4294967295
  pub traced : c.traced ≡ is_traced r u

abbrev pub StandsFor : Cpu → Stage → Type 0
StandsFor c stage = Stands c stage.regs stage.under stage.answers

-- the same for a stage, with the level of the interrupt that begins with it
pub record Reaches (c : Cpu) (begins : Option ℕ) (stage : Stage) : Type 0 where
  pub stands : StandsFor c stage
  pub level : begins ≡ stage.begins

-- the level of the interrupt that begins, if one does
abbrev pub interrupt_if : Bool → ℕ → Option ℕ
interrupt_if begins level = if begins then Some level else None

-- what an access leads to once its answer is the last of these: where something ended or was broken off with it, what follows
abbrev pub settled_at : CpuRegs → Under → List ℕ → ℕ → Stage
settled_at r u ws level = settled (after (program r u) ws) r u ws level

-- what the processor asks for, by what is next
abbrev pub wanted : Next → Ask
wanted (Asks (Read at byte)) = A.Read at byte
wanted (Asks (Write at byte word)) = A.Write at byte word
wanted (Ends r idle u) = A.Idle idle
wanted Halts = A.Halted

-- the address of the word that an ask reads; the read of a byte is another ask
abbrev pub word_read : Ask → Option ℕ
word_read (A.Read at byte) = if byte then None else Some at
word_read (A.Write at byte word) = None
word_read (A.Idle clocks) = None
word_read A.Halted = None

-- whether the processor is halted
abbrev pub is_halted_step : Step → Bool
is_halted_step T.Halted = true
is_halted_step _ = false

abbrev pub is_halted : Cpu → Bool
is_halted c = is_halted_step c.machine.step
