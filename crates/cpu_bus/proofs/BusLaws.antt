-- What the processor waits for, and its halt.
use Rattle.std.proofs.Common.{◌≡◌, ◌<◌, ℕ, ◌%◌, Bool, true, false, nat_lt, not, ◌&&◌, ◌==◌, if◌then◌else◌, List, [], ◌∷◌, ◌++◌, Option, arith, refl, ap, subst, sym, ◌∙◌, Some, None, length}
use Rattle.std.proofs.lemmas.Bool.{false≢true}
use Rattle.std.proofs.lemmas.Bool.Decides.{nat_tests}
use Rattle.m68k_decode.specs.declared.regs.CpuRegs.{CpuRegs}
use Rattle.m68k_decode.specs.declared.under.Under.{Under}
use Rattle.m68k_decode.specs.Access.{Prog, Ask, End, Enter, Halt, Next, Asks, Ends, Halts, Read, Write, after, next_of}
use Rattle.m68k_decode.specs.Walk.{Stage, program, next, advance, answered, settled, stage}
use Rattle.m68k_exec.specs.declared.ask.Ask.{Ask as Access}
use Rattle.m68k_exec.specs.declared.ask.Ask.TheVariants as A
use Rattle.m68k_exec.specs.declared.state.Cpu.{Cpu}
use Rattle.m68k_exec.proofs.Following.{after_more}
use Rattle.m68k_exec.specs.Meaning.{follow}
use Rattle.m68k_exec.specs.Stands.{Stands, Reaches, wanted, word_read, settled_at}
use Rattle.ocs_base.proofs.Registers.{same_register}
use Rattle.ocs_base.specs.declared.chip_size.ChipSize.{ChipSize}
use Rattle.ocs_base.specs.declared.chip_size.ChipSize.TheVariants.{Kib512, Mib1}
use Rattle.ocs_base.specs.AddressOf.{addr_at}
use Rattle.ocs_base.specs.Register.{register_of}
use Rattle.ocs_base.specs.Sizes.{bytes_of}
use Rattle.serial_model.specs.declared.bus.ProcessorAsk.TheVariants as P
use Rattle.serial_model.specs.declared.processor.Target.TheVariants as G
use Rattle.serial_model.specs.declared.processor.Wait.TheVariants as W
use Rattle.serial_model.specs.Processor.{Processor, slot_wish, processor_wish, processor_wait, stage_after, wait_of, target_of, target_at, read_wait, write_wait, half_of}
use Rattle.cpu_bus.specs.declared.BusCpu.{BusCpu}
use Rattle.cpu_bus.specs.Bus.{IsProcessorOf, GoesOn, is_slot, wait_by, wish_shown}

-- it waits for what the working processor asks for
pub wait_is : (chip : ChipSize) (n : Next) → wait_of chip n ≡ wait_by chip (wanted n)
unfolding wait_of wait_by
wait_is chip (Asks (Read at byte)) = refl
wait_is chip (Asks (Write at byte word)) = refl
wait_is chip (Ends r idle u) = refl
wait_is chip Halts = refl

-- what reads a word is known by its address
asks_word : (a : Access) (at : ℕ) → Some at ≡ word_read a → a ≡ A.Read at false
asks_word (A.Read n false) at is = let e : n ≡ at = cc in ap (λ x. A.Read x false) e
asks_word (A.Read n true) at is = cc
asks_word (A.Write n byte word) at is = cc
asks_word (A.Idle clocks) at is = cc
asks_word A.Halted at is = cc

target_below : (chip : ChipSize) (a : ℕ) (b : Bool) → a < bytes_of chip → target_at chip a b ≡ G.Memory (addr_at chip a)
target_below chip a b below = let so : nat_lt a (bytes_of chip) ≡ true = grind (arith, nat_tests) in rw so refl

-- the first 512 KiB are in chip memory of each size
in_each_size : (chip : ChipSize) (a : ℕ) → a < 524288 → a < bytes_of chip
in_each_size Kib512 a below = below
in_each_size Mib1 a below = omega (arith, below)

-- a word of the first 512 KiB of chip memory waits for its slot, to be read
pub word_waits : (chip : ChipSize) (n : Next) (at a : ℕ) → Some at ≡ word_read (wanted n) → a ≡ at % 16777216 → a < 524288
    → wait_of chip n ≡ W.Slot (P.Read (addr_at chip a))
unfolding wait_by target_of
word_waits chip n at a is low below =
    wait_is chip n ∙ ap (wait_by chip) (asks_word (wanted n) at is)
    ∙ ap (λ x. read_wait (target_at chip x false)) (sym low) ∙ ap read_wait (target_below chip a false (in_each_size chip a below))

-- and to be written
pub write_waits : (chip : ChipSize) (n : Next) (at a word : ℕ) (byte : Bool) → A.Write at byte word ≡ wanted n → a ≡ at % 16777216
    → a < 524288 → wait_of chip n ≡ W.Slot (P.Write (addr_at chip a) (half_of at byte) word)
unfolding wait_by target_of
write_waits chip n at a word byte is low below =
    wait_is chip n ∙ ap (wait_by chip) (sym is) ∙ ap (λ x. write_wait at byte word (target_at chip x byte)) (sym low)
    ∙ ap (write_wait at byte word) (target_below chip a byte (in_each_size chip a below))

-- idle clocks are waited for
pub idle_waits : (chip : ChipSize) (n : Next) (clocks : ℕ) → A.Idle clocks ≡ wanted n → wait_of chip n ≡ W.Idle clocks
unfolding wait_by
idle_waits chip n clocks is = wait_is chip n ∙ ap (wait_by chip) (sym is)

-- ---- what asks for an access settles nothing

abbrev IsMade : Access → Type 0
IsMade (A.Read at byte) = Unit {0}
IsMade (A.Write at byte word) = Unit {0}
IsMade (A.Idle clocks) = ⊥
IsMade A.Halted = ⊥

rests_by : (p : Prog) (r : CpuRegs) (u : Under) (ws : List ℕ) (count level : ℕ) → IsMade (wanted (next_of p count))
    → settled p r u ws level ≡ stage r u ws
unfolding settled
rests_by (Ask a k) r u ws count level is = refl
rests_by (End t r' u') r u ws count level is = absurd is
rests_by (Enter r' u') r u ws count level is = absurd is
rests_by Halt r u ws count level is = refl

made_rests : (r : CpuRegs) (u : Under) (ws : List ℕ) (level : ℕ) → IsMade (wanted (next r u ws)) → settled_at r u ws level ≡ stage r u ws
unfolding next
made_rests r u ws level is = rests_by (after (program r u) ws) r u ws (length ws) level is

pub word_rests : (r : CpuRegs) (u : Under) (ws : List ℕ) (at level : ℕ) → Some at ≡ word_read (wanted (next r u ws))
    → settled_at r u ws level ≡ stage r u ws
word_rests r u ws at level is = made_rests r u ws level (subst IsMade (sym (asks_word (wanted (next r u ws)) at is)) tt)

pub write_rests : (r : CpuRegs) (u : Under) (ws : List ℕ) (at word level : ℕ) (byte : Bool) → A.Write at byte word ≡ wanted (next r u ws)
    → settled_at r u ws level ≡ stage r u ws
write_rests r u ws at word level byte is = made_rests r u ws level (subst IsMade is tt)

-- ---- an access that is made in a slot

slot_answers : (chip : ChipSize) (p : Prog) (r : CpuRegs) (u : Under) (ws : List ℕ) (count word level : ℕ)
    → is_slot (wait_of chip (next_of p count)) ≡ true → answered p r u ws word level ≡ settled (follow p word) r u (ws ++ word ∷ []) level
unfolding answered wait_of
slot_answers chip (Ask a k) r u ws count word level is = refl
slot_answers chip (End t r' u') r u ws count word level is = absurd (false≢true is)
slot_answers chip (Enter r' u') r u ws count word level is = absurd (false≢true is)
slot_answers chip Halt r u ws count word level is = absurd (false≢true is)

-- once its word is there, the interrupt level settles what follows
pub slot_settles : (p : Processor) (word level : ℕ) → is_slot (processor_wait p) ≡ true
    → stage_after word level p ≡ settled_at p.regs p.under (p.answers ++ word ∷ []) level
unfolding next advance
slot_settles p word level is =
    slot_answers p.chip (after (program p.regs p.under) p.answers) p.regs p.under p.answers (length p.answers) word level is
    ∙ ap (λ q. settled q p.regs p.under (p.answers ++ word ∷ []) level) (sym (after_more (program p.regs p.under) p.answers word))

-- ---- it goes on

-- to what its working processor reaches, with the wait for what is next there
pub goes_to : (word level : ℕ) (p : Processor) (begins : Option ℕ) (new : BusCpu) (s : Stage) → stage_after word level p ≡ s → p.chip ≡ new.chip
    → p.on ≡ new.on → Reaches new.cpu begins s → new.wait ≡ wait_of new.chip (next s.regs s.under s.answers) → 0 ≡ new.spent → None ≡ new.given
    → GoesOn word level p begins new
goes_to word level p begins new s is chip on reaches waits spent given =
    let there : Reaches new.cpu begins (stage_after word level p) = subst (λ x. Reaches new.cpu begins x) (sym is) reaches in
    record {
      stands = record {
        chip = chip;
        on = on;
        stands = there.stands;
        wait =
            ap (λ (x : Stage). wait_of p.chip (next x.regs x.under x.answers)) is
            ∙ ap (λ c. wait_of c (next s.regs s.under s.answers)) chip ∙ sym waits;
        spent = spent;
        given = given;
      };
      interrupt = there.level;
    }

-- a halted processor asks for nothing, and nothing else asks so
abbrev IsHalted : Access → Type 0
IsHalted (A.Read at byte) = ⊥
IsHalted (A.Write at byte word) = ⊥
IsHalted (A.Idle clocks) = ⊥
IsHalted A.Halted = Unit {0}

halted_is : (ask : Access) → A.Halted ≡ ask → IsHalted ask
halted_is ask is = subst IsHalted is tt

by_prog : (p : Prog) (r : CpuRegs) (u : Under) (ws : List ℕ) (count word level : ℕ) → A.Halted ≡ wanted (next_of p count)
    → stage r u ws ≡ answered p r u ws word level
unfolding answered
by_prog (Ask (Read at byte) k) r u ws count word level is = absurd (halted_is (A.Read at byte) is)
by_prog (Ask (Write at byte stored) k) r u ws count word level is = absurd (halted_is (A.Write at byte stored) is)
by_prog (End t r' u') r u ws count word level is = absurd (halted_is (wanted (next_of (End t r' u') count)) is)
by_prog (Enter r' u') r u ws count word level is = absurd (halted_is (wanted (next_of (Enter r' u') count)) is)
by_prog Halt r u ws count word level is = refl

-- so it stays as it is
pub halt_stays : (cpu : Cpu) (r : CpuRegs) (u : Under) (ws : List ℕ) (word level : ℕ) → Stands cpu r u ws → A.Halted ≡ wanted (next r u ws)
    → Reaches cpu None (advance r u ws word level)
unfolding next advance
halt_stays cpu r u ws word level stands is =
    subst (λ s. Reaches cpu None s) (by_prog (after (program r u) ws) r u ws (length ws) word level is)
    (record { stands = stands; level = refl })

-- the register at an address
pub register_by : (a : ℕ) → register_of (a % 65536) ≡ register_of a
register_by a = same_register (register_of (a % 65536)) (register_of a) (omega arith)

-- what it keeps of its ask is the ask of the machine's processor
pub wish_shown-is : (now : BusCpu) (p : Processor) → IsProcessorOf now p → wish_shown now ≡ processor_wish p
unfolding processor_wish
wish_shown-is now p is =
    ap (λ on. if on && not (now.spent == 0) then slot_wish now.wait else None) (sym is.on)
    ∙ ap (λ spent. if p.on && not (spent == 0) then slot_wish now.wait else None) (sym is.spent)
    ∙ ap (λ wait. if p.on && not (p.spent == 0) then slot_wish wait else None) (sym is.wait)
