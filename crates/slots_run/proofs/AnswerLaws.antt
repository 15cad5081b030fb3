-- The word that answers an access, by the memory after its clock.
use Rattle.std.proofs.Common.{◌≡◌, ℕ, suc, ◌+◌, List, refl, ap, ◌∙◌, arith}
use Rattle.ocs_base.specs.declared.beam.Beam.{Beam}
use Rattle.blit_words.specs.declared.blit.SlotAsk.TheVariants.{Read, Write, Rest, Done}
use Rattle.serial_model.specs.declared.bus.Ask.{Ask}
use Rattle.serial_model.specs.declared.bus.Ask.TheVariants as A
use Rattle.serial_model.specs.declared.bus.ProcessorAsk.TheVariants as P
use Rattle.serial_model.specs.declared.bus.SideAsk.TheVariants as S
use Rattle.serial_model.specs.declared.copper.CopperAct.{CopperAct}
use Rattle.serial_model.specs.declared.copper.CopperAct.TheVariants.{None as NoAct, Move}
use Rattle.serial_model.specs.declared.fetch.SpriteAsk.TheVariants.{Control, Words}
use Rattle.serial_model.specs.Bus.{answer_to, made_by_ask, made_by_copper}
use Rattle.serial_model.specs.Made.{memory_after, word_of}
use Rattle.serial_model.specs.Serial.{state_over}
use Rattle.serial_model.specs.State.{Chips, State}
use Rattle.serial_model.specs.Tick.{tick, ask_of, answer_of, made_of}
use Rattle.serial_bands.specs.Run.{RunValue, run_memory}
use Rattle.serial_model.specs.RegisterRead.{register_read}
use Rattle.serial_bands.specs.Access.{access_state}
use Rattle.foreground.specs.Slot.{IsSlotOf}
use Rattle.foreground.specs.declared.slot.Slot.{Slot}
use Rattle.slot_log.specs.Entry.{read_address}
use Rattle.slots_run.specs.code.SlotRun.{answer_from, answer_after}

copper_keeps : (act : CopperAct) (memory : List ℕ) → memory_after (made_by_copper act) memory ≡ memory
copper_keeps NoAct memory = refl
copper_keeps (Move reg word) memory = refl

-- an access that reads a word of memory writes none
answers : (ask : Ask) (b : Beam) (clx : ℕ) (c : Chips) (memory : List ℕ) → (let word = answer_to ask b clx c memory in
    answer_from (memory_after (made_by_ask ask word c) memory) (read_address ask) (register_read ask word) ≡ word)
unfolding made_by_ask
answers A.Free b clx c memory = refl
answers (A.Side S.Nothing) b clx c memory = refl
answers (A.Side (S.Disk at word)) b clx c memory = refl
answers (A.Side (S.Audio channel at)) b clx c memory = refl
answers (A.Plane ask) b clx c memory = refl
answers (A.Sprite (Control sprite second at)) b clx c memory = refl
answers (A.Sprite (Words sprite second at)) b clx c memory = refl
answers (A.Copper at) b clx c memory = ap (λ words. word_of words at.value) (copper_keeps _ memory)
answers (A.Blit (Read at)) b clx c memory = refl
answers (A.Blit (Write at word)) b clx c memory = refl
answers (A.Blit Rest) b clx c memory = refl
answers (A.Blit Done) b clx c memory = refl
answers (A.Processor (P.Read at)) b clx c memory = refl
answers (A.Processor (P.Write at half word)) b clx c memory = refl
answers (A.Processor (P.ReadRegister reg)) b clx c memory = refl
answers (A.Processor (P.WriteRegister reg word)) b clx c memory = refl

-- the memory after a clock is that after its access
memory_next : (run : RunValue) (t : ℕ) → (let s : State = access_state run t in
    run_memory run (suc t) ≡ memory_after (made_of s) s.memory)
unfolding state_over tick
memory_next run t = refl

pub slot_answer : (run : RunValue) (t later : ℕ) (slot : Slot) → later ≡ t + 1 → IsSlotOf slot (access_state run t)
    → answer_after (run_memory run later) slot ≡ answer_of (access_state run t)
slot_answer run t later slot next is =
    let s : State = access_state run t in
    let one : later ≡ suc t = omega (arith, next) in
    ap (λ n. answer_after (run_memory run n) slot) one
    ∙ ap (λ words. answer_after words slot) (memory_next run t)
    ∙ ap (λ (ask : Ask). answer_from (memory_after (made_of s) s.memory) (read_address ask) slot.read) is.ask
    ∙ ap (λ read. answer_from (memory_after (made_of s) s.memory) (read_address (ask_of s)) read) is.read
    ∙ answers (ask_of s) s.beam s.clx s.chips s.memory
