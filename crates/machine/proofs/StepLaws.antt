-- The steps of the machine without its picture over plain values.
use Rattle.std.proofs.Common.{◌≡◌, ℕ, ◌+◌, ◌/◌, ◌==◌, Bool, true, false, if◌then◌else◌, [], ◌∷◌, slice_index}
use Rattle.std.proofs.Common.{Option, Some, None, Result, Ok, Err, OnOk, refl, ap, subst, ◌∙◌, sym}
use Rattle.mem_versions.specs.Chip.{ChipValue, after_write}
use Rattle.ocs_base.specs.declared.addr.Addr.{Addr}
use Rattle.ocs_base.specs.declared.beam.Beam.{Beam}
use Rattle.ocs_base.specs.declared.reg.Reg.{Reg}
use Rattle.ocs_base.specs.declared.script.Act.{Act}
use Rattle.ocs_base.specs.declared.script.Act.TheVariants.{Poke, Peek, Joy, Fire, Key}
use Rattle.out_files.specs.OutFiles.{OutFilesValue, with_line}
use Rattle.out_files.specs.Together.{AddsLine}
use Rattle.ocs_base.specs.declared.system.System.{System}
use Rattle.serial_model.specs.declared.bus.Half.{Half}
use Rattle.serial_model.specs.declared.bus.Made.{Made}
use Rattle.serial_model.specs.declared.bus.Made.TheVariants as M
use Rattle.serial_model.specs.declared.registers.Effect.{Effect}
use Rattle.serial_model.specs.declared.registers.Effect.TheVariants.{Kept, Nothing, Jump, Blit, Picture, Interrupt, Lof}
use Rattle.serial_model.specs.declared.trace.Source.{Source}
use Rattle.serial_model.specs.declared.trace.TraceLine.TheVariants.{Wrote, Peeked}
use Rattle.serial_model.specs.Beam.{next_place}
use Rattle.serial_model.specs.Cias.{time_chips}
use Rattle.serial_model.specs.Events.{made_by_act, tell_chips}
use Rattle.serial_model.specs.Made.{lof_after, merge_half, memory_after, is_clx_read, lines_of, state_after}
use Rattle.serial_model.specs.Side.{poke_side, tick_side, bits_of_side, ask_of_side, side_by_made}
use Rattle.serial_model.specs.Registers.{dmacon_of, effect_of, is_interlaced, word_at}
use Rattle.serial_model.specs.State.{Chips, State, read_word, live_words}
use Rattle.serial_model.specs.Tick.{start_clock, start_chips, side_bits, side_wish, count_timers, run_processor, advance_beam}
use Rattle.serial_model.specs.Turns.{run_chips, interrupt_of, taken_lines}
use Rattle.serial_model.specs.Write.{write_chips, write_lof, lof_of}
use Rattle.chip_set.specs.Chips.{IsChipsOf}
use Rattle.out_files.specs.Gives.{Gives}
use Rattle.machine.specs.Machine.{MachineValue, IsMachineOf, Start, Stands, Makes, MakesQuietly, MakesEvent, IsSamePlace, KeepsPlace}
use Rattle.machine.specs.MachineSteps.{WritesRegister, chip_after, Does}
use Rattle.out_files.proofs.GivesLaws.{gives_nothing, gives_line}
use Rattle.machine.proofs.ToldLaws.{told_same, told_more}
use Rattle.machine.proofs.WriteLaws.{lof_open}

-- a step that changes the chips alone
IsMachineOf-chips : (old new : MachineValue) (s after : State) → new ≡ record old { chips = new.chips } → IsMachineOf old s → after.t ≡ s.t
    → after.beam ≡ s.beam → after.memory ≡ s.memory → after.side ≡ s.side → IsChipsOf new.chips after.chips → IsMachineOf new after
IsMachineOf-chips old new s after same is t beam memory side chips =
    subst (λ m. IsMachineOf m after) (sym same) (record {
      t = t ∙ is.t;
      beam = beam ∙ is.beam;
      memory = memory ∙ is.memory;
      chips = chips;
      side = side ∙ is.side;
    })

-- first step
pub Makes-started : (old new : MachineValue) → new ≡ record old { chips = new.chips }
    → ((c : Chips) → IsChipsOf old.chips c → IsChipsOf new.chips (start_chips old.beam c)) → MakesQuietly start_clock old new
Makes-started old new same started out start s is = record {
  machine = IsMachineOf-chips old new s (start_clock s) same is.machine refl refl refl refl
      (subst (λ b. IsChipsOf new.chips (start_chips b s.chips)) (sym is.machine.beam) (started s.chips is.machine.chips));
  told = told_same start out s (start_clock s) refl is.told;
}

-- third step: the CIAs had their time
-- and the side ticked, as it stands where the machine stands for a state
dmacon_in : (old : MachineValue) (s : State) (dmacon : ℕ) → dmacon ≡ dmacon_of old.chips.registers → IsMachineOf old s
    → dmacon_of s.chips.registers ≡ dmacon
dmacon_in old s dmacon kept is = ap (λ r. dmacon_of r) is.chips.registers ∙ sym kept

pub bits_in : (old : MachineValue) (s : State) (dmacon : ℕ) → dmacon ≡ dmacon_of old.chips.registers → IsMachineOf old s
    → side_bits s ≡ bits_of_side old.beam dmacon old.side
bits_in old s dmacon kept is =
    ap (λ b. bits_of_side b (dmacon_of s.chips.registers) s.side) is.beam
    ∙ ap (λ d. bits_of_side old.beam d s.side) (dmacon_in old s dmacon kept is)
    ∙ ap (λ v. bits_of_side old.beam dmacon v) is.side

ticked_in : (old : MachineValue) (s : State) (dmacon : ℕ) → dmacon ≡ dmacon_of old.chips.registers → IsMachineOf old s
    → tick_side s.beam (dmacon_of s.chips.registers) s.side ≡ tick_side old.beam dmacon old.side
ticked_in old s dmacon kept is =
    ap (λ b. tick_side b (dmacon_of s.chips.registers) s.side) is.beam
    ∙ ap (λ d. tick_side old.beam d s.side) (dmacon_in old s dmacon kept is)
    ∙ ap (λ v. tick_side old.beam dmacon v) is.side

pub wish_in : (old : MachineValue) (s : State) (dmacon : ℕ) → dmacon ≡ dmacon_of old.chips.registers → IsMachineOf old s
    → side_wish s ≡ ask_of_side old.beam dmacon old.side
wish_in old s dmacon kept is =
    ap (λ b. ask_of_side b (dmacon_of s.chips.registers) s.side) is.beam
    ∙ ap (λ d. ask_of_side old.beam d s.side) (dmacon_in old s dmacon kept is)
    ∙ ap (λ v. ask_of_side old.beam dmacon v) is.side

pub Makes-timed : (old new : MachineValue) (dmacon bits : ℕ) → new ≡ record old { chips = new.chips; side = new.side }
    → dmacon ≡ dmacon_of old.chips.registers → bits ≡ bits_of_side old.beam dmacon old.side → new.side ≡ tick_side old.beam dmacon old.side
    → ((c : Chips) → IsChipsOf old.chips c → IsChipsOf new.chips (time_chips bits old.t c)) → MakesQuietly count_timers old new
Makes-timed old new dmacon bits same kept given ticks timed out start s is = record {
  machine = subst (λ m. IsMachineOf m (count_timers s)) (sym same) (record {
    t = is.machine.t;
    beam = is.machine.beam;
    memory = is.machine.memory;
    chips = subst (λ b. IsChipsOf new.chips (time_chips b s.t s.chips)) (given ∙ sym (bits_in old s dmacon kept is.machine))
        (subst (λ t. IsChipsOf new.chips (time_chips bits t s.chips)) (sym is.machine.t) (timed s.chips is.machine.chips));
    side = ticked_in old s dmacon kept is.machine ∙ sym ticks;
  });
  told = told_same start out s (count_timers s) refl is.told;
}

-- sixth step: the processor had its turn, and an interrupt that begins with it is traced
pub Makes-processed : (old new : MachineValue) (out after : OutFilesValue) (begins : Option ℕ) → new ≡ record old { chips = new.chips }
    → ((c : Chips) → IsChipsOf old.chips c → IsChipsOf new.chips (run_chips c))
    → ((c : Chips) → IsChipsOf old.chips c → begins ≡ interrupt_of c) → Gives out after [] (taken_lines old.beam begins)
    → Makes run_processor old out new after
Makes-processed old new out after begins same runs interrupt gives start s is =
    let lines : taken_lines old.beam begins ≡ taken_lines s.beam (interrupt_of s.chips) =
    ap (λ b. taken_lines b begins) (sym is.machine.beam) ∙ ap (λ i. taken_lines s.beam i) (interrupt s.chips is.machine.chips) in
    record {
      machine = IsMachineOf-chips old new s (run_processor s) same is.machine refl refl refl refl (runs s.chips is.machine.chips);
      told = told_more start out after s (run_processor s) (taken_lines s.beam (interrupt_of s.chips)) refl
          (subst (λ ls. Gives out after [] ls) lines gives) is.told;
    }

-- seventh step
pub Makes-advanced : (system : System) (old new : MachineValue) → new ≡ record old { t = new.t; beam = new.beam }
    → new.beam ≡ next_place system (is_interlaced old.chips.registers) old.beam → new.t ≡ old.t + 1 → MakesQuietly (advance_beam system) old new
Makes-advanced system old new same beam count out start s is =
    let now : IsMachineOf (record old { t = new.t; beam = new.beam }) (advance_beam system s) = record {
      t = ap (λ t. t + 1) is.machine.t ∙ sym count;
      beam = ap (λ r. next_place system (is_interlaced r) s.beam) is.machine.chips.registers
          ∙ ap (λ b. next_place system (is_interlaced old.chips.registers) b) is.machine.beam ∙ sym beam;
      memory = is.machine.memory;
      chips = is.machine.chips;
      side = is.machine.side;
    } in
    record {
      machine = subst (λ m. IsMachineOf m (advance_beam system s)) (sym same) now;
      told = told_same start out s (advance_beam system s) refl is.told;
    }

-- the collision bits count for a read of them alone
word_by : (is : Bool) (other clx rest : ℕ) → (is ≡ true → other ≡ clx) → (if is then other else rest) ≡ (if is then clx else rest)
word_by true other clx rest read = read refl
word_by false other clx rest read = refl

pub read_alike : (offset : ℕ) (b : Beam) (other clx : ℕ) (c : Chips) → ((offset == 0x0e) ≡ true → other ≡ clx)
    → read_word offset b other c ≡ read_word offset b clx c
unfolding read_word
read_alike offset b other clx c read =
    let others : ℕ = if offset == 0x1c then c.irq.ena else if offset == 0x1e then c.irq.req else word_at (live_words b c) c.registers offset in
    word_by (offset == 0x0e) other clx others read

lines_alike : (b : Beam) (other clx : ℕ) (c : Chips) (made : Made) → (is_clx_read made ≡ true → other ≡ clx)
    → lines_of b other c made ≡ lines_of b clx c made
lines_alike b other clx c M.Nothing read = refl
lines_alike b other clx c (M.Wrote reg word by) read = refl
lines_alike b other clx c (M.Read reg by) read = ap (λ word. Peeked b reg word by ∷ []) (read_alike reg.offset b other clx c read)
lines_alike b other clx c (M.Stored at half word) read = refl
lines_alike b other clx c (M.Plane plane at) read = refl
lines_alike b other clx c (M.Sprite sprite second at) read = refl

-- the words after what is made
words_stored : (t : ℕ) (made : Made) (chip : ChipValue) → (chip_after t made chip).words ≡ memory_after made chip.words
words_stored t M.Nothing chip = refl
words_stored t (M.Wrote reg word by) chip = refl
words_stored t (M.Read reg by) chip = refl
words_stored t (M.Stored at half word) chip = refl
words_stored t (M.Plane plane at) chip = refl
words_stored t (M.Sprite sprite second at) chip = refl

-- what is made is done to the state too
pub Makes-does : (made : Made) (clx : ℕ) (old new : MachineValue) (out after : OutFilesValue) → Does made clx old out new after → (start : Start) (s : State)
    → (is_clx_read made ≡ true → s.clx ≡ clx) → Stands start old out s → Stands start new after (state_after made s)
Makes-does made clx old new out after does start s read is =
    let lines : lines_of old.beam clx s.chips made ≡ lines_of s.beam s.clx s.chips made =
    ap (λ b. lines_of b clx s.chips made) (sym is.machine.beam) ∙ sym (lines_alike s.beam s.clx clx s.chips made read) in
    record {
      machine = record {
        t = is.machine.t ∙ sym does.t;
        beam = ap (λ (b : Beam). record b { lof = lof_after made b.lof }) is.machine.beam ∙ sym does.beam;
        memory = ap (λ m. memory_after made m) is.machine.memory ∙ sym (words_stored old.t made old.chip)
            ∙ ap (λ (c : ChipValue). c.words) (sym does.chip);
        chips = does.chips s.chips is.machine.chips;
        side = ap (λ v. side_by_made made v) is.machine.side ∙ sym does.side;
      };
      told = told_more start out after s (state_after made s) (lines_of s.beam s.clx s.chips made) refl
          (subst (λ ls. Gives out after [] ls) lines (does.lines s.chips is.machine.chips)) is.told;
    }

-- a write, by its effect
pub WritesRegister-by : (reg : Reg) (word : ℕ) (busy : Bool) (old new : MachineValue) (effect : Effect) → effect ≡ effect_of busy reg.offset word
    → new ≡ record old { beam = new.beam; chips = new.chips; side = new.side } → new.side ≡ poke_side reg word old.side → new.beam ≡ record old.beam
    { lof = lof_of effect old.beam.lof }
    → ((c : Chips) → IsChipsOf old.chips c → IsChipsOf new.chips (write_chips reg.offset word c)) → WritesRegister reg word old new
unfolding write_lof
WritesRegister-by reg word busy old new effect is same poked beam chips = record {
  t = ap (λ (m : MachineValue). m.t) same;
  beam = beam ∙ ap (λ e. record old.beam { lof = lof_of e old.beam.lof }) is
      ∙ ap (λ l. record old.beam { lof = l }) (lof_open busy reg word old.beam.lof);
  chip = ap (λ (m : MachineValue). m.chip) same;
  chips = chips;
  side = poked;
}

-- an effect that is not LOF's
pub other_lof : (effect : Effect) (b : Beam) → ((long : Bool) → effect ≡ Lof long → ⊥) → b ≡ record b { lof = lof_of effect b.lof }
other_lof Kept b lof = refl
other_lof Nothing b lof = refl
other_lof (Jump list) b lof = refl
other_lof Blit b lof = refl
other_lof Picture b lof = refl
other_lof Interrupt b lof = refl
other_lof (Lof long) b lof = absurd (lof long refl)

-- with its line, where there is someone to name, the write is done
pub Does-write : (reg : Reg) (word : ℕ) (by : Source) (clx : ℕ) (old new : MachineValue) (out after : OutFilesValue)
    → after ≡ with_line out (Wrote old.beam reg word by) → AddsLine out after (Wrote old.beam reg word by) → WritesRegister reg word old new
    → Does (M.Wrote reg word (Some by)) clx old out new after
Does-write reg word by clx old new out after line adds has = record {
  t = has.t;
  beam = has.beam;
  chip = has.chip;
  chips = has.chips;
  side = has.side;
  lines = λ c is. gives_line out after (Wrote old.beam reg word by) line adds;
}

pub Does-quietly : (reg : Reg) (word clx : ℕ) (old new : MachineValue) (out : OutFilesValue) → WritesRegister reg word old new
    → Does (M.Wrote reg word None) clx old out new out
Does-quietly reg word clx old new out has = record {
  t = has.t;
  beam = has.beam;
  chip = has.chip;
  chips = has.chips;
  side = has.side;
  lines = λ c is. gives_nothing out;
}

-- a register was read
pub Does-read : (reg : Reg) (by : Source) (clx word : ℕ) (old : MachineValue) (out after : OutFilesValue)
    → ((c : Chips) → IsChipsOf old.chips c → word ≡ read_word reg.offset old.beam clx c)
    → after ≡ with_line out (Peeked old.beam reg word by) → AddsLine out after (Peeked old.beam reg word by)
    → Does (M.Read reg by) clx old out old after
Does-read reg by clx word old out after is line adds = record {
  t = refl;
  beam = refl;
  chip = refl;
  chips = λ c stands. stands;
  side = refl;
  lines = λ c stands. subst (λ w. Gives out after [] (Peeked old.beam reg w by ∷ [])) (is c stands)
      (gives_line out after (Peeked old.beam reg word by) line adds);
}

-- a word was stored, or one half of it
pub Does-store : (at : Addr) (half : Half) (word clx : ℕ) (old new : MachineValue) (out : OutFilesValue) → new ≡ record old { chip = new.chip }
    → new.chip ≡ after_write old.chip old.t at (merge_half half (slice_index old.chip.words (at.value / 2)) word)
    → Does (M.Stored at half word) clx old out new out
Does-store at half word clx old new out same stored =
    subst (λ m. Does (M.Stored at half word) clx old out m out) (sym same) (record {
      t = refl;
      beam = refl;
      chip = stored;
      chips = λ c stands. stands;
      side = refl;
      lines = λ c stands. gives_nothing out;
    })

-- an event tells the chips, and what it makes is done
abbrev tell_state : Act → State → State
tell_state act s = record s { chips = tell_chips act s.chips }

Stands-told : (act : Act) (old mid : MachineValue) → mid ≡ record old { chips = mid.chips }
    → ((c : Chips) → IsChipsOf old.chips c → IsChipsOf mid.chips (tell_chips act c)) → MakesQuietly (tell_state act) old mid
Stands-told act old mid same tells out start s is = record {
  machine = IsMachineOf-chips old mid s (tell_state act s) same is.machine refl refl refl refl (tells s.chips is.machine.chips);
  told = told_same start out s (tell_state act s) refl is.told;
}

pub Makes-happened : (act : Act) (clx : ℕ) (old mid new : MachineValue) (out after : OutFilesValue) → mid ≡ record old { chips = mid.chips }
    → ((c : Chips) → IsChipsOf old.chips c → IsChipsOf mid.chips (tell_chips act c)) → Does (made_by_act act) clx mid out new after
    → MakesEvent clx act old out new after
Makes-happened act clx old mid new out after same tells does start s read is =
    Makes-does (made_by_act act) clx mid new out after does start (tell_state act s) read (Stands-told act old mid same tells out start s is)

-- no event stores a word
none_stored : (t : ℕ) (act : Act) (chip : ChipValue) → chip_after t (made_by_act act) chip ≡ chip
none_stored t (Poke reg word) chip = refl
none_stored t (Peek reg) chip = refl
none_stored t (Joy port word) chip = refl
none_stored t (Fire port down) chip = refl
none_stored t (Key code) chip = refl

-- the place of the beam stays
pub same_place : (made : Made) (clx : ℕ) (old new : MachineValue) (out after : OutFilesValue) → Does made clx old out new after
    → IsSamePlace old.beam new.beam
same_place made clx old new out after does = does.beam ∙ ap (λ (b : Beam). record old.beam { lof = b.lof }) (sym does.beam)

pub KeepsPlace-happened : (act : Act) (clx : ℕ) (old mid new : MachineValue) (out after : OutFilesValue) → mid ≡ record old { chips = mid.chips }
    → Does (made_by_act act) clx mid out new after → KeepsPlace old new
KeepsPlace-happened act clx old mid new out after same does =
    let has : Does (made_by_act act) clx (record old { chips = mid.chips }) out new after =
    subst (λ m. Does (made_by_act act) clx m out new after) same does in
    record {
      t = has.t;
      beam = same_place (made_by_act act) clx (record old { chips = mid.chips }) new out after has;
      chip = has.chip ∙ none_stored old.t act old.chip;
    }

-- where the answer is that of the line
pub read_done : {E : Type 0} (reg : Reg) (by : Source) (clx word : ℕ) (old : MachineValue) (out after : OutFilesValue) (answer : Result (Unit {0}) E)
    → ((c : Chips) → IsChipsOf old.chips c → word ≡ read_word reg.offset old.beam clx c)
    → OnOk answer (after ≡ with_line out (Peeked old.beam reg word by)) → OnOk answer (AddsLine out after (Peeked old.beam reg word by))
    → OnOk answer (Does (M.Read reg by) clx old out old after)
read_done reg by clx word old out after (Ok done) is line adds = Does-read reg by clx word old out after is line adds
read_done reg by clx word old out after (Err refused) is line adds = tt
