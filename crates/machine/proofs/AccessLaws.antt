-- The access of the machine without its picture over plain values.
use Rattle.std.proofs.Common.{◌≡◌, ◌≤◌, ℕ, ◌==◌, Bool, true, false, if◌then◌else◌, List, [], ◌++◌, refl, ap, subst, ◌∙◌, sym, append-nil}
use Rattle.mem_versions.specs.Chip.{ChipValue, after_reads, more_reads}
use Rattle.ocs_base.specs.declared.beam.Beam.{Beam}
use Rattle.out_files.specs.OutFiles.{OutFilesValue}
use Rattle.serial_model.specs.declared.bus.Ask.{Ask}
use Rattle.serial_model.specs.declared.bus.Ask.TheVariants as A
use Rattle.serial_model.specs.declared.bus.SideAsk.TheVariants as S
use Rattle.serial_model.specs.declared.fetch.SpriteAsk.TheVariants.{Control, Words}
use Rattle.blit_words.specs.declared.blit.SlotAsk.TheVariants.{Read, Write, Rest, Done}
use Rattle.serial_model.specs.declared.bus.Made.{Made}
use Rattle.serial_model.specs.declared.bus.Made.TheVariants as M
use Rattle.serial_model.specs.declared.bus.SideAsk.{SideAsk}
use Rattle.serial_model.specs.Bus.{ask_at, answer_to, answer_chips, made_by_ask}
use Rattle.serial_model.specs.Made.{is_clx_read, state_after}
use Rattle.serial_model.specs.Registers.{dmacon_of}
use Rattle.serial_model.specs.Side.{SideValue, IsInTime, ask_of_side, answer_side}
use Rattle.serial_model.specs.State.{Chips, State}
use Rattle.serial_model.specs.Tick.{side_wish, ask_of, answer_of, made_of, answer_state}
use Rattle.serial_model.specs.Bus.{reads_of_ask}
use Rattle.serial_bands.specs.Stores.{stores_of}
use Rattle.chip_set.specs.AskLaws.{is_clx_ask}
use Rattle.chip_set.specs.Chips.{WorkingChips, IsChipsOf, HasAsked, HasAccessed, read_by, reads_by_chips}
use Rattle.chip_set.proofs.ClxLaws.{clx_read, clx_alone}
use Rattle.machine.specs.Machine.{MachineValue, IsMachineOf, Start, HasTold, Stands, HasAskedOf}
use Rattle.machine.specs.Machine.{MakesAccess, StaysInPlace, StoresMade, reads_after}
use Rattle.machine.specs.MachineSteps.{chip_after, word_given, reads_by_side, GivesSide, Does}
use Rattle.machine.proofs.ToldLaws.{told_same}
use Rattle.machine.proofs.StepLaws.{wish_in, Makes-does, same_place}

-- what the owner of the slot asks for, where the side asks for this
pub asks_of : (old : MachineValue) (ask : Ask) (dmacon : ℕ) (wish : SideAsk) → dmacon ≡ dmacon_of old.chips.registers
    → wish ≡ ask_of_side old.beam dmacon old.side → ((c : Chips) → IsChipsOf old.chips c → ask ≡ ask_at wish old.beam c) → (s : State)
    → IsMachineOf old s → ask ≡ ask_of s
asks_of old ask dmacon wish kept wishes asks s is =
    subst (λ w. ask ≡ ask_at w s.beam s.chips) (wishes ∙ sym (wish_in old s dmacon kept is))
    (subst (λ b. ask ≡ ask_at wish b s.chips) (sym is.beam) (asks s.chips is.chips))

pub HasAskedOf-by : (old new : MachineValue) (dmacon : ℕ) (wish : SideAsk) → dmacon ≡ dmacon_of old.chips.registers
    → wish ≡ ask_of_side old.beam dmacon old.side → IsInTime old.beam wish → new ≡ record old { chips = new.chips }
    → ((c : Chips) → IsChipsOf old.chips c → HasAsked old.beam c new.chips) → (s : State) → IsMachineOf old s → HasAskedOf new s
HasAskedOf-by old new dmacon wish kept wishes time same asked s is =
    subst (λ m. HasAskedOf m s) (sym same) (record {
      t = is.t;
      beam = is.beam;
      memory = is.memory;
      chips = subst (λ b. HasAsked b s.chips new.chips) (sym is.beam) (asked s.chips is.chips);
      side = is.side;
      time =
          subst (λ w. IsInTime s.beam w) (wishes ∙ sym (wish_in old s dmacon kept is))
          (subst (λ b. IsInTime b wish) (sym is.beam) time);
    })

-- the collision bits count for a read of them alone
alike_by : (read : Bool) (ask : Ask) (b : Beam) (clx other : ℕ) (c : Chips) (memory : List ℕ) → is_clx_ask ask ≡ read
    → (is_clx_ask ask ≡ true → other ≡ clx) → answer_to ask b clx c memory ≡ answer_to ask b other c memory
alike_by true ask b clx other c memory is same = ap (λ x. answer_to ask b x c memory) (sym (same is))
alike_by false ask b clx other c memory is same = clx_alone ask b clx other c memory is

accessed_alike : (side : SideAsk) (b : Beam) (clx other : ℕ) (c : Chips) (memory : List ℕ) (made : Made) (new : WorkingChips)
    → (is_clx_ask (ask_at side b c) ≡ true → other ≡ clx) → HasAccessed side b clx c memory made new → HasAccessed side b other c memory made new
accessed_alike side b clx other c memory made new same has =
    let ask : Ask = ask_at side b c in
    let word : answer_to ask b clx c memory ≡ answer_to ask b other c memory =
    alike_by (is_clx_ask ask) ask b clx other c memory refl same in
    record {
      makes = has.makes ∙ ap (λ w. made_by_ask ask w c) word;
      chips = subst (λ w. IsChipsOf new (answer_chips b ask w c)) word has.chips;
    }

-- the answer of the chips
abbrev pub Answers : Ask → ℕ → Made → MachineValue → WorkingChips → Type 0
Answers ask clx made old chips =
    (side : SideAsk) (c : Chips) → IsInTime old.beam side → HasAsked old.beam c old.chips → ask ≡ ask_at side old.beam c →
    HasAccessed side old.beam clx c old.chip.words made chips

pub accessed : (ask : Ask) (clx : ℕ) (made : Made) (old : MachineValue) (chips : WorkingChips) → Answers ask clx made old chips → (s : State)
    → ask ≡ ask_of s → (is_clx_ask ask ≡ true → s.clx ≡ clx) → HasAskedOf old s
    → HasAccessed (side_wish s) s.beam s.clx s.chips s.memory made chips
accessed ask clx made old chips answers s is read asked =
    let wish : SideAsk = side_wish s in
    let at_beam : HasAccessed wish old.beam clx s.chips old.chip.words made chips =
    answers wish s.chips (subst (λ b. IsInTime b wish) asked.beam asked.time) (subst (λ b. HasAsked b s.chips old.chips) asked.beam asked.chips)
    (subst (λ b. ask ≡ ask_at wish b s.chips) asked.beam is) in
    let here : HasAccessed wish s.beam clx s.chips s.memory made chips =
    subst (λ b. HasAccessed wish b clx s.chips s.memory made chips) (sym asked.beam)
    (subst (λ m. HasAccessed wish old.beam clx s.chips m made chips) (sym asked.memory) at_beam) in
    accessed_alike wish s.beam clx s.clx s.chips s.memory made chips (λ clxdat. read (ap (λ a. is_clx_ask a) is ∙ clxdat)) here

-- a count of reads changes nothing else
same_but : (none : Bool) (count : ℕ) (chip : ChipValue)
    → (if none then chip else after_reads chip count) ≡ record chip { reads = (if none then chip else after_reads chip count).reads }
same_but true count chip = refl
same_but false count chip = refl

reads_same : (count : ℕ) (chip : ChipValue) → read_by count chip ≡ record chip { reads = (read_by count chip).reads }
reads_same count chip = same_but (count == 0) count chip

count_by : (none : Bool) (count : ℕ) (chip : ChipValue)
    → (if none then chip else after_reads chip count).reads ≡ (if none then chip.reads else more_reads count chip.reads)
count_by true count chip = refl
count_by false count chip = refl

-- the access was made
abbrev pub answered : MachineValue → ChipValue → WorkingChips → SideValue → MachineValue
answered old chip chips side = record old { chip = chip; chips = chips; side = side }

-- the word of chip memory that is given to a side is the one that answers its ask
given_is : (ask : Ask) (b : Beam) (clx : ℕ) (c : Chips) (memory : List ℕ) (side : SideValue)
    → answer_side ask (answer_to ask b clx c memory) side ≡ answer_side ask (word_given ask memory) side
given_is A.Free b clx c memory side = refl
given_is (A.Side S.Nothing) b clx c memory side = refl
given_is (A.Side (S.Disk at stored)) b clx c memory side = refl
given_is (A.Side (S.Audio channel at)) b clx c memory side = refl
given_is (A.Plane ask) b clx c memory side = refl
given_is (A.Sprite ask) b clx c memory side = refl
given_is (A.Copper at) b clx c memory side = refl
given_is (A.Blit ask) b clx c memory side = refl
given_is (A.Processor ask) b clx c memory side = refl

-- and its read is what the chips' reads lack
pub reads_together : (ask : Ask) (chip : ChipValue) → read_by (reads_by_chips ask) (read_by (reads_by_side ask) chip) ≡ read_by (reads_of_ask ask) chip
reads_together A.Free chip = refl
reads_together (A.Side S.Nothing) chip = refl
reads_together (A.Side (S.Disk at stored)) chip = refl
reads_together (A.Side (S.Audio channel at)) chip = refl
reads_together (A.Plane ask) chip = refl
reads_together (A.Sprite (Control sprite second at)) chip = refl
reads_together (A.Sprite (Words sprite second at)) chip = refl
reads_together (A.Copper at) chip = refl
reads_together (A.Blit (Read at)) chip = refl
reads_together (A.Blit (Write at stored)) chip = refl
reads_together (A.Blit Rest) chip = refl
reads_together (A.Blit Done) chip = refl
reads_together (A.Processor ask) chip = refl

-- the side has its word, and then the chips have their answers
pub reads_of_both : (ask : Ask) (old mid new : ChipValue) → mid ≡ read_by (reads_by_side ask) old → new ≡ read_by (reads_by_chips ask) mid
    → new ≡ read_by (reads_of_ask ask) old
reads_of_both ask old mid new side chips = chips ∙ ap (λ c. read_by (reads_by_chips ask) c) side ∙ reads_together ask old

pub answers_given : (ask : Ask) (clx : ℕ) (made : Made) (old mid : MachineValue) (chips : WorkingChips) → GivesSide ask old mid
    → Answers ask clx made mid chips → Answers ask clx made old chips
answers_given ask clx made old mid chips gives answers =
    let there : Answers ask clx made (record old { chip = mid.chip; side = mid.side }) chips =
    subst (λ m. Answers ask clx made m chips) gives.same answers in
    let words : mid.chip.words ≡ old.chip.words = ap (λ (c : ChipValue). c.words) (gives.chip ∙ reads_same (reads_by_side ask) old.chip) in
    λ side c time asked is. subst (λ w. HasAccessed side old.beam clx c w made chips) words (there side c time asked is)

pub does_given : (ask : Ask) (clx : ℕ) (made : Made) (old mid new : MachineValue) (chip : ChipValue) (chips : WorkingChips) (out after : OutFilesValue)
    → GivesSide ask old mid → Does made clx (record mid { chip = chip; chips = chips }) out new after
    → Does made clx (answered old chip chips mid.side) out new after
does_given ask clx made old mid new chip chips out after gives does =
    subst (λ (m : MachineValue). Does made clx (record m { chip = chip; chips = chips }) out new after) gives.same does

Stands-answered : (ask : Ask) (clx : ℕ) (made : Made) (old : MachineValue) (chip : ChipValue) (chips : WorkingChips) (side : SideValue) (out : OutFilesValue)
    → chip ≡ read_by (reads_of_ask ask) old.chip → side ≡ answer_side ask (word_given ask old.chip.words) old.side → Answers ask clx made old chips
    → (start : Start) (s : State) → ask ≡ ask_of s → (is_clx_ask ask ≡ true → s.clx ≡ clx) → HasAskedOf old s → HasTold start out s
    → Stands start (answered old chip chips side) out (answer_state s)
Stands-answered ask clx made old chip chips side out reads gives answers start s is read asked told =
    let words : chip.words ≡ old.chip.words =
    ap (λ (c : ChipValue). c.words) reads ∙ ap (λ (c : ChipValue). c.words) (reads_same (reads_of_ask ask) old.chip) in
    record {
      machine = record {
        t = asked.t;
        beam = asked.beam;
        memory = asked.memory ∙ sym words;
        chips = (accessed ask clx made old chips answers s is read asked).chips;
        side =
            ap (λ a. answer_side a (answer_to a s.beam s.clx s.chips s.memory) s.side) (sym is)
            ∙ given_is ask s.beam s.clx s.chips s.memory s.side
            ∙ ap (λ m. answer_side ask (word_given ask m) s.side) asked.memory
            ∙ ap (λ v. answer_side ask (word_given ask old.chip.words) v) asked.side
            ∙ sym gives;
      };
      told = told_same start out s (answer_state s) refl told;
    }

pub MakesAccess-by : (ask : Ask) (clx : ℕ) (made : Made) (old new : MachineValue) (chip : ChipValue) (chips : WorkingChips) (side : SideValue)
    (out after : OutFilesValue) → chip ≡ read_by (reads_of_ask ask) old.chip → side ≡ answer_side ask (word_given ask old.chip.words) old.side
    → Answers ask clx made old chips → Does made clx (answered old chip chips side) out new after → MakesAccess ask clx made old out new after
MakesAccess-by ask clx made old new chip chips side out after reads gives answers does start s is read asked told =
    let makes : made ≡ made_of s = (accessed ask clx made old chips answers s is read asked).makes in
    let clxdat : is_clx_read made ≡ is_clx_ask ask =
    ap (λ m. is_clx_read m) makes ∙ clx_read (ask_of s) (answer_of s) s.chips ∙ ap (λ a. is_clx_ask a) (sym is) in
    record {
      makes = makes;
      stands = subst (λ m. Stands start new after (state_after m (answer_state s))) makes
          (Makes-does made clx (answered old chip chips side) new out after does start (answer_state s)
          (λ reads_it. read (sym clxdat ∙ reads_it))
          (Stands-answered ask clx made old chip chips side out reads gives answers start s is read asked told));
    }

-- the memory
record Keeps (t : ℕ) (made : Made) (old new : ChipValue) : Type 0 where
  last : new.last ≡ old.last
  base : new.base ≡ old.base
  writes : new.writes ≡ old.writes ++ stores_of t made old.words
  time : (least : ℕ) → old.newest ≤ least → t ≤ least → new.newest ≤ least
  reads : new.reads ≡ old.reads

none_stored : (t : ℕ) (made : Made) (chip : ChipValue) → stores_of t made chip.words ≡ [] → Keeps t made chip chip
none_stored t made chip none = record {
  last = refl;
  base = refl;
  writes = sym (append-nil chip.writes) ∙ ap (λ w. chip.writes ++ w) (sym none);
  time = λ least before now. before;
  reads = refl;
}

stored : (t : ℕ) (made : Made) (chip : ChipValue) → Keeps t made chip (chip_after t made chip)
stored t M.Nothing chip = none_stored t M.Nothing chip refl
stored t (M.Wrote reg word by) chip = none_stored t (M.Wrote reg word by) chip refl
stored t (M.Read reg by) chip = none_stored t (M.Read reg by) chip refl
stored t (M.Stored at half word) chip = record { last = refl; base = refl; writes = refl; time = λ least before now. now; reads = refl }
stored t (M.Plane plane at) chip = none_stored t (M.Plane plane at) chip refl
stored t (M.Sprite sprite second at) chip = none_stored t (M.Sprite sprite second at) chip refl

pub StoresMade-by : (t : ℕ) (ask : Ask) (made : Made) (old mid new : ChipValue) → mid ≡ read_by (reads_of_ask ask) old → new ≡ chip_after t made mid
    → StoresMade t ask made old new
StoresMade-by t ask made old mid new reads stores =
    let count : ℕ = (read_by (reads_of_ask ask) old).reads in
    let same : mid ≡ record old { reads = count } = reads ∙ reads_same (reads_of_ask ask) old in
    let keeps : Keeps t made (record old { reads = count }) new =
    subst (λ c. Keeps t made (record old { reads = count }) c) (sym (stores ∙ ap (λ c. chip_after t made c) same))
    (stored t made (record old { reads = count })) in
    record {
      last = keeps.last;
      base = keeps.base;
      writes = keeps.writes;
      time = keeps.time;
      reads = keeps.reads ∙ count_by (reads_of_ask ask == 0) (reads_of_ask ask) old;
    }

-- what does not read CLXDAT finds the memory not newer than its clock
pub time_left : (ask : Ask) (clx : ℕ) (made : Made) (old : MachineValue) (chip : ChipValue) (chips : WorkingChips)
    → chip ≡ read_by (reads_of_ask ask) old.chip → Answers ask clx made old chips
    → (s : State) → ask ≡ ask_of s → HasAskedOf old s → (is_clx_ask ask ≡ false → old.chip.newest ≤ old.t)
    → is_clx_read made ≡ false → chip.newest ≤ old.t
time_left ask clx made old chip chips reads answers s is asked time not =
    let seen : State = record s { clx = clx } in
    let so : HasAskedOf old seen = record { t = asked.t; beam = asked.beam; memory = asked.memory; chips = asked.chips; side = asked.side; time = asked.time }
    in
    let makes : made ≡ made_of seen = (accessed ask clx made old chips answers seen is (λ read. refl) so).makes in
    let clxdat : is_clx_read made ≡ is_clx_ask ask =
    ap (λ m. is_clx_read m) makes ∙ clx_read (ask_of seen) (answer_of seen) seen.chips ∙ ap (λ a. is_clx_ask a) (sym is) in
    let newest : chip.newest ≡ old.chip.newest =
    ap (λ (c : ChipValue). c.newest) (reads ∙ reads_same (reads_of_ask ask) old.chip) in
    subst (λ n. n ≤ old.t) (sym newest) (time (sym clxdat ∙ not))

-- place and count of reads, also where memory was wanted
pub StaysInPlace-does : (made : Made) (clx : ℕ) (old new : MachineValue) (chip : ChipValue) (chips : WorkingChips) (side : SideValue)
    (out after : OutFilesValue) → Does made clx (answered old chip chips side) out new after → StaysInPlace old new
StaysInPlace-does made clx old new chip chips side out after does =
    record { t = does.t; beam = same_place made clx (answered old chip chips side) new out after does }

pub reads_done : (t : ℕ) (ask : Ask) (made : Made) (old mid new : ChipValue) → mid ≡ read_by (reads_of_ask ask) old → new ≡ chip_after t made mid
    → new.reads ≡ reads_after ask old.reads
reads_done t ask made old mid new reads stores = (StoresMade-by t ask made old mid new reads stores).reads
