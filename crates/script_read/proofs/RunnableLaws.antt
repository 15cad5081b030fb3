-- A script that is read is one that a run takes.
use Rattle.std.proofs.Common.{◌≡◌, ℕ, ◌+◌, ◌<◌, ◌≤◌, Bool, true, false, ◌&&◌, List, [], ◌∷◌, length, refl, sym, ◌∙◌, subst, Option}
use Rattle.std.proofs.Common.{Some, None, IfSome, Result, Ok, Err, IfOk, arith, nat_lt, nat_le, if◌then◌else◌, bytes_eq, codes}
use borrow.Author.Tests.{ltb-true, ltb-false, leb-true}
use Rattle.ocs_base.specs.Limits.{time_of, HasPort, IsInLimits, AreInLimits, AreFrom, AreInOrder}
use Rattle.ocs_base.specs.Script.{ScriptValue}
use Rattle.ocs_base.specs.declared.chip_size.ChipSize.{ChipSize}
use Rattle.ocs_base.specs.declared.chip_size.ChipSize.TheVariants.{Kib512, Mib1}
use Rattle.ocs_base.specs.declared.reg.Reg.{Reg}
use Rattle.ocs_base.specs.declared.script.Act.{Act}
use Rattle.ocs_base.specs.declared.script.At.{At}
use Rattle.ocs_base.specs.declared.system.System.{System}
use Rattle.ocs_base.specs.declared.system.System.TheVariants.{Pal, Ntsc}
use Rattle.ocs_base.specs.Systems.{lines}
use Rattle.ocs_io.specs.Numbers.{dec_of}
use Rattle.script_read.specs.Split.{lines_of, words_of}
use Rattle.script_read.specs.Words.{below, kept_below, hex_number, register_named, poke_with, peek_with, joy_with, fire_with}
use Rattle.script_read.specs.Words.{key_with, poke_of, peek_of, joy_of, fire_of, key_of, act_of, timed, event_in, event_of}
use Rattle.script_read.specs.Grammar.{Verdict, Good, Bad, in_order, body_line, body_of, after_end, with_event, from_line}
use Rattle.script_read.specs.Grammar.{from_head, head_of, with_frames, kept_frames, frames_in, with_cpu, cpu_in, with_chip}
use Rattle.script_read.specs.Grammar.{chip_in, with_system, system_in, version_in, from_version, from_header, script_of}
use Rattle.script_read.specs.Versions.{HeadLine, FramesLine, ChipLine, SystemLine, later_lines, head_lines, head_size, says, lowest, blank}
use Rattle.script_read.specs.Printable.{IsPrintable}
use Rattle.script_read.specs.Said.{IsSaidIn, IsSaid}
use Rattle.script_read.specs.Verdict.{ReadsAs}
use Rattle.script_read.specs.declared.fault.BadKind.{BadKind}
use Rattle.script_read.specs.declared.fault.BadKind.TheVariants.{Lines, Order, Long, Cpu, Frames, Chip, System as BadSystem}
use Rattle.script_read.specs.declared.version.Version.{Version}
use Rattle.script_read.specs.declared.version.Version.TheVariants.{One, Two, Three}
use Rattle.script_read.specs.declared.fault.ScriptFault.{ScriptFault}

either : {A : Type 0} (P : A → Type 0) (b : Bool) (x y : Option A) → IfSome x P → IfSome y P → IfSome (if b then x else y) P
either P true x y first second = first
either P false x y first second = second

below-lt : (limit : ℕ) (text : List ℕ) → IfSome (below limit text) (λ n. n < limit)
unfolding below
below-lt limit text = kept (dec_of text)
  where
    tested : (n : ℕ) (b : Bool) → nat_lt n limit ≡ b → IfSome (if b then Some n else None) (λ m. m < limit)
    tested n true e = ltb-true n limit e
    tested n false e = tt

    kept : (n : Option ℕ) → IfSome (kept_below limit n) (λ m. m < limit)
    kept None = tt
    kept (Some n) = tested n (nat_lt n limit) refl

HasPort-poke : (words : List (List ℕ)) → IfSome (poke_of words) HasPort
unfolding poke_of
HasPort-poke [] = tt
HasPort-poke (a ∷ []) = tt
HasPort-poke (a ∷ b ∷ []) = with_both (register_named a) (hex_number 4 b)
  where
    with_both : (reg : Option Reg) (word : Option ℕ) → IfSome (poke_with reg word) HasPort
    with_both None word = tt
    with_both (Some reg) None = tt
    with_both (Some reg) (Some word) = tt
HasPort-poke (a ∷ b ∷ c ∷ words) = tt

HasPort-peek : (words : List (List ℕ)) → IfSome (peek_of words) HasPort
unfolding peek_of
HasPort-peek [] = tt
HasPort-peek (a ∷ []) = with_one (register_named a)
  where
    with_one : (reg : Option Reg) → IfSome (peek_with reg) HasPort
    with_one None = tt
    with_one (Some reg) = tt
HasPort-peek (a ∷ b ∷ words) = tt

HasPort-joy : (words : List (List ℕ)) → IfSome (joy_of words) HasPort
unfolding joy_of
HasPort-joy [] = tt
HasPort-joy (a ∷ []) = tt
HasPort-joy (a ∷ b ∷ []) = with_both (below 2 a) (hex_number 4 b) (below-lt 2 a)
  where
    with_both : (port word : Option ℕ) → IfSome port (λ n. n < 2) → IfSome (joy_with port word) HasPort
    with_both None word low = tt
    with_both (Some port) None low = tt
    with_both (Some port) (Some word) low = omega (arith, low)
HasPort-joy (a ∷ b ∷ c ∷ words) = tt

HasPort-fire : (words : List (List ℕ)) → IfSome (fire_of words) HasPort
unfolding fire_of
HasPort-fire [] = tt
HasPort-fire (a ∷ []) = tt
HasPort-fire (a ∷ b ∷ []) = with_both (below 2 a) (below 2 b) (below-lt 2 a)
  where
    with_both : (port down : Option ℕ) → IfSome port (λ n. n < 2) → IfSome (fire_with port down) HasPort
    with_both None down low = tt
    with_both (Some port) None low = tt
    with_both (Some port) (Some down) low = omega (arith, low)
HasPort-fire (a ∷ b ∷ c ∷ words) = tt

HasPort-key : (words : List (List ℕ)) → IfSome (key_of words) HasPort
unfolding key_of
HasPort-key [] = tt
HasPort-key (a ∷ []) = with_one (hex_number 2 a)
  where
    with_one : (code : Option ℕ) → IfSome (key_with code) HasPort
    with_one None = tt
    with_one (Some code) = tt
HasPort-key (a ∷ b ∷ words) = tt

HasPort-act : (verb : List ℕ) (words : List (List ℕ)) → IfSome (act_of verb words) HasPort
unfolding act_of
HasPort-act verb words =
    either HasPort (bytes_eq verb (codes "poke")) _ _ (HasPort-poke words)
    (either HasPort (bytes_eq verb (codes "peek")) _ _ (HasPort-peek words)
    (either HasPort (bytes_eq verb (codes "joy")) _ _ (HasPort-joy words)
    (either HasPort (bytes_eq verb (codes "fire")) _ _ (HasPort-fire words)
    (either HasPort (bytes_eq verb (codes "key")) (key_of words) None (HasPort-key words) tt))))

IsInLimits-timed : (system : System) (frames : ℕ) (f v h : Option ℕ) (act : Option Act) → IfSome f (λ n. n < frames)
    → IfSome v (λ n. n < lines system false) → IfSome h (λ n. n < 227) → IfSome act HasPort → IfSome (timed f v h act) (IsInLimits system frames)
IsInLimits-timed system frames None v h act ff vv hh aa = tt
IsInLimits-timed system frames (Some f) None h act ff vv hh aa = tt
IsInLimits-timed system frames (Some f) (Some v) None act ff vv hh aa = tt
IsInLimits-timed system frames (Some f) (Some v) (Some h) None ff vv hh aa = tt
IsInLimits-timed system frames (Some f) (Some v) (Some h) (Some act) ff vv hh aa = record { frame = ff; line = vv; clock = omega (arith, hh); port = aa }

IsInLimits-words : (system : System) (frames : ℕ) (words : List (List ℕ)) → IfSome (event_in system frames words) (IsInLimits system frames)
unfolding event_in
IsInLimits-words system frames [] = tt
IsInLimits-words system frames (a ∷ []) = tt
IsInLimits-words system frames (a ∷ b ∷ []) = tt
IsInLimits-words system frames (a ∷ b ∷ c ∷ []) = tt
IsInLimits-words system frames (a ∷ b ∷ c ∷ d ∷ []) = tt
IsInLimits-words system frames (a ∷ b ∷ c ∷ d ∷ e ∷ words) =
    either (IsInLimits system frames) (bytes_eq a (codes "at"))
    (timed (below frames b) (below (lines system false) c) (below 227 d) (act_of e words)) None
    (IsInLimits-timed system frames (below frames b) (below (lines system false) c) (below 227 d) (act_of e words) (below-lt frames b)
    (below-lt (lines system false) c) (below-lt 227 d) (HasPort-act e words)) tt

-- a line that gives an event gives one in the limits that is no earlier
record IsNext (system : System) (frames before : ℕ) (at : At) : Type 0 where
  limits : IsInLimits system frames at
  later : before ≤ time_of at

some_next : (system : System) (frames number before : ℕ) → Result (Option At) BadKind → Type 0
some_next system frames number before (Ok (Some at)) = IsNext system frames before at
some_next system frames number before (Ok None) = number ≤ 100000
some_next system frames number before (Err kind) = Unit {0}

IsNext-line : (system : System) (frames number before : ℕ) (line : List ℕ)
    → some_next system frames number before (body_line system frames number before line)
unfolding body_line event_of some_next
IsNext-line system frames number before line = first (nat_lt 100000 number) (bytes_eq line (codes "end")) refl
  where
    tested : (at : At) (b : Bool) → nat_lt (time_of at) before ≡ b → IsInLimits system frames at
        → some_next system frames number before (if b then Err Order else Ok (Some at))
    tested at true e limits = tt
    tested at false e limits = record { limits = limits; later = ltb-false (time_of at) before e }

    ordered : (event : Option At) → IfSome event (IsInLimits system frames) → some_next system frames number before (in_order before event)
    ordered None limits = tt
    ordered (Some at) limits = tested at (nat_lt (time_of at) before) refl limits

    first : (past ended : Bool) → nat_lt 100000 number ≡ past
        → some_next system frames number before
        (if past then Err Lines else (if ended then Ok None else in_order before (event_in system frames (words_of line))))
    first true ended e = tt
    first false true e = ltb-false 100000 number e
    first false false e = ordered (event_in system frames (words_of line)) (IsInLimits-words system frames (words_of line))

AreFrom-lower : (low high : ℕ) (events : List At) → low ≤ high → AreFrom high events → AreFrom low events
AreFrom-lower low high [] le from = tt
AreFrom-lower low high (at ∷ events) le from = (omega (arith, from.0), AreFrom-lower low high events le from.1)

-- the events of the lines that are left
record Follows (head : ScriptValue) (number before : ℕ) (script : ScriptValue) : Type 0 where
  frames : script.frames ≡ head.frames
  chip : script.chip ≡ head.chip
  system : script.system ≡ head.system
  limits : AreInLimits head.system head.frames script.events
  from : AreFrom before script.events
  order : AreInOrder script.events
  count : number + length script.events ≤ 100000

good_follows : ScriptValue → ℕ → ℕ → Verdict → Type 0
good_follows head number before (Good script) = Follows head number before script
good_follows head number before (Bad line kind) = Unit {0}

Follows-body : (head : ScriptValue) (number before : ℕ) (lines : List (List ℕ)) → head.events ≡ []
    → good_follows head number before (body_of head number before lines)
unfolding body_of good_follows some_next
Follows-body head number before [] none = tt
Follows-body head number before (line ∷ lines) none =
    by_line (body_line head.system head.frames number before line) (IsNext-line head.system head.frames number before line)
    (λ at. Follows-body head (number + 1) (time_of at) lines none)
  where
    empty : (events : List At) → events ≡ [] → number ≤ 100000 → Follows head number before (record head { events = events })
    empty [] e few = record { frames = refl; chip = refl; system = refl; limits = tt; from = tt; order = tt; count = omega arith }
    empty (at ∷ events) e few = absurd (cc e)

    ended : (rest : List (List ℕ)) → number ≤ 100000 → good_follows head number before (after_end head (number + 1) rest)
    ended [] few = empty head.events none few
    ended (extra ∷ rest) few = tt

    more : (at : At) (verdict : Verdict) → IsNext head.system head.frames before at → good_follows head (number + 1) (time_of at) verdict
        → good_follows head number before (with_event at verdict)
    more at (Bad n kind) next follows = tt
    more at (Good script) next follows = record {
      frames = follows.frames;
      chip = follows.chip;
      system = follows.system;
      limits = (next.limits, follows.limits);
      from = (next.later, AreFrom-lower before (time_of at) script.events next.later follows.from);
      order = (follows.from, follows.order);
      count = omega (arith, follows.count);
    }

    by_line : (answer : Result (Option At) BadKind) → some_next head.system head.frames number before answer
        → ((at : At) → good_follows head (number + 1) (time_of at) (body_of head (number + 1) (time_of at) lines))
        → good_follows head number before (from_line answer number (after_end head (number + 1) lines) (λ at. body_of head (number + 1) (time_of at) lines))
    by_line (Err kind) next rest = tt
    by_line (Ok None) next rest = ended lines next
    by_line (Ok (Some at)) next rest = more at (body_of head (number + 1) (time_of at) lines) next (rest at)

good_runnable : Verdict → Type 0
good_runnable (Good script) = IsPrintable script
good_runnable (Bad number kind) = Unit {0}

-- a head that was read: its numbers, and no more lines than the version of it, which says its chip memory and its system
record IsHead (number : ℕ) (head : ScriptValue) : Type 0 where
  least : 1 ≤ head.frames
  most : head.frames ≤ 1000
  size : head_size (lowest head.chip head.system) < number
  none : head.events ≡ []

size-follows : (head : ScriptValue) (number : ℕ) (script : ScriptValue) → Follows head number 0 script
    → head_size (lowest script.chip script.system) ≡ head_size (lowest head.chip head.system)
size-follows head number script follows i = head_size (lowest (follows.chip i) (follows.system i))

IsRunnable-follows : (number : ℕ) (head : ScriptValue) (verdict : Verdict) → IsHead number head → good_follows head number 0 verdict → good_runnable verdict
unfolding good_follows good_runnable
IsRunnable-follows number head (Bad line kind) is follows = tt
IsRunnable-follows number head (Good script) is follows = record {
  runnable = record {
    least = omega (arith, follows.frames, is.least);
    most = omega (arith, follows.frames, is.most);
    limits = subst (λ n. AreInLimits script.system n script.events) (sym follows.frames)
        (subst (λ system. AreInLimits system head.frames script.events) (sym follows.system) follows.limits);
    order = follows.order;
  };
  lines = omega (arith, follows.count, is.size, size-follows head number script follows);
}

IsRunnable-body : (number : ℕ) (head : ScriptValue) (lines : List (List ℕ)) → IsHead number head → good_runnable (body_of head number 0 lines)
IsRunnable-body number head lines is = IsRunnable-follows number head (body_of head number 0 lines) is (Follows-body head number 0 lines is.none)

IsRunnable-none : (number : ℕ) (head : ScriptValue) (lines : List (List ℕ)) → IsHead number head → good_runnable (head_of [] number head lines)
unfolding head_of
IsRunnable-none = IsRunnable-body

-- the script that a head says, before its events
abbrev bare : Bool → ℕ → ChipSize → System → ScriptValue
bare cpu frames chip system = record { cpu = cpu; frames = frames; chip = chip; system = system; events = [] }

-- the fifth line
IsRunnable-system : (cpu : Bool) (frames : ℕ) (chip : ChipSize) (lines : List (List ℕ)) → 1 ≤ frames → frames ≤ 1000
    → good_runnable (head_of (SystemLine ∷ []) 5 (bare cpu frames chip Pal) lines)
unfolding good_runnable head_of
IsRunnable-system cpu frames chip [] least most = tt
IsRunnable-system cpu frames chip (line ∷ lines) least most = named (system_in line)
  where
    few : (size : ChipSize) (system : System) → head_size (lowest size system) < 6
    few Kib512 Pal = omega arith
    few Kib512 Ntsc = omega arith
    few Mib1 Pal = omega arith
    few Mib1 Ntsc = omega arith

    named : (system : Option System)
        → good_runnable (from_head (with_system (bare cpu frames chip Pal) system) 5 BadSystem (λ next. body_of next 6 0 lines))
    named None = tt
    named (Some system) = IsRunnable-body 6 (bare cpu frames chip system) lines
        (record { least = least; most = most; size = few chip system; none = refl })

-- the fourth line
IsRunnable-chip : (parts : List HeadLine) (cpu : Bool) (frames : ℕ) (lines : List (List ℕ))
    → ((chip : ChipSize) (rest : List (List ℕ)) → good_runnable (head_of parts 5 (bare cpu frames chip Pal) rest))
    → good_runnable (head_of (ChipLine ∷ parts) 4 (bare cpu frames Kib512 Pal) lines)
unfolding good_runnable head_of
IsRunnable-chip parts cpu frames [] more = tt
IsRunnable-chip parts cpu frames (line ∷ lines) more = named (chip_in line)
  where
    named : (chip : Option ChipSize)
        → good_runnable (from_head (with_chip (bare cpu frames Kib512 Pal) chip) 4 Chip (λ next. head_of parts 5 next lines))
    named None = tt
    named (Some chip) = more chip lines

IsRunnable-later : (version : Version) (cpu : Bool) (frames : ℕ) (lines : List (List ℕ)) → 1 ≤ frames → frames ≤ 1000
    → good_runnable (head_of (later_lines version) 4 (bare cpu frames Kib512 Pal) lines)
IsRunnable-later One cpu frames lines least most = IsRunnable-none 4 (bare cpu frames Kib512 Pal) lines
    (record { least = least; most = most; size = omega arith; none = refl })
IsRunnable-later Two cpu frames lines least most = IsRunnable-chip [] cpu frames lines
    (λ chip rest. IsRunnable-none 5 (bare cpu frames chip Pal) rest
    (record { least = least; most = most; size = few chip; none = refl }))
  where
    few : (chip : ChipSize) → head_size (lowest chip Pal) < 5
    few Kib512 = omega arith
    few Mib1 = omega arith
IsRunnable-later Three cpu frames lines least most =
    IsRunnable-chip (SystemLine ∷ []) cpu frames lines (λ chip rest. IsRunnable-system cpu frames chip rest least most)

-- the third line
IsInRange : ℕ → Type 0
IsInRange n = (1 ≤ n) × (n ≤ 1000)

kept-range : (count : Option ℕ) → IfSome (kept_frames count) IsInRange
unfolding IsInRange
kept-range None = tt
kept-range (Some n) = tested (nat_le 1 n) (nat_le n 1000) refl refl
  where
    tested : (a b : Bool) → nat_le 1 n ≡ a → nat_le n 1000 ≡ b → IfSome (if a && b then Some n else None) IsInRange
    tested true true e f = (leb-true 1 n e, leb-true n 1000 f)
    tested true false e f = tt
    tested false b e f = tt

frames-range : (words : List (List ℕ)) → IfSome (frames_in words) IsInRange
unfolding frames_in
frames-range [] = tt
frames-range (a ∷ []) = tt
frames-range (a ∷ b ∷ []) = tested (bytes_eq a (codes "frames"))
  where
    tested : (t : Bool) → IfSome (if t then kept_frames (dec_of b) else None) IsInRange
    tested true = kept-range (dec_of b)
    tested false = tt
frames-range (a ∷ b ∷ c ∷ words) = tt

IsRunnable-frames : (version : Version) (cpu : Bool) (lines : List (List ℕ))
    → good_runnable (head_of (FramesLine ∷ later_lines version) 3 (record blank { cpu = cpu }) lines)
unfolding good_runnable head_of IsInRange
IsRunnable-frames version cpu [] = tt
IsRunnable-frames version cpu (line ∷ lines) = named (frames_in (words_of line)) (frames-range (words_of line))
  where
    named : (count : Option ℕ) → IfSome count IsInRange
        → good_runnable (from_head (with_frames (record blank { cpu = cpu }) count) 3 Frames (λ next. head_of (later_lines version) 4 next lines))
    named None range = tt
    named (Some n) range = IsRunnable-later version cpu n lines range.0 range.1

-- the second line
IsRunnable-cpu : (version : Version) (lines : List (List ℕ)) → good_runnable (head_of (head_lines version) 2 blank lines)
unfolding good_runnable head_of
IsRunnable-cpu version [] = tt
IsRunnable-cpu version (line ∷ lines) = named (cpu_in line)
  where
    named : (cpu : Option Bool)
        → good_runnable (from_head (with_cpu blank cpu) 2 Cpu (λ next. head_of (FramesLine ∷ later_lines version) 3 next lines))
    named None = tt
    named (Some cpu) = IsRunnable-frames version cpu lines

IsRunnable-header : (lines : List (List ℕ)) → good_runnable (from_header lines)
unfolding good_runnable from_header
IsRunnable-header [] = tt
IsRunnable-header (line ∷ lines) = named (version_in line)
  where
    named : (version : Option Version) → good_runnable (from_version version lines)
    named None = tt
    named (Some version) = IsRunnable-cpu version lines

-- the script of a text is one that a run takes and that can be printed
pub IsPrintable-script_of : (text : List ℕ) (script : ScriptValue) → script_of text ≡ Good script → IsPrintable script
unfolding script_of good_runnable
IsPrintable-script_of text script is = subst good_runnable is (tested (nat_lt 4194304 (length text)))
  where
    tested : (b : Bool) → good_runnable (if b then Bad 0 Long else from_header (lines_of text))
    tested true = tt
    tested false = IsRunnable-header (lines_of text)

pub IsPrintable-read : (lines : List (List ℕ)) (answer : Result ScriptValue ScriptFault) → ReadsAs (from_header lines) answer → IfOk answer IsPrintable
unfolding good_runnable
IsPrintable-read lines (Ok script) reads = subst good_runnable reads (IsRunnable-header lines)
IsPrintable-read lines (Err fault) reads = tt

-- a text's version says its script: without a line of the chip memory it is for 512 KiB, and without one of the system for PAL
said : Version → Verdict → Type 0
said version (Good script) = says version script.chip script.system ≡ true
said version (Bad number kind) = Unit {0}

said-body : (version : Version) (number : ℕ) (head : ScriptValue) (lines : List (List ℕ)) → head.events ≡ [] → says version head.chip head.system ≡ true
    → said version (body_of head number 0 lines)
unfolding good_follows said
said-body version number head lines none fits = step (body_of head number 0 lines) (Follows-body head number 0 lines none)
  where
    step : (verdict : Verdict) → good_follows head number 0 verdict → said version verdict
    step (Good script) follows = (λ i. says version (follows.chip i) (follows.system i)) ∙ fits
    step (Bad line kind) follows = tt

said-third : (verdict : Verdict) → said Three verdict
unfolding said
said-third (Good script) = refl
said-third (Bad number kind) = tt

said-later : (version : Version) (cpu : Bool) (frames : ℕ) (lines : List (List ℕ))
    → said version (head_of (later_lines version) 4 (bare cpu frames Kib512 Pal) lines)
unfolding said head_of
said-later One cpu frames lines = said-body One 4 (bare cpu frames Kib512 Pal) lines refl refl
said-later Two cpu frames [] = tt
said-later Two cpu frames (line ∷ lines) = named (chip_in line)
  where
    named : (chip : Option ChipSize)
        → said Two (from_head (with_chip (bare cpu frames Kib512 Pal) chip) 4 Chip (λ next. body_of next 5 0 lines))
    named None = tt
    named (Some chip) = said-body Two 5 (bare cpu frames chip Pal) lines refl refl
said-later Three cpu frames lines = said-third (head_of (later_lines Three) 4 (bare cpu frames Kib512 Pal) lines)

said-frames : (version : Version) (cpu : Bool) (lines : List (List ℕ))
    → said version (head_of (FramesLine ∷ later_lines version) 3 (record blank { cpu = cpu }) lines)
unfolding said head_of
said-frames version cpu [] = tt
said-frames version cpu (line ∷ lines) = named (frames_in (words_of line))
  where
    named : (count : Option ℕ)
        → said version (from_head (with_frames (record blank { cpu = cpu }) count) 3 Frames (λ next. head_of (later_lines version) 4 next lines))
    named None = tt
    named (Some n) = said-later version cpu n lines

said-head : (version : Version) (lines : List (List ℕ)) → said version (head_of (head_lines version) 2 blank lines)
unfolding said head_of
said-head version [] = tt
said-head version (line ∷ lines) = named (cpu_in line)
  where
    named : (cpu : Option Bool)
        → said version (from_head (with_cpu blank cpu) 2 Cpu (λ next. head_of (FramesLine ∷ later_lines version) 3 next lines))
    named None = tt
    named (Some cpu) = said-frames version cpu lines

IsSaid-header : (lines : List (List ℕ)) (script : ScriptValue) → from_header lines ≡ Good script → IsSaid lines script
unfolding from_header said
IsSaid-header [] script is = absurd (cc is)
IsSaid-header (line ∷ lines) script is = named (version_in line) is
  where
    named : (version : Option Version) → from_version version lines ≡ Good script → IsSaidIn version script
    named None e = absurd (cc e)
    named (Some version) e = subst (said version) e (said-head version lines)

pub IsSaid-read : (lines : List (List ℕ)) (answer : Result ScriptValue ScriptFault) → ReadsAs (from_header lines) answer → IfOk answer (IsSaid lines)
IsSaid-read lines (Ok script) reads = IsSaid-header lines script reads
IsSaid-read lines (Err fault) reads = tt

pub ruleset runnable_laws = (IsPrintable-read, IsSaid-read)
