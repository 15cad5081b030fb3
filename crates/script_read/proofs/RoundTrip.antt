-- The canonical text of a script is read as the script.
use Rattle.std.proofs.Common.{◌≡◌, ℕ, zero, suc, ◌+◌, ◌*◌, ◌^◌, ◌/◌, ◌%◌, ◌<◌, ◌≤◌, Bool, true, false, ◌&&◌, ◌==◌, cond}
use Rattle.std.proofs.Common.{List, [], ◌∷◌, ◌++◌, map, length, flat_map, codes, decimal, refl, sym, ap, ◌∙◌, Some, None}
use Rattle.std.proofs.Common.{Ok, Err, arith, nat_lt, if◌then◌else◌, append_assoc, append-nil, length-append, bytes_eq}
use Rattle.std.proofs.lemmas.Fmt.{decimal_is_IsNumeral, length-decimal-le}
use Rattle.std.proofs.lemmas.Str.Parse.{digit_from_value}
use Rattle.std.proofs.lemmas.List.Splits.{length-slice_split}
use Rattle.std.specs.List.{slice_split, onto_first}
use Rattle.std.specs.Str.Parse.{AllDigits}
use borrow.Author.Tests.{eq-eqb, ne_eqb, lt-ltb, le-ltb, le-leb, ltb-true}
use Rattle.ocs_base.specs.Limits.{time_of, HasPort, IsInLimits, AreInLimits, AreFrom, AreInOrder, IsRunnable}
use Rattle.ocs_base.specs.Register.{register_of}
use Rattle.ocs_base.specs.Script.{ScriptValue}
use Rattle.ocs_base.specs.declared.chip_size.ChipSize.{ChipSize}
use Rattle.ocs_base.specs.declared.chip_size.ChipSize.TheVariants.{Kib512, Mib1}
use Rattle.ocs_base.specs.declared.reg.Reg.{Reg}
use Rattle.ocs_base.specs.declared.script.Act.{Act}
use Rattle.ocs_base.specs.declared.script.Act.TheVariants.{Poke, Peek, Joy, Fire, Key}
use Rattle.ocs_base.specs.declared.script.At.{At}
use Rattle.ocs_base.specs.declared.system.System.{System}
use Rattle.ocs_base.specs.declared.system.System.TheVariants.{Pal, Ntsc}
use Rattle.ocs_base.specs.Systems.{lines}
use Rattle.ocs_io.specs.Numbers.{all_bytes, hex_of, hex_digit, hex_text}
use Rattle.ocs_io.proofs.TextLaws.{dec_of-decimal, hex_of-hex_text}
use Rattle.script_read.specs.Split.{without_empty_last, lines_of, words_of}
use Rattle.script_read.specs.Words.{below, kept_below, hex_number, kept_register, register_named, poke_with, peek_with, joy_with}
use Rattle.script_read.specs.Words.{fire_with, key_with, poke_of, peek_of, joy_of, fire_of, key_of, act_of, timed, event_in, event_of}
use Rattle.script_read.specs.Grammar.{Good, Bad, in_order, body_line, body_of, after_end, with_event, from_line, from_head}
use Rattle.script_read.specs.Grammar.{head_of, with_frames, kept_frames, frames_in, with_cpu, cpu_in, with_chip, chip_in}
use Rattle.script_read.specs.Grammar.{with_system, system_in, version_in, from_version, from_header, script_of}
use Rattle.script_read.specs.declared.fault.BadKind.TheVariants.{Long, Lines, Order, Cpu, Frames, Chip, System as BadSystem}
use Rattle.script_read.specs.Canonical.{spaced, line_of, line_text, digit_of, act_words, time_words, event_text, cpu_word, chip_word}
use Rattle.script_read.specs.Canonical.{system_word, version_word, head_word, head_line, head_text, script_text, HasWords, AllHaveWords}
use Rattle.script_read.specs.KindName.{kind_name}
use Rattle.script_read.specs.Printable.{IsPrintable}
use Rattle.script_read.specs.Versions.{HeadLine, CpuLine, FramesLine, ChipLine, SystemLine, kind_of, later_lines, head_lines, head_size, says, lowest, blank}
use Rattle.script_read.specs.declared.version.Version.{Version}
use Rattle.script_read.specs.declared.version.Version.TheVariants.{One, Two, Three}
use Rattle.script_read.proofs.SplitLaws.{kept-more, lines-empty}
use Rattle.script_read.proofs.EventLaws.{tests_of, register_of-offset, lines-few}

-- bytes that are all above one

abbrev above : ℕ → List ℕ → Bool
above c bytes = all_bytes (λ b. nat_lt c b) bytes

both : (a b : Bool) → (a && b) ≡ true → (a ≡ true) × (b ≡ true)
both true b h = (refl, h)
both false b h = (h, absurd (cc h))

join : (a b : Bool) → a ≡ true → b ≡ true → (a && b) ≡ true
join true b x y = y
join false b x y = x

above-append : (c : ℕ) (xs ys : List ℕ) → above c xs ≡ true → above c ys ≡ true → above c (xs ++ ys) ≡ true
above-append c [] ys first second = second
above-append c (b ∷ xs) ys first second = let parts = both (nat_lt c b) (above c xs) first in
    join (nat_lt c b) (above c (xs ++ ys)) parts.0 (above-append c xs ys parts.1 second)

above-lower : (xs : List ℕ) → above 32 xs ≡ true → above 10 xs ≡ true
above-lower [] high = refl
above-lower (b ∷ xs) high =
    let parts = both (nat_lt 32 b) (above 32 xs) high in
    join (nat_lt 10 b) (above 10 xs) (lt-ltb 10 b (omega (arith, ltb-true 32 b parts.0))) (above-lower xs parts.1)

AreAbove : List (List ℕ) → Type 0
AreAbove [] = Unit {0}
AreAbove (word ∷ words) = (above 32 word ≡ true) × AreAbove words

above-spaced : (words : List (List ℕ)) → AreAbove words → above 10 (spaced words) ≡ true
unfolding AreAbove spaced
above-spaced [] all = refl
above-spaced (word ∷ words) all = above-append 10 word (spaced words) (above-lower word all.0) (above-spaced words all.1)

above-line : (first : List ℕ) (words : List (List ℕ)) → above 32 first ≡ true → AreAbove words → above 10 (line_of first words) ≡ true
unfolding line_of
above-line first words one all = above-append 10 first (spaced words) (above-lower first one) (above-spaced words all)

above-digits : (ds : List ℕ) → AllDigits 10 ds → above 32 ds ≡ true
above-digits [] all = refl
above-digits (d ∷ ds) all = join (nat_lt 32 d) (above 32 ds) (lt-ltb 32 d (omega (arith, digit_from_value d all.0))) (above-digits ds all.1)

above-decimal : (n : ℕ) → n < 2 ^ 64 → above 32 (decimal n) ≡ true
above-decimal n fits = above-digits (decimal n) (decimal_is_IsNumeral n fits).0.1

above-hex_digit : (d : ℕ) → nat_lt 32 (hex_digit d) ≡ true
above-hex_digit d = step (nat_lt d 10)
  where
    step : (b : Bool) → nat_lt 32 (if b then 48 + d else 87 + d) ≡ true
    step true = lt-ltb 32 (48 + d) (omega arith)
    step false = lt-ltb 32 (87 + d) (omega arith)

above-hex_text : (digits n : ℕ) → above 32 (hex_text digits n) ≡ true
unfolding hex_text
above-hex_text zero n = refl
above-hex_text (suc k) n = join (nat_lt 32 (hex_digit (n / 16 ^ k % 16))) (above 32 (hex_text k n)) (above-hex_digit (n / 16 ^ k % 16)) (above-hex_text k n)

length-hex_text : (digits n : ℕ) → length (hex_text digits n) ≡ digits
unfolding hex_text
length-hex_text zero n = refl
length-hex_text (suc k) n = omega (arith, length-hex_text k n)

-- cutting what was joined

split-plain : (c : ℕ) (word rest : List ℕ) → above c word ≡ true
    → slice_split (λ (b : ℕ). b == c) (word ++ c ∷ rest) ≡ word ∷ slice_split (λ (b : ℕ). b == c) rest
split-plain c [] rest plain =
    ap (λ t. cond t ([] ∷ slice_split (λ (b : ℕ). b == c) rest) (onto_first c (slice_split (λ (b : ℕ). b == c) rest))) (eq-eqb c c refl)
split-plain c (b ∷ word) rest plain =
    let parts = both (nat_lt c b) (above c word) plain in
    ap (λ t. cond t ([] ∷ slice_split (λ (d : ℕ). d == c) (word ++ c ∷ rest)) (onto_first b (slice_split (λ (d : ℕ). d == c) (word ++ c ∷ rest))))
    (ne_eqb b c (λ e. omega (arith, ltb-true c b parts.0)))
    ∙ ap (onto_first b) (split-plain c word rest parts.1)

split-last : (c : ℕ) (word : List ℕ) → above c word ≡ true → slice_split (λ (b : ℕ). b == c) word ≡ word ∷ []
split-last c [] plain = refl
split-last c (b ∷ word) plain =
    let parts = both (nat_lt c b) (above c word) plain in
    ap (λ t. cond t ([] ∷ slice_split (λ (d : ℕ). d == c) word) (onto_first b (slice_split (λ (d : ℕ). d == c) word)))
    (ne_eqb b c (λ e. omega (arith, ltb-true c b parts.0)))
    ∙ ap (onto_first b) (split-last c word parts.1)

words_of-line : (first : List ℕ) (words : List (List ℕ)) → above 32 first ≡ true → AreAbove words → words_of (line_of first words) ≡ first ∷ words
unfolding words_of line_of spaced AreAbove
words_of-line first [] one all = ap (slice_split (λ (b : ℕ). b == 32)) (append-nil first) ∙ split-last 32 first one
words_of-line first (word ∷ words) one all = split-plain 32 first (word ++ spaced words) one ∙ ap (λ t. first ∷ t) (words_of-line word words all.0 all.1)

lines_of-line : (line rest : List ℕ) → above 10 line ≡ true → lines_of (line ++ 10 ∷ rest) ≡ line ∷ lines_of rest
unfolding lines_of without_empty_last
lines_of-line line rest plain =
    ap without_empty_last (split-plain 10 line rest plain)
    ∙ kept-more line (slice_split (λ (b : ℕ). b == 10) rest) (without_empty_last (slice_split (λ (b : ℕ). b == 10) rest))
    (omega (arith, length-slice_split (λ (b : ℕ). b == 10) rest))

lines_of-text : (first : List ℕ) (words : List (List ℕ)) (rest : List ℕ) → above 32 first ≡ true → AreAbove words
    → lines_of (line_text first words ++ rest) ≡ line_of first words ∷ lines_of rest
unfolding line_text
lines_of-text first words rest one all = ap lines_of (append_assoc (line_of first words) (10 ∷ []) rest)
    ∙ lines_of-line (line_of first words) rest (above-line first words one all)

-- numbers

below-decimal : (limit n : ℕ) → n < limit → n < 2 ^ 64 → below limit (decimal n) ≡ Some n
unfolding below
below-decimal limit n small fits = ap (kept_below limit) (dec_of-decimal n fits) ∙ ap (λ b. if b then Some n else None) (lt-ltb n limit small)

hex_number-hex_text : (digits n : ℕ) → 1 ≤ digits → digits ≤ 4 → n < 16 ^ digits → hex_number digits (hex_text digits n) ≡ Some n
unfolding hex_number
hex_number-hex_text digits n few many fits =
    ap (λ b. if b then hex_of (hex_text digits n) else None) (eq-eqb (length (hex_text digits n)) digits (length-hex_text digits n))
    ∙ hex_of-hex_text digits n few many fits

register_named-hex_text : (reg : Reg) → register_named (hex_text 3 reg.offset) ≡ Some reg
unfolding register_named
register_named-hex_text reg =
    ap kept_register (hex_number-hex_text 3 reg.offset (omega arith) (omega arith) (omega (arith, reg.below)))
    ∙ ap (λ b. if b then Some (register_of reg.offset) else None) (tests_of reg.offset reg.even reg.below)
    ∙ ap Some (register_of-offset reg)

fits_64 : (n : ℕ) → n ≤ 1000 → n < 2 ^ 64
fits_64 n small = omega arith

-- events

AreAbove-act : (act : Act) → HasPort act → AreAbove (act_words act)
unfolding AreAbove act_words
AreAbove-act (Poke reg word) port = (refl, (above-hex_text 3 reg.offset, (above-hex_text 4 word, tt)))
AreAbove-act (Peek reg) port = (refl, (above-hex_text 3 reg.offset, tt))
AreAbove-act (Joy port word) low = (refl, (above-decimal port (omega (arith, low)), (above-hex_text 4 word, tt)))
AreAbove-act (Fire port down) low = (refl, (above-decimal port (omega (arith, low)), (above-decimal (digit_of down) (digit_fits down), tt)))
  where
    digit_fits : (b : Bool) → digit_of b < 2 ^ 64
    digit_fits true = omega arith
    digit_fits false = omega arith
AreAbove-act (Key code) port = (refl, (above-hex_text 2 code, tt))

AreAbove-time : (system : System) (frames : ℕ) (at : At) → frames ≤ 1000 → IsInLimits system frames at → AreAbove (time_words at)
unfolding AreAbove
AreAbove-time system frames at most limits = (
  above-decimal at.frame (omega (arith, limits.frame)),
  (above-decimal at.v (omega (arith, limits.line, lines-few system)), (above-decimal at.h (omega (arith, limits.clock)), AreAbove-act at.act limits.port)),
)

event_in-act : (system : System) (frames : ℕ) (at f v h : List ℕ) (act : Act) → bytes_eq at (codes "at") ≡ true → HasPort act → HasWords act
    → event_in system frames (at ∷ f ∷ v ∷ h ∷ act_words act) ≡ timed (below frames f) (below (lines system false) v) (below 227 h) (Some act)
unfolding event_in act_words act_of poke_of peek_of joy_of fire_of key_of
event_in-act system frames at f v h (Poke reg word) named port fits =
    ap (λ b. if b then timed (below frames f) (below (lines system false) v) (below 227 h)
    (poke_with (register_named (hex_text 3 reg.offset)) (hex_number 4 (hex_text 4 word))) else None) named
    ∙ (λ i. timed (below frames f) (below (lines system false) v) (below 227 h)
    (poke_with (register_named-hex_text reg i) (hex_number-hex_text 4 word (omega arith) (omega arith) (omega (arith, fits)) i)))
event_in-act system frames at f v h (Peek reg) named port fits =
    ap (λ b. if b then timed (below frames f) (below (lines system false) v) (below 227 h) (peek_with (register_named (hex_text 3 reg.offset))) else None)
    named
    ∙ (λ i. timed (below frames f) (below (lines system false) v) (below 227 h) (peek_with (register_named-hex_text reg i)))
event_in-act system frames at f v h (Joy port word) named low fits =
    ap (λ b. if b then timed (below frames f) (below (lines system false) v) (below 227 h) (joy_with (below 2 (decimal port))
    (hex_number 4 (hex_text 4 word))) else None) named
    ∙ (λ i. timed (below frames f) (below (lines system false) v) (below 227 h)
    (joy_with (below-decimal 2 port (omega (arith, low)) (omega (arith, low)) i)
    (hex_number-hex_text 4 word (omega arith) (omega arith) (omega (arith, fits)) i)))
event_in-act system frames at f v h (Fire port true) named low fits =
    ap (λ b. if b then timed (below frames f) (below (lines system false) v) (below 227 h) (fire_with (below 2 (decimal port)) (below 2 (decimal 1))) else
    None) named
    ∙ (λ i. timed (below frames f) (below (lines system false) v) (below 227 h)
    (fire_with (below-decimal 2 port (omega (arith, low)) (omega (arith, low)) i) (below-decimal 2 1 (omega arith) (omega arith) i)))
event_in-act system frames at f v h (Fire port false) named low fits =
    ap (λ b. if b then timed (below frames f) (below (lines system false) v) (below 227 h) (fire_with (below 2 (decimal port)) (below 2 (decimal 0))) else
    None) named
    ∙ (λ i. timed (below frames f) (below (lines system false) v) (below 227 h)
    (fire_with (below-decimal 2 port (omega (arith, low)) (omega (arith, low)) i) (below-decimal 2 0 (omega arith) (omega arith) i)))
event_in-act system frames at f v h (Key code) named port fits =
    ap (λ b. if b then timed (below frames f) (below (lines system false) v) (below 227 h) (key_with (hex_number 2 (hex_text 2 code))) else None) named
    ∙ (λ i. timed (below frames f) (below (lines system false) v) (below 227 h) (key_with (hex_number-hex_text 2 code (omega arith) (omega arith)
    (omega (arith, fits)) i)))

abbrev event_line : At → List ℕ
event_line at = line_of (codes "at") (time_words at)

event_of-line : (system : System) (frames : ℕ) (at : At) → frames ≤ 1000 → IsInLimits system frames at → HasWords at.act
    → event_of system frames (event_line at) ≡ Some at
unfolding event_of
event_of-line system frames at most limits fits =
    ap (event_in system frames) (words_of-line (codes "at") (time_words at) refl (AreAbove-time system frames at most limits))
    ∙ event_in-act system frames (codes "at") (decimal at.frame) (decimal at.v) (decimal at.h) at.act refl limits.port fits
    ∙ (λ i. timed (below-decimal frames at.frame limits.frame (omega (arith, limits.frame)) i)
    (below-decimal (lines system false) at.v limits.line (omega (arith, limits.line, lines-few system)) i)
    (below-decimal 227 at.h (omega (arith, limits.clock)) (omega (arith, limits.clock)) i) (Some at.act))

no_end : (at : At) → bytes_eq (event_line at) (codes "end") ≡ false
unfolding line_of
no_end at = refl

-- the lines after the head

body-events : (head : ScriptValue) (events : List At) (number before : ℕ) → head.frames ≤ 1000 → head.events ≡ [] → AreInLimits head.system head.frames events
    → AllHaveWords events → AreFrom before events → AreInOrder events → number + length events ≤ 100000
    → body_of head number before (map event_line events ++ codes "end" ∷ []) ≡ Good (record head { events = events })
unfolding body_of body_line
body-events head [] number before most none limits words from order few =
    ap (λ b. from_line (if b then Err Lines else Ok None) number (after_end head (number + 1) []) (λ at. body_of head (number + 1) (time_of at) []))
    (le-ltb 100000 number (omega arith))
    ∙ ap (λ events. Good (record head { events = events })) none
body-events head (at ∷ events) number before most none limits words from order few =
    ap (λ b. from_line (if b then Err Lines else
    (if bytes_eq (event_line at) (codes "end") then Ok None else in_order before (event_of head.system head.frames (event_line at)))) number
    (after_end head (number + 1) (map event_line events ++ codes "end" ∷ []))
    (λ e. body_of head (number + 1) (time_of e) (map event_line events ++ codes "end" ∷ []))) (le-ltb 100000 number (omega arith))
    ∙ ap (λ b. from_line (if b then Ok None else in_order before (event_of head.system head.frames (event_line at))) number
    (after_end head (number + 1) (map event_line events ++ codes "end" ∷ []))
    (λ e. body_of head (number + 1) (time_of e) (map event_line events ++ codes "end" ∷ []))) (no_end at)
    ∙ ap (λ event. from_line (in_order before event) number (after_end head (number + 1) (map event_line events ++ codes "end" ∷ []))
    (λ e. body_of head (number + 1) (time_of e) (map event_line events ++ codes "end" ∷ []))) (event_of-line head.system head.frames at most limits.0 words.0)
    ∙ ap (λ b. from_line (if b then Err Order else Ok (Some at)) number (after_end head (number + 1) (map event_line events ++ codes "end" ∷ []))
    (λ e. body_of head (number + 1) (time_of e) (map event_line events ++ codes "end" ∷ []))) (le-ltb (time_of at) before from.0)
    ∙ ap (with_event at) (body-events head events (number + 1) (time_of at) most none limits.1 words.1 order.0 order.1 (omega arith))

lines-end : lines_of (line_text (codes "end") []) ≡ codes "end" ∷ []
unfolding AreAbove line_of line_text spaced
lines-end = ap lines_of (sym (append-nil (line_text (codes "end") []))) ∙ lines_of-text (codes "end") [] [] refl tt
    ∙ ap (λ lines. codes "end" ∷ lines) lines-empty

lines-events : (system : System) (frames : ℕ) (events : List At) → frames ≤ 1000 → AreInLimits system frames events
    → lines_of (flat_map event_text events ++ line_text (codes "end") []) ≡ map event_line events ++ codes "end" ∷ []
unfolding event_text
lines-events system frames [] most limits = lines-end
lines-events system frames (at ∷ events) most limits =
    ap lines_of (append_assoc (event_text at) (flat_map event_text events) (line_text (codes "end") []))
    ∙ lines_of-text (codes "at") (time_words at) (flat_map event_text events ++ line_text (codes "end") []) refl
    (AreAbove-time system frames at most limits.0)
    ∙ ap (λ lines. event_line at ∷ lines) (lines-events system frames events most limits.1)

-- the size: 29 bytes an event at most

short-decimal : (n : ℕ) → n < 1000 → length (decimal n) ≤ 3
short-decimal n small = length-decimal-le 3 n (omega arith) (omega arith) (omega arith)

size-act : (act : Act) → HasPort act → length (spaced (act_words act)) ≤ 14
unfolding spaced act_words
size-act (Poke reg word) port =
    omega (
      arith,
      length-append (hex_text 3 reg.offset) (spaced (hex_text 4 word ∷ [])),
      length-append (hex_text 4 word) [],
      length-hex_text 3 reg.offset,
      length-hex_text 4 word,
    )
size-act (Peek reg) port = omega (arith, length-append (hex_text 3 reg.offset) [], length-hex_text 3 reg.offset)
size-act (Joy port word) low =
    omega (
      arith,
      length-append (decimal port) (spaced (hex_text 4 word ∷ [])),
      length-append (hex_text 4 word) [],
      short-decimal port (omega (arith, low)),
      length-hex_text 4 word,
    )
size-act (Fire port down) low =
    omega (
      arith,
      length-append (decimal port) (spaced (decimal (digit_of down) ∷ [])),
      length-append (decimal (digit_of down)) [],
      short-decimal port (omega (arith, low)),
      short-decimal (digit_of down) (digit_small down),
    )
  where
    digit_small : (b : Bool) → digit_of b < 1000
    digit_small true = omega arith
    digit_small false = omega arith
size-act (Key code) port = omega (arith, length-append (hex_text 2 code) [], length-hex_text 2 code)

size-event : (system : System) (frames : ℕ) (at : At) → frames ≤ 1000 → IsInLimits system frames at → length (event_text at) ≤ 29
unfolding event_text line_text line_of spaced
size-event system frames at most limits =
    let f = decimal at.frame in let v = decimal at.v in let h = decimal at.h in let s = spaced (act_words at.act) in
    omega (
      arith,
      length-append (97 ∷ 116 ∷ 32 ∷ (f ++ (32 ∷ (v ++ (32 ∷ (h ++ s)))))) (10 ∷ []),
      length-append f (32 ∷ (v ++ (32 ∷ (h ++ s)))),
      length-append v (32 ∷ (h ++ s)),
      length-append h s,
      short-decimal at.frame (omega (arith, limits.frame)),
      short-decimal at.v (omega (arith, limits.line, lines-few system)),
      short-decimal at.h (omega (arith, limits.clock)),
      size-act at.act limits.port,
    )

size-events : (system : System) (frames : ℕ) (events : List At) → frames ≤ 1000 → AreInLimits system frames events
    → length (flat_map event_text events) ≤ 29 * length events
size-events system frames [] most limits = omega arith
size-events system frames (at ∷ events) most limits =
    omega (
      arith,
      length-append (event_text at) (flat_map event_text events),
      size-event system frames at most limits.0,
      size-events system frames events
          most limits.1,
    )

-- 12 bytes a line of the head at most
size-part : (script : ScriptValue) (part : HeadLine) → script.frames ≤ 1000 → length (head_line script part) ≤ 12
unfolding line_text line_of spaced
size-part script CpuLine most = cpu_small script.cpu
  where
    on_size : length (line_text (codes "cpu") (codes "on" ∷ [])) ≡ 7
    on_size = refl

    off_size : length (line_text (codes "cpu") (codes "off" ∷ [])) ≡ 8
    off_size = refl

    cpu_small : (b : Bool) → length (line_text (codes "cpu") (cpu_word b ∷ [])) ≤ 12
    cpu_small true = omega (arith, on_size)
    cpu_small false = omega (arith, off_size)
size-part script FramesLine most =
    omega (
      arith,
      length-append ((102 ∷ 114 ∷ 97 ∷ 109 ∷ 101 ∷ 115 ∷ 32 ∷ (decimal script.frames ++ []))) (10 ∷ []),
      length-append (decimal script.frames) [],
      length-decimal-le 4 script.frames (omega arith) (omega arith) (omega (arith, most)),
    )
size-part script ChipLine most = chip_small script.chip
  where
    less_size : length (line_text (codes "chip") (codes "512" ∷ [])) ≡ 9
    less_size = refl

    more_size : length (line_text (codes "chip") (codes "1024" ∷ [])) ≡ 10
    more_size = refl

    chip_small : (chip : ChipSize) → length (line_text (codes "chip") (chip_word chip ∷ [])) ≤ 12
    chip_small Kib512 = omega (arith, less_size)
    chip_small Mib1 = omega (arith, more_size)
size-part script SystemLine most = system_small script.system
  where
    pal_size : length (line_text (codes "system") (codes "pal" ∷ [])) ≡ 11
    pal_size = refl

    ntsc_size : length (line_text (codes "system") (codes "ntsc" ∷ [])) ≡ 12
    ntsc_size = refl

    system_small : (system : System) → length (line_text (codes "system") (system_word system ∷ [])) ≤ 12
    system_small Pal = omega (arith, pal_size)
    system_small Ntsc = omega (arith, ntsc_size)

size-parts : (script : ScriptValue) (parts : List HeadLine) → script.frames ≤ 1000 → length (flat_map (head_line script) parts) ≤ 12 * length parts
size-parts script [] most = omega arith
size-parts script (part ∷ parts) most =
    omega (
      arith,
      length-append (head_line script part) (flat_map (head_line script) parts),
      size-part script part most,
      size-parts script parts most,
    )

size-version : (version : Version) → length (line_text (codes "ocs") (version_word version ∷ [])) ≡ 6
unfolding line_text line_of spaced
size-version One = refl
size-version Two = refl
size-version Three = refl

few_lines : (version : Version) → length (head_lines version) ≤ 4
few_lines One = omega arith
few_lines Two = omega arith
few_lines Three = omega arith

size-head : (version : Version) (script : ScriptValue) → script.frames ≤ 1000 → length (head_text version script) ≤ 54
unfolding head_text
size-head version script most =
    omega (
      arith,
      length-append (line_text (codes "ocs") (version_word version ∷ [])) (flat_map (head_line script) (head_lines version)),
      size-version version,
      size-parts script (head_lines version) most,
      few_lines version,
    )

size-end : length (line_text (codes "end") []) ≡ 4
unfolding line_text line_of spaced
size-end = refl

size-script : (script : ScriptValue) → IsRunnable script → length script.events ≤ 100000 → length (script_text script) ≤ 4194304
unfolding script_text
size-script script runnable few =
    omega (
      arith,
      length-append (head_text (lowest script.chip script.system) script) (flat_map event_text script.events ++ line_text (codes "end") []),
      length-append (flat_map event_text script.events) (line_text (codes "end") []),
      size-head (lowest script.chip script.system) script runnable.most,
      size-events script.system script.frames script.events runnable.most runnable.limits,
      size-end,
    )

-- the head

abbrev version_line : Version → List ℕ
version_line version = line_of (codes "ocs") (version_word version ∷ [])

abbrev part_line : ScriptValue → HeadLine → List ℕ
part_line script part = line_of (kind_name (kind_of part)) (head_word script part ∷ [])

plain_name : (part : HeadLine) → above 32 (kind_name (kind_of part)) ≡ true
plain_name CpuLine = refl
plain_name FramesLine = refl
plain_name ChipLine = refl
plain_name SystemLine = refl

plain_word : (script : ScriptValue) (part : HeadLine) → script.frames ≤ 1000 → above 32 (head_word script part) ≡ true
plain_word script CpuLine most = plain_cpu script.cpu
  where
    plain_cpu : (b : Bool) → above 32 (cpu_word b) ≡ true
    plain_cpu true = refl
    plain_cpu false = refl
plain_word script FramesLine most = above-decimal script.frames (fits_64 script.frames most)
plain_word script ChipLine most = plain_chip script.chip
  where
    plain_chip : (chip : ChipSize) → above 32 (chip_word chip) ≡ true
    plain_chip Kib512 = refl
    plain_chip Mib1 = refl
plain_word script SystemLine most = plain_system script.system
  where
    plain_system : (system : System) → above 32 (system_word system) ≡ true
    plain_system Pal = refl
    plain_system Ntsc = refl

plain_version : (version : Version) → above 32 (version_word version) ≡ true
plain_version One = refl
plain_version Two = refl
plain_version Three = refl

lines-parts : (script : ScriptValue) (parts : List HeadLine) (rest : List ℕ) → script.frames ≤ 1000
    → lines_of (flat_map (head_line script) parts ++ rest) ≡ map (part_line script) parts ++ lines_of rest
unfolding AreAbove
lines-parts script [] rest most = refl
lines-parts script (part ∷ parts) rest most =
    ap lines_of (append_assoc (head_line script part) (flat_map (head_line script) parts) rest)
    ∙ lines_of-text (kind_name (kind_of part)) (head_word script part ∷ []) (flat_map (head_line script) parts ++ rest) (plain_name part)
    (plain_word script part most, tt)
    ∙ ap (λ lines. part_line script part ∷ lines) (lines-parts script parts rest most)

lines-head : (version : Version) (script : ScriptValue) (rest : List ℕ) → script.frames ≤ 1000
    → lines_of (head_text version script ++ rest) ≡ version_line version ∷ (map (part_line script) (head_lines version) ++ lines_of rest)
unfolding head_text AreAbove
lines-head version script rest most =
    ap lines_of (append_assoc (line_text (codes "ocs") (version_word version ∷ [])) (flat_map (head_line script) (head_lines version)) rest)
    ∙ lines_of-text (codes "ocs") (version_word version ∷ []) (flat_map (head_line script) (head_lines version) ++ rest) refl (plain_version version, tt)
    ∙ ap (λ lines. version_line version ∷ lines) (lines-parts script (head_lines version) rest most)

version_in-line : (version : Version) → version_in (version_line version) ≡ Some version
unfolding version_in line_of spaced
version_in-line One = refl
version_in-line Two = refl
version_in-line Three = refl

cpu_in-line : (cpu : Bool) → cpu_in (line_of (codes "cpu") (cpu_word cpu ∷ [])) ≡ Some cpu
unfolding cpu_in line_of spaced
cpu_in-line true = refl
cpu_in-line false = refl

chip_in-line : (chip : ChipSize) → chip_in (line_of (codes "chip") (chip_word chip ∷ [])) ≡ Some chip
unfolding chip_in line_of spaced
chip_in-line Kib512 = refl
chip_in-line Mib1 = refl

system_in-line : (system : System) → system_in (line_of (codes "system") (system_word system ∷ [])) ≡ Some system
unfolding system_in line_of spaced
system_in-line Pal = refl
system_in-line Ntsc = refl

frames_in-line : (frames : ℕ) → 1 ≤ frames → frames ≤ 1000 → frames_in (words_of (line_of (codes "frames") (decimal frames ∷ []))) ≡ Some frames
unfolding frames_in AreAbove
frames_in-line frames least most =
    ap frames_in (words_of-line (codes "frames") (decimal frames ∷ []) refl (above-decimal frames (omega arith), tt))
    ∙ ap kept_frames (dec_of-decimal frames (omega arith))
    ∙ (λ i. if le-leb 1 frames least i && le-leb frames 1000 most i then Some frames else None)

first_chip : (chip : ChipSize) (system : System) → says One chip system ≡ true → Kib512 ≡ chip
first_chip Kib512 system said = refl
first_chip Mib1 system said = absurd (cc said)

first_pal : (chip : ChipSize) (system : System) → says One chip system ≡ true → Pal ≡ system
first_pal chip Pal said = refl
first_pal Kib512 Ntsc said = absurd (cc said)
first_pal Mib1 Ntsc said = absurd (cc said)

second_pal : (chip : ChipSize) (system : System) → says Two chip system ≡ true → Pal ≡ system
second_pal chip Pal said = refl
second_pal chip Ntsc said = absurd (cc said)

-- the script that a head says, before its events
abbrev bare : ScriptValue → ChipSize → System → ScriptValue
bare script chip system = record { cpu = script.cpu; frames = script.frames; chip = chip; system = system; events = [] }

head-later : (version : Version) (script : ScriptValue) (rest : List (List ℕ)) → says version script.chip script.system ≡ true
    → head_of (later_lines version) 4 (bare script Kib512 Pal) (map (part_line script) (later_lines version) ++ rest)
    ≡ body_of (bare script script.chip script.system) (head_size version + 1) 0 rest
unfolding head_of
head-later One script rest said =
    (λ i. body_of (bare script (first_chip script.chip script.system said i) (first_pal script.chip script.system said i)) 4 0 rest)
head-later Two script rest said =
    ap (λ chip. from_head (with_chip (bare script Kib512 Pal) chip) 4 Chip (λ next. body_of next 5 0 rest)) (chip_in-line script.chip)
    ∙ ap (λ system. body_of (bare script script.chip system) 5 0 rest) (second_pal script.chip script.system said)
head-later Three script rest said =
    ap (λ chip. from_head (with_chip (bare script Kib512 Pal) chip) 4 Chip (λ next. head_of (SystemLine ∷ []) 5 next (part_line script SystemLine ∷ rest)))
    (chip_in-line script.chip)
    ∙ ap (λ system. from_head (with_system (bare script script.chip Pal) system) 5 BadSystem (λ next. body_of next 6 0 rest)) (system_in-line script.system)

-- a head that says a script is read as it
head-read : (version : Version) (script : ScriptValue) (rest : List (List ℕ)) → 1 ≤ script.frames → script.frames ≤ 1000
    → says version script.chip script.system ≡ true
    → head_of (head_lines version) 2 blank (map (part_line script) (head_lines version) ++ rest)
    ≡ body_of (bare script script.chip script.system) (head_size version + 1) 0 rest
unfolding head_of
head-read version script rest least most said =
    ap (λ cpu. from_head (with_cpu blank cpu) 2 Cpu
    (λ next. head_of (FramesLine ∷ later_lines version) 3 next (map (part_line script) (FramesLine ∷ later_lines version) ++ rest)))
    (cpu_in-line script.cpu)
    ∙ ap (λ count. from_head (with_frames (record blank { cpu = script.cpu }) count) 3 Frames
    (λ next. head_of (later_lines version) 4 next (map (part_line script) (later_lines version) ++ rest))) (frames_in-line script.frames least most)
    ∙ head-later version script rest said

lowest-says : (chip : ChipSize) (system : System) → says (lowest chip system) chip system ≡ true
lowest-says Kib512 Pal = refl
lowest-says Kib512 Ntsc = refl
lowest-says Mib1 Pal = refl
lowest-says Mib1 Ntsc = refl

-- the whole text

AreFrom-zero : (events : List At) → AreFrom 0 events
AreFrom-zero [] = tt
AreFrom-zero (at ∷ events) = (omega arith, AreFrom-zero events)

-- the text that is printed of a script is read as the script
pub script_of-script_text : (script : ScriptValue) → IsPrintable script → AllHaveWords script.events → script_of (script_text script) ≡ Good script
unfolding script_of from_header script_text
script_of-script_text script printable words =
    let runnable = printable.runnable in let version = lowest script.chip script.system in
    ap (λ b. if b then Bad 0 Long else from_header (lines_of (script_text script)))
    (le-ltb 4194304 (length (script_text script)) (size-script script runnable (omega (arith, printable.lines))))
    ∙ ap from_header (lines-head version script (flat_map event_text script.events ++ line_text (codes "end") []) runnable.most)
    ∙ ap (λ v. from_version v (map (part_line script) (head_lines version) ++ lines_of (flat_map event_text script.events ++ line_text (codes "end") [])))
    (version_in-line version)
    ∙ head-read version script (lines_of (flat_map event_text script.events ++ line_text (codes "end") [])) runnable.least runnable.most
    (lowest-says script.chip script.system)
    ∙ ap (body_of (bare script script.chip script.system) (head_size version + 1) 0)
    (lines-events script.system script.frames script.events runnable.most runnable.limits)
    ∙ body-events (bare script script.chip script.system) script.events (head_size version + 1) 0 runnable.most refl runnable.limits words
    (AreFrom-zero script.events) runnable.order (omega (arith, printable.lines))
