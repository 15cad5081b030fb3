-- The words of an event: what fits, and what is none.
use Rattle.std.proofs.Common.{◌≡◌, ◌≢◌, ℕ, ◌%◌, ◌^◌, ◌<◌, Bool, true, false, ◌&&◌, ◌==◌, List, [], ◌∷◌, length, refl, sym, ap, subst}
use Rattle.std.proofs.Common.{◌∙◌, Option, Some, None, IsSome, IfSome, arith, nat_lt, nat_le, if◌then◌else◌, ◌↔◌, bytes_eq, codes}
use Rattle.std.proofs.lemmas.Bool.Decides.{nat_tests}
use Rattle.std.proofs.lemmas.Int.Digits.{digits_value-lt}
use borrow.Author.Tests.{eqb-true, ltb-true}
use Rattle.std.specs.Str.Parse.{AllDigits, digits_value}
use Rattle.std.specs.Char.{digit_value}
use Rattle.ocs_base.proofs.Registers.{same_register}
use Rattle.ocs_base.specs.Register.{register_of}
use Rattle.ocs_base.specs.declared.reg.Reg.{Reg}
use Rattle.ocs_io.specs.Numbers.{hex_of, all_bytes, is_lower_hex}
use Rattle.script_read.specs.Words.{below, hex_number, kept_register, register_named, poke_of, peek_of, joy_of, fire_of, key_of}
use Rattle.script_read.specs.Words.{act_of, event_in, event_of, poke_with, peek_with, joy_with, fire_with, key_with, timed}
use Rattle.script_read.specs.Split.{words_of}
use Rattle.ocs_base.specs.declared.system.System.{System}
use Rattle.ocs_base.specs.declared.system.System.TheVariants.{Pal, Ntsc}
use Rattle.ocs_base.specs.Systems.{lines}
use Rattle.std.proofs.lemmas.List.Splits.{length-slice_split}

-- words of a wrong number are no act
pub poke_of-none : (words : List (List ℕ)) → length words ≢ 2 → poke_of words ≡ None
unfolding poke_of
poke_of-none [] few = refl
poke_of-none (a ∷ []) few = refl
poke_of-none (a ∷ b ∷ []) few = absurd (few refl)
poke_of-none (a ∷ b ∷ c ∷ words) few = refl

pub joy_of-none : (words : List (List ℕ)) → length words ≢ 2 → joy_of words ≡ None
unfolding joy_of
joy_of-none [] few = refl
joy_of-none (a ∷ []) few = refl
joy_of-none (a ∷ b ∷ []) few = absurd (few refl)
joy_of-none (a ∷ b ∷ c ∷ words) few = refl

pub fire_of-none : (words : List (List ℕ)) → length words ≢ 2 → fire_of words ≡ None
unfolding fire_of
fire_of-none [] few = refl
fire_of-none (a ∷ []) few = refl
fire_of-none (a ∷ b ∷ []) few = absurd (few refl)
fire_of-none (a ∷ b ∷ c ∷ words) few = refl

pub peek_of-none : (words : List (List ℕ)) → length words ≢ 1 → peek_of words ≡ None
unfolding peek_of
peek_of-none [] few = refl
peek_of-none (a ∷ []) few = absurd (few refl)
peek_of-none (a ∷ b ∷ words) few = refl

pub key_of-none : (words : List (List ℕ)) → length words ≢ 1 → key_of words ≡ None
unfolding key_of
key_of-none [] few = refl
key_of-none (a ∷ []) few = absurd (few refl)
key_of-none (a ∷ b ∷ words) few = refl

pub event_in-none : (system : System) (frames : ℕ) (words : List (List ℕ)) → length words < 5 → event_in system frames words ≡ None
unfolding event_in
event_in-none system frames [] few = refl
event_in-none system frames (a ∷ []) few = refl
event_in-none system frames (a ∷ b ∷ []) few = refl
event_in-none system frames (a ∷ b ∷ c ∷ []) few = refl
event_in-none system frames (a ∷ b ∷ c ∷ d ∷ []) few = refl
event_in-none system frames (a ∷ b ∷ c ∷ d ∷ e ∷ words) few = absurd (omega arith)

-- each field of a system has less than 313 lines
pub lines-few : (system : System) → lines system false < 313
lines-few Pal = omega arith
lines-few Ntsc = omega arith

-- a number of so many hexadecimal digits is below the power
lower_digit : (b : ℕ) → is_lower_hex b ≡ true → digit_value b < 16
lower_digit b lower = grind (arith, nat_tests)

both : (a b : Bool) → (a && b) ≡ true → (a ≡ true) × (b ≡ true)
both true b h = (refl, h)
both false b h = (h, absurd (cc h))

AllDigits-lower : (bytes : List ℕ) → all_bytes is_lower_hex bytes ≡ true → AllDigits 16 bytes
AllDigits-lower [] lower = tt
AllDigits-lower (b ∷ bytes) lower = let parts = both (is_lower_hex b) (all_bytes is_lower_hex bytes) lower in
    (lower_digit b parts.0, AllDigits-lower bytes parts.1)

chosen : (b : Bool) (v n : ℕ) → (if b then Some v else None) ≡ Some n → (b ≡ true) × (v ≡ n)
chosen true v n h = (refl, cc)
chosen false v n h = (absurd (cc h), absurd (cc h))

pub hex_of-lt : (bytes : List ℕ) (n : ℕ) → hex_of bytes ≡ Some n → n < 16 ^ length bytes
unfolding hex_of
hex_of-lt bytes n read =
    let is = chosen (all_bytes is_lower_hex bytes && nat_le 1 (length bytes) && nat_le (length bytes) 4) (digits_value 16 bytes) n read in
    let outer = both (all_bytes is_lower_hex bytes && nat_le 1 (length bytes)) (nat_le (length bytes) 4) is.0 in
    let lower = both (all_bytes is_lower_hex bytes) (nat_le 1 (length bytes)) outer.0 in
    subst (λ m. m < 16 ^ length bytes) is.1 (digits_value-lt 16 bytes (AllDigits-lower bytes lower.0))

pub hex-fits : (bytes : List ℕ) (digits : ℕ) (answer : Option ℕ) → answer ≡ hex_of bytes → length bytes ≡ digits → IfSome answer (λ n. n < 16 ^ digits)
hex-fits bytes digits None is size = tt
hex-fits bytes digits (Some n) is size = subst (λ m. n < 16 ^ m) size (hex_of-lt bytes n (sym is))

-- a register by its number
pub register_of-offset : (reg : Reg) → register_of reg.offset ≡ reg
register_of-offset reg = same_register (register_of reg.offset) reg (omega (arith, reg.even, reg.below))

pub tests_of : (n : ℕ) → n % 2 ≡ 0 → n < 512 → ((n % 2 == 0) && nat_lt n 512) ≡ true
tests_of n even below = grind (arith, nat_tests)

no_tests : (n : ℕ) → ((n % 2 ≡ 0) × (n < 512) → ⊥) → ((n % 2 == 0) && nat_lt n 512) ≡ false
no_tests n refused = step (n % 2 == 0) (nat_lt n 512) refl refl
  where
    step : (a b : Bool) → (n % 2 == 0) ≡ a → nat_lt n 512 ≡ b → (a && b) ≡ false
    step true true e f = absurd (refused (eqb-true (n % 2) 0 e, ltb-true n 512 f))
    step true false e f = refl
    step false b e f = refl

pub kept-register : (n : ℕ) (answer : Option Reg) → (IsSome answer ↔ ((n % 2 ≡ 0) × (n < 512))) → IfSome answer (λ reg. reg.offset ≡ n)
    → answer ≡ kept_register (Some n)
kept-register n None there offset = sym (ap (λ t. if t then Some (register_of n) else None) (no_tests n (λ both. absurd (cc (there.1 both)))))
kept-register n (Some reg) there offset =
    let is = there.0 refl in
    ap Some (sym (register_of-offset reg) ∙ ap register_of offset) ∙ sym (ap (λ t. if t then Some (register_of n) else None) (tests_of n is.0 is.1))

pub register_named-none : (text : List ℕ) → None ≡ hex_number 3 text → None ≡ register_named text
unfolding register_named
register_named-none text e = ap kept_register e

pub register_named-some : (text : List ℕ) (n : ℕ) (answer : Option Reg) → Some n ≡ hex_number 3 text → (IsSome answer ↔ ((n % 2 ≡ 0) × (n < 512)))
    → IfSome answer (λ reg. reg.offset ≡ n) → answer ≡ register_named text
unfolding register_named
register_named-some text n answer e there offset = kept-register n answer there offset ∙ ap kept_register e

-- the acts, from what is read of their words
pub poke-read : (words : List (List ℕ)) (first second : List ℕ) (reg : Option Reg) (word : Option ℕ) → words ≡ first ∷ second ∷ []
    → reg ≡ register_named first → word ≡ hex_number 4 second → poke_with reg word ≡ poke_of words
unfolding poke_of
poke-read words first second reg word is r w = (λ i. poke_with (r i) (w i)) ∙ ap poke_of (sym is)

pub joy-read : (words : List (List ℕ)) (first second : List ℕ) (port word : Option ℕ) → words ≡ first ∷ second ∷ [] → port ≡ below 2 first
    → word ≡ hex_number 4 second → joy_with port word ≡ joy_of words
unfolding joy_of
joy-read words first second port word is r w = (λ i. joy_with (r i) (w i)) ∙ ap joy_of (sym is)

pub fire-read : (words : List (List ℕ)) (first second : List ℕ) (port down : Option ℕ) → words ≡ first ∷ second ∷ [] → port ≡ below 2 first
    → down ≡ below 2 second → fire_with port down ≡ fire_of words
unfolding fire_of
fire-read words first second port down is r w = (λ i. fire_with (r i) (w i)) ∙ ap fire_of (sym is)

pub peek-read : (words : List (List ℕ)) (first : List ℕ) (reg : Option Reg) → words ≡ first ∷ [] → reg ≡ register_named first → peek_with reg ≡ peek_of words
unfolding peek_of
peek-read words first reg is r = ap peek_with r ∙ ap peek_of (sym is)

pub key-read : (words : List (List ℕ)) (first : List ℕ) (code : Option ℕ) → words ≡ first ∷ [] → code ≡ hex_number 2 first → key_with code ≡ key_of words
unfolding key_of
key-read words first code is r = ap key_with r ∙ ap key_of (sym is)

-- an event by the words of its line
pub event-none : (system : System) (frames : ℕ) (line : List ℕ) → length (words_of line) < 5 → event_of system frames line ≡ None
unfolding event_of
event-none system frames line few = event_in-none system frames (words_of line) few

pub event-words : (system : System) (frames : ℕ) (line at frame v h verb : List ℕ) (args : List (List ℕ)) (named : Bool)
    → words_of line ≡ at ∷ frame ∷ v ∷ h ∷ verb ∷ args → bytes_eq at (codes "at") ≡ named
    → (if named then timed (below frames frame) (below (lines system false) v) (below 227 h) (act_of verb args) else None) ≡ event_of system frames line
unfolding event_of event_in
event-words system frames line at frame v h verb args named is says =
    ap (λ b. if b then timed (below frames frame) (below (lines system false) v) (below 227 h) (act_of verb args) else None) (sym says)
    ∙ ap (event_in system frames) (sym is)

pub not_one : (words : List (List ℕ)) (first rest : List ℕ) → words ≡ first ∷ words_of rest → length words ≢ 1
unfolding words_of
not_one words first rest is one = omega (arith, ap length is, length-slice_split (λ (b : ℕ). b == 32) rest)

pub not_two : (words : List (List ℕ)) (first second rest : List ℕ) → words ≡ first ∷ second ∷ words_of rest → length words ≢ 2
unfolding words_of
not_two words first second rest is two = omega (arith, ap length is, length-slice_split (λ (b : ℕ). b == 32) rest)

pub ruleset act_laws = (poke_of-none, peek_of-none, joy_of-none, fire_of-none, key_of-none, poke_of, peek_of, joy_of, fire_of, key_of)

pub ruleset event_laws = (event-none)

pub ruleset line_laws = (lines-few)

pub ruleset hex_laws = (hex-fits)

pub ruleset register_laws = (register_named-none, register_named-some)
