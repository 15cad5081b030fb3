-- What is appended step by step.
use Rattle.std.proofs.Common.{◌≡◌, ℕ, ◌+◌, ◌<◌, Bool, true, false, List, [], ◌∷◌, ◌++◌, length, take, get_or}
use Rattle.std.proofs.Common.{flat_map, codes, decimal, refl, sym, ap, subst, ◌∙◌, append_assoc, append-nil}
use Rattle.script_read.specs.code.Extends.{Extends}
use Rattle.std.proofs.lemmas.List.{take_more}
use Rattle.std.proofs.lemmas.Grind.{flat_map-append}
use Rattle.ocs_base.specs.declared.chip_size.ChipSize.{ChipSize}
use Rattle.ocs_base.specs.declared.chip_size.ChipSize.TheVariants.{Kib512, Mib1}
use Rattle.ocs_base.specs.declared.reg.Reg.{Reg}
use Rattle.ocs_base.specs.declared.script.Act.{Act}
use Rattle.ocs_base.specs.declared.script.Act.TheVariants.{Poke, Peek, Joy, Fire, Key}
use Rattle.ocs_base.specs.declared.script.At.{At}
use Rattle.ocs_base.specs.Script.{ScriptValue}
use Rattle.ocs_base.specs.declared.system.System.{System}
use Rattle.ocs_base.specs.declared.system.System.TheVariants.{Pal, Ntsc}
use Rattle.script_read.specs.Canonical.{spaced, line_of, line_text, digit_of, act_words, event_text, head_text}
use Rattle.script_read.specs.code.Number.{number_part}
use Rattle.script_read.specs.declared.printer.Number.TheVariants.{Decimal, Register, Word, Code}
use Rattle.script_read.specs.Canonical.{script_text, HasWords, AllHaveWords, first_text, cpu_text, last_text}
use Rattle.script_read.specs.Versions.{lowest}

pub Extends-same : (old new : List ℕ) → new ≡ old → Extends old new
Extends-same old new e = record { part = []; is = e ∙ sym (append-nil old) }

pub Extends-more : (old new part : List ℕ) → new ≡ old ++ part → Extends old new
Extends-more old new part e = record { part = part; is = e }

pub Extends-trans : (old mid new : List ℕ) → Extends old mid → Extends mid new → Extends old new
Extends-trans old mid new first second =
    record { part = first.part ++ second.part; is = second.is ∙ ap (λ m. m ++ second.part) first.is ∙ append_assoc old first.part second.part }

take-front : (old part : List ℕ) → take (length old) (old ++ part) ≡ old
take-front [] part = refl
take-front (b ∷ old) part = ap (λ rest. b ∷ rest) (take-front old part)

pub Extends-cut : (old new : List ℕ) → Extends old new → take (length old) new ≡ old
Extends-cut old new extends = ap (take (length old)) extends.is ∙ take-front old extends.part

pub steps-2 : (a b c p q : List ℕ) → b ≡ a ++ p → c ≡ b ++ q → c ≡ a ++ (p ++ q)
steps-2 a b c p q first second = second ∙ ap (λ m. m ++ q) first ∙ append_assoc a p q

pub steps-3 : (a b c d p q r : List ℕ) → b ≡ a ++ p → c ≡ b ++ q → d ≡ c ++ r → d ≡ a ++ (p ++ (q ++ r))
steps-3 a b c d p q r first second third = steps-2 a b d p (q ++ r) first (steps-2 b c d q r second third)

-- the words of an act
pub poke-text : (act : Act) (reg : Reg) (word : ℕ) → act ≡ Poke reg word
    → codes " poke" ++ flat_map number_part (Register reg ∷ Word word ∷ []) ≡ spaced (act_words act)
unfolding spaced act_words
poke-text act reg word is = ap (λ a. spaced (act_words a)) (sym is)

pub peek-text : (act : Act) (reg : Reg) → act ≡ Peek reg → codes " peek" ++ flat_map number_part (Register reg ∷ []) ≡ spaced (act_words act)
unfolding spaced act_words
peek-text act reg is = ap (λ a. spaced (act_words a)) (sym is)

pub joy-text : (act : Act) (port word : ℕ) → act ≡ Joy port word
    → codes " joy" ++ flat_map number_part (Decimal port ∷ Word word ∷ []) ≡ spaced (act_words act)
unfolding spaced act_words
joy-text act port word is = ap (λ a. spaced (act_words a)) (sym is)

pub fire-text : (act : Act) (port : ℕ) (down : Bool) (n : ℕ) → act ≡ Fire port down → n ≡ digit_of down
    → codes " fire" ++ flat_map number_part (Decimal port ∷ Decimal n ∷ []) ≡ spaced (act_words act)
unfolding spaced act_words
fire-text act port down n is same =
    ap (λ m. codes " fire" ++ flat_map number_part (Decimal port ∷ Decimal m ∷ [])) same ∙ ap (λ a. spaced (act_words a)) (sym is)

pub key-text : (act : Act) (code : ℕ) → act ≡ Key code → codes " key" ++ flat_map number_part (Code code ∷ []) ≡ spaced (act_words act)
unfolding spaced act_words
key-text act code is = ap (λ a. spaced (act_words a)) (sym is)

pub event-text : (at : At)
    → (codes "at" ++ flat_map number_part (Decimal at.frame ∷ Decimal at.v ∷ Decimal at.h ∷ [])) ++ (spaced (act_words at.act) ++ 10 ∷ []) ≡ event_text at
unfolding event_text line_text line_of spaced
event-text at = simp append_assoc

-- the number of a line that others follow
number-text : (number rest : List ℕ) → (number ++ []) ++ (10 ∷ rest) ≡ ((number ++ []) ++ 10 ∷ []) ++ rest
number-text number rest = sym (append_assoc (number ++ []) (10 ∷ []) rest)

pub head-text : (cpu : Bool) (frames : ℕ) (chip : ChipSize) (system : System) (events : List At)
    → first_text chip system ++ ((cpu_text cpu ++ flat_map number_part (Decimal frames ∷ [])) ++ last_text chip system)
    ≡ head_text (lowest chip system) (record { cpu = cpu; frames = frames; chip = chip; system = system; events = events })
unfolding head_text line_text line_of spaced
head-text true frames Kib512 Pal events = ap (λ t. codes "ocs 1\ncpu on\nframes " ++ t) (number-text (decimal frames) [])
head-text false frames Kib512 Pal events = ap (λ t. codes "ocs 1\ncpu off\nframes " ++ t) (number-text (decimal frames) [])
head-text true frames Mib1 Pal events = ap (λ t. codes "ocs 2\ncpu on\nframes " ++ t) (number-text (decimal frames) (codes "chip 1024\n"))
head-text false frames Mib1 Pal events = ap (λ t. codes "ocs 2\ncpu off\nframes " ++ t) (number-text (decimal frames) (codes "chip 1024\n"))
head-text true frames Kib512 Ntsc events = ap (λ t. codes "ocs 3\ncpu on\nframes " ++ t) (number-text (decimal frames) (codes "chip 512\nsystem ntsc\n"))
head-text false frames Kib512 Ntsc events = ap (λ t. codes "ocs 3\ncpu off\nframes " ++ t) (number-text (decimal frames) (codes "chip 512\nsystem ntsc\n"))
head-text true frames Mib1 Ntsc events = ap (λ t. codes "ocs 3\ncpu on\nframes " ++ t) (number-text (decimal frames) (codes "chip 1024\nsystem ntsc\n"))
head-text false frames Mib1 Ntsc events = ap (λ t. codes "ocs 3\ncpu off\nframes " ++ t) (number-text (decimal frames) (codes "chip 1024\nsystem ntsc\n"))

pub script-text : (script : ScriptValue)
    → head_text (lowest script.chip script.system) script ++ (flat_map event_text script.events ++ codes "end\n") ≡ script_text script
unfolding script_text line_text line_of spaced
script-text script = refl

pub AllHaveWords-push : (events : List At) (at : At) → AllHaveWords events → HasWords at.act → AllHaveWords (events ++ at ∷ [])
AllHaveWords-push [] at all fits = (fits, tt)
AllHaveWords-push (first ∷ events) at all fits = (all.0, AllHaveWords-push events at all.1 fits)

pub AllHaveWords-more : (events : List At) (i : ℕ) (d : At) → i < length events → AllHaveWords (take i events) → HasWords (get_or events i d).act
    → AllHaveWords (take (i + 1) events)
AllHaveWords-more events i d lt all fits = subst AllHaveWords (sym (take_more events i d lt)) (AllHaveWords-push (take i events) (get_or events i d) all fits)

-- one text more
pub text-more : {A : Type 0} (text_of : A → List ℕ) (old now new : List ℕ) (xs : List A) (i : ℕ) (x : A) → i < length xs → x ≡ get_or xs i x
    → now ≡ old ++ flat_map text_of (take i xs) → new ≡ now ++ text_of x
    → new ≡ old ++ flat_map text_of (take (i + 1) xs)
text-more text_of old now new xs i x lt is first second =
    second ∙ ap (λ t. t ++ text_of x) first ∙ append_assoc old (flat_map text_of (take i xs)) (text_of x)
    ∙ ap (λ t. old ++ t)
    (sym (ap (flat_map text_of) (take_more xs i x lt) ∙ flat_map-append text_of (take i xs) (get_or xs i x ∷ [])
    ∙ ap (λ e. flat_map text_of (take i xs) ++ (text_of e ++ [])) (sym is)
    ∙ ap (λ t. flat_map text_of (take i xs) ++ t) (append-nil (text_of x))))

pub ruleset print_laws = (Extends-cut)
