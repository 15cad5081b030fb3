-- Laws of the memory at a clock.
use Rattle.std.proofs.Common.{◌≡◌, ℕ, ◌+◌, ◌-◌, ◌<◌, ◌≤◌, ◌≢◌, Bool, true, false, cond, ◌==◌, ◌&&◌, nat_lt, List, [], ◌∷◌}
use Rattle.std.proofs.Common.{All, ◌⊎◌, inl, inr, ◌++◌, length, take, drop, get_or, refl, sym, ap, subst, ◌∙◌, arith, get_or-set_other, length-set}
use Rattle.std.proofs.Math.ListN.{set}
use Rattle.std.specs.List.{filter}
use Rattle.std.proofs.lemmas.Bool.Decides.{nat_tests}
use Rattle.std.proofs.lemmas.Bool.{cases_lt, cases_eq}
use Rattle.std.proofs.lemmas.Grind.{same_number_lists, get_or-set_at}
use Rattle.std.proofs.lemmas.List.{take-append-drop, take_more, get_or_default, get_or_past}
use Rattle.std.proofs.lemmas.List.Elements.{All-head, All-tail, All-drop, All-push, All-weaker}
use Rattle.std.proofs.lemmas.List.Sorted.{IsNonDecreasingBy-drop, IsNonDecreasingBy-push}
use Rattle.std.specs.List.Sorted.{IsNonDecreasingBy}
use Rattle.mem_versions.specs.declared.write.Write.{Write}
use Rattle.mem_versions.specs.MemoryAt.{words_after, memory_at, writes_below, writes_to}
use Rattle.mem_versions.specs.Chip.{ChipValue}
use Rattle.mem_versions.specs.MemView.{ViewValue, IsViewOf}
use Rattle.mem_versions.specs.code.History.{word_before}
use Rattle.mem_versions.specs.Sound.{IsSound}

pub length-words_after : (words : List ℕ) (writes : List Write) → length (words_after words writes) ≡ length words
length-words_after words [] = refl
length-words_after words (w ∷ ws) = length-words_after (set words w.place w.word) ws ∙ length-set words w.place w.word

pub words_after-append : (words : List ℕ) (writes later : List Write) → words_after words (writes ++ later) ≡ words_after (words_after words writes) later
words_after-append words [] later = refl
words_after-append words (w ∷ ws) later = words_after-append (set words w.place w.word) ws later

-- one write more
pub words_after-more : (words : List ℕ) (writes : List Write) (i : ℕ) (d : Write) → i < length writes →
    words_after words (take (i + 1) writes) ≡ set (words_after words (take i writes)) (get_or writes i d).place (get_or writes i d).word
words_after-more words writes i d within =
    ap (words_after words) (take_more writes i d within) ∙ words_after-append words (take i writes) (get_or writes i d ∷ [])

-- what one write does to the word at a place
one-change : (made here : Bool) (w : Write) (place clock : ℕ) (rest all : List Write) (words : List ℕ) → place < length words → here ≡ (w.place == place) →
    ((now : List ℕ) → place < length now → get_or (words_after now rest) place 0 ≡ word_before place clock all (get_or now place 0)) →
    get_or (words_after words (cond made (w ∷ rest) rest)) place 0 ≡ word_before place clock all (cond (here && made) w.word (get_or words place 0))
one-change false false w place clock rest all words within is same = same words within
one-change false true w place clock rest all words within is same = same words within
one-change true false w place clock rest all words within is same =
    let other : place ≢ w.place = grind (arith, nat_tests) in
    let set_within : place < length (set words w.place w.word) = omega (arith, length-set words w.place w.word) in
    same (set words w.place w.word) set_within
    ∙ ap (word_before place clock all) (get_or-set_other words w.place place w.word 0 other)
one-change true true w place clock rest all words within is same =
    let this : place ≡ w.place = grind (arith, nat_tests) in
    let set_within : place < length (set words w.place w.word) = omega (arith, length-set words w.place w.word) in
    same (set words w.place w.word) set_within
    ∙ ap (word_before place clock all) (get_or-set_at words w.place place w.word 0 this (omega arith))

-- above the memory there are no words at any clock
pub memory_at-above : (clock place : ℕ) (writes : List Write) (words : List ℕ) → length words ≤ place → get_or (memory_at clock words writes) place 0 ≡ 0
memory_at-above clock place writes words above =
    get_or_past (memory_at clock words writes) place 0 (omega (arith, length-words_after words (writes_below clock writes)))

-- the word at a place at a clock is that of the last write to it before
pub get_or-memory_at : (clock place : ℕ) (writes : List Write) (words : List ℕ) → place < length words →
    get_or (memory_at clock words writes) place 0 ≡ word_before place clock writes (get_or words place 0)
get_or-memory_at clock place [] words within = refl
get_or-memory_at clock place (w ∷ ws) words within =
    one-change (nat_lt w.clock clock) (w.place == place) w place clock (writes_below clock ws) ws words within refl
    (λ now inside. get_or-memory_at clock place ws now inside)

pub word_before-append : (place clock : ℕ) (xs ys : List Write) (word : ℕ)
    → word_before place clock (xs ++ ys) word ≡ word_before place clock ys (word_before place clock xs word)
word_before-append place clock [] ys word = refl
word_before-append place clock (w ∷ ws) ys word = word_before-append place clock ws ys (cond ((w.place == place) && nat_lt w.clock clock) w.word word)

kept-step : (passes counts : Bool) (rest all : List Write) (place clock : ℕ) (w : Write) (word : ℕ) → counts ≡ ((w.place == place) && nat_lt w.clock clock) →
    (counts ≡ true → passes ≡ true) → ((other : ℕ) → word_before place clock rest other ≡ word_before place clock all other) →
    word_before place clock (cond passes (w ∷ rest) rest) word ≡ word_before place clock all (cond counts w.word word)
kept-step true counts rest all place clock w word is keeps same =
    same (cond ((w.place == place) && nat_lt w.clock clock) w.word word) ∙ ap (λ (b : Bool). word_before place clock all (cond b w.word word)) (sym is)
kept-step false false rest all place clock w word is keeps same = same word
kept-step false true rest all place clock w word is keeps same = let never : false ≡ true = keeps refl in cc

-- a filter that lets through what counts changes nothing
pub word_before-filter : (passes : Write → Bool) (place clock : ℕ) (writes : List Write) (word : ℕ) →
    ((w : Write) → ((w.place == place) && nat_lt w.clock clock) ≡ true → passes w ≡ true) →
    word_before place clock (filter passes writes) word ≡ word_before place clock writes word
word_before-filter passes place clock [] word keeps = refl
word_before-filter passes place clock (w ∷ ws) word keeps =
    kept-step (passes w) ((w.place == place) && nat_lt w.clock clock) (filter passes ws) ws place clock w word refl (keeps w)
    (λ other. word_before-filter passes place clock ws other keeps)

and-first : (a b : Bool) → (a && b) ≡ true → a ≡ true
and-first true b both = refl
and-first false b both = both

and-second : (a b : Bool) → (a && b) ≡ true → b ≡ true
and-second true b both = both
and-second false b both = cc

-- where the writes to each place are those below a clock, so is the memory at each clock up to it
pub memory_at-same : (now clock : ℕ) (kept writes : List Write) (words : List ℕ) → clock ≤ now
    → ((place : ℕ) → writes_to place kept ≡ writes_to place (writes_below now writes)) →
    memory_at clock words kept ≡ memory_at clock words writes
memory_at-same now clock kept writes words early same =
    same_number_lists (memory_at clock words kept) (memory_at clock words writes)
    (length-words_after words (writes_below clock kept) ∙ sym (length-words_after words (writes_below clock writes)))
    (λ place within.
    let inside : place < length words = omega (arith, length-words_after words (writes_below clock kept)) in
    let word = get_or words place 0 in
    get_or-memory_at clock place kept words inside
    ∙ sym (word_before-filter (λ w. w.place == place) place clock kept word (λ w both. and-first (w.place == place) (nat_lt w.clock clock) both))
    ∙ ap (λ (ws : List Write). word_before place clock ws word) (same place)
    ∙ word_before-filter (λ w. w.place == place) place clock (writes_below now writes) word (λ w both. and-first (w.place == place) (nat_lt w.clock clock) both)
    ∙ word_before-filter (λ w. nat_lt w.clock now) place clock writes word
    (λ w both. let below : nat_lt w.clock clock ≡ true = and-second (w.place == place) (nat_lt w.clock clock) both in grind (arith, nat_tests))
    ∙ sym (get_or-memory_at clock place writes words inside))

-- a new memory
pub IsSound-new : (base words : List ℕ) (writes : List Write) → 0 < length base → length base ≤ 524288 → words ≡ base
    → writes ≡ [] → IsSound base words writes 0
IsSound-new base words writes some few same none =
    let is : [] ≡ writes = sym none in
    let P : List Write → Type 0 = λ ws. IsSound base words ws 0 in
    subst P is (record {
      some = some;
      few = few;
      present = same;
      stamped = λ i j d order within. absurd (omega arith);
      until = λ k d within. absurd (omega arith);
    })

-- after a write
pub IsSound-write : (base words after : List ℕ) (writes grown : List Write) (newest : ℕ) (w : Write) → IsSound base words writes newest →
    newest ≤ w.clock → after ≡ set words w.place w.word → grown ≡ writes ++ w ∷ [] → IsSound base after grown w.clock
IsSound-write base words after writes grown newest w sound later made more =
    let is : writes ++ w ∷ [] ≡ grown = sym more in
    let P : List Write → Type 0 = λ ws. IsSound base after ws w.clock in
    subst P is (record {
      some = sound.some;
      few = sound.few;
      present = made ∙ ap (λ (now : List ℕ). set now w.place w.word) sound.present ∙ sym (words_after-append base writes (w ∷ []));
      stamped =
          IsNonDecreasingBy-push (λ w. w.clock) writes w sound.stamped
          (λ d some. let last : (get_or writes (length writes - 1) d).clock ≤ newest = sound.until (length writes - 1) d (omega arith) in omega arith);
      until = All-push (λ v. v.clock ≤ w.clock) writes w
          (All-weaker (λ v. v.clock ≤ newest) (λ v. v.clock ≤ w.clock) (λ v old. omega arith) writes sound.until) (omega arith);
    })

-- after a cut behind so many writes
pub IsSound-cut : (base words after : List ℕ) (writes left : List Write) (newest now count : ℕ) → IsSound base words writes newest → newest ≤ now →
    after ≡ words_after base (take count writes) → left ≡ drop count writes → IsSound after words left now
IsSound-cut base words after writes left newest now count sound later made rest =
    let is : drop count writes ≡ left = sym rest in
    let P : List Write → Type 0 = λ ws. IsSound after words ws now in
    subst P is (record {
      some =
          let same : length after ≡ length base = ap length made ∙ length-words_after base (take count writes) in
          omega (arith, same, sound.some);
      few =
          let same : length after ≡ length base = ap length made ∙ length-words_after base (take count writes) in
          omega (arith, same, sound.few);
      present =
          sound.present ∙ ap (words_after base) (sym (take-append-drop count writes)) ∙ words_after-append base (take count writes) (drop count writes)
          ∙ ap (λ (words : List ℕ). words_after words (drop count writes)) (sym made);
      stamped = IsNonDecreasingBy-drop (λ w. w.clock) count writes sound.stamped;
      until = All-drop (λ w. w.clock ≤ now) count writes (All-weaker (λ w. w.clock ≤ newest) (λ w. w.clock ≤ now) (λ w old. omega arith) writes sound.until);
    })

-- what a cut gives
pub IsViewOf-made : (chip : ChipValue) (now : ℕ) (view : ViewValue) → view.from ≡ chip.last → view.to ≡ now → view.base ≡ chip.base →
    ((place : ℕ) → writes_to place view.writes ≡ writes_to place (writes_below now chip.writes)) →
    length view.writes ≡ length (writes_below now chip.writes) → IsViewOf chip now view
IsViewOf-made chip now view from to base writes count =
    record {
      from = from;
      to = to;
      base = base;
      writes = writes;
      count = count;
      memory = λ clock early. ap (λ (words : List ℕ). memory_at clock words view.writes) base
          ∙ memory_at-same now clock view.writes chip.writes chip.base early writes;
    }

-- where no write to a place is of a clock from one on, the word after all writes is that at the clock
pub words_after-early : (clock place : ℕ) (writes : List Write) (words : List ℕ) → place < length words
    → All (λ (w : Write). w.place ≡ place → w.clock < clock) writes
    → get_or (words_after words writes) place 0 ≡ get_or (memory_at clock words writes) place 0
words_after-early clock place writes words within early =
    made writes words within early ∙ sym (get_or-memory_at clock place writes words within)
  where
    made : (ws : List Write) (now : List ℕ) → place < length now → All (λ (w : Write). w.place ≡ place → w.clock < clock) ws
        → get_or (words_after now ws) place 0 ≡ word_before place clock ws (get_or now place 0)
    made [] now inside each = refl
    made (w ∷ ws) now inside each =
        made ws (set now w.place w.word) (omega (arith, inside, length-set now w.place w.word))
        (All-tail (λ (v : Write). v.place ≡ place → v.clock < clock) w ws each)
        ∙ ap (word_before place clock ws)
        (by_cases w now inside (All-head (λ (v : Write). v.place ≡ place → v.clock < clock) w ws each) (cases_eq place w.place))
      where
        by_cases : (w : Write) (now : List ℕ) → place < length now → (w.place ≡ place → w.clock < clock)
            → (place ≡ w.place) ⊎ (place ≢ w.place)
            → get_or (set now w.place w.word) place 0 ≡ cond ((w.place == place) && nat_lt w.clock clock) w.word (get_or now place 0)
        by_cases w now inside before (inl here) =
            let lower : w.clock < clock = before (sym here) in
            let yes : ((w.place == place) && nat_lt w.clock clock) ≡ true = grind (arith, nat_tests) in
            get_or-set_at now w.place place w.word 0 here (omega arith) ∙ sym (ap (λ (b : Bool). cond b w.word (get_or now place 0)) yes)
        by_cases w now inside before (inr apart) =
            let no : ((w.place == place) && nat_lt w.clock clock) ≡ false = grind (arith, nat_tests) in
            get_or-set_other now w.place place w.word 0 apart ∙ sym (ap (λ (b : Bool). cond b w.word (get_or now place 0)) no)

-- where the last of the first writes is early, and those behind are to other places, no write to a place is late
pub all_early : (place clock : ℕ) (writes : List Write) (left : ℕ) (e : Write) → IsNonDecreasingBy (λ (w : Write). w.clock) writes
    → (get_or writes (left - 1) e).clock < clock → left ≤ length writes
    → ((k : ℕ) (d : Write) → left ≤ k → k < length writes → (get_or writes k d).place ≢ place)
    → All (λ (w : Write). w.place ≡ place → w.clock < clock) writes
all_early place clock writes left e stamped early low other k d within here = by_cases (cases_lt k left)
  where
    by_cases : (k < left) ⊎ (left ≤ k) → (get_or writes k d).clock < clock
    by_cases (inl before) =
        let rise : (get_or writes k d).clock ≤ (get_or writes (left - 1) d).clock = stamped k (left - 1) d (omega arith) (omega arith) in
        let same : get_or writes (left - 1) d ≡ get_or writes (left - 1) e = get_or_default writes (left - 1) d e (omega arith) in
        let clocks : (get_or writes (left - 1) d).clock ≡ (get_or writes (left - 1) e).clock = ap (λ (w : Write). w.clock) same in
        omega (arith, rise, clocks, early)
    by_cases (inr behind) = absurd (other k d behind within here)
