-- Laws of words that are looked up in changed pages.
use Rattle.std.proofs.Common.{◌≡◌, ◌≢◌, ℕ, zero, suc, ◌+◌, ◌-◌, ◌*◌, ◌/◌, ◌%◌, ◌<◌, ◌≤◌, ◌==◌}
use Rattle.std.proofs.Common.{nat_lt, false, List, [], ◌∷◌, ◌++◌}
use Rattle.std.proofs.Common.{add-one, length, All, take, drop, get_or, replicate, refl, sym, ap, subst, ◌∙◌, arith}
use Rattle.std.proofs.Common.{length-set, length-append, length-take, length-drop, get_or-set_other, ◌⊎◌, inl, inr}
use Rattle.std.proofs.Math.ListN.{set}
use Rattle.std.specs.List.Sorted.{IsNonDecreasingBy}
use Rattle.std.proofs.lemmas.Bool.Decides.{nat_tests}
use Rattle.std.proofs.lemmas.Bool.{cases_lt, cases_eq}
use Rattle.std.proofs.lemmas.Grind.{same_number_lists, get_or-set_at}
use Rattle.std.proofs.lemmas.List.{get_or_append_left as get_or-append, get_or-append_right, get_or_past, get_or_default, set_past, take_more, take_all}
use Rattle.std.proofs.lemmas.List.{get_or-take, get_or-drop, length-replicate, get_or-replicate, append-nil, drop_all}
use Rattle.std.proofs.lemmas.Slice.{take-put_mid}
use borrow.Rule.Slice.PartMut.{put_mid, same_len_mid}
use Rattle.std.proofs.lemmas.List.Elements.{All-push, All-same}
use Rattle.mem_versions.specs.declared.write.Write.{Write}
use Rattle.mem_versions.specs.MemoryAt.{words_after, memory_at, writes_below}
use Rattle.mem_versions.specs.code.Pages.{HasPage}
use Rattle.mem_versions.specs.code.Replay.{ChangedValue, unset, AreNumbered, MarksPage, AreCovered, word_in, HoldsWords, HoldsPages, IsReplayed}
use Rattle.mem_versions.proofs.FilterLaws.{filter-front, filter-none}
use Rattle.mem_versions.proofs.MemoryLaws.{words_after-more, length-words_after, words_after-early, memory_at-above}
use Rattle.mem_versions.proofs.ChangedLaws.{untouched}

-- a word in a changed page
pub word_in-some : (base words : List ℕ) (slot place : ℕ) → 0 < slot → word_in base words slot place ≡ get_or words (256 * (slot - 1) + place % 256) 0
word_in-some base words zero place some = absurd (omega arith)
word_in-some base words (suc k) place some =
    let same : k ≡ suc k - 1 = omega arith in
    ap (λ (n : ℕ). get_or words (256 * n + place % 256) 0) same

-- and in another
pub word_in-none : (base words : List ℕ) (slot place : ℕ) → slot ≡ 0 → word_in base words slot place ≡ get_or base place 0
word_in-none base words slot place none = ap (λ (n : ℕ). word_in base words n place) none

count-none : (pages : ℕ) → unset (replicate pages 0) ≡ pages
count-none zero = refl
count-none (suc n) = let rest : unset (replicate n 0) ≡ n = count-none n in ap (λ (k : ℕ). k + 1) rest ∙ add-one n

count-set : (places : List ℕ) (page slot : ℕ) → page < length places → get_or places page 0 ≡ 0 → 0 < slot
    → unset (set places page slot) + 1 ≡ unset places
count-set [] page slot within none some = absurd (omega arith)
count-set (zero ∷ ps) zero zero within none some = absurd (omega arith)
count-set (zero ∷ ps) zero (suc k) within none some = refl
count-set (suc p ∷ ps) zero slot within none some = absurd (omega arith)
count-set (zero ∷ ps) (suc n) slot within none some = ap (λ (k : ℕ). k + 1) (count-set ps n slot (omega arith) none some)
count-set (suc p ∷ ps) (suc n) slot within none some = count-set ps n slot (omega arith) none some

-- no page is changed yet
pub AreNumbered-none : (places : List ℕ) (pages : ℕ) → pages ≤ 2048 → places ≡ replicate pages 0 → AreNumbered places []
AreNumbered-none places pages few none =
    let size : length places ≡ pages = ap length none ∙ length-replicate {A = ℕ} pages 0 in
    record {
      few = omega arith;
      count = let all : unset places ≡ pages = ap unset none ∙ count-none pages in omega (arith, all, size);
      low = λ k d within. absurd (omega arith);
      known = λ page some. absurd (some (nothing page (cases_lt page pages)));
    }
  where
    nothing : (page : ℕ) → (page < pages) ⊎ (pages ≤ page) → get_or places page 0 ≡ 0
    nothing page (inl inside) = ap (λ (ps : List ℕ). get_or ps page 0) none ∙ get_or-replicate pages page 0 0 inside
    nothing page (inr past) = get_or_past places page 0 (omega (arith, past, ap length none, length-replicate {A = ℕ} pages 0))

-- one page more is changed
pub AreNumbered-more : (places numbers grown : List ℕ) (page slot : ℕ) → AreNumbered places numbers → page < length places
    → get_or places page 0 ≡ 0 → grown ≡ numbers ++ page ∷ [] → slot ≡ length grown → AreNumbered (set places page slot) grown
AreNumbered-more places numbers grown page slot before within none is last =
    let size : length (set places page slot) ≡ length places = length-set places page slot in
    let more : length grown ≡ length numbers + 1 = ap length is ∙ length-append numbers (page ∷ []) in
    let few : slot ≡ length numbers + 1 = last ∙ more in
    record {
      few = omega (arith, before.few, size);
      count = omega (arith, before.count, count-set places page slot within none (omega arith), size, more);
      low = subst (λ (n : ℕ). All (λ number. number < n) grown) (sym size)
          (All-same (λ number. number < length places) grown (numbers ++ page ∷ []) is
          (All-push (λ number. number < length places) numbers page before.low within));
      known = λ other some. by_cases other few more some (cases_eq other page);
    }
  where
    by_cases : (other : ℕ) → slot ≡ length numbers + 1 → length grown ≡ length numbers + 1 → get_or (set places page slot) other 0 ≢ 0
        → (other ≡ page) ⊎ (other ≢ page)
        → (get_or (set places page slot) other 0 ≤ length grown) × (get_or grown (get_or (set places page slot) other 0 - 1) 0 ≡ other)
    by_cases other few more some (inl same) =
        let here : get_or (set places page slot) other 0 ≡ slot = get_or-set_at places page other slot 0 same within in
        let start : slot - 1 - length numbers ≡ 0 = omega arith in (
          omega (arith, here, last),
          ap (λ (n : ℕ). get_or grown (n - 1) 0) here
              ∙ ap (λ (ns : List ℕ). get_or ns (slot - 1) 0) is
              ∙ get_or-append_right numbers (page ∷ []) (length numbers) (slot - 1) 0 refl (omega arith)
              ∙ ap (λ (n : ℕ). get_or (page ∷ []) n 0) start
              ∙ sym same,
        )
    by_cases other few more some (inr apart) =
        let still : get_or (set places page slot) other 0 ≡ get_or places other 0 = get_or-set_other places page other slot 0 apart in
        let some_still : get_or places other 0 ≢ 0 = λ zero. some (still ∙ zero) in
        let old = before.known other some_still in (
          omega (arith, still, old.0, more),
          ap (λ (n : ℕ). get_or grown (n - 1) 0) still
              ∙ ap (λ (ns : List ℕ). get_or ns (get_or places other 0 - 1) 0) is
              ∙ get_or-append numbers (page ∷ []) 0 (get_or places other 0 - 1) (omega (arith, old.0, some_still))
              ∙ old.1,
        )

pub MarksPage-set : (places : List ℕ) (page slot : ℕ) → page < length places → 0 < slot → MarksPage places page (set places page slot)
MarksPage-set places page slot within some =
    let here : get_or (set places page slot) page 0 ≡ slot = get_or-set_at places page page slot 0 refl within in
    record {
      size = length-set places page slot;
      here = λ none. absurd (omega (arith, here, none, some));
      other = λ number apart. get_or-set_other places page number slot 0 apart;
    }

-- one write more is passed over
pub AreCovered-kept : (places : List ℕ) (writes : List Write) (i size : ℕ) (e : Write) → AreCovered places writes i size → i < length writes
    → (get_or places ((get_or writes i e).place / 256) 0 ≡ 0 → size ≤ (get_or writes i e).place) → AreCovered places writes (i + 1) size
AreCovered-kept places writes i size e before inside this k d within none = by_cases (cases_lt k i)
  where
    by_cases : (k < i) ⊎ (i ≤ k) → size ≤ (get_or writes k d).place
    by_cases (inl less) = before k d less none
    by_cases (inr from) =
        let same : i ≡ k = omega arith in
        let P : Write → Type 0 = λ w. get_or places (w.place / 256) 0 ≡ 0 → size ≤ w.place in
        subst P (get_or_default writes i e d inside ∙ ap (λ (n : ℕ). get_or writes n d) same) this none

pub AreCovered-marked : (places new : List ℕ) (writes : List Write) (i pages page : ℕ) → AreCovered places writes i pages → MarksPage places page new
    → AreCovered new writes i pages
AreCovered-marked places new writes i pages page before has k d within none = by_cases (cases_eq ((get_or writes k d).place / 256) page)
  where
    by_cases : ((get_or writes k d).place / 256 ≡ page) ⊎ ((get_or writes k d).place / 256 ≢ page) → pages ≤ (get_or writes k d).place
    by_cases (inl same) = absurd (has.here (ap (λ (n : ℕ). get_or new n 0) (sym same) ∙ none))
    by_cases (inr apart) = before k d within (sym (has.other ((get_or writes k d).place / 256) apart) ∙ none)

-- the words of the changed pages are those of the base
pub HoldsWords-begun : (base places numbers words : List ℕ) → AreNumbered places numbers → HoldsPages base numbers words (length numbers)
    → HoldsWords base places words base
HoldsWords-begun base places numbers words numbered holds place =
    by_cases (get_or places (place / 256) 0) (cases_eq (get_or places (place / 256) 0) 0) (numbered.known (place / 256))
  where
    by_cases : (slot : ℕ) → (slot ≡ 0) ⊎ (slot ≢ 0) → (slot ≢ 0 → (slot ≤ length numbers) × (get_or numbers (slot - 1) 0 ≡ place / 256))
        → word_in base words slot place ≡ get_or base place 0
    by_cases slot (inl none) known = word_in-none base words slot place none
    by_cases slot (inr some) known =
        let this = known some in
        let most : slot ≤ length numbers = this.0 in
        let one : 0 < slot = omega (arith, some) in
        let index : ℕ = 256 * (slot - 1) + place % 256 in
        let which : (256 * (slot - 1) + place % 256) / 256 ≡ slot - 1 = omega arith in
        let where_in : (256 * (slot - 1) + place % 256) % 256 ≡ place % 256 = omega arith in
        let whole : 256 * (place / 256) + place % 256 ≡ place = omega arith in
        word_in-some base words slot place one
        ∙ holds (256 * (slot - 1) + place % 256) (omega (arith, most, one))
        ∙ ap (λ (n : ℕ). get_or base (256 * get_or numbers n 0 + (256 * (slot - 1) + place % 256) % 256) 0) which
        ∙ ap (λ (n : ℕ). get_or base (256 * get_or numbers (slot - 1) 0 + n) 0) where_in
        ∙ ap (λ (n : ℕ). get_or base (256 * n + place % 256) 0) this.1
        ∙ ap (λ (n : ℕ). get_or base n 0) whole

-- none of the writes is made
pub IsReplayed-begun : (base : List ℕ) (writes : List Write) (changed : ChangedValue) (words : List ℕ) → AreNumbered changed.places changed.numbers
    → IsNonDecreasingBy (λ (w : Write). w.clock) writes → 256 * length changed.places ≤ length base
    → ((k : ℕ) (d : Write) → k < length writes → get_or changed.places ((get_or writes k d).place / 256) 0 ≡ 0
    → length base ≤ (get_or writes k d).place)
    → length words ≡ 256 * length changed.numbers → HoldsPages base changed.numbers words (length changed.numbers)
    → IsReplayed base writes changed words 0
IsReplayed-begun base writes changed words numbered stamped pages covered room begun =
    record {
      numbered = numbered;
      stamped = stamped;
      within = omega arith;
      pages = pages;
      covered = covered;
      room = room;
      now = HoldsWords-begun base changed.places changed.numbers words numbered begun;
    }

-- one write more, which is to none of the pages
pub IsReplayed-above : (base : List ℕ) (writes : List Write) (changed : ChangedValue) (words : List ℕ) (next : ℕ) (d : Write)
    → IsReplayed base writes changed words next → next < length writes → get_or changed.places ((get_or writes next d).place / 256) 0 ≡ 0
    → IsReplayed base writes changed words (next + 1)
IsReplayed-above base writes changed words next d before within none =
    let w : Write = get_or writes next d in
    let memory : List ℕ = words_after base (take next writes) in
    let past : length memory ≤ w.place = omega (arith, length-words_after base (take next writes), before.covered next d within none) in
    let same : words_after base (take (next + 1) writes) ≡ memory = words_after-more base writes next d within ∙ set_past memory w.place w.word past in
    record {
      numbered = before.numbered;
      stamped = before.stamped;
      within = omega arith;
      pages = before.pages;
      covered = before.covered;
      room = before.room;
      now = λ place. before.now place ∙ ap (λ (ws : List ℕ). get_or ws place 0) (sym same);
    }

-- one write more, which is to one of them
pub IsReplayed-write : (base : List ℕ) (writes : List Write) (changed : ChangedValue) (words after : List ℕ) (next index : ℕ) (d : Write)
    → IsReplayed base writes changed words next → next < length writes → 0 < get_or changed.places ((get_or writes next d).place / 256) 0
    → index ≡ 256 * (get_or changed.places ((get_or writes next d).place / 256) 0 - 1) + (get_or writes next d).place % 256
    → after ≡ set words index (get_or writes next d).word → IsReplayed base writes changed after (next + 1)
IsReplayed-write base writes changed words after next index d before within some at made =
    record {
      numbered = before.numbered;
      stamped = before.stamped;
      within = omega arith;
      pages = before.pages;
      covered = before.covered;
      room = ap length made ∙ length-set words index (get_or writes next d).word ∙ before.room;
      now = λ place. by_cases place (cases_eq place (get_or writes next d).place)
          (cases_eq (get_or changed.places (place / 256) 0) 0);
    }
  where
    w : Write
    w = get_or writes next d

    memory : List ℕ
    memory = words_after base (take next writes)

    slot : ℕ
    slot = get_or changed.places (w.place / 256) 0

    more : words_after base (take (next + 1) writes) ≡ set memory w.place w.word
    more = words_after-more base writes next d within

    low : (w.place / 256 < length changed.places) ⊎ (length changed.places ≤ w.place / 256) → w.place < length memory
    low (inl inside) = omega (arith, inside, before.pages, length-words_after base (take next writes))
    low (inr past) = absurd (omega (arith, some, get_or_past changed.places (w.place / 256) 0 past))

    one : get_or changed.places (w.place / 256) 0 ≢ 0
    one none = absurd (omega (arith, some, none))

    in_room : index < length words
    in_room = omega (arith, at, some, before.room, (before.numbered.known (w.place / 256) one).0)

    here : word_in base after (get_or changed.places (w.place / 256) 0) w.place ≡ get_or (words_after base (take (next + 1) writes)) w.place 0
    here =
        word_in-some base after slot w.place some
        ∙ ap (λ (n : ℕ). get_or after n 0) (sym at)
        ∙ ap (λ (ws : List ℕ). get_or ws index 0) made
        ∙ get_or-set_at words index index w.word 0 refl in_room
        ∙ sym (ap (λ (ws : List ℕ). get_or ws w.place 0) more
        ∙ get_or-set_at memory w.place w.place w.word 0 refl (low (cases_lt (w.place / 256) (length changed.places))))

    apart_in : (place : ℕ) → place ≢ w.place → get_or changed.places (place / 256) 0 ≢ 0
        → 256 * (get_or changed.places (place / 256) 0 - 1) + place % 256 ≢ index
    apart_in place apart other equal =
        let p : ℕ = get_or changed.places (place / 256) 0 in
        let same : get_or changed.places (place / 256) 0 ≡ get_or changed.places (w.place / 256) 0 = omega (arith, equal, at, some, other) in
        let rest : place % 256 ≡ w.place % 256 = omega (arith, equal, at, some, other) in
        let page : place / 256 ≡ w.place / 256 =
        sym (before.numbered.known (place / 256) other).1 ∙ ap (λ (n : ℕ). get_or changed.numbers (n - 1) 0) same
        ∙ (before.numbered.known (w.place / 256) one).1 in
        apart (omega (arith, rest, page))

    kept : (place : ℕ) → place ≢ w.place → (get_or changed.places (place / 256) 0 ≡ 0) ⊎ (get_or changed.places (place / 256) 0 ≢ 0)
        → word_in base after (get_or changed.places (place / 256) 0) place ≡ word_in base words (get_or changed.places (place / 256) 0) place
    kept place apart (inl none) =
        word_in-none base after (get_or changed.places (place / 256) 0) place none
        ∙ sym (word_in-none base words (get_or changed.places (place / 256) 0) place none)
    kept place apart (inr other) =
        let p : ℕ = get_or changed.places (place / 256) 0 in
        word_in-some base after p place (omega (arith, other))
        ∙ ap (λ (ws : List ℕ). get_or ws (256 * (p - 1) + place % 256) 0) made
        ∙ get_or-set_other words index (256 * (p - 1) + place % 256) w.word 0 (apart_in place apart other)
        ∙ sym (word_in-some base words p place (omega (arith, other)))

    by_cases : (place : ℕ) → (place ≡ w.place) ⊎ (place ≢ w.place)
        → (get_or changed.places (place / 256) 0 ≡ 0) ⊎ (get_or changed.places (place / 256) 0 ≢ 0)
        → word_in base after (get_or changed.places (place / 256) 0) place ≡ get_or (words_after base (take (next + 1) writes)) place 0
    by_cases place (inl same) either =
        let P : ℕ → Type 0 = λ q. word_in base after (get_or changed.places (q / 256) 0) q ≡ get_or (words_after base (take (next + 1) writes)) q 0 in
        subst P (sym same) here
    by_cases place (inr apart) either =
        kept place apart either
        ∙ before.now place
        ∙ sym (ap (λ (ws : List ℕ). get_or ws place 0) more ∙ get_or-set_other memory w.place place w.word 0 apart)

-- one write more
pub IsReplayed-stored : (base : List ℕ) (writes : List Write) (changed : ChangedValue) (words after : List ℕ) (next slot : ℕ) (w : Write)
    → IsReplayed base writes changed words next → next < length writes → w ≡ get_or writes next w → slot ≡ get_or changed.places (w.place / 256) 0
    → (slot ≡ 0 → after ≡ words) → (0 < slot → after ≡ set words (256 * (slot - 1) + w.place % 256) w.word)
    → IsReplayed base writes changed after (next + 1)
IsReplayed-stored base writes changed words after next slot w before within is at none some = by_cases (cases_eq slot 0)
  where
    there : slot ≡ get_or changed.places ((get_or writes next w).place / 256) 0
    there = at ∙ ap (λ (v : Write). get_or changed.places (v.place / 256) 0) is

    index : ℕ
    index = 256 * (slot - 1) + w.place % 256

    index_is : 256 * (slot - 1) + w.place % 256
        ≡ 256 * (get_or changed.places ((get_or writes next w).place / 256) 0 - 1) + (get_or writes next w).place % 256
    index_is =
        ap (λ (n : ℕ). 256 * (n - 1) + w.place % 256) there
        ∙ ap (λ (v : Write). 256 * (get_or changed.places ((get_or writes next w).place / 256) 0 - 1) + v.place % 256) is

    by_cases : (slot ≡ 0) ⊎ (slot ≢ 0) → IsReplayed base writes changed after (next + 1)
    by_cases (inl nil) =
        subst (λ (ws : List ℕ). IsReplayed base writes changed ws (next + 1)) (sym (none nil))
        (IsReplayed-above base writes changed words next w before within (sym there ∙ nil))
    by_cases (inr any) =
        IsReplayed-write base writes changed words after next (256 * (slot - 1) + w.place % 256) w before within (omega (arith, any, there)) index_is
        (some (omega (arith, any)) ∙ ap (λ (v : Write). set words (256 * (slot - 1) + w.place % 256) v.word) is)

-- the writes that come before a clock
pub at_clock : (clock : ℕ) (writes : List Write) (next : ℕ) → IsNonDecreasingBy (λ (w : Write). w.clock) writes
    → ((k : ℕ) (d : Write) → k < next → k < length writes → (get_or writes k d).clock < clock)
    → ((d : Write) → next < length writes → clock ≤ (get_or writes next d).clock) → take next writes ≡ writes_below clock writes
at_clock clock writes next stamped early late =
    filter-front (λ w. nat_lt w.clock clock) writes next
    (λ k d inside within. let before : (get_or writes k d).clock < clock = early k d inside within in grind (arith, nat_tests))
    (λ k d from within.
    let rise : (get_or writes next d).clock ≤ (get_or writes k d).clock = stamped next k d from within in
    let first : clock ≤ (get_or writes next d).clock = late d (omega arith) in
    grind (arith, nat_tests))

-- where a write is of a clock below one, so are those before it
pub all_before : (clock : ℕ) (writes : List Write) (last : ℕ) (w : Write) → IsNonDecreasingBy (λ (v : Write). v.clock) writes → last < length writes
    → w ≡ get_or writes last w → w.clock < clock → (k : ℕ) (d : Write) → k ≤ last → (get_or writes k d).clock < clock
all_before clock writes last w stamped within is early k d order =
    let rise : (get_or writes k d).clock ≤ (get_or writes last d).clock = stamped k last d order within in
    let same : w ≡ get_or writes last d = is ∙ get_or_default writes last w d within in
    let clocks : w.clock ≡ (get_or writes last d).clock = ap (λ (v : Write). v.clock) same in
    omega (arith, rise, clocks, early)

-- the pages so far are those of the present words
pub record AreCopied (base words after numbers : List ℕ) (upto : ℕ) : Type 0 where
  pub size : length after ≡ length words
  pub each : (place : ℕ) → (get_or after place 0 ≡ get_or words place 0)
      ⊎ ((get_or after place 0 ≡ get_or base place 0) × All (λ number. number ≢ place / 256) (take upto numbers))

pub AreCopied-none : (base words after numbers : List ℕ) → length words ≡ length base → after ≡ base → AreCopied base words after numbers 0
AreCopied-none base words after numbers size is =
    record {
      size = ap length is ∙ sym size;
      each = λ place. inr (ap (λ (ws : List ℕ). get_or ws place 0) is, λ k d within. absurd (omega arith));
    }

pub AreCopied-page : (base words after next part numbers : List ℕ) (i page : ℕ) → AreCopied base words after numbers i → i < length numbers
    → page ≡ get_or numbers i 0 → HasPage after page part next → part ≡ take 256 (drop (256 * page) words)
    → AreCopied base words next numbers (i + 1)
AreCopied-page base words after next part numbers i page before within this has is =
    record {
      size = has.size ∙ before.size;
      each = λ place. by_cases place (cases_eq (place / 256) page) (before.each place);
    }
  where
    by_cases : (place : ℕ) → (place / 256 ≡ page) ⊎ (place / 256 ≢ page)
        → (get_or after place 0 ≡ get_or words place 0)
        ⊎ ((get_or after place 0 ≡ get_or base place 0) × All (λ number. number ≢ place / 256) (take i numbers))
        → (get_or next place 0 ≡ get_or words place 0)
        ⊎ ((get_or next place 0 ≡ get_or base place 0) × All (λ number. number ≢ place / 256) (take (i + 1) numbers))
    by_cases place (inl at) old =
        let split : 256 * page + place % 256 ≡ place = omega arith in
        inl (has.here place at
        ∙ ap (λ (ws : List ℕ). get_or ws (place % 256) 0) is
        ∙ get_or-take 256 (drop (256 * page) words) (place % 256) 0 (omega arith)
        ∙ get_or-drop (256 * page) words (place % 256) 0
        ∙ ap (λ (k : ℕ). get_or words k 0) split)
    by_cases place (inr apart) (inl done) = inl (has.other place apart ∙ done)
    by_cases place (inr apart) (inr (same, none)) =
        inr (
          has.other place apart ∙ same,
          All-same (λ number. number ≢ place / 256) (take (i + 1) numbers) (take i numbers ++ get_or numbers i 0 ∷ []) (take_more numbers i 0 within)
              (All-push (λ number. number ≢ place / 256) (take i numbers) (get_or numbers i 0) none (λ equal. apart (sym equal ∙ sym this))),
        )

pub AreCopied-all : (base words after numbers : List ℕ) (upto : ℕ) → AreCopied base words after numbers upto → length numbers ≤ upto
    → ((place : ℕ) → All (λ number. number ≢ place / 256) numbers → get_or base place 0 ≡ get_or words place 0) → after ≡ words
AreCopied-all base words after numbers upto copied whole unchanged =
    same_number_lists after words copied.size (λ place within. by_cases place (copied.each place))
  where
    by_cases : (place : ℕ) → (get_or after place 0 ≡ get_or words place 0)
        ⊎ ((get_or after place 0 ≡ get_or base place 0) × All (λ number. number ≢ place / 256) (take upto numbers))
        → get_or after place 0 ≡ get_or words place 0
    by_cases place (inl done) = done
    by_cases place (inr (same, none)) =
        same ∙ unchanged place (subst (λ (ns : List ℕ). All (λ number. number ≢ place / 256) ns) (take_all upto numbers whole) none)

-- a place of a page that is not changed has its word still
pub unchanged_word : (base words places numbers : List ℕ) (writes : List Write) (place : ℕ) → AreNumbered places numbers
    → AreCovered places writes (length writes) (length base) → words ≡ words_after base writes → All (λ number. number ≢ place / 256) numbers
    → get_or base place 0 ≡ get_or words place 0
unchanged_word base words places numbers writes place numbered covered present none =
    by_cases (cases_eq (get_or places (place / 256) 0) 0) (cases_lt place (length base))
  where
    other : (k : ℕ) (d : Write) → get_or places (place / 256) 0 ≡ 0 → place < length base → k < length writes
        → ((get_or writes k d).place ≡ place) ⊎ ((get_or writes k d).place ≢ place) → ((get_or writes k d).place == place) ≡ false
    other k d still inside within (inl same) =
        let above : length base ≤ (get_or writes k d).place = covered k d within (ap (λ (n : ℕ). get_or places (n / 256) 0) same ∙ still) in
        absurd (omega (arith, above, inside, same))
    other k d still inside within (inr apart) = grind (arith, nat_tests)

    by_cases : (get_or places (place / 256) 0 ≡ 0) ⊎ (get_or places (place / 256) 0 ≢ 0) → (place < length base) ⊎ (length base ≤ place)
        → get_or base place 0 ≡ get_or words place 0
    by_cases (inr some) either =
        let this = numbered.known (place / 256) some in
        absurd (none (get_or places (place / 256) 0 - 1) 0 (omega (arith, some, this.0)) this.1)
    by_cases (inl still) (inl inside) =
        let nothing : All (λ (w : Write). (w.place == place) ≡ false) writes =
        λ k d within. other k d still inside within (cases_eq (get_or writes k d).place place) in
        sym (ap (λ (ws : List ℕ). get_or ws place 0) present ∙ untouched place writes base (filter-none (λ (w : Write). w.place == place) writes nothing))
    by_cases (inl still) (inr above) =
        get_or_past base place 0 above
        ∙ sym (get_or_past words place 0 (omega (arith, above, ap length present, length-words_after base writes)))

-- one page more has the words of the base
pub HoldsPages-more : (base numbers words part : List ℕ) (i k : ℕ) → HoldsPages base numbers words i → i < length numbers
    → length words ≡ 256 * length numbers → part ≡ take 256 (drop (256 * get_or numbers i 0) base) → length part ≡ 256
    → HoldsPages base numbers (put_mid (256 * i) k words part) (i + 1)
HoldsPages-more base numbers words part i k before within room is size index inside =
    sym (get_or-take (256 * i + 256) (put_mid (256 * i) k words part) index 0 (omega arith))
    ∙ ap (λ (ws : List ℕ). get_or ws index 0) (take-put_mid (256 * i) k words part (256 * i + 256) (omega (arith, size)) (omega (arith, within, room)))
    ∙ by_cases (cases_lt index (256 * i))
  where
    front : length (take (256 * i) words) ≡ 256 * i
    front = omega (arith, length-take (256 * i) words, within, room)

    by_cases : (index < 256 * i) ⊎ (256 * i ≤ index)
        → get_or (take (256 * i) words ++ part) index 0 ≡ get_or base (256 * get_or numbers (index / 256) 0 + index % 256) 0
    by_cases (inl less) =
        get_or-append (take (256 * i) words) part 0 index (omega (arith, less, front))
        ∙ get_or-take (256 * i) words index 0 less
        ∙ before index less
    by_cases (inr from) =
        let which : i ≡ index / 256 = omega (arith, from, inside) in
        let rest : index - 256 * i ≡ index % 256 = omega (arith, from, inside) in
        get_or-append_right (take (256 * i) words) part (256 * i) index 0 front from
        ∙ ap (λ (ws : List ℕ). get_or ws (index - 256 * i) 0) is
        ∙ get_or-take 256 (drop (256 * get_or numbers i 0) base) (index - 256 * i) 0 (omega (arith, from, inside))
        ∙ get_or-drop (256 * get_or numbers i 0) base (index - 256 * i) 0
        ∙ ap (λ (n : ℕ). get_or base (256 * get_or numbers i 0 + n) 0) rest
        ∙ ap (λ (n : ℕ). get_or base (256 * get_or numbers n 0 + index % 256) 0) which

-- what a vector holds once its items were lent
pub lent_back : (len : ℕ) (items now : List ℕ) → length now ≡ length items → len ≡ length items
    → take len (now ++ drop (length now) items) ≡ now
lent_back len items now same size =
    let none : drop (length now) items ≡ [] = drop_all (length now) items (omega (arith, same)) in
    ap (λ (ws : List ℕ). take len (now ++ ws)) none ∙ ap (take len) (append-nil now) ∙ take_all len now (omega (arith, same, size))

-- where no write to a place is of a clock from one on, the word at a later clock is that at the one
pub late_word : (clock later place : ℕ) (writes : List Write) (base : List ℕ) → clock ≤ later
    → All (λ (w : Write). w.place ≡ place → w.clock < clock) writes
    → get_or (memory_at later base writes) place 0 ≡ get_or (memory_at clock base writes) place 0
late_word clock later place writes base order early = by_cases (cases_lt place (length base))
  where
    until : All (λ (w : Write). w.place ≡ place → w.clock < later) writes
    until k d within at = let before : (get_or writes k d).clock < clock = early k d within at in omega (arith, before, order)

    by_cases : (place < length base) ⊎ (length base ≤ place)
        → get_or (memory_at later base writes) place 0 ≡ get_or (memory_at clock base writes) place 0
    by_cases (inl within) =
        sym (words_after-early later place writes base within until) ∙ words_after-early clock place writes base within early
    by_cases (inr past) = memory_at-above later place writes base past ∙ sym (memory_at-above clock place writes base past)

-- a part that is put in place of one as long
pub length-put : (a k : ℕ) (xs ys : List ℕ) → length ys ≡ k → a + k ≤ length xs → length (put_mid a k xs ys) ≡ length xs
length-put a k xs ys size within =
    let middle : length (take k (drop a xs)) ≡ k = omega (arith, length-take k (drop a xs), length-drop a xs, within) in
    same_len_mid a k xs ys (size ∙ sym middle)
