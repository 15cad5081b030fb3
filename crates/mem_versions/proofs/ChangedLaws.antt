-- Laws of pages that are replaced, and of those that no write is to.
use Rattle.std.proofs.Common.{◌≡◌, ℕ, zero, suc, ◌-◌, subst, filter, ◌+◌, ◌*◌, ◌/◌, ◌%◌, ◌<◌, ◌≤◌, ◌≢◌, Bool, true, false, cond}
use Rattle.std.proofs.Common.{◌==◌, List, [], ◌∷◌, ◌++◌, length}
use Rattle.std.proofs.Common.{take, drop, get_or, refl, sym, ap, ◌∙◌, arith, get_or-set_other, length-set, length-take, length-drop, ◌⊎◌, inl, inr}
use Rattle.std.proofs.Math.ListN.{set}
use Rattle.std.specs.List.{flat_map}
use Rattle.std.proofs.lemmas.Bool.Decides.{nat_tests}
use Rattle.std.proofs.lemmas.Bool.{cases_lt, cases_eq}
use Rattle.std.proofs.lemmas.Grind.{same_number_lists, get_or-set_at}
use Rattle.std.proofs.lemmas.List.{take_more, get_or_past, get_or-take, get_or-drop, take_all}
use Rattle.std.proofs.lemmas.List.Elements.{filter-append, filter_passes, All-set}
use Rattle.mem_versions.specs.declared.write.Write.{Write}
use Rattle.mem_versions.specs.MemoryAt.{words_after, writes_to}
use Rattle.mem_versions.specs.declared.history.Part.{Part}
use Rattle.mem_versions.specs.code.History.{IsPart, AreToOnePage}
use Rattle.mem_versions.specs.code.Pages.{HasPage}
use Rattle.mem_versions.proofs.PagesLaws.{ArePages, length-joined, get_or-joined}

-- the lists of a list's pages, once one is replaced
pub ArePages-set : {X : Type 0} (size : ℕ) (f : X → List ℕ) (ps : List X) (n : ℕ) (q : X) → ArePages size f ps → length (f q) ≡ size
    → ArePages size f (set ps n q)
ArePages-set size f ps n q each this = All-set (λ p. length (f p) ≡ size) ps n q this each

pub length-replaced : {X : Type 0} (size : ℕ) (f : X → List ℕ) (ps : List X) (n : ℕ) (q : X) → ArePages size f ps → length (f q) ≡ size
    → length (flat_map f (set ps n q)) ≡ length (flat_map f ps)
length-replaced size f ps n q each this =
    length-joined size f (set ps n q) (ArePages-set size f ps n q each this) ∙ ap (λ (k : ℕ). size * k) (length-set ps n q)
    ∙ sym (length-joined size f ps each)

-- the word at a place of the page that was replaced
pub replaced-here : {X : Type 0} (size : ℕ) (f : X → List ℕ) (ps : List X) (n place j : ℕ) (q : X) → ArePages size f ps → length (f q) ≡ size
    → n < length ps → j < size → place ≡ size * n + j → get_or (flat_map f (set ps n q)) place 0 ≡ get_or (f q) j 0
replaced-here size f ps n place j q each this within small at =
    get_or-joined size f (set ps n q) n place j q (ArePages-set size f ps n q each this) (omega (arith, length-set ps n q)) small at
    ∙ ap (λ p. get_or (f p) j 0) (get_or-set_at ps n n q q refl within)

-- and of another
pub replaced-other : {X : Type 0} (size : ℕ) (f : X → List ℕ) (ps : List X) (n k place j : ℕ) (q : X) → ArePages size f ps → length (f q) ≡ size
    → k < length ps → k ≢ n → j < size → place ≡ size * k + j → get_or (flat_map f (set ps n q)) place 0 ≡ get_or (flat_map f ps) place 0
replaced-other size f ps n k place j q each this within differs small at =
    get_or-joined size f (set ps n q) k place j q (ArePages-set size f ps n q each this) (omega (arith, length-set ps n q)) small at
    ∙ ap (λ p. get_or (f p) j 0) (get_or-set_other ps n k q q differs)
    ∙ sym (get_or-joined size f ps k place j q each within small at)

-- a page of a group is replaced
pub HasPage-group : {X : Type 0} (f : X → List ℕ) (ps : List X) (n : ℕ) (q : X) (words : List ℕ) → ArePages 256 f ps → n < length ps → f q ≡ words
    → length words ≡ 256 → HasPage (flat_map f ps) n words (flat_map f (set ps n q))
HasPage-group f ps n q words each within is size =
    let this : length (f q) ≡ 256 = ap length is ∙ size in
    record {
      size = length-replaced 256 f ps n q each this;
      here = λ place at. replaced-here 256 f ps n place (place % 256) q each this within (omega arith) (omega arith)
          ∙ ap (λ (ws : List ℕ). get_or ws (place % 256) 0) is;
      other = λ place differs. by_cases place differs (cases_lt (place / 256) (length ps));
    }
  where
    by_cases : (place : ℕ) → place / 256 ≢ n → (place / 256 < length ps) ⊎ (length ps ≤ place / 256)
        → get_or (flat_map f (set ps n q)) place 0 ≡ get_or (flat_map f ps) place 0
    by_cases place differs (inl inside) =
        replaced-other 256 f ps n (place / 256) place (place % 256) q each (ap length is ∙ size) inside differs (omega arith) (omega arith)
    by_cases place differs (inr past) =
        let count : length (flat_map f ps) ≡ 256 * length ps = length-joined 256 f ps each in
        let same : length (flat_map f (set ps n q)) ≡ length (flat_map f ps) = length-replaced 256 f ps n q each (ap length is ∙ size) in
        get_or_past (flat_map f (set ps n q)) place 0 (omega arith) ∙ sym (get_or_past (flat_map f ps) place 0 (omega arith))

-- a page of a group of a memory is replaced
pub HasPage-memory : {X : Type 0} (f : X → List ℕ) (gs : List X) (n : ℕ) (q d : X) (words : List ℕ) → ArePages 8192 f gs → n / 32 < length gs
    → HasPage (f (get_or gs (n / 32) d)) (n % 32) words (f q) → HasPage (flat_map f gs) n words (flat_map f (set gs (n / 32) q))
HasPage-memory f gs n q d words each within has =
    let old : length (f (get_or gs (n / 32) d)) ≡ 8192 = each (n / 32) d within in
    let this : length (f q) ≡ 8192 = has.size ∙ old in
    record {
      size = length-replaced 8192 f gs (n / 32) q each this;
      here = λ place at.
          replaced-here 8192 f gs (n / 32) place (place % 8192) q each this within (omega arith) (omega arith)
          ∙ has.here (place % 8192) (omega arith)
          ∙ ap (λ (k : ℕ). get_or words k 0) (mod-mod place);
      other = λ place differs. by_cases place differs this (cases_lt (place / 8192) (length gs)) (cases_eq (place / 8192) (n / 32));
    }
  where
    mod-mod : (place : ℕ) → place % 8192 % 256 ≡ place % 256
    mod-mod place = omega arith

    by_cases : (place : ℕ) → place / 256 ≢ n → length (f q) ≡ 8192 → (place / 8192 < length gs) ⊎ (length gs ≤ place / 8192)
        → (place / 8192 ≡ n / 32) ⊎ (place / 8192 ≢ n / 32) → get_or (flat_map f (set gs (n / 32) q)) place 0 ≡ get_or (flat_map f gs) place 0
    by_cases place differs this (inl inside) (inl same) =
        replaced-here 8192 f gs (n / 32) place (place % 8192) q each this within (omega arith) (omega arith)
        ∙ has.other (place % 8192) (λ equal. differs (omega arith))
        ∙ sym (get_or-joined 8192 f gs (n / 32) place (place % 8192) d each within (omega arith) (omega arith))
    by_cases place differs this (inl inside) (inr apart) =
        replaced-other 8192 f gs (n / 32) (place / 8192) place (place % 8192) q each this inside apart (omega arith) (omega arith)
    by_cases place differs this (inr past) either =
        let count : length (flat_map f gs) ≡ 8192 * length gs = length-joined 8192 f gs each in
        let same : length (flat_map f (set gs (n / 32) q)) ≡ length (flat_map f gs) = length-replaced 8192 f gs (n / 32) q each this in
        get_or_past (flat_map f (set gs (n / 32) q)) place 0 (omega arith) ∙ sym (get_or_past (flat_map f gs) place 0 (omega arith))

-- a place that no write is to has its word still
pub untouched : (place : ℕ) (writes : List Write) (words : List ℕ) → writes_to place writes ≡ []
    → get_or (words_after words writes) place 0 ≡ get_or words place 0
untouched place [] words none = refl
untouched place (w ∷ ws) words none = by_case (w.place == place) refl (λ rest. untouched place ws (set words w.place w.word) rest) none
  where
    by_case : (here : Bool) → here ≡ (w.place == place)
        → (writes_to place ws ≡ [] → get_or (words_after (set words w.place w.word) ws) place 0 ≡ get_or (set words w.place w.word) place 0)
        → cond here (w ∷ writes_to place ws) (writes_to place ws) ≡ []
        → get_or (words_after (set words w.place w.word) ws) place 0 ≡ get_or words place 0
    by_case true is before some = let one : length (w ∷ writes_to place ws) ≡ 0 = ap length some in absurd (omega arith)
    by_case false is before rest =
        let other : place ≢ w.place = grind (arith, nat_tests) in
        before rest ∙ get_or-set_other words w.place place w.word 0 other

-- after the first writes the pages that they are to have the present words
pub record AreChanged (base words after : List ℕ) (writes : List Write) (last upto : ℕ) : Type 0 where
  pub size : length after ≡ length words
  pub known : (place : ℕ) → place < length words → place / 256 ≡ last → get_or after place 0 ≡ get_or words place 0
  pub each : (place : ℕ) → place < length words → (get_or after place 0 ≡ get_or words place 0)
      ⊎ ((get_or after place 0 ≡ get_or base place 0) × (writes_to place (take upto writes) ≡ []))

pub AreChanged-none : (base words after : List ℕ) (writes : List Write) (count : ℕ) → length words ≡ length base → after ≡ base
    → length after ≡ 256 * count → AreChanged base words after writes count 0
AreChanged-none base words after writes count same is whole =
    record {
      size = ap length is ∙ sym same;
      known = λ place within at. absurd (omega (arith, ap length is));
      each = λ place within. inr (ap (λ (ws : List ℕ). get_or ws place 0) is, refl);
    }

-- one write more is not to a place
more-none : (place : ℕ) (writes : List Write) (i : ℕ) (d : Write) → i < length writes → (get_or writes i d).place ≢ place
    → writes_to place (take i writes) ≡ [] → writes_to place (take (i + 1) writes) ≡ []
more-none place writes i d within differs none =
    let w : Write = get_or writes i d in
    let fails : (w.place == place) ≡ false = grind (arith, nat_tests) in
    ap (writes_to place) (take_more writes i d within)
    ∙ filter-append (λ v. v.place == place) (take i writes) (w ∷ [])
    ∙ ap (λ (ws : List Write). ws ++ writes_to place (w ∷ [])) none
    ∙ ap (λ (b : Bool). cond b (w ∷ []) []) fails

-- a write to a page that has the present words, or to none of the memory
pub AreChanged-kept : (base words after : List ℕ) (writes : List Write) (last i count : ℕ) (d : Write) → AreChanged base words after writes last i
    → i < length writes → length words ≡ 256 * count → ((get_or writes i d).place / 256 ≡ last) ⊎ (count ≤ (get_or writes i d).place / 256)
    → AreChanged base words after writes last (i + 1)
AreChanged-kept base words after writes last i count d before within whole which =
    record {
      size = before.size;
      known = before.known;
      each = λ place inside. by_cases place inside which (cases_eq (place / 256) ((get_or writes i d).place / 256)) (before.each place inside);
    }
  where
    by_cases : (place : ℕ) → place < length words → ((get_or writes i d).place / 256 ≡ last) ⊎ (count ≤ (get_or writes i d).place / 256)
        → (place / 256 ≡ (get_or writes i d).place / 256) ⊎ (place / 256 ≢ (get_or writes i d).place / 256)
        → (get_or after place 0 ≡ get_or words place 0) ⊎ ((get_or after place 0 ≡ get_or base place 0) × (writes_to place (take i writes) ≡ []))
        → (get_or after place 0 ≡ get_or words place 0) ⊎ ((get_or after place 0 ≡ get_or base place 0) × (writes_to place (take (i + 1) writes) ≡ []))
    by_cases place inside which at (inl done) = inl done
    by_cases place inside which (inr apart) (inr (same, none)) =
        let differs : (get_or writes i d).place ≢ place = λ equal. apart (ap (λ (k : ℕ). k / 256) (sym equal)) in
        inr (same, more-none place writes i d within differs none)
    by_cases place inside (inl is) (inl here) (inr old) = inl (before.known place inside (here ∙ is))
    by_cases place inside (inr above) (inl here) (inr old) = absurd (omega arith)

-- one write more to a page that has the present words, or to none of the memory
AreChanged-same : (base words after : List ℕ) (writes : List Write) (page i : ℕ) (d : Write) → AreChanged base words after writes page i
    → i < length writes → (get_or writes i d).place / 256 ≡ page → AreChanged base words after writes page (i + 1)
AreChanged-same base words after writes page i d before within is =
    record {
      size = before.size;
      known = before.known;
      each = λ place inside. by_cases place inside (cases_eq (place / 256) ((get_or writes i d).place / 256)) (before.each place inside);
    }
  where
    by_cases : (place : ℕ) → place < length words → (place / 256 ≡ (get_or writes i d).place / 256) ⊎ (place / 256 ≢ (get_or writes i d).place / 256)
        → (get_or after place 0 ≡ get_or words place 0) ⊎ ((get_or after place 0 ≡ get_or base place 0) × (writes_to place (take i writes) ≡ []))
        → (get_or after place 0 ≡ get_or words place 0) ⊎ ((get_or after place 0 ≡ get_or base place 0) × (writes_to place (take (i + 1) writes) ≡ []))
    by_cases place inside at (inl done) = inl done
    by_cases place inside (inr apart) (inr (same, none)) =
        let differs : (get_or writes i d).place ≢ place = λ equal. apart (ap (λ (k : ℕ). k / 256) (sym equal)) in
        inr (same, more-none place writes i d within differs none)
    by_cases place inside (inl here) (inr old) = inl (before.known place inside (here ∙ is))

-- a write to a page that is none of the memory
pub AreChanged-above : (base words after : List ℕ) (writes : List Write) (last i count : ℕ) (d : Write) → AreChanged base words after writes last i
    → i < length writes → length words ≡ 256 * count → count ≤ (get_or writes i d).place / 256
    → AreChanged base words after writes ((get_or writes i d).place / 256) (i + 1)
AreChanged-above base words after writes last i count d before within whole above =
    let kept = AreChanged-kept base words after writes last i count d before within whole (inr above) in
    record { size = kept.size; known = λ place inside at. absurd (omega (arith, inside, at, above, whole)); each = kept.each }

-- a write whose page is replaced by that of the present words
pub AreChanged-page : (base words after next part : List ℕ) (writes : List Write) (last i page : ℕ) (d : Write) → AreChanged base words after writes last i
    → i < length writes → (get_or writes i d).place / 256 ≡ page → HasPage after page part next → part ≡ take 256 (drop (256 * page) words)
    → AreChanged base words next writes page (i + 1)
AreChanged-page base words after next part writes last i page d before within to has is =
    record {
      size = has.size ∙ before.size;
      known = λ place inside at. here place at;
      each = λ place inside. by_cases place inside (cases_eq (place / 256) page) (before.each place inside);
    }
  where
    here : (place : ℕ) → place / 256 ≡ page → get_or next place 0 ≡ get_or words place 0
    here place at =
        let split : 256 * page + place % 256 ≡ place = omega arith in
        has.here place at
        ∙ ap (λ (ws : List ℕ). get_or ws (place % 256) 0) is
        ∙ get_or-take 256 (drop (256 * page) words) (place % 256) 0 (omega arith)
        ∙ get_or-drop (256 * page) words (place % 256) 0
        ∙ ap (λ (k : ℕ). get_or words k 0) split

    by_cases : (place : ℕ) → place < length words → (place / 256 ≡ page) ⊎ (place / 256 ≢ page)
        → (get_or after place 0 ≡ get_or words place 0) ⊎ ((get_or after place 0 ≡ get_or base place 0) × (writes_to place (take i writes) ≡ []))
        → (get_or next place 0 ≡ get_or words place 0) ⊎ ((get_or next place 0 ≡ get_or base place 0) × (writes_to place (take (i + 1) writes) ≡ []))
    by_cases place inside (inl at) old = inl (here place at)
    by_cases place inside (inr apart) (inl done) = inl (has.other place apart ∙ done)
    by_cases place inside (inr apart) (inr (same, none)) =
        let differs : (get_or writes i d).place ≢ place = λ equal. apart (ap (λ (k : ℕ). k / 256) (sym equal) ∙ to) in
        inr (has.other place apart ∙ same, more-none place writes i d within differs none)

-- so many writes more to a page that has the present words, or to none of the memory
pub AreChanged-run : (base words after : List ℕ) (writes : List Write) (page i n : ℕ) (d : Write) → AreChanged base words after writes page i
    → i + n ≤ length writes → ((k : ℕ) → i ≤ k → k < i + n → (get_or writes k d).place / 256 ≡ page)
    → AreChanged base words after writes page (i + n)
AreChanged-run base words after writes page i zero d before within same =
    subst (λ (k : ℕ). AreChanged base words after writes page k) (omega arith) before
AreChanged-run base words after writes page i (suc n) d before within same =
    let most = AreChanged-run base words after writes page i n d before (omega arith) (λ k from below. same k from (omega arith)) in
    let one = AreChanged-same base words after writes page (i + n) d most (omega arith) (same (i + n) (omega arith) (omega arith)) in
    subst (λ (k : ℕ). AreChanged base words after writes page k) (omega arith) one

-- which page was the last is no matter any more
pub AreChanged-forget : (base words after : List ℕ) (writes : List Write) (last i count : ℕ) → AreChanged base words after writes last i
    → length words ≡ 256 * count → AreChanged base words after writes count i
AreChanged-forget base words after writes last i count before whole =
    record { size = before.size; known = λ place inside at. absurd (omega (arith, inside, at, whole)); each = before.each }

-- behind a write to a page the others to it are passed over
pub AreChanged-next : (base words after : List ℕ) (writes : List Write) (page i end count : ℕ) (d : Write)
    → AreChanged base words after writes page (i + 1) → i < end → end ≤ length writes → AreToOnePage writes i end
    → (get_or writes i d).place / 256 ≡ page → length words ≡ 256 * count → AreChanged base words after writes count end
AreChanged-next base words after writes page i end count d before later within same is whole =
    let n : ℕ = end - (i + 1) in
    let at : i + 1 + n ≡ end = omega (arith, later) in
    let run : AreChanged base words after writes page (i + 1 + n) =
    AreChanged-run base words after writes page (i + 1) n d before (omega (arith, at, within))
    (λ k from below. same k d (omega (arith, from)) (omega (arith, below, at)) ∙ is) in
    AreChanged-forget base words after writes page end count (subst (λ (k : ℕ). AreChanged base words after writes page k) at run) whole

-- the writes of a part are to its page
pub part_same : (writes : List Write) (page : ℕ) (part : Part) → IsPart writes page part → (k : ℕ) (d : Write) → part.start ≤ k → k < part.end
    → (get_or writes k d).place / 256 ≡ page
part_same writes page part is k d from below =
    let n : ℕ = part.end - part.start in
    let p : Write → Bool = λ w. w.place / 256 == page in
    let size : length (filter p writes) ≡ n =
    sym (ap length is.those) ∙ length-take n (drop part.start writes) ∙ omega (arith, length-drop part.start writes, is.within, is.order) in
    let inside : k - part.start < length (filter p writes) = omega (arith, size, from, below) in
    let place : part.start + (k - part.start) ≡ k = omega (arith, from) in
    let at : get_or (filter p writes) (k - part.start) d ≡ get_or writes k d =
    ap (λ (ws : List Write). get_or ws (k - part.start) d) (sym is.those)
    ∙ get_or-take n (drop part.start writes) (k - part.start) d (omega (arith, from, below))
    ∙ get_or-drop part.start writes (k - part.start) d
    ∙ ap (λ (j : ℕ). get_or writes j d) place in
    let passes : p (get_or (filter p writes) (k - part.start) d) ≡ true = filter_passes p writes (k - part.start) d inside in
    let passes' : p (get_or writes k d) ≡ true = ap p (sym at) ∙ passes in
    grind (arith, nat_tests, passes')

-- after all writes the words are the present ones
pub AreChanged-all : (base words after : List ℕ) (writes : List Write) (last upto : ℕ) → AreChanged base words after writes last upto → length writes ≤ upto
    → ((place : ℕ) → writes_to place writes ≡ [] → get_or base place 0 ≡ get_or words place 0) → after ≡ words
AreChanged-all base words after writes last upto changed whole unchanged =
    same_number_lists after words changed.size (λ place within. by_cases place (changed.each place (omega (arith, changed.size))))
  where
    by_cases : (place : ℕ) → (get_or after place 0 ≡ get_or words place 0)
        ⊎ ((get_or after place 0 ≡ get_or base place 0) × (writes_to place (take upto writes) ≡ [])) → get_or after place 0 ≡ get_or words place 0
    by_cases place (inl done) = done
    by_cases place (inr (same, none)) = same ∙ unchanged place (sym (ap (writes_to place) (take_all upto writes whole)) ∙ none)
