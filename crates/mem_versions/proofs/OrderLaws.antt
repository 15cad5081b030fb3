-- Laws of writes in order of place and then of happening.
use Rattle.std.proofs.Common.{◌≡◌, ℕ, ◌+◌, ◌-◌, ◌/◌, ◌<◌, ◌≤◌, ◌≢◌, Bool, true, false, ◌==◌, ◌&&◌, not, nat_lt, List, length}
use Rattle.std.proofs.Common.{take, drop, get_or, zero, suc, refl, sym, ap, subst, ◌∙◌, arith, length-take, length-drop, length-set}
use Rattle.std.proofs.Common.{get_or-set_other, replicate, ◌⊎◌, inl, inr}
use Rattle.std.proofs.Math.ListN.{set}
use Rattle.std.specs.Ordering.{is_lt, nat_cmp}
use Rattle.std.specs.List.Sorted.{IsNonDecreasingBy, IsSortedByKey, IsStableByKey, ties}
use Rattle.std.proofs.lemmas.Bool.Decides.{nat_tests}
use Rattle.std.proofs.lemmas.Bool.{cases_lt, cases_eq}
use Rattle.std.proofs.lemmas.Grind.{get_or-set_at}
use Rattle.std.proofs.lemmas.List.{get_or-take, get_or-drop, get_or-replicate, length-replicate}
use Rattle.std.proofs.lemmas.List.Elements.{filter_agree}
use Rattle.std.proofs.lemmas.List.Sorted.{IsNonDecreasingBy-from_sort, ties_still_rise}
use Rattle.mem_versions.specs.declared.write.Write.{Write}
use Rattle.mem_versions.specs.MemoryAt.{writes_to}
use Rattle.mem_versions.specs.declared.history.Part.{Part}
use Rattle.mem_versions.specs.code.History.{IsInOrder, IsHistory, IsPart, IsPageEnd}
use Rattle.mem_versions.proofs.FilterLaws.{filter-middle}

-- one write may stand before another
abbrev pub Precedes : Write → Write → Type 0
Precedes v w = (v.place ≤ w.place) × (v.place ≡ w.place → v.clock ≤ w.clock)

Precedes-trans : (u v w : Write) → Precedes u v → Precedes v w → Precedes u w
Precedes-trans u v w first second = (
  omega arith,
  λ same. let one : u.place ≡ v.place = omega arith in let two : v.place ≡ w.place = omega arith in
      let a : u.clock ≤ v.clock = first.1 one in let b : v.clock ≤ w.clock = second.1 two in omega arith,
)

far : (writes : List Write) → ((k : ℕ) (d : Write) → k + 1 < length writes → Precedes (get_or writes k d) (get_or writes (k + 1) d)) →
    (i n j : ℕ) (d : Write) → j ≡ i + n → j < length writes → Precedes (get_or writes i d) (get_or writes j d)
far writes near i zero j d at within =
    let same : i ≡ j = omega arith in
    let P : ℕ → Type 0 = λ k. Precedes (get_or writes i d) (get_or writes k d) in
    subst P same (omega arith, λ one. omega arith)
far writes near i (suc n) j d at within =
    let before : Precedes (get_or writes i d) (get_or writes (i + n) d) = far writes near i n (i + n) d refl (omega arith) in
    let step : Precedes (get_or writes (i + n) d) (get_or writes (i + n + 1) d) = near (i + n) d (omega arith) in
    let next : i + n + 1 ≡ j = omega arith in
    let P : ℕ → Type 0 = λ k. Precedes (get_or writes i d) (get_or writes k d) in
    subst P next (Precedes-trans (get_or writes i d) (get_or writes (i + n) d) (get_or writes (i + n + 1) d) before step)

-- clocks that do not fall are sorted by clock
IsSortedByKey-from_clocks : (writes : List Write) → IsNonDecreasingBy (λ w. w.clock) writes → IsSortedByKey (λ (w : Write). w.clock) nat_cmp writes
IsSortedByKey-from_clocks writes rising k d low within =
    let le : (get_or writes k d).clock ≤ (get_or writes (k + 1) d).clock = rising k (k + 1) d (omega arith) within in
    grind (arith, nat_tests)

-- a stable sort by place of writes whose clocks do not fall
pub IsInOrder-sorted : (writes list : List Write) → IsNonDecreasingBy (λ w. w.clock) writes → IsSortedByKey (λ (w : Write). w.place) nat_cmp list →
    IsStableByKey (λ (w : Write). w.place) nat_cmp writes list → IsInOrder list
IsInOrder-sorted writes list rising sorted stable i j d order within =
    far list
    (λ k e next. (
      IsNonDecreasingBy-from_sort (λ (w : Write). w.place) list sorted k (k + 1) e (omega arith) next,
      λ same. ties_still_rise (λ (w : Write). w.clock) (λ (w : Write). w.place) writes list (IsSortedByKey-from_clocks writes rising) stable k e next same,
    ))
    i (j - i) j d (omega arith) within

-- it keeps the writes to each place in their order
pub writes_to-sorted : (writes list : List Write) → IsStableByKey (λ (w : Write). w.place) nat_cmp writes list → (place : ℕ)
    → writes_to place list ≡ writes_to place writes
writes_to-sorted writes list stable place =
    let x : Write = record { clock = 0; place = place; word = 0 } in
    let lt : Write → Write → Bool = λ v w. is_lt (nat_cmp v.place w.place) in
    let agree : (w : Write) → (w.place == place) ≡ ties lt x w = λ w. tie place w.place in
    filter_agree (λ w. w.place == place) (ties lt x) agree list ∙ stable x ∙ sym (filter_agree (λ w. w.place == place) (ties lt x) agree writes)
  where
    tie : (a b : ℕ) → (b == a) ≡ (not (is_lt (nat_cmp a b)) && not (is_lt (nat_cmp b a)))
    tie a b = grind (arith, nat_tests)

-- a part of writes in order is in order
pub IsInOrder-part : (writes : List Write) (start count : ℕ) → IsInOrder writes → IsInOrder (take count (drop start writes))
IsInOrder-part writes start count order i j d le within =
    let inside : j < count = omega (arith, length-take count (drop start writes)) in
    let whole : start + j < length writes = omega (arith, length-take count (drop start writes), length-drop start writes) in
    let at_i : get_or (take count (drop start writes)) i d ≡ get_or writes (start + i) d =
    get_or-take count (drop start writes) i d (omega arith) ∙ get_or-drop start writes i d in
    let at_j : get_or (take count (drop start writes)) j d ≡ get_or writes (start + j) d =
    get_or-take count (drop start writes) j d inside ∙ get_or-drop start writes j d in
    let P : Write → Type 0 = λ v. Precedes v (get_or (take count (drop start writes)) j d) in
    let Q : Write → Type 0 = λ w. Precedes (get_or writes (start + i) d) w in
    subst P (sym at_i) (subst Q (sym at_j) (order (start + i) (start + j) d (omega arith) whole))

-- the part of a page that is found among those kept
pub part_at : (writes : List Write) (parts now : List Part) (pages n : ℕ) (part : Part) → IsHistory writes parts pages → now ≡ parts
    → n < length now → part ≡ get_or now n part → IsPart writes n part
part_at writes parts now pages n part has same within is =
    let inside : n < length parts = omega (arith, within, ap length same) in
    let found : get_or parts n part ≡ part = sym (is ∙ ap (λ (ps : List Part). get_or ps n part) same) in
    subst (λ (q : Part). IsPart writes n q) found (has.parted n part inside)

-- the writes up to a place are walked over: each page that no further write is to has its part
pub record AreWalked (writes : List Write) (parts : List Part) (pages upto : ℕ) : Type 0 where
  pub within : upto ≤ length writes
  pub count : length parts ≡ pages
  -- further writes are to higher pages
  pub higher : (j k : ℕ) (d : Write) → j < upto → upto ≤ k → k < length writes → (get_or writes j d).place / 256 < (get_or writes k d).place / 256
  pub each : (page : ℕ) (d : Part) → page < pages
      → ((k : ℕ) (e : Write) → upto ≤ k → k < length writes → (get_or writes k e).place / 256 ≢ page) → IsPart writes page (get_or parts page d)

is-not : (a b : ℕ) → a ≢ b → (a == b) ≡ false
is-not a b ne = grind (arith, nat_tests)

is-same : (a b : ℕ) → a ≡ b → (a == b) ≡ true
is-same a b same = grind (arith, nat_tests)

-- before the walk
pub AreWalked-none : (writes : List Write) (parts : List Part) (pages : ℕ) → parts ≡ replicate pages (record { start = 0; end = 0 })
    → AreWalked writes parts pages 0
AreWalked-none writes parts pages are =
    let none : Part = record { start = 0; end = 0 } in
    record {
      within = omega arith;
      count = ap length are ∙ length-replicate {A = Part} pages none;
      higher = λ j k d before from within. absurd (omega arith);
      each = λ page d within nothing.
          let is : none ≡ get_or parts page d = sym (ap (λ (ps : List Part). get_or ps page d) are ∙ get_or-replicate pages page none d within) in
          let P : Part → Type 0 = λ part. IsPart writes page part in
          subst P is (record {
            order = omega arith;
            within = omega arith;
            those =
                filter-middle (λ w. w.place / 256 == page) writes 0 0 (omega arith)
                (λ k e before inside. absurd (omega arith))
                (λ k e from before inside. absurd (omega arith))
                (λ k e from inside. is-not ((get_or writes k e).place / 256) page (nothing k e from inside));
          });
    }

-- the part of a page
part-here : (writes : List Write) (parts : List Part) (pages page start end : ℕ) → AreWalked writes parts pages start → IsPageEnd writes page start end
    → IsPart writes page (record { start = start; end = end })
part-here writes parts pages page start end walked stop =
    record {
      order = omega (arith, stop.some);
      within = stop.within;
      those =
          filter-middle (λ w. w.place / 256 == page) writes start end (omega (arith, stop.some))
          (λ k d before inside.
          let first : (get_or writes start d).place / 256 ≡ page = stop.same start d (omega arith) stop.some in
          let lower : (get_or writes k d).place / 256 < (get_or writes start d).place / 256 =
          walked.higher k start d before (omega arith) (omega (arith, stop.some, stop.within)) in
          is-not ((get_or writes k d).place / 256) page (omega arith))
          (λ k d from before inside. is-same ((get_or writes k d).place / 256) page (stop.same k d from before))
          (λ k d from inside.
          let above : page < (get_or writes k d).place / 256 = stop.higher k d from inside in
          is-not ((get_or writes k d).place / 256) page (omega arith));
    }

-- further writes are to higher pages, behind one page more
higher-next : (writes : List Write) (parts : List Part) (pages page start end : ℕ) → AreWalked writes parts pages start → IsPageEnd writes page start end
    → (j k : ℕ) (d : Write) → j < end → end ≤ k → k < length writes → (get_or writes j d).place / 256 < (get_or writes k d).place / 256
higher-next writes parts pages page start end walked stop j k d before from within = by_cases (cases_lt j start)
  where
    by_cases : (j < start) ⊎ (start ≤ j) → (get_or writes j d).place / 256 < (get_or writes k d).place / 256
    by_cases (inl less) = walked.higher j k d less (omega (arith, stop.some)) within
    by_cases (inr le) =
        let here : (get_or writes j d).place / 256 ≡ page = stop.same j d le before in
        let above : page < (get_or writes k d).place / 256 = stop.higher k d from within in
        omega arith

-- a page that the next writes are not to keeps its part
part-other : (writes : List Write) (parts : List Part) (pages page start end other : ℕ) (d : Part) → AreWalked writes parts pages start
    → IsPageEnd writes page start end → other < pages → other ≢ page
    → ((k : ℕ) (e : Write) → end ≤ k → k < length writes → (get_or writes k e).place / 256 ≢ other) → IsPart writes other (get_or parts other d)
part-other writes parts pages page start end other d walked stop within differs nothing =
    walked.each other d within (λ k e from inside. by_cases k e from inside (cases_lt k end))
  where
    by_cases : (k : ℕ) (e : Write) → start ≤ k → k < length writes → (k < end) ⊎ (end ≤ k) → (get_or writes k e).place / 256 ≢ other
    by_cases k e from inside (inl less) = let here : (get_or writes k e).place / 256 ≡ page = stop.same k e from less in omega arith
    by_cases k e from inside (inr le) = nothing k e le inside

-- a page more, which the memory has
pub AreWalked-page : (writes : List Write) (parts : List Part) (pages page start end : ℕ) → AreWalked writes parts pages start
    → IsPageEnd writes page start end → page < pages → AreWalked writes (set parts page (record { start = start; end = end })) pages end
AreWalked-page writes parts pages page start end walked stop has =
    let part : Part = record { start = start; end = end } in
    record {
      within = stop.within;
      count = length-set parts page part ∙ walked.count;
      higher = higher-next writes parts pages page start end walked stop;
      each = λ other d within nothing. by_cases other d within nothing (cases_eq other page);
    }
  where
    by_cases : (other : ℕ) (d : Part) → other < pages
        → ((k : ℕ) (e : Write) → end ≤ k → k < length writes → (get_or writes k e).place / 256 ≢ other) → (other ≡ page) ⊎ (other ≢ page)
        → IsPart writes other (get_or (set parts page (record { start = start; end = end })) other d)
    by_cases other d within nothing (inl same) =
        let part : Part = record { start = start; end = end } in
        let is : part ≡ get_or (set parts page part) other d = sym (get_or-set_at parts page other part d same (omega (arith, walked.count))) in
        let P : Part → Type 0 = λ q. IsPart writes other q in
        let Q : ℕ → Type 0 = λ n. IsPart writes n part in
        subst P is (subst Q (sym same) (part-here writes parts pages page start end walked stop))
    by_cases other d within nothing (inr differs) =
        let part : Part = record { start = start; end = end } in
        let is : get_or parts other d ≡ get_or (set parts page part) other d = sym (get_or-set_other parts page other part d differs) in
        let P : Part → Type 0 = λ q. IsPart writes other q in
        subst P is (part-other writes parts pages page start end other d walked stop within differs nothing)

-- and which it has not
pub AreWalked-above : (writes : List Write) (parts : List Part) (pages page start end : ℕ) → AreWalked writes parts pages start
    → IsPageEnd writes page start end → pages ≤ page → AreWalked writes parts pages end
AreWalked-above writes parts pages page start end walked stop above =
    record {
      within = stop.within;
      count = walked.count;
      higher = higher-next writes parts pages page start end walked stop;
      each = λ other d within nothing. part-other writes parts pages page start end other d walked stop within (omega arith) nothing;
    }

-- a write that counts for a place is to its page
pub same-page : (place clock : ℕ) (w : Write) → ((w.place == place) && nat_lt w.clock clock) ≡ true → (w.place / 256 == place / 256) ≡ true
same-page place clock w counts = from_place (first (w.place == place) (nat_lt w.clock clock) counts)
  where
    first : (a b : Bool) → (a && b) ≡ true → a ≡ true
    first true b both = refl
    first false b both = both

    from_place : (w.place == place) ≡ true → (w.place / 256 == place / 256) ≡ true
    from_place here =
        let is : w.place ≡ place = grind (arith, nat_tests) in
        let page : w.place / 256 ≡ place / 256 = ap (λ k. k / 256) is in grind (arith, nat_tests)
