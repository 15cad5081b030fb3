-- Laws of the search for the last write to a place before a clock.
use Rattle.std.proofs.Common.{◌≡◌, ℕ, ◌+◌, ◌-◌, ◌*◌, ◌^◌, ◌<◌, ◌≤◌, Bool, true, false, cond, ◌==◌, ◌&&◌, nat_lt, List, []}
use Rattle.std.proofs.Common.{◌∷◌, length, All, take, drop, get_or, suc, refl, sym, ap, ◌∙◌, arith, pow-suc, mul_assoc}
use Rattle.std.proofs.lemmas.Bool.Decides.{nat_tests}
use Rattle.std.proofs.lemmas.List.{take-append-drop, take_more, get_or_default}
use Rattle.std.proofs.lemmas.List.Elements.{All-head, All-tail}
use Rattle.std.proofs.lemmas.Nat.{mul-le}
use Rattle.mem_versions.specs.declared.write.Write.{Write}
use Rattle.mem_versions.specs.code.History.{word_before, IsInOrder}
use Rattle.mem_versions.proofs.FilterLaws.{All-front, All-back}
use Rattle.mem_versions.proofs.MemoryLaws.{word_before-append}

-- a write of the place comes at the clock or later
abbrev pub IsLate : ℕ → ℕ → Write → Type 0
IsLate place clock w = w.place ≡ place → clock ≤ w.clock

not-counted : (place clock : ℕ) (w : Write) → IsLate place clock w → ((w.place == place) && nat_lt w.clock clock) ≡ false
not-counted place clock w late = by_case (w.place == place) (nat_lt w.clock clock) refl refl
  where
    by_case : (here early : Bool) → here ≡ (w.place == place) → early ≡ nat_lt w.clock clock → (here && early) ≡ false
    by_case false early is when = refl
    by_case true false is when = refl
    by_case true true is when =
        let this : w.place ≡ place = grind (arith, nat_tests) in
        let before : w.clock < clock = grind (arith, nat_tests) in
        let after : clock ≤ w.clock = late this in
        absurd (omega arith)

-- writes that come late change nothing
pub word_before-late : (place clock : ℕ) (writes : List Write) (word : ℕ) → All (IsLate place clock) writes → word_before place clock writes word ≡ word
word_before-late place clock [] word late = refl
word_before-late place clock (w ∷ ws) word late =
    ap (λ (b : Bool). word_before place clock ws (cond b w.word word)) (not-counted place clock w (All-head (IsLate place clock) w ws late))
    ∙ word_before-late place clock ws word (All-tail (IsLate place clock) w ws late)

-- the last of some writes counts
pub word_before-last : (place clock : ℕ) (writes : List Write) (word i : ℕ) (d : Write) → i < length writes
    → (get_or writes i d).place ≡ place → (get_or writes i d).clock < clock →
    (get_or writes i d).word ≡ word_before place clock (take (i + 1) writes) word
word_before-last place clock writes word i d within here early =
    let w = get_or writes i d in
    let counts : ((w.place == place) && nat_lt w.clock clock) ≡ true =
    both (w.place == place) (nat_lt w.clock clock) (grind (arith, nat_tests)) (grind (arith, nat_tests)) in
    sym (ap (λ (ws : List Write). word_before place clock ws word) (take_more writes i d within)
    ∙ word_before-append place clock (take i writes) (w ∷ []) word
    ∙ ap (λ (b : Bool). cond b w.word (word_before place clock (take i writes) word)) counts)
  where
    both : (a b : Bool) → a ≡ true → b ≡ true → (a && b) ≡ true
    both true b one two = two
    both false b one two = one

-- the first writes, of which the last has a lower place
pub word_before-lower : (place clock : ℕ) (writes : List Write) (word found low i : ℕ) (d : Write)
    → IsInOrder writes → low ≤ i → i < length writes → (get_or writes i d).place < place →
    found ≡ word_before place clock (take low writes) word → found ≡ word_before place clock (take (i + 1) writes) word
word_before-lower place clock writes word found low i d order le within lower before =
    before ∙ word_before-late place clock (take low writes) word (late low (omega arith))
    ∙ sym (word_before-late place clock (take (i + 1) writes) word (late (i + 1) (omega arith)))
  where
    late : (n : ℕ) → n ≤ i + 1 → All (IsLate place clock) (take n writes)
    late n small =
        All-front (IsLate place clock) writes n
        (λ k e first inside here.
        let le_place : (get_or writes k e).place ≤ (get_or writes i e).place = (order k i e (omega arith) within).0 in
        let same : get_or writes i e ≡ get_or writes i d = get_or_default writes i e d within in
        let same_place : (get_or writes i e).place ≡ (get_or writes i d).place = ap (λ (w : Write). w.place) same in
        absurd (omega arith))

-- the writes from one on that comes late
pub late-from : (place clock : ℕ) (writes : List Write) (i : ℕ) (d : Write) → IsInOrder writes → i < length writes
    → place ≤ (get_or writes i d).place → IsLate place clock (get_or writes i d) →
    (k : ℕ) (e : Write) → i ≤ k → k < length writes → IsLate place clock (get_or writes k e)
late-from place clock writes i d order within higher late k e from inside here =
    let same : get_or writes i e ≡ get_or writes i d = get_or_default writes i e d within in
    let same_place : (get_or writes i e).place ≡ (get_or writes i d).place = ap (λ (w : Write). w.place) same in
    let same_clock : (get_or writes i e).clock ≡ (get_or writes i d).clock = ap (λ (w : Write). w.clock) same in
    let le_place : (get_or writes i e).place ≤ (get_or writes k e).place = (order i k e from inside).0 in
    let this : (get_or writes i e).place ≡ (get_or writes k e).place = omega arith in
    let rise : (get_or writes i e).clock ≤ (get_or writes k e).clock = (order i k e from inside).1 this in
    let there : (get_or writes i d).place ≡ place = omega arith in
    let least : clock ≤ (get_or writes i d).clock = late there in
    omega arith

-- at the end the writes behind come late
pub word_before-end : (place clock : ℕ) (writes : List Write) (word found low high : ℕ) → high ≤ low → found ≡ word_before place clock (take low writes) word →
    ((k : ℕ) (d : Write) → high ≤ k → k < length writes → IsLate place clock (get_or writes k d)) → found ≡ word_before place clock writes word
word_before-end place clock writes word found low high over before late =
    before
    ∙ sym (word_before-late place clock (drop low writes) (word_before place clock (take low writes) word)
    (All-back (IsLate place clock) writes low (λ k d from inside. late k d (omega arith) inside)))
    ∙ sym (word_before-append place clock (take low writes) (drop low writes) word)
    ∙ ap (λ (ws : List Write). word_before place clock ws word) (take-append-drop low writes)

power-next : (old now next : ℕ) → old ≤ now → next ≡ now + 1 → 2 ^ (next - old) ≡ 2 ^ (now - old) * 2
power-next old now next counted one = let e : next - old ≡ suc (now - old) = omega arith in ap (λ k. 2 ^ k) e ∙ pow-suc 2 (now - old)

-- one step more halves what is left
pub halves-next : (old now next left rest n : ℕ) → old ≤ now → next ≡ now + 1 → 2 ^ (now - old) * left ≤ n → 2 * rest ≤ left → 2 ^ (next - old) * rest ≤ n
halves-next old now next left rest n counted one before half =
    let P : ℕ = 2 ^ (now - old) in
    let power : 2 ^ (next - old) ≡ P * 2 = power-next old now next counted one in
    let less : P * (2 * rest) ≤ P * left = mul-le P (2 * rest) P left (omega arith) half in
    let regroup : P * 2 * rest ≡ P * (2 * rest) = mul_assoc P 2 rest in
    let whole : 2 ^ (next - old) * rest ≡ P * (2 * rest) = ap (λ k. k * rest) power ∙ regroup in
    omega arith

pub cost-next : (old now next left n : ℕ) → old ≤ now → next ≡ now + 1 → 2 ^ (now - old) * left ≤ n → 0 < left → 2 ^ (next - old) ≤ 2 * n + 1
cost-next old now next left n counted one before some =
    let P : ℕ = 2 ^ (now - old) in
    let power : 2 ^ (next - old) ≡ P * 2 = power-next old now next counted one in
    let less : P * 1 ≤ P * left = mul-le P 1 P left (omega arith) some in
    omega arith
