-- The loads that a later one hides need not be kept.
use Rattle.std.proofs.Common.{◌≡◌, ℕ, ◌+◌, ◌-◌, ◌%◌, ◌≤◌, ◌<◌, ◌⊎◌, ◌==◌, max, min, suc, Bool, true, false, List, [], ◌∷◌, ◌++◌}
use Rattle.std.proofs.Common.{length, take, drop, get_or, Option, None, Some, refl, sym, ◌∙◌, ap, subst, nat_le, arith, append_assoc}
use Rattle.std.specs.Bool.{if◌then◌else◌}
use Rattle.std.specs.List.{remove}
use Rattle.std.proofs.Math.Seq.{drop-cons, drop-length}
use Rattle.std.proofs.lemmas.List.{take-append-drop, length-take-le, drop_at}
use Rattle.std.proofs.lemmas.List.Edits.{length-remove}
use Rattle.std.proofs.lemmas.Bool.Decides.{nat_tests}
use Rattle.planes.specs.declared.load.Load.{Load}
use Rattle.planes.specs.PlaneBit.{start_of, shown_load, ShowsLoadsOf}
use Rattle.planes.proofs.Showing.{later, later-none, shown-append, one_there, one_not}

-- the number of the planes of p's parity
abbrev pub of_parity : ℕ → ℕ → ℕ → ℕ
of_parity p odd even = if p % 2 == 1 then odd else even

-- from these positions on, each plane shows some load of the list
unfoldable pub Reaches : ℕ → ℕ → List Load → Type 0
Reaches odd even loads = (p x : ℕ) → of_parity p odd even ≤ x → (load : Load) × (shown_load p x loads ≡ Some load)

-- what stands while the loads from a place on were looked at
pub record HasPruned (from : ℕ) (load : Load) (old kept : List Load) (at odd even : ℕ) : Type 0 where
  pub within : at ≤ length kept
  pub same : ShowsLoadsOf from (kept ++ load ∷ []) (old ++ load ∷ [])
  pub reaches : Reaches odd even (drop at kept ++ load ∷ [])
  pub few : length kept + (odd - from) + (even - from) ≤ 72 + at

reaches_one : (load : Load) → Reaches load.odd load.even (load ∷ [])
unfolding Reaches
reaches_one load p x h =
    let shown : nat_le (start_of p load) x ≡ true = grind (arith, nat_tests) in
    (load, one_there p x load shown)

pub HasPruned-start : (from : ℕ) (load : Load) (old : List Load) → load.odd ≤ from + 36 → load.even ≤ from + 36 →
    HasPruned from load old old (length old) load.odd load.even
unfolding ShowsLoadsOf
HasPruned-start from load old odd even = record {
  within = omega arith;
  same = λ p x h. refl;
  reaches = subst (λ (d : List Load). Reaches load.odd load.even (d ++ load ∷ [])) (sym (drop-length old)) (reaches_one load);
  few = omega arith;
}

-- numbers of a plane's parity
parity_max : (p odd even a b from x : ℕ) → odd ≤ max from a → even ≤ max from b → from ≤ x → of_parity p a b ≤ x →
    of_parity p odd even ≤ x
parity_max p odd even a b from x = grind (arith, nat_tests)

parity_min : (p odd even a b x : ℕ) → of_parity p (min odd a) (min even b) ≤ x → x < of_parity p a b →
    of_parity p odd even ≤ x
parity_min p odd even a b x = grind (arith, nat_tests)

-- a load that is hidden by the loads after it
hidden : (from odd even : ℕ) (e : Load) (rest : List Load) → Reaches odd even rest →
    odd ≤ max from e.odd → even ≤ max from e.even →
    (p x : ℕ) → from ≤ x → (b : Bool) → nat_le (start_of p e) x ≡ b → shown_load p x (e ∷ rest) ≡ shown_load p x rest
unfolding Reaches
hidden from odd even e rest reaches ho he p x h true is =
    let started : start_of p e ≤ x = grind (arith, nat_tests) in
    let some = reaches p x (parity_max p odd even e.odd e.even from x ho he h started) in
    shown-append p x (e ∷ []) rest ∙ (rw some.1)
hidden from odd even e rest reaches ho he p x h false is =
    shown-append p x (e ∷ []) rest ∙ ap (λ (o : Option Load). later o (shown_load p x rest)) (one_not p x e is)
    ∙ later-none (shown_load p x rest)

-- a list at a place
split_at : (kept : List Load) (i : ℕ) (d e : Load) → i < length kept → e ≡ get_or kept i d →
    kept ≡ take i kept ++ e ∷ drop (suc i) kept
split_at kept i d e lt is =
    let parts : drop i kept ≡ e ∷ drop (suc i) kept =
    drop-cons kept i d lt ∙ ap (λ (l : Load). l ∷ drop (suc i) kept) (sym is) in
    sym (take-append-drop i kept) ∙ ap (λ (l : List Load). take i kept ++ l) parts

without : (p x : ℕ) (front rest last : List Load) (e : Load) → shown_load p x (e ∷ (rest ++ last)) ≡ shown_load p x (rest ++ last) →
    shown_load p x ((front ++ rest) ++ last) ≡ shown_load p x ((front ++ e ∷ rest) ++ last)
without p x front rest last e same =
    ap (shown_load p x) (append_assoc front rest last)
    ∙ shown-append p x front (rest ++ last)
    ∙ ap (later (shown_load p x front)) (sym same)
    ∙ sym (shown-append p x front (e ∷ (rest ++ last)))
    ∙ ap (shown_load p x) (sym (append_assoc front (e ∷ rest) last))

pub HasPruned-removed : (from : ℕ) (load : Load) (old kept : List Load) (at i odd even : ℕ) (d e : Load) →
    at ≡ suc i → HasPruned from load old kept at odd even → e ≡ get_or kept i d →
    odd ≤ max from e.odd → even ≤ max from e.even → HasPruned from load old (remove kept i) i odd even
unfolding ShowsLoadsOf
HasPruned-removed from load old kept at i odd even d e place so is ho he =
    let last : List Load = load ∷ [] in
    let lt : i < length kept = omega (arith, so.within, place) in
    let whole : kept ≡ take i kept ++ e ∷ drop (suc i) kept = split_at kept i d e lt is in
    let reaches : Reaches odd even (drop (suc i) kept ++ last) =
    subst (λ (n : ℕ). Reaches odd even (drop n kept ++ last)) place so.reaches in
    let rest : drop i (remove kept i) ≡ drop (suc i) kept =
    drop_at (take i kept) (drop (suc i) kept) i (length-take-le i kept (omega arith)) in
    let shorter : length (remove kept i) + 1 ≡ length kept = length-remove kept i lt in
    record {
      within = omega (arith, lt, shorter);
      same = λ p x h.
          without p x (take i kept) (drop (suc i) kept) last e
          (hidden from odd even e (drop (suc i) kept ++ last) reaches ho he p x h (nat_le (start_of p e) x) refl)
          ∙ ap (λ (l : List Load). shown_load p x (l ++ last)) (sym whole)
          ∙ so.same p x h;
      reaches = subst (λ (l : List Load). Reaches odd even (l ++ last)) (sym rest) reaches;
      few = omega (arith, so.few, shorter, place);
    }

-- one more load in front
later_some : {A : Type 0} (v : A) (r : Option A) → (w : A) × (later (Some v) r ≡ Some w)
later_some v None = (v, refl)
later_some v (Some w) = (w, refl)

reaches_more : (odd even : ℕ) (e : Load) (rest : List Load) → Reaches odd even rest →
    (p x : ℕ) → of_parity p (min odd e.odd) (min even e.even) ≤ x → (b : Bool) → nat_le (start_of p e) x ≡ b →
    (load : Load) × (shown_load p x (e ∷ rest) ≡ Some load)
unfolding Reaches
reaches_more odd even e rest reaches p x h true is =
    let some = later_some e (shown_load p x rest) in
    (some.0, shown-append p x (e ∷ []) rest ∙ ap (λ (o : Option Load). later o (shown_load p x rest)) (one_there p x e is) ∙ some.1)
reaches_more odd even e rest reaches p x h false is =
    let after : x < start_of p e = grind (arith, nat_tests) in
    let some = reaches p x (parity_min p odd even e.odd e.even x h after) in
    (some.0, shown-append p x (e ∷ []) rest ∙ ap (later (shown_load p x (e ∷ []))) some.1)

few_more : (n from odd even a b at i : ℕ) → at ≡ suc i → n + (odd - from) + (even - from) ≤ 72 + at →
    (max from a < odd) ⊎ (max from b < even) → n + (min odd a - from) + (min even b - from) ≤ 72 + i
few_more n from odd even a b at i = grind arith

pub HasPruned-kept : (from : ℕ) (load : Load) (old kept : List Load) (at i odd even : ℕ) (d e : Load) →
    at ≡ suc i → HasPruned from load old kept at odd even → e ≡ get_or kept i d →
    (max from e.odd < odd) ⊎ (max from e.even < even) → HasPruned from load old kept i (min odd e.odd) (min even e.even)
unfolding Reaches
HasPruned-kept from load old kept at i odd even d e place so is needed =
    let last : List Load = load ∷ [] in
    let lt : i < length kept = omega (arith, so.within, place) in
    let parts : drop i kept ≡ e ∷ drop (suc i) kept =
    drop-cons kept i d lt ∙ ap (λ (l : Load). l ∷ drop (suc i) kept) (sym is) in
    let reaches : Reaches odd even (drop (suc i) kept ++ last) =
    subst (λ (n : ℕ). Reaches odd even (drop n kept ++ last)) place so.reaches in
    let more : Reaches (min odd e.odd) (min even e.even) (e ∷ (drop (suc i) kept ++ last)) =
    λ p x h. reaches_more odd even e (drop (suc i) kept ++ last) reaches p x h (nat_le (start_of p e) x) refl in
    record {
      within = omega (arith, lt);
      same = so.same;
      reaches = subst (λ (l : List Load). Reaches (min odd e.odd) (min even e.even) (l ++ last)) (sym parts) more;
      few = few_more (length kept) from odd even e.odd e.even at i place so.few needed;
    }
