-- The rule holds of a new board; and the slots that are out with the front.
use Rattle.std.proofs.Common.{◌≡◌, ℕ, zero, suc, ◌+◌, ◌-◌, ◌*◌, ◌%◌, ◌<◌, ◌≤◌, List, [], ◌∷◌, ◌++◌}
use Rattle.std.proofs.Common.{map, length, get_or, sym, refl, ap, ◌∙◌, subst, mod-eq_of_lt, arith}
use mathlib.Core.Option.{some, some-injective, some-ne-none}
use native.Mathlib.Nat.{add-mod_right}
use lib.ListN.{get_elem?}
use Rattle.std.specs.Prelude.{None, replicate}
use Rattle.atomic_table.specs.Table.{opening}
use Rattle.band_board.specs.declared.view.View.{View}
use Rattle.band_board.specs.View.{first_view}
use Rattle.band_board.specs.BoardRule.{one_if, vacant, Slot, Knows, BoardRule}
use Rattle.band_board.specs.Seats.{vacancies}
use Rattle.band_board.proofs.Counted.{none_no_some}

pub home_of : {A : Type 0} (n i : ℕ) (x : A) → i < n → get_elem? (map some (replicate n x)) i ≡ some (some x)
home_of zero i x l = absurd (omega arith)
home_of (suc n) zero x l = refl
home_of (suc n) (suc i) x l = home_of n i x (omega arith)

length-homes : {A : Type 0} (n : ℕ) (x : A) → length (map some (replicate n x)) ≡ n
length-homes zero x = refl
length-homes (suc n) x = ap suc (length-homes n x)

only_one : {A : Type 0} (a b : A) (i : ℕ) → get_elem? (a ∷ []) i ≡ some b → (i ≡ 0) × (a ≡ b)
only_one a b zero e = (refl, some-injective a b e)
only_one a b (suc i) e = absurd (some-ne-none b (sym e))

module _ {R J D : Type 0} (jr : R → ℕ → J → Type 0) (dr : R → ℕ → D → Type 0) (run : R) where
  pub starts : (words : List ℕ) → length words ≡ 17 → ((i : ℕ) → i < 16 → get_or words i 0 ≡ 256 * i) → get_or words 16 0 ≡ 0
      → BoardRule {J = J} {D = D} jr dr run (opening words (replicate 16 None) (first_view run))
  starts words wide each last = (
    first_view run,
    record {
      cells = λ i. (i, vacant);
      wide = wide;
      deep = length-homes {A = Slot J D} 16 None;
      flag = last;
      first = refl;
      role = refl;
      behind = omega arith;
      within = omega arith;
      small = omega arith;
      few = omega arith;
      seen_drawn = λ e. let h : ◌≡◌ {A = ℕ} 0 1 = ap one_if e in absurd (omega arith);
      each_cell = λ i near. record {
        shows = each i near;
        lies = mod-eq_of_lt near;
        phase = (
          omega arith,
          omega arith,
          (λ _. home_of 16 i None near),
          λ lt. absurd (omega arith),
        );
      };
      each_seat = λ id v e. let is = only_one (first_view run) v id e in subst (λ (y : ℕ
          × View R). Knows run (λ i. (i, vacant)) y.0 y.1) (λ k. (sym is.0 k, is.1 k)) record {
            one_run = λ _. refl;
            first_is_front = λ _. refl;
            own = (refl, refl);
            claim_shows = λ n d. absurd (none_no_some n d);
          };
      numbers = λ k lt. absurd (omega arith);
      no_others = λ k le. refl;
      gone = λ n lt. absurd (omega arith);
      coming = λ n le. record { lists_are = refl; claims_are = refl };
    },
  )

module _ {J D : Type 0} where
  -- one more slot, behind the others
  pub vacancies_more : (n m : ℕ) → vacancies {J = J} {D = D} n m ++ ((n + m) % 16, None) ∷ [] ≡ vacancies n (suc m)
  vacancies_more n zero = ap (λ (z : ℕ). (z % 16, None) ∷ []) (let h : n + 0 ≡ n = omega arith in h)
  vacancies_more n (suc m) = ap (λ l. (n % 16, None) ∷ l) (ap (λ (z : ℕ). vacancies (suc n) m ++ (z % 16, None) ∷ [])
      (let h : n + suc m ≡ suc n + m = omega arith in h) ∙ vacancies_more (suc n) m)

  pub opened_more : (place : ℕ) → place < 16 → vacancies {J = J} {D = D} 0 place ++ (place, None) ∷ [] ≡ vacancies 0 (place + 1)
  opened_more place near = ap (λ (z : ℕ). vacancies 0 place ++ (z, None) ∷ []) (sym (ap (λ (z : ℕ). z % 16)
      (let h : 0 + place ≡ place = omega arith in h) ∙ mod-eq_of_lt near))
      ∙ vacancies_more 0 place ∙ ap (vacancies 0) (let h : suc place ≡ place + 1 = omega arith in h)

  -- a collected slot goes behind the others
  pub vacancies_back : (p c : ℕ) → p ≤ c + 16 → vacancies {J = J} {D = D} p (c + 16 - p) ++ (c % 16, None) ∷ [] ≡ vacancies p (c + 1 + 16 - p)
  vacancies_back p c le = ap (λ (z : ℕ). vacancies p (c + 16 - p) ++ (z, None) ∷ []) (sym (ap (λ (z : ℕ). z % 16) (let h : p +
      (c + 16 - p) ≡ c + 16 = omega arith in h) ∙ add-mod_right c 16))
      ∙ vacancies_more p (c + 16 - p) ∙ ap (vacancies p) (let h : suc (c + 16 - p) ≡ c + 1 + 16 - p = omega arith in h)
