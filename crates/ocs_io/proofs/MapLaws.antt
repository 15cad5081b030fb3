-- Maps of files: what two insertions make.
use Rattle.std.proofs.Common.{◌≡◌, ℕ, Bool, true, false, List, refl, sym, ap, ◌∙◌, Option, Some, cond, Result, Ok, Err, OnErr}
use Rattle.std.specs.Ordering.{nat_cmp, eq_by_cmp}
use Rattle.std.specs.Cmp.Lexicographic.{slice_cmp, nat_list_cmp_total, texts_ties}
use Rattle.std.proofs.lemmas.Slice.Eq.{bytes_eq-Decides}
use Rattle.std.proofs.lemmas.Cmp.{eq_by_cmp_equiv}
use Rattle.std.specs.FinMap.{get, insert, get-insert, same_map, slice_cmp-IsAntisymmetric, nat_cmp-IsAntisymmetric}
use Rattle.ocs_io.specs.Place.{Files}

abbrev pub same_name : List ℕ → List ℕ → Bool
same_name = eq_by_cmp (slice_cmp nat_cmp)

pub same_name-refl : (name : List ℕ) → same_name name name ≡ true
same_name-refl name = (eq_by_cmp_equiv nat_list_cmp_total).refl name

pub same_name-trans : (a b c : List ℕ) → same_name a b ≡ true → same_name a c ≡ true → same_name b c ≡ true
same_name-trans a b c first second = sym ((eq_by_cmp_equiv nat_list_cmp_total).congr a b c first) ∙ second

pub same_text : (a b : List ℕ) → same_name a b ≡ true → a ≡ b
same_text a b e = (bytes_eq-Decides a b).0 (texts_ties a b ∙ e)

pub get_inserted : (files : Files) (name : List ℕ) (bytes : List ℕ) (other : List ℕ)
    → get (insert files name bytes) other ≡ cond (same_name other name) (Some bytes) (get files other)
get_inserted = get-insert nat_list_cmp_total

pub same_files : (f g : Files) → ((name : List ℕ) → get f name ≡ get g name) → f ≡ g
same_files = same_map nat_list_cmp_total (slice_cmp-IsAntisymmetric nat_cmp-IsAntisymmetric)

-- the later of two insertions at one name counts
pub insert_twice : (files : Files) (name v w : List ℕ) → insert (insert files name v) name w ≡ insert files name w
insert_twice files name v w = same_files _ _ (λ other. get_inserted _ name w other ∙ hidden _ _ (same_name other name) (get_inserted files name v other)
    ∙ sym (get_inserted files name w other))
  where
    hidden : (x y : Option (List ℕ)) (b : Bool) → x ≡ cond b (Some v) y → cond b (Some w) x ≡ cond b (Some w) y
    hidden x y true e = refl
    hidden x y false e = e

-- insertions at two names do not touch each other
pub insert_other : (files : Files) (first second v w : List ℕ) → same_name first second ≡ false
    → insert (insert files first v) second w ≡ insert (insert files second w) first v
insert_other files first second v w differ = same_files _ _
    (λ other. get_inserted _ second w other ∙ ap (cond (same_name other second) (Some w)) (get_inserted files first v other)
    ∙ turned (same_name other second) (same_name other first) (get files other) (λ a b. differ_more other a b)
    ∙ sym (get_inserted _ first v other ∙ ap (cond (same_name other first) (Some v)) (get_inserted files second w other)))
  where
    differ_more : (other : List ℕ) → same_name other second ≡ true → same_name other first ≡ true → ⊥
    differ_more other a b = cc (same_name-trans other first second b a)

    turned : (a b : Bool) (x : Option (List ℕ)) → (a ≡ true → b ≡ true → ⊥) → cond a (Some w) (cond b (Some v) x) ≡ cond b (Some v) (cond a (Some w) x)
    turned true true x apart = absurd (apart refl refl)
    turned true false x apart = refl
    turned false b x apart = refl

-- to insert what is there changes nothing
pub insert_same : (files : Files) (name v : List ℕ) → get files name ≡ Some v → insert files name v ≡ files
insert_same files name v there = same_files _ _ (λ other. get_inserted files name v other ∙ step other (same_name other name) refl)
  where
    step : (other : List ℕ) (b : Bool) → same_name other name ≡ b → cond b (Some v) (get files other) ≡ get files other
    step other true e = sym there ∙ ap (get files) (sym (same_text other name e))
    step other false e = refl

-- what holds whatever was answered holds after a refusal
pub on_err : {T E : Type 0} (answer : Result T E) (P : Type 0) → P → OnErr answer P
on_err (Ok done) P holds = tt
on_err (Err refused) P holds = holds
