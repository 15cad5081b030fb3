-- Which load of a list a plane shows, where lists are joined.
use Rattle.std.proofs.Common.{◌≡◌, ℕ, Bool, true, false, List, [], ◌∷◌, ◌++◌, Option, None, Some, refl, sym, ◌∙◌, ap, nat_le}
use Rattle.std.specs.List.{filter, last_or}
use Rattle.std.proofs.lemmas.List.Elements.{filter-append}
use Rattle.planes.specs.declared.load.Load.{Load}
use Rattle.planes.specs.PlaneBit.{start_of, shown_load}

-- the second, where there is one
abbrev pub later : {A : Type 0} → Option A → Option A → Option A
later o None = o
later o (Some v) = Some v

later-Some : {A : Type 0} (o : Option A) (v : A) (r : Option A) → later (Some v) r ≡ later o (later (Some v) r)
later-Some o v None = refl
later-Some o v (Some w) = refl

pub later-none : {A : Type 0} (o : Option A) → later None o ≡ o
later-none None = refl
later-none (Some v) = refl

last_or-later : {A : Type 0} (o : Option A) (xs : List A) → last_or o xs ≡ later o (last_or None xs)
last_or-later o [] = refl
last_or-later o (x ∷ xs) =
    last_or-later (Some x) xs ∙ later-Some o x (last_or None xs) ∙ ap (later o) (sym (last_or-later (Some x) xs))

last_or-append : {A : Type 0} (o : Option A) (xs ys : List A) → last_or o (xs ++ ys) ≡ last_or (last_or o xs) ys
last_or-append o [] ys = refl
last_or-append o (x ∷ xs) ys = last_or-append (Some x) xs ys

pub shown-append : (p x : ℕ) (a b : List Load) → shown_load p x (a ++ b) ≡ later (shown_load p x a) (shown_load p x b)
shown-append p x a b =
    let t : Load → Bool = λ load. nat_le (start_of p load) x in
    ap (last_or None) (filter-append t a b)
    ∙ last_or-append None (filter t a) (filter t b)
    ∙ last_or-later (last_or None (filter t a)) (filter t b)

-- one load alone
pub one_there : (p x : ℕ) (load : Load) → nat_le (start_of p load) x ≡ true → shown_load p x (load ∷ []) ≡ Some load
one_there p x load e = rw e refl

pub one_not : (p x : ℕ) (load : Load) → nat_le (start_of p load) x ≡ false → shown_load p x (load ∷ []) ≡ None
one_not p x load e = rw e refl
