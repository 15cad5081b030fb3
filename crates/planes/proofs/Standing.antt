-- Laws on lists of loads that stand for others from a position on.
use Rattle.std.proofs.Common.{◌≡◌, ℕ, ◌≤◌, List, [], ◌∷◌, ◌++◌, Bool, true, false, Option, None, Some, refl, sym, ◌∙◌, ap, nat_le, arith}
use Rattle.std.specs.Option.{option_map, unwrap_or}
use Rattle.planes.specs.declared.load.Load.{Load}
use Rattle.planes.specs.PlaneBit.{start_of, shown_load, load_bit, plane_bit, all_bits, ShowsSame, ShowsLoadsOf}
use Rattle.planes.proofs.Showing.{later, shown-append, one_there, one_not}

-- lists that show the same loads show the same bits
pub ShowsSame-shows : (from : ℕ) (a b : List Load) → ShowsLoadsOf from a b → ShowsSame from a b
unfolding ShowsSame ShowsLoadsOf plane_bit
ShowsSame-shows from a b same p x low high h = ap (λ (o : Option Load). unwrap_or (option_map (load_bit p x) o) 0) (same p x h)

pub ShowsSame-refl : (from : ℕ) (a : List Load) → ShowsSame from a a
unfolding ShowsSame
ShowsSame-refl from a p x low high h = refl

pub ShowsSame-trans : (from : ℕ) (a b c : List Load) → ShowsSame from a b → ShowsSame from b c → ShowsSame from a c
unfolding ShowsSame
ShowsSame-trans from a b c one two p x low high h = one p x low high h ∙ two p x low high h

-- what stands for a list from one position on does so from a later one on
pub ShowsSame-later : (from to : ℕ) (a b : List Load) → from ≤ to → ShowsSame from a b → ShowsSame to a b
unfolding ShowsSame
ShowsSame-later from to a b le same p x low high h =
    let at : from ≤ x = omega arith in
    same p x low high at

-- one load more on both sides
more : (p x : ℕ) (a b : List Load) (load : Load) → plane_bit p x a ≡ plane_bit p x b →
    (t : Bool) → nat_le (start_of p load) x ≡ t → plane_bit p x (a ++ load ∷ []) ≡ plane_bit p x (b ++ load ∷ [])
unfolding plane_bit
more p x a b load same true is =
    let bit : Option Load → ℕ = λ o. unwrap_or (option_map (load_bit p x) o) 0 in
    let shown : shown_load p x (load ∷ []) ≡ Some load = one_there p x load is in
    ap bit (shown-append p x a (load ∷ []) ∙ ap (later (shown_load p x a)) shown)
    ∙ sym (ap bit (shown-append p x b (load ∷ []) ∙ ap (later (shown_load p x b)) shown))
more p x a b load same false is =
    let bit : Option Load → ℕ = λ o. unwrap_or (option_map (load_bit p x) o) 0 in
    let shown : shown_load p x (load ∷ []) ≡ None = one_not p x load is in
    ap bit (shown-append p x a (load ∷ []) ∙ ap (later (shown_load p x a)) shown)
    ∙ same
    ∙ sym (ap bit (shown-append p x b (load ∷ []) ∙ ap (later (shown_load p x b)) shown))

pub ShowsSame-more : (from : ℕ) (a b : List Load) (load : Load) → ShowsSame from a b →
    ShowsSame from (a ++ load ∷ []) (b ++ load ∷ [])
unfolding ShowsSame
ShowsSame-more from a b load same p x low high h =
    more p x a b load (same p x low high h) (nat_le (start_of p load) x) refl

-- what `Loads::load` leaves stands for what the loads before stood for, with the new one
pub ShowsSame-loaded : (from to : ℕ) (old new loads : List Load) (load : Load) → from ≤ to →
    ShowsSame to new (old ++ load ∷ []) → ShowsSame from old loads → ShowsSame to new (loads ++ load ∷ [])
ShowsSame-loaded from to old new loads load le made stood =
    ShowsSame-trans to new (old ++ load ∷ []) (loads ++ load ∷ []) made
    (ShowsSame-more to old loads load (ShowsSame-later from to old loads le stood))

-- the planes' bits from there on are the same
pub all_bits-same : (from x count : ℕ) (a b : List Load) → ShowsSame from a b → from ≤ x → all_bits x count a ≡ all_bits x count b
unfolding ShowsSame all_bits
all_bits-same from x count a b same h =
    let of : (p : ℕ) → 1 ≤ p → p ≤ 6 → plane_bit p x a ≡ plane_bit p x b = λ p low high. same p x low high h in
    rw (
      of 1 (omega arith) (omega arith),
      of 2 (omega arith) (omega arith),
      of 3 (omega arith) (omega arith),
      of 4 (omega arith) (omega arith),
      of 5 (omega arith) (omega arith),
      of 6 (omega arith) (omega arith),
    )
