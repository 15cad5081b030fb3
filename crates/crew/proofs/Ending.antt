-- A crew's end: the board was closed, and the hands were joined.
use Rattle.std.proofs.Common.{◌≡◌, ◌≢◌, ℕ, ◌+◌, ◌≤◌, List, [], ◌∷◌, ◌++◌, length, Some, None}
use Rattle.std.proofs.Common.{sym, ap, ◌∙◌, refl, subst, arith, length-append}
use Rattle.atomic_table.specs.Seated.{TableId}
use Rattle.serial_model.specs.Side.{SideValue}
use Rattle.serial_bands.specs.Run.{RunOf, run_over}
use Rattle.band_board.specs.declared.view.View.{View}
use Rattle.band_board.specs.View.{new_front, after_close, after_join}
use Rattle.band_board.specs.Steps.{IsAllIn, HoldsEachOnce}
use Rattle.crew.specs.Parts.{outstanding_of, seen_of, mark_of}
use Rattle.crew.specs.code.Totals.{AreTotals}
use Rattle.crew.specs.Crewed.{HasHired, AreWorkersOf}
use Rattle.std.specs.Arc.{arc_value}
use Rattle.std.specs.Fn.{Mut, Called, CalledAtMut}
use Rattle.std.specs.Borrow.{MutBor}
use Rattle.std.proofs.lemmas.List.Elements.{All-pop}
use Rattle.band_board.specs.declared.board.Board.{Board}
use Rattle.crew.specs.declared.worker.Worker.{Worker}
use Rattle.crew.proofs.Gathering.{length-outstanding}

-- a front that has only made hands is seen as a new crew
pub starts_new : {S : Type 0} (seen : S → SideValue) (z : TableId) (run : RunOf S) (first hired : View (RunOf S)) (n : ℕ) → first ≡ new_front run
    → HasHired first hired n
    → (seen_of seen z hired ≡ record { outstanding = []; next = 0; bound = Some (run_over seen run); mark = mark_of z hired.hands; tint = 0 })
    × (hired.hands ≡ n)
starts_new {S} seen z run first hired n is_new hires =
    let made : hired ≡ record (new_front run) { hands = 0 + n } =
    hires ∙ ap (λ (v : View (RunOf S)). record v { hands = v.hands + n }) is_new in
    let hands = ap (λ (v : View (RunOf S)). v.hands) made in (
      subst
          (λ (v : View (RunOf S)). seen_of seen z v
          ≡ record { outstanding = []; next = 0; bound = Some (run_over seen run); mark = mark_of z v.hands; tint = 0 })
          (sym made) refl,
      omega arith,
    )

module _ {R : Type 0} where
  -- a closed front is as the crew's was, but for the hands that it joins
  pub closes : (left closed : View R) → closed ≡ after_close left → closed ≡ record (after_close left) { joined = closed.joined }
  closes left closed same = subst (λ (v : View R). v ≡ record (after_close left) { joined = v.joined }) (sym same) refl

  pub closes_on : (left closed joins own : View R) → closed ≡ record (after_close left) { joined = closed.joined } → joins ≡ after_join closed own
      → joins ≡ record (after_close left) { joined = joins.joined }
  closes_on left closed joins own is same =
      let all = closed.joined ++ (own.hand, own.done) ∷ [] in
      subst (λ (v : View R). v ≡ record (after_close left) { joined = v.joined }) (sym same)
      (ap (λ (v : View R). record v { joined = all }) is)

  pub joined_one_more : (closed joins own : View R) → joins ≡ after_join closed own → length joins.joined ≡ length closed.joined + 1
  joined_one_more closed joins own same =
      ap (λ (v : View R). length v.joined) same ∙ length-append closed.joined ((own.hand, own.done) ∷ [])

-- the boards are one, and so their tables
pub one_table : {W R J D : Type 0} (a b : Board W R J D) → a ≡ b → a.table.shared.table_id ≡ b.table.shared.table_id
one_table {W} {R} {J} {D} a b same = ap (λ (x : Board W R J D). x.table.shared.table_id) same

module _ {R G : Type 0} where
  -- the workers but the last, and the last
  pub without_last : (z : TableId) (all rest : List (Worker R G)) (last : Worker R G) → AreWorkersOf z all → all ≡ rest ++ last ∷ []
      → AreWorkersOf z rest × ((arc_value last.board).table.shared.table_id ≡ z)
  without_last z all rest last are same =
      All-pop (λ (worker : Worker R G). (arc_value worker.board).table.shared.table_id ≡ z) all rest (Some last) same are

  pub one_fewer : (all rest : List (Worker R G)) (last : Worker R G) → all ≡ rest ++ last ∷ [] → length all ≡ length rest + 1
  one_fewer all rest last same = ap length same ∙ length-append rest (last ∷ [])

-- a call at a `&mut`, by the values there
pub called_at : {F A X : Type 0} (g : Mut F (MutBor A × Unit {0}) (X × (MutBor A × Unit {0}))) (f : F) (lent : MutBor A) (answer : X) (after : F)
    (left : MutBor A) → Called g f (lent, tt) (answer, (left, tt)) after → CalledAtMut g f lent.now answer after left.now
called_at g f lent answer after left called = record { shown = lent; shows = refl; left = left; called = called; leaves = refl }

-- where no band is outstanding, all published ones were collected
none_outstanding : {S : Type 0} (seen : S → SideValue) (v : View (RunOf S)) → v.run ≢ None → v.collected ≤ v.published → outstanding_of seen v ≡ []
    → v.collected ≡ v.published
none_outstanding seen v is behind none =
    let count = sym (length-outstanding seen v is) ∙ ap length none in
    omega arith

module _ {S : Type 0} (seen : S → SideValue) (left closed own last : View (RunOf S)) (by_hands by_front workers : ℕ)
    (front : closed ≡ record (after_close left) { joined = closed.joined }) (hand : own ≡ last) (joined : length closed.joined ≡ workers)
    (hands : left.hands ≡ workers + 1) (is : left.run ≢ None) (behind : left.collected ≤ left.published)
    (totals : AreTotals closed own by_hands by_front) where
  abbrev NoneOutstanding : Type 0
  NoneOutstanding = outstanding_of seen left ≡ []

  all_in : NoneOutstanding → IsAllIn (after_join closed own)
  all_in none =
      let more : ◌≡◌ {A = ℕ} (length (closed.joined ++ (own.hand, own.done) ∷ [])) (length closed.joined + 1) =
      length-append closed.joined ((own.hand, own.done) ∷ []) in
      let made = ap (λ (v : View (RunOf S)). v.hands) front in
      let collected = ap (λ (v : View (RunOf S)). v.collected) front in
      let published = ap (λ (v : View (RunOf S)). v.published) front in
      let whole = none_outstanding seen left is behind none in
      (omega arith, collected ∙ whole ∙ sym published)

  drawn_once : NoneOutstanding → HoldsEachOnce left.published (closed.joined ++ (last.hand, last.done) ∷ [])
  drawn_once none =
      subst (λ (v : View (RunOf S)). HoldsEachOnce left.published (closed.joined ++ (v.hand, v.done) ∷ [])) hand
      (subst (λ n. HoldsEachOnce n (closed.joined ++ (own.hand, own.done) ∷ [])) (ap (λ (v : View (RunOf S)). v.published) front)
      (totals.once (all_in none)))

  -- where no band is outstanding, each submitted one was drawn once
  pub all_drawn :
      (NoneOutstanding → HoldsEachOnce left.published (closed.joined ++ (last.hand, last.done) ∷ []))
      × (NoneOutstanding → by_hands + by_front ≡ left.published)
  all_drawn = (drawn_once, λ none. totals.sum (all_in none) ∙ ap (λ (v : View (RunOf S)). v.published) front)
