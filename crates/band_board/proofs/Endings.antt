-- The front's steps on hands keep the board's rule: split, join, and what is known once all hands were joined.
use Rattle.std.proofs.Common.{◌≡◌, ◌≢◌, ℕ, ◌<◌, ◌≤◌, ◌==◌, List, [], ◌∷◌, ◌++◌, length, set, sym, refl, ap, ◌∙◌, subst, ⊎_elim, lt_of_not-le, arith}
use mathlib.Core.Logic.{dite}
use mathlib.Core.Option.{none, some, some-injective}
use native.Mathlib.Decide.{ℕ_discrete, dec_le}
use lib.ListN.{get_elem?}
use Rattle.std.specs.Prelude.{None}
use Rattle.atomic_table.specs.Table.{State, step, keeps, Allows, Splits, Joins}
use Rattle.atomic_table.proofs.Lists.{at_set, at_snoc, at_longer, set_else}
use Rattle.band_board.specs.declared.view.View.{View}
use Rattle.band_board.specs.declared.view.Role.{Role}
use Rattle.band_board.specs.declared.view.Role.TheVariants.{Front, Hand, Spent}
use Rattle.band_board.specs.View.{spent_view, after_split, next_hand, after_join}
use Rattle.band_board.specs.BoardRule.{Cell, Slot, one_if, times, times_joined, joined_count, claims_in, live_count}
use Rattle.band_board.specs.BoardRule.{hand_count, list_count, claim_count, total, KeepsToRole, Knows, Ruled, BoardRule}
use Rattle.band_board.specs.Steps.{Seated, TellsLists}
use Rattle.band_board.proofs.Counted.{one_if_same, one_if_other, none_no_some, each_joined, times_joined_more, joined_count_more}
use Rattle.band_board.proofs.Totals.{set_at, total_set, total_same, total_at, total_more, total_two, total_only}
use Rattle.band_board.proofs.Reviewed.{as_front, hand_no_front, front_no_spent, reviewed, unmoved}

module _ {R J D : Type 0} (jr : R → ℕ → J → Type 0) (dr : R → ℕ → D → Type 0) (run : R) where
  abbrev St : Type 0
  St = State (Slot J D) (View R)

  -- a hand is at another seat than the front, or a hand without a band
  elsewhere : (s : St) (id seat : ℕ) (v u : View R) → get_elem? s.views id ≡ some v → get_elem? s.views seat ≡ some u → (v.role ≡ u.role → ⊥) → seat ≢ id
  elsewhere s id seat v u at there differ e = differ (ap (λ (x : View R). x.role) (some-injective v u (sym at ∙ ap (get_elem? s.views) (sym e) ∙ there)))

  front_own : (cells : ℕ → Cell) (id : ℕ) (v : View R) → v.role ≡ Front → Knows run cells id v → (v.claim ≡ None) × (v.done ≡ [])
  front_own cells id v role k = subst (λ p. KeepsToRole p v) role k.own

  -- the front with another count of hands or another list of joined ones
  front_stays : (cells : ℕ → Cell) (id : ℕ) (v w : View R) → v.role ≡ Front → w.role ≡ v.role → w.run ≡ v.run → w.claim ≡ v.claim → w.done ≡ v.done
      → Knows run cells id v → Knows run cells id w
  front_stays cells id v w role role' run' claim' done' k = let own = front_own cells id v role k in record {
    one_run = λ ne. run' ∙ k.one_run (λ e. ne (role' ∙ e));
    first_is_front = λ e. k.first_is_front role;
    own = subst (λ p. KeepsToRole p w) (sym (role' ∙ role)) (claim' ∙ own.0, done' ∙ own.1);
    claim_shows = λ n e. absurd (none_no_some n (sym (claim' ∙ own.0) ∙ e));
  }

  pub splits : (id : ℕ) (v : View R) → v.role ≡ Front → v.hands < 33 → Splits (BoardRule jr dr run) id v (after_split v) (next_hand v)
  splits id v role room s b at = let first = as_front jr dr run s id v b at role in let r = first.1 in let w : View R = after_split v in
      let h : View R = next_hand v in let l : List (View R) = set s.views id w in
      let kn = r.each_seat id v at in (
        w,
        reviewed jr dr run v s r s.words (l ++ h ∷ []) w record {
          wide' = r.wide;
          words_stay = λ _ _. refl;
          flag' = r.flag;
          leads = at_longer l (h ∷ []) 0 w (ap (get_elem? l) (sym first.0) ∙ set_at s.views id v w at);
          role' = role;
          opened' = refl;
          published' = refl;
          collected' = refl;
          few' = omega arith;
          seen' = r.seen_drawn;
          claim_stays = λ seat hand q c. (
            c.0,
            at_longer l (h ∷ []) seat c.0 (set_else s.views id seat w (elsewhere s id seat v c.0 at c.1
                (λ e. hand_no_front (sym c.2 ∙ sym e ∙ role))) ∙ c.1),
            c.2,
            c.3,
            c.4,
          );
          knows' = λ j u e. ⊎_elim
              (λ (old : get_elem? l j ≡ some u). ⊎_elim (λ (x : (j ≡ id) × (w ≡ u)). subst (λ (y : ℕ
              × View R). Knows run r.cells y.0 y.1) (λ k. (sym x.0 k, x.1 k)) (front_stays r.cells id v w role refl refl refl refl kn))
              (λ (x : (j ≢ id) × (get_elem? s.views j ≡ some u)). r.each_seat j u x.1) (at_set s.views id j w u old))
              (λ (is : h ≡ u). subst (Knows run r.cells j) is record {
                one_run = λ _. kn.one_run (λ e. front_no_spent (sym role ∙ e));
                first_is_front = λ e. absurd (hand_no_front e);
                own = refl;
                claim_shows = λ n e. absurd (none_no_some n e);
              })
              (at_snoc l h u j e);
          lists_same = λ q. let a = total_more (list_count q) l h in let c = total_same (list_count q) s.views id v w at refl in omega arith;
          claims_same = λ q. let a = total_more (claim_count q) l h in let c = total_same (claim_count q) s.views id v w at refl in omega arith;
          numbers' = λ k lt. let a = total_more (hand_count k) l h in let c = total_same (hand_count k) s.views id v w at refl in dite (ℕ_discrete v.hands k)
              (λ e. let one = one_if_same v.hands k e in let before = r.no_others k (omega arith) in omega arith)
              (λ ne. let none_here = one_if_other v.hands k ne in let before = r.numbers k (omega arith) in omega arith);
          no_others' = λ k le. let a = total_more (hand_count k) l h in let c = total_same (hand_count k) s.views id v w at refl in
              let none_here = one_if_other v.hands k (λ e. omega arith) in let before = r.no_others k (omega arith) in omega arith;
        },
      )

  pub joins : (id : ℕ) (v : View R) (other : ℕ) (w : View R) → v.role ≡ Front → w.role ≡ Hand → w.claim ≡ None
      → Joins (BoardRule jr dr run) id v other w (after_join v w) spent_view
  joins id v other w role hand_role free s b at apart there = let first = as_front jr dr run s id v b at role in let r = first.1 in
      let both : View R = after_join v w in let l : List (View R) = set s.views id both in
      let l' : List (View R) = set l other spent_view in let kn = r.each_seat id v at in
      let old : get_elem? s.views other ≡ some w = sym (set_else s.views id other both apart) ∙ there in
      let plain : w.joined ≡ [] = subst (λ p. KeepsToRole p w) hand_role (r.each_seat other w old).own in
      let bears_sum : (k : ℕ) → total (hand_count k) l' ≡ total (hand_count k) s.views = λ k.
      let a = total_set (hand_count k) s.views id v both at in let c = total_set (hand_count k) l other w spent_view there in
      let more = joined_count_more k w.hand w.done v.joined in
      let lives : live_count k w.role w.hand ≡ one_if (w.hand == k) = ap (λ p. live_count k p w.hand) hand_role in
      let none_joined : joined_count k w.joined ≡ 0 = ap (joined_count k) plain in omega arith in (
        both,
        reviewed jr dr run v s r s.words l' both record {
          wide' = r.wide;
          words_stay = λ _ _. refl;
          flag' = r.flag;
          leads = set_else l other 0 spent_view (λ e. apart (sym e ∙ sym first.0)) ∙ ap (get_elem? l) (sym first.0) ∙ set_at s.views id v both at;
          role' = role;
          opened' = refl;
          published' = refl;
          collected' = refl;
          few' = r.few;
          seen' = r.seen_drawn;
          claim_stays = λ seat hand q c. (
            c.0,
            set_else l other seat spent_view (λ e. none_no_some q (sym free ∙ ap (λ (x : View R). x.claim) (some-injective w c.0 (sym old
                ∙ ap (get_elem? s.views) (sym e) ∙ c.1)) ∙ c.4))
                ∙ set_else s.views id seat both (elsewhere s id seat v c.0 at c.1 (λ e. hand_no_front (sym c.2 ∙ sym e ∙ role))) ∙ c.1,
            c.2,
            c.3,
            c.4,
          );
          knows' = λ j u e. ⊎_elim
              (λ (x : (j ≡ other) × (spent_view ≡ u)). subst (λ (y : ℕ × View R). Knows run r.cells y.0 y.1) (λ k. (sym x.0 k, x.1 k)) record {
                one_run = λ ne. absurd (ne refl);
                first_is_front = λ d. absurd (front_no_spent (sym d));
                own = refl;
                claim_shows = λ n d. absurd (none_no_some n d);
              })
              (λ (x : (j ≢ other) × (get_elem? l j ≡ some u)). ⊎_elim
              (λ (y : (j ≡ id) × (both ≡ u)). subst (λ (z : ℕ
              × View R). Knows run r.cells z.0 z.1) (λ k. (sym y.0 k, y.1 k)) (front_stays r.cells id v both role refl refl refl refl kn))
              (λ (y : (j ≢ id) × (get_elem? s.views j ≡ some u)). r.each_seat j u y.1) (at_set s.views id j both u x.1))
              (at_set l other j spent_view u e);
          lists_same = λ q. let a = total_set (list_count q) s.views id v both at in let c = total_set (list_count q) l other w spent_view there in
              let more = times_joined_more q w.hand w.done v.joined in
              let none_joined : times_joined q w.joined ≡ 0 = ap (times_joined q) plain in omega arith;
          claims_same = λ q. let a = total_set (claim_count q) s.views id v both at in
              let c = total_set (claim_count q) l other w spent_view there in
              let none_claimed : claim_count q w ≡ 0 = ap (claims_in q) free in omega arith;
          numbers' = λ k lt. bears_sum k ∙ r.numbers k lt;
          no_others' = λ k le. bears_sum k ∙ r.no_others k le;
        },
      )

  -- once every hand was joined, no live hand is left
  no_hand_left : (s : St) (id : ℕ) (v : View R) (r : Ruled jr dr run v s) → id ≡ 0 → get_elem? s.views id ≡ some v → length v.joined ≡ v.hands
      → (j : ℕ) (u : View R) → j ≢ id → get_elem? s.views j ≡ some u → u.role ≡ Hand → ⊥
  no_hand_left s id v r zero_is at all j u ne there hand_role = let k : ℕ = u.hand in
      let lives : live_count k u.role k ≡ 1 = ap (λ p. live_count k p k) hand_role ∙ one_if_same k k refl in
      let two = total_two (hand_count k) s.views id j v u (λ e. ne (sym e)) at there in
      let most : (m : ℕ) → m < v.hands → joined_count m v.joined ≤ 1 = λ m lt. let t = r.numbers m lt in
      let a = total_at (hand_count m) s.views id v at in omega arith in
      let none_more : (m : ℕ) → v.hands ≤ m → joined_count m v.joined ≡ 0 = λ m le. let t = r.no_others m le in
      let a = total_at (hand_count m) s.views id v at in omega arith in
      dite (dec_le v.hands k) (λ le. let t = r.no_others k le in absurd (omega arith))
      (λ no. let lt = lt_of_not-le no in let joined = each_joined v.hands v.joined most none_more all k lt in let t = r.numbers k lt in absurd (omega arith))

  others_empty : (s : St) (id : ℕ) (v : View R) (r : Ruled jr dr run v s) → id ≡ 0 → get_elem? s.views id ≡ some v → length v.joined ≡ v.hands
      → (m j : ℕ) (u : View R) → j ≢ id → get_elem? s.views j ≡ some u → list_count m u ≡ 0
  others_empty s id v r zero_is at all m j u ne there = let k = r.each_seat j u there in go u.role refl k.own
    where
      go : (p : Role) → u.role ≡ p → KeepsToRole p u → list_count m u ≡ 0
      go Front e own = absurd (ne ((r.each_seat j u there).first_is_front e ∙ sym zero_is))
      go Hand e own = absurd (no_hand_left s id v r zero_is at all j u ne there e)
      go Spent e own = ap (list_count m) own

  pub learns : (slots id : ℕ) (me : Seated R J D) → me.0.role ≡ Front
      → Allows (BoardRule jr dr run) slots id me 0 (λ x. x) (TellsLists (step slots 0 0 0 none) me)
  learns slots id me role s b deep at _ = let first = as_front jr dr run s id me.0 b at role in let r = first.1 in let v : View R = me.0 in
      let kn = r.each_seat id v at in (
        v,
        keeps,
        tt,
        unmoved jr dr run v s r 0 id me.1 v v v at (ap (get_elem? (set s.views id v)) (sym first.0)
            ∙ set_at s.views id v v at) role refl refl refl refl refl r.seen_drawn
            record { role_same = refl; hand_same = refl; claim_same = refl; done_same = refl; joined_same = refl } kn,
        (
          refl,
          λ all_in. let own = front_own r.cells id v role kn in let sums : (m : ℕ) → total (list_count m) s.views ≡ times_joined m v.joined = λ m.
              total_only (list_count m) s.views id v at (others_empty s id v r first.0 at all_in.0 m)
              ∙ (let no_done : times m v.done ≡ 0 = ap (times m) own.1 in omega arith) in
              let same = all_in.1 in ((λ m lt. sym (sums m) ∙ (r.gone m (omega arith)).lists_are), λ m le. sym (sums m) ∙ (r.coming m le).lists_are),
        ),
      )
