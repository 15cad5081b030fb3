-- The steps of a hand keep the board's rule: look, claim and deliver.
use Rattle.std.proofs.Common.{◌≡◌, ℕ, suc, ◌+◌, ◌*◌, ◌%◌, ◌^◌, ◌<◌, ◌≤◌, eqb, List, ◌∷◌, length, get_or, set, sym, refl, ap}
use Rattle.std.proofs.Common.{◌∙◌, subst, mod-lt, le_refl, suc-ne-zero, lt_of_not-le, length-set, get_or-set_same, arith}
use mathlib.Core.Logic.{dite}
use mathlib.Core.Option.{none, some}
use native.Mathlib.Decide.{dec_le}
use lib.ListN.{get_elem?}
use prog.Atomic.{either}
use Rattle.std.specs.Prelude.{Some, None, unwrap_or}
use Rattle.atomic_table.specs.Table.{State, step, keeps, takes, gives, Allows}
use Rattle.atomic_table.proofs.Lists.{set_here, set_else, exchanged}
use Rattle.band_board.specs.declared.view.View.{View}
use Rattle.band_board.specs.declared.view.Role.TheVariants.{Hand}
use Rattle.band_board.specs.declared.view.Parcel.TheVariants.{Job, Drawn}
use Rattle.band_board.specs.View.{after_look, after_claim, after_delivery}
use Rattle.band_board.specs.BoardRule.{Phase, vacant, offered, claimed, drawn, Cell, word_of, Slot, live_count, hand_count, list_count}
use Rattle.band_board.specs.BoardRule.{claim_count, claims_in, total, Tally, KeepsToRole, Knows, InPhase, CellOk, Ruled, BoardRule}
use Rattle.band_board.specs.Steps.{RightFor, Seated, TellsLook, TellsTry, TellsDelivery}
use Rattle.band_board.proofs.Counted.{at_most_one, one_if_same, one_if_other, some_is, none_no_some, times_more, length_below}
use Rattle.band_board.proofs.Totals.{set_at, total_set, total_same, total_at}
use Rattle.band_board.proofs.Faces.{tag, offered_word, offers_at, outstanding_here}
use Rattle.band_board.proofs.Moved.{cells_with, at_cells_with, cells_with_here, holder, moved}
use Rattle.band_board.proofs.Reviewed.{Goes, not_front, hand_no_front, hand_no_spent, unmoved}

module _ {R J D : Type 0} (jr : R → ℕ → J → Type 0) (dr : R → ℕ → D → Type 0) (run : R) where
  abbrev St : Type 0
  St = State (Slot J D) (View R)

  -- what is known of a hand, whose view changes without its claim
  hand_knows : (cells : ℕ → Cell) (id : ℕ) (v w : View R) → v.role ≡ Hand → w.role ≡ v.role → w.run ≡ v.run → w.hand ≡ v.hand → w.claim ≡ v.claim
      → w.joined ≡ v.joined → Knows run cells id v → Knows run cells id w
  hand_knows cells id v w role role' run' hand' claim' joined' k = record {
    one_run = λ ne. run' ∙ k.one_run (λ e. ne (role' ∙ e));
    first_is_front = λ e. absurd (hand_no_front (sym role ∙ sym role' ∙ e));
    own = subst (λ p. KeepsToRole p w) (sym (role' ∙ role)) (joined' ∙ subst (λ p. KeepsToRole p v) role k.own);
    claim_shows = λ n e. let known = k.claim_shows n (sym claim' ∙ e) in (role' ∙ known.0, known.1 ∙ ap (λ (h : ℕ). (n, claimed h id)) (sym hand'));
  }

  -- a look at any place
  looks_goes : (s : St) (id : ℕ) (me : Seated R J D) (slots place word : ℕ) → BoardRule jr dr run s → get_elem? s.views id ≡ some me.0
      → me.0.role ≡ Hand → word ≡ get_or s.words place 0
      → (then : ℕ → Seated R J D → Type 0) → then (get_or s.words place 0) (after_look me.0 place (get_or s.words place 0), me.1)
      → Goes jr dr run s place id me then (get_or s.words place 0)
  looks_goes s id me slots place word b at role is then told = let f = b.0 in let r = b.1 in let w = after_look me.0 place (get_or s.words place 0) in (
    w,
    keeps,
    tt,
    unmoved jr dr run f s r place id me.1 me.0 w f at (set_else s.views id 0 w (not_front jr dr run f s r id me.0 at role)
        ∙ r.first) r.role refl refl refl refl refl r.seen_drawn
        record { role_same = refl; hand_same = refl; claim_same = refl; done_same = refl; joined_same = refl }
        (hand_knows r.cells id me.0 w role refl refl refl refl refl (r.each_seat id me.0 at)),
    told,
  )

  pub looks : (slots id : ℕ) (me : Seated R J D) (place : ℕ) → me.0.role ≡ Hand
      → Allows (BoardRule jr dr run) slots id me place (λ x. x) (TellsLook (step slots place 0 0 none) me)
  looks slots id me place role s b deep at _ = let r = b.1 in let word : ℕ = get_or s.words place 0 in
      looks_goes s id me slots place word b at role refl (TellsLook (step slots place 0 0 none) me) (
        refl,
        (λ near m. offers_at jr dr run b.0 s r place word near refl m),
        λ e. subst (λ (z : ℕ). get_or s.words z 0 ≤ 1) (sym e) (subst (λ
            (z : ℕ). z ≤ 1) (sym r.flag) (at_most_one b.0.closed)),
      )

  -- the number of a live hand is below the number made
  hand_below : (f : View R) (s : St) (r : Ruled jr dr run f s) (id : ℕ) (v : View R) → get_elem? s.views id ≡ some v → v.role ≡ Hand → v.hand < f.hands
  hand_below f s r id v at role = lt_of_not-le (λ le. let none_there = r.no_others v.hand le in let one = total_at (hand_count v.hand) s.views id v at in
      let is : live_count v.hand v.role v.hand ≡ 1 = ap (λ p. live_count v.hand p v.hand) role ∙ one_if_same v.hand v.hand refl in absurd (omega arith))

  claim_goes : (f : View R) (s : St) (r : Ruled jr dr run f s) (slots id : ℕ) (me : Seated R J D) (place n old new : ℕ)
      → get_elem? s.views id ≡ some me.0 → me.0.role ≡ Hand → me.0.claim ≡ None → (near : place < 16)
      → old ≡ 256 * n + 1 → n % 16 ≡ place → new ≡ 256 * n + 4 * me.0.hand + 2 → get_or s.words place 0 ≡ old
      → Goes jr dr run s place id me (TellsTry jr (step slots place old new none) me) new
  claim_goes f s r slots id me place n old new at role free near was lies more hit =
      let v : View R = me.0 in let ok = r.each_cell place near in let q : ℕ = (r.cells place).0 in
      let shown : old ≡ word_of q (r.cells place).1 = sym hit ∙ ok.shows in
      let is = offered_word q old (r.cells place).1 shown (omega arith) in let word : old ≡ 256 * q + 1 = shown ∙ ap (word_of q) is in
      let same : q ≡ n = omega arith in
      let k = subst (InPhase jr dr run f s.homes s.views place q) is ok.phase in let job : J = k.1.0 in let kn = r.each_seat id v at in
      let w : View R = after_claim v n in let c' : Cell = (n, claimed v.hand id) in
      let low : f.collected ≤ n = subst (λ (z : ℕ). f.collected ≤ z) same k.0.0 in let high : n < f.published = subst (λ (z : ℕ). z < f.published) same k.0.1 in
      let t : Tally s.views n 0 0 = subst (λ (z : ℕ). Tally s.views z 0 0) same k.2 in let wide = r.wide in let few = r.few in
      let below = hand_below f s r id v at role in
      let unclaimed : claim_count n v ≡ 0 = ap (claims_in n) free in let claiming_it : claim_count n w ≡ 1 = one_if_same n n refl in
      let sums = total_set (claim_count n) s.views id v w at in let before = t.claims_are in (
        w,
        takes place (Some (Job job)),
        k.1.2,
        (
          f,
          moved jr dr run f s r place n id v w f new c' (set s.homes place none) record {
            near = near;
            place = lies;
            at = at;
            leads = set_else s.views id 0 w (not_front jr dr run f s r id v at role) ∙ r.first;
            role' = r.role;
            hands' = refl;
            closed' = refl;
            deep' = length-set s.homes place none ∙ r.deep;
            homes_stay = λ j far. set_else s.homes place j none far;
            opened_up = λ _ _ le. le;
            opened_down = λ _ _ le. le;
            published_up = le_refl _;
            published_at = λ _ _ le. le;
            collected_up = le_refl _;
            collected_at = λ _ _ le. le;
            behind' = r.behind;
            within' = r.within;
            small' = r.small;
            seen' = λ e. let d = r.seen_drawn e in (
              d.0,
              (
                d.1.0,
                at_cells_with r.cells place c' (λ z c. z ≡ f.collected % 16 → c ≡ (f.collected, drawn d.1.0)) (f.collected % 16)
                    (λ here. let clash : ◌≡◌ {A = ℕ} 1 3 = sym (ap tag is) ∙ ap (λ (c : Cell). tag c.1) (ap r.cells here
                    ∙ d.1.1) in absurd (omega arith)) (λ _ _. d.1.1) refl,
              ),
            );
            cell' = record {
              shows = get_or-set_same s.words place new 0 (omega arith) ∙ more;
              lies = lies;
              phase = (
                (low, high),
                set_here s.homes place none (subst (λ (z : ℕ). place < z) (sym r.deep) near),
                (w, set_at s.views id v w at, role, refl, refl),
                record { lists_are = total_same (list_count n) s.views id v w at refl ∙ t.lists_are; claims_are = omega arith },
                omega arith,
              );
            };
            own_claim = λ z e. absurd (none_no_some z (sym free ∙ e));
            loose = λ j other e. suc-ne-zero j (sym e ∙ ap holder is);
            knows' = record {
              one_run = kn.one_run;
              first_is_front = λ e. absurd (hand_no_front (sym role ∙ e));
              own = subst (λ p. KeepsToRole p w) (sym role) (subst (λ p. KeepsToRole p v) role kn.own);
              claim_shows = λ z e. (
                role,
                subst (λ (y : ℕ). cells_with r.cells place c' (y % 16) ≡ (y, claimed v.hand id)) (some_is n z e)
                    (cells_with_here r.cells place (n % 16) c' lies),
              );
            };
            bears_same = λ _. refl;
            lists_same = λ _ _. refl;
            claims_same = λ z other. one_if_other n z (λ e. other (sym e)) ∙ sym (ap (claims_in z) free);
            gone' = λ lt. absurd (omega arith);
            coming' = λ le. absurd (omega arith);
          },
        ),
        (
          (λ _. (
            n,
            was,
            (
              job,
              (
                run,
                kn.one_run (λ e. hand_no_spent (sym role
                    ∙ e)),
                subst (λ (z : ℕ). jr run z job) same k.1.1,
              ),
              refl,
            ),
          )),
          λ miss. absurd (miss hit),
        ),
      )

  pub tries : (slots id : ℕ) (me : Seated R J D) (place n old new : ℕ) → me.0.role ≡ Hand → me.0.claim ≡ None → place < 16 → old ≡ 256 * n + 1
      → n % 16 ≡ place → new ≡ 256 * n + 4 * me.0.hand + 2
      → Allows (BoardRule jr dr run) slots id me place (λ y. either (eqb y old) new y) (TellsTry jr (step slots place old new none) me)
  tries slots id me place n old new role free near was lies more s b deep at _ = let y : ℕ = get_or s.words place 0 in
      let told = TellsTry jr (step slots place old new none) me in exchanged y old new (Goes jr dr run s place id me told)
      (λ hit. claim_goes b.0 s b.1 slots id me place n old new at role free near was lies more hit)
      (λ miss. looks_goes s id me slots place y b at role refl told ((λ hit. absurd (miss hit)), λ _. refl))

  -- a number stands at most once in all lists, and not at all from `published` on
  stands_once : (f : View R) (s : St) (r : Ruled jr dr run f s) (m : ℕ) → total (list_count m) s.views ≤ 1
  stands_once f s r m = dite (dec_le f.published m) (λ le. let t = (r.coming m le).lists_are in omega arith)
      (λ no. let lt = lt_of_not-le no in dite (dec_le f.collected m) (λ le. let ok = r.each_cell (m % 16) (mod-lt m (omega arith)) in
      let is = outstanding_here jr dr run f s r m le lt in
      go (r.cells (m % 16)).0 (r.cells (m % 16)).1 is ok.phase)
      (λ no'. let t = (r.gone m (lt_of_not-le no')).lists_are in omega arith))
    where
      go : (q : ℕ) (ph : Phase) → q ≡ m → InPhase jr dr run f s.homes s.views (m % 16) q ph → total (list_count m) s.views ≤ 1
      go q vacant is k = let a = k.0 in
          let t : total (list_count m) s.views ≡ 0 = subst (λ (z : ℕ). total (list_count z) s.views ≡ 0) is (r.coming q a).lists_are in omega arith
      go q offered is k = let t : total (list_count m) s.views ≡ 0 = subst (λ (z : ℕ). total (list_count z) s.views ≡ 0) is k.2.lists_are in omega arith
      go q (claimed hand seat) is k = let t : total (list_count m) s.views ≡ 0 = subst (λ (z : ℕ). total
          (list_count z) s.views ≡ 0) is k.3.lists_are in omega arith
      go q (drawn hand) is k = let t : total (list_count m) s.views ≡ 1 = subst (λ (z : ℕ). total (list_count z) s.views ≡ 1) is k.2.lists_are in omega arith

  -- so no list is longer than 2^32
  list_short : (f : View R) (s : St) (r : Ruled jr dr run f s) (id : ℕ) (v : View R) → get_elem? s.views id ≡ some v → length v.done ≤ 2 ^ 32
  list_short f s r id v at = let most = length_below f.published v.done
      (λ m. let one = stands_once f s r m in let here = total_at (list_count m) s.views id v at in omega arith)
      (λ m le. let none_there = (r.coming m le).lists_are in let here = total_at (list_count m) s.views id v at in omega arith) in
      let small = r.small in omega arith

  delivers_goes : (f : View R) (s : St) (r : Ruled jr dr run f s) (slots id : ℕ) (v : View R) (place n new : ℕ) (band : D) (more : List (ℕ
      × Slot J D)) → get_elem? s.views id ≡ some v → v.role ≡ Hand
      → v.claim ≡ Some n → place ≡ n % 16 → new ≡ 256 * n + 4 * v.hand + 3 → dr run n band
      → Goes jr dr run s place id (v, (place, Some (Drawn band)) ∷ more) (λ _. TellsDelivery (step slots place new 0 none) (
        v,
        (
          place,
          Some
              (Drawn band),
        ) ∷ more,
      ) new) new
  delivers_goes f s r slots id v place n new band more at role has lies next right =
      let near : place < 16 = subst (λ (z : ℕ). z < 16) (sym lies) (mod-lt n (omega arith)) in
      let kn = r.each_seat id v at in let cell : r.cells place ≡ (n, claimed v.hand id) = ap r.cells lies ∙ (kn.claim_shows n has).1 in
      let ok = subst (CellOk jr dr run f s.words s.homes s.views place) cell (r.each_cell place near) in let k = ok.phase in
      let w : View R = after_delivery v n in let c' : Cell = (n, drawn v.hand) in
      let homes' = set s.homes place (some (Some (Drawn band))) in let t : Tally s.views n 0 1 = k.3 in let wide = r.wide in let low = k.0.0 in
      let high = k.0.1 in
      let was_claimed : claim_count n v ≡ 1 = ap (claims_in n) has ∙ one_if_same n n refl in
      let sums = total_set (claim_count n) s.views id v w at in let before = t.claims_are in
      let sums' = total_set (list_count n) s.views id v w at in let before' = t.lists_are in let added = times_more n n v.done in
      let one = one_if_same n n refl in
      let r' = moved jr dr run f s r place n id v w f new c' homes' record {
        near = near;
        place = sym lies;
        at = at;
        leads = set_else s.views id 0 w (not_front jr dr run f s r id v at role) ∙ r.first;
        role' = r.role;
        hands' = refl;
        closed' = refl;
        deep' = length-set s.homes place (some (Some (Drawn band))) ∙ r.deep;
        homes_stay = λ j far. set_else s.homes place j (some (Some (Drawn band))) far;
        opened_up = λ _ _ le. le;
        opened_down = λ _ _ le. le;
        published_up = le_refl _;
        published_at = λ _ _ le. le;
        collected_up = le_refl _;
        collected_at = λ _ _ le. le;
        behind' = r.behind;
        within' = r.within;
        small' = r.small;
        seen' = λ e. let d = r.seen_drawn e in (
          d.0,
          (
            d.1.0,
            at_cells_with r.cells place c' (λ z c. z ≡ f.collected % 16 → c ≡ (f.collected, drawn d.1.0)) (f.collected % 16)
                (λ here. let clash : ◌≡◌ {A = ℕ} 2 3 = sym (ap (λ (c : Cell). tag c.1) cell) ∙ ap (λ (c : Cell). tag c.1) (ap r.cells here
                ∙ d.1.1) in absurd (omega arith)) (λ _ _. d.1.1) refl,
          ),
        );
        cell' = record {
          shows = get_or-set_same s.words place new 0 (omega arith) ∙ next;
          lies = sym lies;
          phase = (
            (low, high),
            (band, right, set_here s.homes place (some (Some (Drawn band))) (subst (λ (z : ℕ). place < z) (sym r.deep) near)),
            record { lists_are = omega arith; claims_are = omega arith },
            k.4,
          );
        };
        own_claim = λ z e. some_is z n (sym e ∙ has);
        loose = λ j other e. let same : ◌≡◌ {A = ℕ} (suc id) (suc j) = sym (ap (λ (c : Cell). holder c.1) cell) ∙ e in other (omega arith);
        knows' = record {
          one_run = kn.one_run;
          first_is_front = λ e. absurd (hand_no_front (sym role ∙ e));
          own = subst (λ p. KeepsToRole p w) (sym role) (subst (λ p. KeepsToRole p v) role kn.own);
          claim_shows = λ z e. absurd (none_no_some z e);
        };
        bears_same = λ _. refl;
        lists_same = λ z other. let a = times_more z n v.done in let b = one_if_other n z (λ e. other (sym e)) in omega arith;
        claims_same = λ z other. sym (ap (claims_in z) has ∙ one_if_other n z (λ e. other (sym e)));
        gone' = λ lt. absurd (omega arith);
        coming' = λ le. absurd (omega arith);
      } in (
        w,
        gives,
        tt,
        (f, r'),
        (
          (λ z e. ap (λ (y : ℕ). (after_delivery v y, more)) (some_is n z (sym has
              ∙ e))),
          list_short f _ r' id w (set_at s.views id v w at),
        ),
      )

  pub delivers : (slots id : ℕ) (me : Seated R J D) (place n new : ℕ) (band : D) (more : List (ℕ × Slot J D)) → me.0.role ≡ Hand → me.0.claim ≡ Some n
      → place ≡ n % 16 → new ≡ 256 * n + 4 * me.0.hand + 3
      → me.1 ≡ (place, Some (Drawn band)) ∷ more → RightFor dr me.0.run n band
      → Allows (BoardRule jr dr run) slots id me place (λ _. new) (λ _. TellsDelivery (step slots place new 0 none) me new)
  delivers slots id me place n new band more role has lies next out right s b deep at _ = let kn = b.1.each_seat id me.0 at in
      let same : right.0 ≡ run = ap (λ o. unwrap_or o run) (sym right.1 ∙ kn.one_run (λ e. hand_no_spent (sym role ∙ e))) in
      subst (λ c. Goes jr dr run s place id (me.0, c) (λ _. TellsDelivery (step slots place new 0 none) (me.0, c) new) new) (sym out)
      (delivers_goes b.0 s b.1 slots id me.0 place n new band more at role has lies next (subst (λ (z : R). dr z n band) same right.2))
