-- The front's steps keep the board's rule: open, look, offer, collect and close.
use Rattle.std.proofs.Common.{◌≡◌, ℕ, ◌+◌, ◌*◌, ◌%◌, ◌^◌, ◌<◌, Bool, true, false, ◌||◌, ◌⊎◌, inl, inr, List, ◌∷◌, get_or, set, sym, refl, ap, ◌∙◌}
use Rattle.std.proofs.Common.{subst, ⊎_elim, eqb, eqb-true, mod-lt, le_refl, suc-ne-zero, length-set, get_or-set_same, get_or-set_other, arith}
use mathlib.Core.Option.{none, some}
use native.Mathlib.Nat.{add-mod_right}
use lib.ListN.{get_elem?}
use Rattle.std.specs.Prelude.{Some, None, unwrap_or}
use Rattle.atomic_table.specs.Table.{State, step, keeps, takes, gives, Allows}
use Rattle.atomic_table.proofs.Lists.{set_here, set_else}
use Rattle.band_board.specs.declared.view.View.{View}
use Rattle.band_board.specs.declared.view.Role.TheVariants.{Front}
use Rattle.band_board.specs.declared.view.Parcel.TheVariants.{Job, Drawn}
use Rattle.band_board.specs.View.{after_opening, after_watch, after_offer, after_collection, after_close}
use Rattle.band_board.specs.BoardRule.{Phase, vacant, offered, claimed, drawn, Cell, word_of, Slot}
use Rattle.band_board.specs.BoardRule.{one_if, KeepsToRole, Knows, InPhase, CellOk, Ruled, BoardRule}
use Rattle.band_board.specs.Steps.{RightFor, Seated, TellsOpening, TellsWatch, TellsOffer, TellsCollection, TellsClose}
use Rattle.band_board.proofs.Counted.{none_no_some}
use Rattle.band_board.proofs.Totals.{set_at, tally_same}
use Rattle.band_board.proofs.Faces.{one_number, drawn_word, outstanding_here, vacant_here}
use Rattle.band_board.proofs.Moved.{cells_with, at_cells_with, holder, moved}
use Rattle.band_board.proofs.Reviewed.{Goes, as_front, front_no_spent, reseated, unmoved}

or_true : (a b : Bool) → (a || b) ≡ true → (a ≡ true) ⊎ (b ≡ true)
or_true true b e = inl refl
or_true false b e = inr e

pub or_right : (a b : Bool) → b ≡ true → (a || b) ≡ true
or_right true b e = refl
or_right false b e = e

module _ {R J D : Type 0} (jr : R → ℕ → J → Type 0) (dr : R → ℕ → D → Type 0) (run : R) where
  abbrev St : Type 0
  St = State (Slot J D) (View R)

  -- what is known of the front, whatever the cells are
  front_knows : (cells cells' : ℕ → Cell) (id : ℕ) (v w : View R) → v.role ≡ Front → w.role ≡ v.role → w.run ≡ v.run → w.claim ≡ v.claim
      → w.done ≡ v.done → Knows run cells id v → Knows run cells' id w
  front_knows cells cells' id v w role role' run' claim' done' k = let own = subst (λ p. KeepsToRole p v) role k.own in record {
    one_run = λ ne. run' ∙ k.one_run (λ e. ne (role' ∙ e));
    first_is_front = λ e. k.first_is_front role;
    own = subst (λ p. KeepsToRole p w) (sym (role' ∙ role)) (claim' ∙ own.0, done' ∙ own.1);
    claim_shows = λ n e. absurd (none_no_some n (sym (claim' ∙ own.0) ∙ e));
  }

  front_claims : (cells : ℕ → Cell) (id : ℕ) (v : View R) → v.role ≡ Front → Knows run cells id v → (n q : ℕ) → v.claim ≡ Some q → q ≡ n
  front_claims cells id v role k n q e = let own = subst (λ p. KeepsToRole p v) role k.own in absurd (none_no_some q (sym own.0 ∙ e))

  -- the front's new view is that at seat 0
  leads : (s : St) (id : ℕ) (v w : View R) → id ≡ 0 → get_elem? s.views id ≡ some v → get_elem? (set s.views id w) 0 ≡ some w
  leads s id v w zero_is at = ap (get_elem? (set s.views id w)) (sym zero_is) ∙ set_at s.views id v w at

  opens_goes : (s : St) (id : ℕ) (v : View R) (r : Ruled jr dr run v s) (slots j : ℕ) (cs : List (ℕ × Slot J D)) → id ≡ 0
      → get_elem? s.views id ≡ some v → v.opened ≡ j → v.published ≡ 0 → (near : j < 16)
      → Goes jr dr run s j id (v, cs) (TellsOpening (step slots j 0 0 none) (v, cs)) (get_or s.words j 0)
  opens_goes s id v r slots j cs zero_is at opened none_yet near = let ok = r.each_cell j near in go (r.cells j).0 (r.cells j).1 refl ok.shows ok.lies ok.phase
    where
      go : (n : ℕ) (ph : Phase) → r.cells j ≡ (n, ph) → get_or s.words j 0 ≡ word_of n ph → n % 16 ≡ j → InPhase jr dr run v s.homes s.views j n ph
          → Goes jr dr run s j id (v, cs) (TellsOpening (step slots j 0 0 none) (v, cs)) (get_or s.words j 0)
      go n offered is shows lies k = let h = k.0.1 in absurd (omega arith)
      go n (claimed hand seat) is shows lies k = let h = k.0.1 in absurd (omega arith)
      go n (drawn hand) is shows lies k = let h = k.0.1 in absurd (omega arith)
      go n vacant is shows lies k = let w : View R = after_opening v in let behind = r.behind in let c' : Cell = (n, vacant) in
          let kn = r.each_seat id v at in let wide = r.wide in let low = k.0 in (
            w,
            takes j None,
            k.2 (omega arith),
            (
              w,
              moved jr dr run v s r j n id v w w (get_or s.words j 0) c' (set s.homes j none) record {
                near = near;
                place = lies;
                at = at;
                leads = leads s id v w zero_is at;
                role' = r.role;
                hands' = refl;
                closed' = refl;
                deep' = length-set s.homes j none ∙ r.deep;
                homes_stay = λ i far. set_else s.homes j i none far;
                opened_up = λ i far le. omega arith;
                opened_down = λ i far le. omega arith;
                published_up = le_refl _;
                published_at = λ _ _ le. le;
                collected_up = le_refl _;
                collected_at = λ _ _ le. le;
                behind' = r.behind;
                within' = r.within;
                small' = r.small;
                seen' = λ e. let d = r.seen_drawn e in let lt = d.0 in absurd (omega arith);
                cell' = record {
                  shows = get_or-set_same s.words j (get_or s.words j 0) 0 (omega arith) ∙ shows;
                  lies = lies;
                  phase = (k.0, k.1, (λ le. absurd (omega arith)), λ _. set_here s.homes j none (subst (λ (z : ℕ). j < z) (sym r.deep) near));
                };
                own_claim = front_claims r.cells id v r.role kn n;
                loose = λ i other e. suc-ne-zero i (sym e ∙ ap (λ (c : Cell). holder c.1) is);
                knows' = front_knows r.cells (cells_with r.cells j c') id v w r.role refl refl refl refl kn;
                bears_same = λ _. refl;
                lists_same = λ _ _. refl;
                claims_same = λ _ _. refl;
                gone' = λ lt. absurd (omega arith);
                coming' = λ le. tally_same n 0 0 s.views id v w at refl refl (r.coming n le);
              },
            ),
            λ i. (w, (j, None) ∷ cs),
          )

  pub opens : (slots id : ℕ) (me : Seated R J D) (j : ℕ) → me.0.role ≡ Front → me.0.opened ≡ j → me.0.published ≡ 0 → j < 16
      → Allows (BoardRule jr dr run) slots id me j (λ x. x) (TellsOpening (step slots j 0 0 none) me)
  opens slots id me j role opened none_yet near s b deep at _ =
      let r = as_front jr dr run s id me.0 b at role in opens_goes s id me.0 r.1 slots j me.1 r.0 at opened none_yet near

  pub watches : (slots id : ℕ) (me : Seated R J D) (place : ℕ) → me.0.role ≡ Front → place ≡ me.0.collected % 16 → me.0.collected < me.0.published
      → Allows (BoardRule jr dr run) slots id me place (λ x. x) (TellsWatch (step slots place 0 0 none) me)
  watches slots id me place role lies some_out s b deep at _ = let first = as_front jr dr run s id me.0 b at role in let r = first.1 in
      let v : View R = me.0 in let word : ℕ = get_or s.words place 0 in let w : View R = after_watch v word in (
        w,
        keeps,
        tt,
        unmoved jr dr run v s r place id me.1 v w w at (leads s id v w first.0 at) r.role refl refl refl refl refl
            (λ e. ⊎_elim (λ (old : v.noted ≡ true). r.seen_drawn old)
            (λ (new : eqb (word % 4) 3 ≡ true). let c : ℕ = v.collected in let ok = r.each_cell (c % 16) (mod-lt c (omega arith)) in
            let is = drawn_word (r.cells (c % 16)).0 word (r.cells (c % 16)).1
            (ap (λ (z : ℕ). get_or s.words z 0) lies ∙ ok.shows) (eqb-true (word % 4) 3 new) in
            let here = outstanding_here jr dr run v s r c (le_refl c) some_out in (some_out, (is.0, λ i. (here i, is.1 i))))
            (or_true v.noted (eqb (word % 4) 3) e))
            record { role_same = refl; hand_same = refl; claim_same = refl; done_same = refl; joined_same = refl }
            (front_knows r.cells r.cells id v w role refl refl refl refl (r.each_seat id v at)),
        refl,
      )

  offers_goes : (s : St) (id : ℕ) (v : View R) (r : Ruled jr dr run v s) (slots place new : ℕ) (job : J) (more : List (ℕ × Slot J D)) → id ≡ 0
      → get_elem? s.views id ≡ some v → v.opened ≡ 16
      → v.published < v.collected + 16 → place ≡ v.published % 16 → new ≡ 256 * v.published + 1 → v.published < 2 ^ 32 → jr run v.published job
      → Goes jr dr run s place id (v, (place, Some (Job job)) ∷ more) (λ _. TellsOffer (step slots place new 0 none) (
        v,
        (
          place,
          Some
              (Job job),
        ) ∷ more,
      ) new) new
  offers_goes s id v r slots place new job more zero_is at opened room lies next small right =
      let n : ℕ = v.published in let near : place < 16 = subst (λ (z : ℕ). z < 16) (sym lies) (mod-lt n (omega arith)) in
      let w : View R = after_offer v in let c' : Cell = (n, offered) in let home : Slot J D = Some (Job job) in
      let kn = r.each_seat id v at in let wide = r.wide in let behind = r.behind in let is = (vacant_here jr dr run v s r room).1 in
      let t = tally_same n 0 0 s.views id v w at refl refl (r.coming n (le_refl n)) in (
        w,
        gives,
        tt,
        (
          w,
          moved jr dr run v s r place n id v w w new c' (set s.homes place (some home)) record {
            near = near;
            place = sym lies;
            at = at;
            leads = leads s id v w zero_is at;
            role' = r.role;
            hands' = refl;
            closed' = refl;
            deep' = length-set s.homes place (some home) ∙ r.deep;
            homes_stay = λ i far. set_else s.homes place i (some home) far;
            opened_up = λ _ _ le. le;
            opened_down = λ _ _ le. le;
            published_up = omega arith;
            published_at = λ q other le. omega arith;
            collected_up = le_refl _;
            collected_at = λ _ _ le. le;
            behind' = omega arith;
            within' = omega arith;
            small' = omega arith;
            seen' = λ e. let d = r.seen_drawn e in let lt = d.0 in (
              omega arith,
              (
                d.1.0,
                at_cells_with r.cells place c' (λ z c. z ≡ v.collected % 16 → c ≡ (v.collected, drawn d.1.0)) (v.collected % 16)
                    (λ here. let same : v.collected ≡ n = one_number v.collected v.collected n 16 (le_refl _) (omega arith) behind room (sym here
                    ∙ lies) in absurd (omega arith)) (λ _ _. d.1.1) refl,
              ),
            );
            cell' = record {
              shows = get_or-set_same s.words place new 0 (omega arith) ∙ next;
              lies = sym lies;
              phase = ((behind, omega arith), (job, right, set_here s.homes place (some home) (subst (λ (z : ℕ). place < z) (sym r.deep) near)), t);
            };
            own_claim = front_claims r.cells id v r.role kn n;
            loose = λ i other e. suc-ne-zero i (sym e ∙ ap holder (ap (λ (z : ℕ). (r.cells z).1) lies ∙ is));
            knows' = front_knows r.cells (cells_with r.cells place c') id v w r.role refl refl refl refl kn;
            bears_same = λ _. refl;
            lists_same = λ _ _. refl;
            claims_same = λ _ _. refl;
            gone' = λ lt. absurd (omega arith);
            coming' = λ le. absurd (omega arith);
          },
        ),
        refl,
      )

  -- the run of a live view is the board's
  run_is : (cells : ℕ → Cell) (id : ℕ) (v : View R) → v.role ≡ Front → Knows run cells id v → (q : R) → v.run ≡ Some q → q ≡ run
  run_is cells id v role k q e = ap (λ o. unwrap_or o run) (sym e ∙ k.one_run (λ spent. front_no_spent (sym role ∙ spent)))

  pub offers : (slots id : ℕ) (me : Seated R J D) (place n new : ℕ) (job : J) (more : List (ℕ × Slot J D)) → me.0.role ≡ Front → me.0.opened ≡ 16
      → me.0.published ≡ n → n < me.0.collected + 16
      → place ≡ n % 16 → new ≡ 256 * n + 1 → n < 2 ^ 32 → RightFor jr me.0.run n job → me.1 ≡ (place, Some (Job job)) ∷ more
      → Allows (BoardRule jr dr run) slots id me place (λ _. new) (λ _. TellsOffer (step slots place new 0 none) me new)
  offers slots id me place n new job more role opened number room lies next small right out s b deep at _ =
      let first = as_front jr dr run s id me.0 b at role in let v : View R = me.0 in
      let same = run_is first.1.cells id v role (first.1.each_seat id v at) right.0 right.1 in
      subst (λ c. Goes jr dr run s place id (v, c) (λ _. TellsOffer (step slots place new 0 none) (v, c) new) new) (sym out)
      (offers_goes s id v first.1 slots place new job more first.0 at opened (omega arith)
      (lies ∙ ap (λ (z : ℕ). z % 16) (sym number)) (omega arith) (omega arith)
      (subst (λ (z : R × ℕ). jr z.0 z.1 job) (λ i. (same i, sym number i)) right.2))

  collects_goes : (s : St) (id : ℕ) (v : View R) (r : Ruled jr dr run v s) (slots place new : ℕ) (cs : List (ℕ × Slot J D)) → id ≡ 0
      → get_elem? s.views id ≡ some v → v.opened ≡ 16
      → v.noted ≡ true → place ≡ v.collected % 16 → new ≡ 256 * (v.collected + 16)
      → Goes jr dr run s place id (v, cs) (λ _. TellsCollection dr (step slots place new 0 none) (v, cs) new) new
  collects_goes s id v r slots place new cs zero_is at opened noted lies next =
      let n : ℕ = v.collected in let near : place < 16 = subst (λ (z : ℕ). z < 16) (sym lies) (mod-lt n (omega arith)) in
      let w : View R = after_collection v in let c' : Cell = (n + 16, vacant) in
      let d = r.seen_drawn noted in let some_out = d.0 in let cell : r.cells place ≡ (n, drawn d.1.0) = ap r.cells lies ∙ d.1.1 in
      let ok = subst (CellOk jr dr run v s.words s.homes s.views place) cell (r.each_cell place near) in let k = ok.phase in let band : D = k.1.0 in
      let kn = r.each_seat id v at in let wide = r.wide in let within = r.within in let t = tally_same n 1 0 s.views id v w at refl refl k.2 in (
        w,
        takes place (Some (Drawn band)),
        k.1.2,
        (
          w,
          moved jr dr run v s r place n id v w w new c' (set s.homes place none) record {
            near = near;
            place = sym lies;
            at = at;
            leads = leads s id v w zero_is at;
            role' = r.role;
            hands' = refl;
            closed' = refl;
            deep' = length-set s.homes place none ∙ r.deep;
            homes_stay = λ i far. set_else s.homes place i none far;
            opened_up = λ _ _ le. le;
            opened_down = λ _ _ le. le;
            published_up = le_refl _;
            published_at = λ _ _ le. le;
            collected_up = omega arith;
            collected_at = λ q other le. omega arith;
            behind' = omega arith;
            within' = omega arith;
            small' = r.small;
            seen' = λ e. let h : ◌≡◌ {A = ℕ} 0 1 = ap one_if e in absurd (omega arith);
            cell' = record {
              shows = get_or-set_same s.words place new 0 (omega arith) ∙ next;
              lies = add-mod_right n 16 ∙ sym lies;
              phase = (
                omega arith,
                omega arith,
                (λ le. absurd (omega arith)),
                λ _. set_here s.homes place none (subst (λ (z : ℕ). place < z)
                    (sym r.deep) near),
              );
            };
            own_claim = front_claims r.cells id v r.role kn n;
            loose = λ i other e. suc-ne-zero i (sym e ∙ ap (λ (c : Cell). holder c.1) cell);
            knows' = front_knows r.cells (cells_with r.cells place c') id v w r.role refl refl refl refl kn;
            bears_same = λ _. refl;
            lists_same = λ _ _. refl;
            claims_same = λ _ _. refl;
            gone' = λ lt. t;
            coming' = λ le. absurd (omega arith);
          },
        ),
        (band, (run, kn.one_run (λ spent. front_no_spent (sym r.role ∙ spent)), k.1.1), refl),
      )

  pub collects : (slots id : ℕ) (me : Seated R J D) (place n new : ℕ) → me.0.role ≡ Front → me.0.opened ≡ 16 → me.0.noted ≡ true → me.0.collected ≡ n
      → place ≡ n % 16 → new ≡ 256 * (n + 16)
      → Allows (BoardRule jr dr run) slots id me place (λ _. new) (λ _. TellsCollection dr (step slots place new 0 none) me new)
  collects slots id me place n new role opened noted number lies next s b deep at _ = let first = as_front jr dr run s id me.0 b at role in
      collects_goes s id me.0 first.1 slots place new me.1 first.0 at opened noted (lies ∙ ap (λ (z : ℕ). z % 16) (sym number)) (omega arith)

  pub closes : (slots id : ℕ) (me : Seated R J D) → me.0.role ≡ Front
      → Allows (BoardRule jr dr run) slots id me 16 (λ _. 1) (λ _. TellsClose (step slots 16 1 0 none) me 1)
  closes slots id me role s b deep at _ = let first = as_front jr dr run s id me.0 b at role in let r = first.1 in let v : View R = me.0 in
      let w : View R = after_close v in let wide = r.wide in let kn = r.each_seat id v at in (
        w,
        keeps,
        tt,
        (
          w,
          reseated jr dr run v s r (set s.words 16 1) id v w w (length-set s.words 16 1
              ∙ r.wide) (λ j near. get_or-set_other s.words 16 j 1 0 (λ e. omega arith)) (get_or-set_same s.words 16 1 0 (omega arith))
              at (leads s id v w first.0 at) role refl refl refl refl r.seen_drawn record {
                role_same = refl;
                hand_same = refl;
                claim_same = refl;
                done_same = refl;
                joined_same = refl;
              }
              (front_knows r.cells r.cells id v w role refl refl refl refl kn),
        ),
        refl,
      )
