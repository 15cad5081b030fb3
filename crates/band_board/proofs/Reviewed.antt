-- What stays of the board's rule when views alone change, and what a seat knows of the front.
use Rattle.std.proofs.Common.{◌≡◌, ◌≢◌, ℕ, ◌+◌, ◌<◌, ◌≤◌, true, List, length, get_or, set, sym, refl, ap, ◌∙◌, subst, ⊎_elim, arith}
use mathlib.Core.Logic.{dite}
use mathlib.Core.Option.{some, some-injective}
use native.Mathlib.Decide.{ℕ_discrete}
use lib.ListN.{get_elem?}
use lib.Seq.{set-get_or}
use Rattle.atomic_table.specs.Table.{State, Act, keeps, Valid, carried_after, stepped}
use Rattle.atomic_table.proofs.Lists.{at_set, set_else}
use Rattle.band_board.specs.declared.view.View.{View}
use Rattle.band_board.specs.declared.view.Role.{Role}
use Rattle.band_board.specs.declared.view.Role.TheVariants.{Front, Hand, Spent}
use Rattle.band_board.specs.BoardRule.{Phase, vacant, offered, claimed, drawn, Cell, Slot, one_if, times, times_joined, joined_count, claims_in, live_count}
use Rattle.band_board.specs.BoardRule.{hand_count, list_count, claim_count, total, Tally, Knows, HasClaimed, HasDrawn, InPhase, Ruled, BoardRule}
use Rattle.band_board.specs.Steps.{Seated}
use Rattle.band_board.proofs.Totals.{total_same, set_at}

abbrev kind : Role → ℕ
kind Front = 0
kind Hand = 1
kind Spent = 2

pub hand_no_front : Hand ≡ Front → ⊥
hand_no_front e = let h : ◌≡◌ {A = ℕ} 1 0 = ap kind e in absurd (omega arith)

pub front_no_spent : Front ≡ Spent → ⊥
front_no_spent e = let h : ◌≡◌ {A = ℕ} 0 2 = ap kind e in absurd (omega arith)

pub hand_no_spent : Hand ≡ Spent → ⊥
hand_no_spent e = let h : ◌≡◌ {A = ℕ} 1 2 = ap kind e in absurd (omega arith)

module _ {R J D : Type 0} (jr : R → ℕ → J → Type 0) (dr : R → ℕ → D → Type 0) (run : R) where
  abbrev St : Type 0
  St = State (Slot J D) (View R)

  abbrev pub Goes : St → ℕ → ℕ → Seated R J D → (ℕ → Seated R J D → Type 0) → ℕ → Type 0
  Goes s k id me then x = (w : View R) × (a : Act (Slot J D)) × Valid s.homes me.1 a × BoardRule jr dr run (stepped s k x id me.1 w a)
      × then (get_or s.words k 0) (w, carried_after me.1 a)

  -- a seat of the role Front is the front's
  pub as_front : (s : St) (id : ℕ) (v : View R) → BoardRule jr dr run s → get_elem? s.views id ≡ some v → v.role ≡ Front → (id ≡ 0) × Ruled jr dr run v s
  as_front s id v b at role = let r = b.1 in let zero_is : id ≡ 0 = (r.each_seat id v at).first_is_front role in
      let same : b.0 ≡ v = some-injective b.0 v (sym r.first ∙ ap (get_elem? s.views) (sym zero_is)
      ∙ at) in (zero_is, subst (λ (u : View R). Ruled jr dr run u s) same r)

  -- that of a hand is not
  pub not_front : (f : View R) (s : St) (r : Ruled jr dr run f s) (id : ℕ) (v : View R) → get_elem? s.views id ≡ some v → v.role ≡ Hand → 0 ≢ id
  not_front f s r id v at role e = let same : f ≡ v = some-injective f v (sym r.first ∙ ap (get_elem? s.views) e ∙ at) in hand_no_front (sym role
      ∙ sym (ap (λ (u : View R). u.role) same) ∙ r.role)

  -- The words of the places stay, and no slot moves: the views become views', and the front's view f'
  pub record Review (f : View R) (s : St) (cells : ℕ → Cell) (words' : List ℕ) (views' : List (View R)) (f' : View R) : Type 0 where
    pub wide' : length words' ≡ 17
    pub words_stay : (j : ℕ) → j < 16 → get_or words' j 0 ≡ get_or s.words j 0
    pub flag' : get_or words' 16 0 ≡ one_if f'.closed
    pub leads : get_elem? views' 0 ≡ some f'
    pub role' : f'.role ≡ Front
    pub opened' : f'.opened ≡ f.opened
    pub published' : f'.published ≡ f.published
    pub collected' : f'.collected ≡ f.collected
    pub few' : f'.hands ≤ 33
    pub seen' : f'.noted ≡ true → HasDrawn cells f'
    pub claim_stays : (seat hand q : ℕ) → HasClaimed s.views seat hand q → HasClaimed views' seat hand q
    pub knows' : (j : ℕ) (u : View R) → get_elem? views' j ≡ some u → Knows run cells j u
    pub lists_same : (q : ℕ) → total (list_count q) views' ≡ total (list_count q) s.views
    pub claims_same : (q : ℕ) → total (claim_count q) views' ≡ total (claim_count q) s.views
    pub numbers' : (k : ℕ) → k < f'.hands → total (hand_count k) views' ≡ 1
    pub no_others' : (k : ℕ) → f'.hands ≤ k → total (hand_count k) views' ≡ 0

  module _ (f : View R) (s : St) (r : Ruled jr dr run f s) (words' : List ℕ) (views' : List (View R)) (f' : View R)
      (m : Review f s r.cells words' views' f') where
    tally_stays : (q a b : ℕ) → Tally s.views q a b → Tally views' q a b
    tally_stays q a b t = record { lists_are = m.lists_same q ∙ t.lists_are; claims_are = m.claims_same q ∙ t.claims_are }

    phase_stays : (j q : ℕ) (ph : Phase) → InPhase jr dr run f s.homes s.views j q ph → InPhase jr dr run f' s.homes views' j q ph
    phase_stays j q vacant k = let o = m.opened' in let p = m.published' in let c = m.collected' in let a = k.0 in let b = k.1 in
        (omega arith, omega arith, (λ le. k.2 (omega arith)), λ lt. k.3 (omega arith))
    phase_stays j q offered k = let p = m.published' in let c = m.collected' in let a = k.0.0 in
        let b = k.0.1 in ((omega arith, omega arith), k.1, tally_stays q 0 0 k.2)
    phase_stays j q (claimed hand seat) k = let p = m.published' in let c = m.collected' in let a = k.0.0 in let b = k.0.1 in
        ((omega arith, omega arith), k.1, m.claim_stays seat hand q k.2, tally_stays q 0 1 k.3, k.4)
    phase_stays j q (drawn hand) k = let p = m.published' in let c = m.collected' in let a = k.0.0 in
        let b = k.0.1 in ((omega arith, omega arith), k.1, tally_stays q 1 0 k.2, k.3)

    pub reviewed : Ruled jr dr run f' record { words = words'; homes = s.homes; views = views' }
    reviewed = let p = m.published' in let c = m.collected' in let h = r.behind in let w = r.within in let z = r.small in record {
      cells = r.cells;
      wide = m.wide';
      deep = r.deep;
      flag = m.flag';
      first = m.leads;
      role = m.role';
      behind = omega arith;
      within = omega arith;
      small = omega arith;
      few = m.few';
      seen_drawn = m.seen';
      each_cell = λ j l. let ok = r.each_cell j l in record {
        shows = m.words_stay j l
            ∙ ok.shows;
        lies = ok.lies;
        phase = phase_stays j (r.cells j).0 (r.cells j).1 ok.phase;
      };
      each_seat = m.knows';
      numbers = m.numbers';
      no_others = m.no_others';
      gone = λ q l. tally_stays q 1 0 (r.gone q (omega arith));
      coming = λ q l. tally_stays q 0 0 (r.coming q (omega arith));
    }

  -- a new view of a seat that tells of the same hands and bands
  pub record Same (v w : View R) : Type 0 where
    pub role_same : w.role ≡ v.role
    pub hand_same : w.hand ≡ v.hand
    pub claim_same : w.claim ≡ v.claim
    pub done_same : w.done ≡ v.done
    pub joined_same : w.joined ≡ v.joined

  -- a step of one seat that changes no word of a place and no slot
  pub reseated : (f : View R) (s : St) (r : Ruled jr dr run f s) (words' : List ℕ) (id : ℕ) (v w f' : View R) → length words' ≡ 17 → ((j : ℕ) → j < 16
      → get_or words' j 0 ≡ get_or s.words j 0)
      → get_or words' 16 0 ≡ one_if f'.closed → get_elem? s.views id ≡ some v → get_elem? (set s.views id w) 0 ≡ some f'
      → f'.role ≡ Front → f'.opened ≡ f.opened → f'.published ≡ f.published → f'.collected ≡ f.collected → f'.hands ≡ f.hands → (f'.noted ≡ true
      → HasDrawn r.cells f')
      → Same v w → Knows run r.cells id w → Ruled jr dr run f' record { words = words'; homes = s.homes; views = set s.views id w }
  reseated f s r words' id v w f' wide' words_stay flag' at leads role' opened' published' collected' hands' seen' same knows' =
      reviewed f s r words' (set s.views id w) f' record {
        wide' = wide';
        words_stay = words_stay;
        flag' = flag';
        leads = leads;
        role' = role';
        opened' = opened';
        published' = published';
        collected' = collected';
        few' = subst (λ (z : ℕ). z ≤ 33) (sym hands') r.few;
        seen' = seen';
        claim_stays = λ seat hand q h. dite (ℕ_discrete seat id)
            (λ e. let is : v ≡ h.0 = some-injective v h.0 (sym at ∙ ap (λ (k : ℕ). get_elem? s.views k) (sym e) ∙ h.1) in (
              w,
              ap (get_elem? (set s.views id w)) e ∙ set_at s.views id v w at,
              same.role_same ∙ ap (λ (u : View R). u.role) is ∙ h.2,
              same.hand_same
                  ∙ ap (λ (u : View R). u.hand) is ∙ h.3,
              same.claim_same ∙ ap (λ (u : View R). u.claim) is ∙ h.4,
            ))
            (λ ne. (h.0, set_else s.views id seat w ne ∙ h.1, h.2, h.3, h.4));
        knows' = λ j u e. ⊎_elim (λ (h : (j ≡ id) × (w ≡ u)). subst (λ (y : ℕ × View R). Knows run r.cells y.0 y.1) (λ k. (sym h.0 k, h.1 k)) knows')
            (λ (h : (j ≢ id) × (get_elem? s.views j ≡ some u)). r.each_seat j u h.1) (at_set s.views id j w u e);
        lists_same = λ q. total_same (list_count q) s.views id v w at (λ k. times q (same.done_same k) + times_joined q (same.joined_same k));
        claims_same = λ q. total_same (claim_count q) s.views id v w at (λ k. claims_in q (same.claim_same k));
        numbers' = λ k l. total_same (hand_count k) s.views id v w at (λ j. live_count k (same.role_same j) (same.hand_same j) + joined_count k
            (same.joined_same j)) ∙ r.numbers k (subst (λ (z : ℕ). k < z) hands' l);
        no_others' = λ k l. total_same (hand_count k) s.views id v w at (λ j. live_count k (same.role_same j) (same.hand_same j) + joined_count k
            (same.joined_same j)) ∙ r.no_others k (subst (λ (z : ℕ). z ≤ k) hands' l);
      }

  -- a load of any word
  pub unmoved : (f : View R) (s : St) (r : Ruled jr dr run f s) (i id : ℕ) (cs : List (ℕ × Slot J D)) (v w f' : View R)
      → get_elem? s.views id ≡ some v → get_elem? (set s.views id w) 0 ≡ some f'
      → f'.role ≡ Front → f'.opened ≡ f.opened → f'.published ≡ f.published → f'.collected ≡ f.collected → f'.hands ≡ f.hands → f'.closed ≡ f.closed
      → (f'.noted ≡ true → HasDrawn r.cells f')
      → Same v w → Knows run r.cells id w → BoardRule jr dr run (stepped s i (get_or s.words i 0) id cs w keeps)
  unmoved f s r i id cs v w f' at leads role' opened' published' collected' hands' closed' seen' same knows' = (
    f',
    subst (λ (ws : List ℕ). Ruled jr dr run f' record { words = ws; homes = s.homes; views = set s.views id w }) (sym (set-get_or s.words i 0))
        (reseated f s r s.words id v w f' r.wide (λ _ _. refl) (r.flag
        ∙ ap one_if (sym closed')) at leads role' opened' published' collected' hands' seen' same knows'),
  )
