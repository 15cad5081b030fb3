-- What stays of the board's rule when one place, one band and one seat move.
use Rattle.std.proofs.Common.{◌≡◌, ℕ, suc, ◌+◌, ◌%◌, ◌^◌, ◌<◌, ◌≤◌, ◌≢◌, true, length, set, sym, refl}
use Rattle.std.proofs.Common.{ap, ◌∙◌, subst, ⊎_elim, lt_of_not-le, arith, length-set, get_or-set_other}
use mathlib.Core.Path.{Path}
use mathlib.Core.Logic.{dite}
use mathlib.Core.Option.{some, some-injective}
use native.Mathlib.Decide.{ℕ_discrete}
use lib.ListN.{get_elem?}
use Rattle.std.specs.Prelude.{Some}
use Rattle.atomic_table.specs.Table.{State}
use Rattle.atomic_table.proofs.Lists.{at_set, set_else}
use Rattle.band_board.specs.declared.view.View.{View}
use Rattle.band_board.specs.declared.view.Role.TheVariants.{Front}
use Rattle.band_board.specs.BoardRule.{Phase, vacant, offered, claimed, drawn, Cell, Slot, one_if, Homes, hand_count}
use Rattle.band_board.specs.BoardRule.{list_count, claim_count, Tally, Knows, HasClaimed, HasDrawn, InPhase, CellOk, Ruled}
use Rattle.band_board.proofs.Totals.{total_same, tally_same}

abbrev pick : {P : Type 0} → Dec P → Cell → Cell → Cell
pick (yes _) a b = a
pick (no _) a b = b

pub cells_with : (ℕ → Cell) → ℕ → Cell → ℕ → Cell
cells_with cells i c j = pick (ℕ_discrete j i) c (cells j)

-- what holds of the new cell at i, and of each other cell, holds after
pub at_cells_with : (cells : ℕ → Cell) (i : ℕ) (c : Cell) (F : ℕ → Cell → Type 0) (j : ℕ) → F i c → (j ≢ i → F j (cells j)) → F j (cells_with cells i c j)
unfolding cells_with
at_cells_with cells i c F j here other = go (ℕ_discrete j i)
  where
    go : (d : Dec (j ≡ i)) → F j (pick d c (cells j))
    go (yes e) = subst (λ (k : ℕ). F k c) (sym e) here
    go (no n) = other n

pub cells_with_here : (cells : ℕ → Cell) (i j : ℕ) (c : Cell) → j ≡ i → Path Cell (cells_with cells i c j) c
cells_with_here cells i j c e = at_cells_with cells i c (λ q x. q ≡ i → Path Cell x c) j (λ _. refl) (λ n. absurd (n e)) e

-- who holds a cell, if anyone: 0, or the seat's number and 1
abbrev pub holder : Phase → ℕ
holder vacant = 0
holder offered = 0
holder (claimed hand seat) = suc seat
holder (drawn hand) = 0

module _ {R J D : Type 0} (jr : R → ℕ → J → Type 0) (dr : R → ℕ → D → Type 0) (run : R) where
  abbrev St : Type 0
  St = State (Slot J D) (View R)

  -- A step on the place i, which the band n has, by the seat id: the view v becomes w, the front's view becomes f', the word x, the cell c'
  pub record Move (f : View R) (s : St) (cells : ℕ → Cell) (i n id : ℕ) (v w f' : View R) (x : ℕ) (c' : Cell) (homes' : Homes J D) : Type 0 where
    pub near : i < 16
    pub place : n % 16 ≡ i
    pub at : get_elem? s.views id ≡ some v
    pub leads : get_elem? (set s.views id w) 0 ≡ some f'
    pub role' : f'.role ≡ Front
    pub hands' : f'.hands ≡ f.hands
    pub closed' : f'.closed ≡ f.closed
    pub deep' : length homes' ≡ 16
    pub homes_stay : (j : ℕ) → j ≢ i → get_elem? homes' j ≡ get_elem? s.homes j
    pub opened_up : (j : ℕ) → j ≢ i → f'.opened ≤ j → f.opened ≤ j
    pub opened_down : (j : ℕ) → j ≢ i → j < f'.opened → j < f.opened
    pub published_up : f.published ≤ f'.published
    pub published_at : (q : ℕ) → q ≢ n → f.published ≤ q → f'.published ≤ q
    pub collected_up : f.collected ≤ f'.collected
    pub collected_at : (q : ℕ) → q ≢ n → f.collected ≤ q → f'.collected ≤ q
    pub behind' : f'.collected ≤ f'.published
    pub within' : f'.published ≤ f'.collected + 16
    pub small' : f'.published ≤ 2 ^ 32
    pub seen' : f'.noted ≡ true → HasDrawn (cells_with cells i c') f'
    pub cell' : CellOk jr dr run f' (set s.words i x) homes' (set s.views id w) i c'
    pub own_claim : (q : ℕ) → v.claim ≡ Some q → q ≡ n
    pub loose : (j : ℕ) → j ≢ id → holder (cells i).1 ≢ suc j
    pub knows' : Knows run (cells_with cells i c') id w
    pub bears_same : (k : ℕ) → hand_count k w ≡ hand_count k v
    pub lists_same : (q : ℕ) → q ≢ n → list_count q w ≡ list_count q v
    pub claims_same : (q : ℕ) → q ≢ n → claim_count q w ≡ claim_count q v
    pub gone' : n < f'.collected → Tally (set s.views id w) n 1 0
    pub coming' : f'.published ≤ n → Tally (set s.views id w) n 0 0

  module _ (f : View R) (s : St) (r : Ruled jr dr run f s) (i n id : ℕ) (v w f' : View R) (x : ℕ) (c' : Cell) (homes' : Homes J D)
      (m : Move f s r.cells i n id v w f' x c' homes') where
    tally_stays : (q a b : ℕ) → q ≢ n → Tally s.views q a b → Tally (set s.views id w) q a b
    tally_stays q a b other t = tally_same q a b s.views id v w m.at (m.lists_same q other) (m.claims_same q other) t

    claim_stays : (seat hand q : ℕ) → q ≢ n → HasClaimed s.views seat hand q → HasClaimed (set s.views id w) seat hand q
    claim_stays seat hand q other h = (
      h.0,
      dite (ℕ_discrete seat id)
          (λ e. let same : v ≡ h.0 = some-injective v h.0 (sym m.at ∙ ap (λ (k : ℕ). get_elem? s.views k) (sym e)
          ∙ h.1) in absurd (other (m.own_claim q (ap (λ (u : View R). u.claim) same ∙ h.4))))
          (λ ne. set_else s.views id seat w ne ∙ h.1),
      h.2,
      h.3,
      h.4,
    )

    phase_stays : (j q : ℕ) → q % 16 ≡ j → j ≢ i → (ph : Phase) → InPhase jr dr run f s.homes s.views j q ph
        → InPhase jr dr run f' homes' (set s.views id w) j q ph
    phase_stays j q lies far vacant k = let other : q ≢ n = λ e. far (sym lies ∙ ap (λ (z : ℕ). z % 16) e ∙ m.place) in let up = m.collected_up in
        let below = k.1 in (
          m.published_at q other k.0,
          omega arith,
          (λ le. m.homes_stay j far ∙ k.2 (m.opened_up j far le)),
          λ lt. m.homes_stay j far
              ∙ k.3 (m.opened_down j far lt),
        )
    phase_stays j q lies far offered k = let other : q ≢ n = λ e. far (sym lies ∙ ap (λ (z : ℕ). z % 16) e ∙ m.place) in let up = m.published_up in
        let below = k.0.1 in
        ((m.collected_at q other k.0.0, omega arith), (k.1.0, k.1.1, m.homes_stay j far ∙ k.1.2), tally_stays q 0 0 other k.2)
    phase_stays j q lies far (claimed hand seat) k = let other : q ≢ n = λ e. far (sym lies ∙ ap (λ (z : ℕ). z % 16) e ∙ m.place) in
        let up = m.published_up in let below = k.0.1 in
        ((m.collected_at q other k.0.0, omega arith), m.homes_stay j far ∙ k.1, claim_stays seat hand q other k.2, tally_stays q 0 1 other k.3, k.4)
    phase_stays j q lies far (drawn hand) k = let other : q ≢ n = λ e. far (sym lies ∙ ap (λ (z : ℕ). z % 16) e ∙ m.place) in
        let up = m.published_up in let below = k.0.1 in
        ((m.collected_at q other k.0.0, omega arith), (k.1.0, k.1.1, m.homes_stay j far ∙ k.1.2), tally_stays q 1 0 other k.2, k.3)

    cell_stays : (j : ℕ) → j ≢ i → (c : Cell) → CellOk jr dr run f s.words s.homes s.views j c
        → CellOk jr dr run f' (set s.words i x) homes' (set s.views id w) j c
    cell_stays j far c k = record {
      shows = get_or-set_other s.words i j x 0 (λ e. far (omega arith))
          ∙ k.shows;
      lies = k.lies;
      phase = phase_stays j c.0 k.lies far c.1 k.phase;
    }

    -- what another seat knows of a cell that it does not hold
    knows_stays : (j : ℕ) (u : View R) → j ≢ id → Knows run r.cells j u → Knows run (cells_with r.cells i c') j u
    knows_stays j u other k = record {
      one_run = k.one_run;
      first_is_front = k.first_is_front;
      own = k.own;
      claim_shows = λ q e. let known = k.claim_shows q e in (
        known.0,
        at_cells_with r.cells i c' (λ z c. z ≡ q % 16 → c ≡ (q, claimed u.hand j)) (q % 16)
            (λ is. absurd (m.loose j other (ap (λ (c : Cell). holder c.1) (ap r.cells is ∙ known.1)))) (λ _ _. known.1) refl,
      );
    }

    pub moved : Ruled jr dr run f' record { words = set s.words i x; homes = homes'; views = set s.views id w }
    moved = let near = m.near in record {
      cells = cells_with r.cells i c';
      wide = length-set s.words i x ∙ r.wide;
      deep = m.deep';
      flag = get_or-set_other s.words i 16 x 0 (λ e. omega arith) ∙ r.flag ∙ ap one_if (sym m.closed');
      first = m.leads;
      role = m.role';
      behind = m.behind';
      within = m.within';
      small = m.small';
      few = subst (λ (z : ℕ). z ≤ 33) (sym m.hands') r.few;
      seen_drawn = m.seen';
      each_cell = λ j l. at_cells_with r.cells i c' (CellOk jr dr run f' (set s.words i x) homes' (set s.views id w)) j m.cell'
          (λ far. cell_stays j far (r.cells j) (r.each_cell j l));
      each_seat = λ j u e. ⊎_elim (λ (h : (j ≡ id) × (w ≡ u)). subst (λ (y : ℕ
          × View R). Knows run (cells_with r.cells i c') y.0 y.1) (λ k. (sym h.0 k, h.1 k)) m.knows')
          (λ (h : (j ≢ id) × (get_elem? s.views j ≡ some u)). knows_stays j u h.0 (r.each_seat j u h.1)) (at_set s.views id j w u e);
      numbers = λ k l. total_same (hand_count k) s.views id v w m.at (m.bears_same k) ∙ r.numbers k (subst (λ (z : ℕ). k < z) m.hands' l);
      no_others = λ k l. total_same (hand_count k) s.views id v w m.at (m.bears_same k) ∙ r.no_others k (subst (λ (z : ℕ). z ≤ k) m.hands' l);
      gone = λ q l. dite (ℕ_discrete q n) (λ e. subst (λ (z : ℕ). z < f'.collected → Tally (set s.views id w) z 1 0) (sym e) m.gone' l)
          (λ other. tally_stays q 1 0 other (r.gone q (lt_of_not-le (λ le. let h = m.collected_at q other le in absurd (omega arith)))));
      coming = λ q l. dite (ℕ_discrete q n) (λ e. subst (λ (z : ℕ). f'.published ≤ z → Tally (set s.views id w) z 0 0) (sym e) m.coming' l)
          (λ other. let up = m.published_up in tally_stays q 0 0 other (r.coming q (omega arith)));
    }
