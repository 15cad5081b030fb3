use Rattle.std.proofs.Common.{rules, ◌≡◌, ◌+◌, ◌*◌, ◌%◌, None, [], ◌∷◌, length, IsSomeAnd, sym, refl, ap, ◌∙◌, subst, length-append, arith}
use Rattle.atomic_table.specs.Table.{rest}
use Rattle.band_board.specs.Steps.{RightFor}
use Rattle.band_board.specs.Seats.{slot_of}
use Rattle.band_board.specs.View.{after_delivery}
use Rattle.band_board.proofs.Counted.{none_no_some}
use Rattle.band_board.proofs.HandSteps.{delivers}
use Rattle.band_board.proofs.hand.Hand.deliver.Goals as goal

pub store-requires : goal.store-requires
store-requires g c = let h = c.args.self.now.is_hand in let now = c.exchange.ensures.3 in let n = c.in-Some.number in let claim = h.band_is ∙ c.in-Some.is in
    let right = subst (λ o. IsSomeAnd o (λ m. RightFor g.W.Work.right_drawn c.args.self.now.seat.me.0.run m c.args.drawn)) claim c.requires.drawn in (
      search rules,
      search rules,
      delivers g.W.Work.right_job g.W.Work.right_drawn _ _ _ _ _ n _ c.args.drawn _ (ap (λ m. m.0.role) now ∙ h.role) (ap (λ m. m.0.claim) now ∙ claim) refl
          (ap (λ k. 256 * n + 4 * k + 3) (sym (ap (λ m. m.0.hand) now ∙ h.number_is))) (ap (λ m. m.1) now) (right.0, ap (λ m. m.0.run) now ∙ right.1, right.2),
    )

pub invariant_of-self : goal.invariant_of-self
invariant_of-self g c = let h = c.args.self.now.is_hand in let now = c.exchange.ensures.3 in let n = c.in-Some.number in let claim = h.band_is ∙ c.in-Some.is in
    let told = c.store.ensures.2.0 n (ap (λ m. m.0.claim) now ∙ claim) in
    let count : length c.store.new.seat.me.0.done ≡ c.args.self.now.count + 1 = ap (λ m. length m.0.done) told
    ∙ length-append c.exchange.new.seat.me.0.done (n ∷ []) ∙ ap (λ m. length m.0.done + 1) now ∙ ap (λ k. k + 1) h.count_is in
    let most = c.store.ensures.2.1 in record {
      is_hand = record {
        role = ap (λ m. m.0.role) told ∙ ap (λ m. m.0.role) now ∙ h.role;
        number_is = ap (λ m. m.0.hand) told ∙ ap (λ m. m.0.hand) now ∙ h.number_is;
        band_is = ap (λ m. m.0.claim) told;
        count_is = count;
        few = h.few;
        small = λ z e. absurd (none_no_some z e);
        most = omega arith;
        holds = ap (λ m. m.1) told ∙ ap (λ m. rest m.1) now ∙ ap rest (h.holds ∙ ap slot_of c.in-Some.is);
      };
    }

pub exchange-requires : goal.exchange-requires
exchange-requires g c =
    let has = c.args.self.now.is_hand.holds ∙ ap slot_of c.in-Some.is in
    (c.requires.board, (None, has ∙ (λ i. (c.in-Some.number % 16, None) ∷ sym (ap rest has) i)))

pub overflow_add-number-2 : goal.overflow_add-number-2
overflow_add-number-2 g c =
    let h = c.args.self.now.is_hand in let small = h.small c.in-Some.number c.in-Some.is in let few = h.few in omega (arith, small, few)

pub overflow_add-self : goal.overflow_add-self
overflow_add-self g c = let most = c.args.self.now.is_hand.most in omega (arith, most)

pub returns-clause-board : goal.returns-clause-board
returns-clause-board g c = c.store.ensures.0 ∙ c.exchange.ensures.0 ∙ c.requires.board

pub returns-clause-free : goal.returns-clause-free
returns-clause-free g c =
    let claim = c.args.self.now.is_hand.band_is ∙ c.in-Some.is in
    ap (λ m. m.0.claim) (c.store.ensures.2.0 c.in-Some.number (ap (λ m. m.0.claim) c.exchange.ensures.3 ∙ claim))

pub returns-clause-list : goal.returns-clause-list
returns-clause-list g c n claim =
    let now = c.exchange.ensures.3 in
    ap (λ m. m.0) (c.store.ensures.2.0 n (ap (λ m. m.0.claim) now ∙ claim)) ∙ ap (λ m. after_delivery m.0 n) now
