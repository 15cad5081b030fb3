use Rattle.std.proofs.Common.{rules, ◌≡◌, ◌∷◌, length, Some, sym, ap, ◌∙◌, arith}
use Rattle.atomic_table.specs.Table.{rest}
use Rattle.band_board.specs.declared.view.Parcel.TheVariants.{Job}
use Rattle.band_board.proofs.HandSteps.{looks, tries}
use Rattle.band_board.proofs.hand.Hand.try_place.Goals as goal

pub load-word-requires : goal.load-word-requires
load-word-requires g c = (search rules, search rules, looks g.W.Work.right_job g.W.Work.right_drawn _ _ _ _ _ c.args.self.now.is_hand.role)

pub compare_exchange-found-requires : goal.compare_exchange-found-requires
compare_exchange-found-requires g c = let h = c.args.self.now.is_hand in let now = c.load-word.ensures.2.0 in
    let offered = c.load-word.ensures.2.1 c.requires.place c.if-word-ne1.false in
    let word = offered.1 in let number : c.load-word.new.seat.me.0.hand ≡ c.args.self.now.number = ap (λ m. m.0.hand) now ∙ h.number_is in (
      search rules,
      search rules,
      tries g.W.Work.right_job g.W.Work.right_drawn _ _ _ _ _ offered.0 _ _ (ap (λ m. m.0.role) now ∙ h.role) (ap (λ m. m.0.claim) now
          ∙ c.requires.free) c.requires.place word offered.2 (omega arith),
    )

pub exchange-parcel-requires : goal.exchange-parcel-requires
exchange-parcel-requires g c = let told = (c.compare_exchange-found.ensures.2.0 c.if-found-word.false).2 in let has = ap (λ m. m.1) told.2 in
    (search rules, (Some (Job told.0), has ∙ (λ i. (c.args.place, Some (Job told.0)) ∷ sym (ap rest has) i)))

pub invariant_of-self : goal.invariant_of-self
invariant_of-self g c =
    let h = c.args.self.now.is_hand in
    let now = c.load-word.ensures.2.0 in
    record {
      is_hand = record {
        role = ap (λ m. m.0.role) now ∙ h.role;
        number_is = ap (λ m. m.0.hand) now ∙ h.number_is;
        band_is = ap (λ m. m.0.claim) now ∙ h.band_is;
        count_is = ap (λ m. length m.0.done) now ∙ h.count_is;
        few = h.few;
        small = h.small;
        most = h.most;
        holds = ap (λ m. m.1) now ∙ h.holds;
      };
    }

pub overflow_add-mine-2 : goal.overflow_add-mine-2
overflow_add-mine-2 g c =
    let offered = c.load-word.ensures.2.1 c.requires.place c.if-word-ne1.false in
    let word = offered.1 in let small = offered.2 in let few = c.args.self.now.is_hand.few in omega (arith, word, small, few)

pub returns-clause-board : goal.returns-clause-board
returns-clause-board g c = c.exchange-parcel.ensures.0 ∙ c.compare_exchange-found.ensures.0 ∙ c.load-word.ensures.0 ∙ c.requires.board
