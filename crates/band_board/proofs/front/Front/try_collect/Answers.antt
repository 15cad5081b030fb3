use Rattle.std.proofs.Common.{rules, ◌+◌, ◌%◌, [], ◌∷◌, ◌++◌, Some, None, sym, refl, ap, ◌∙◌, eq-eqb, arith}
use Rattle.atomic_table.specs.Table.{rest, turned}
use Rattle.band_board.specs.declared.view.Parcel.TheVariants.{Drawn}
use Rattle.band_board.specs.View.{after_collection}
use Rattle.band_board.proofs.FrontSteps.{or_right, watches, collects}
use Rattle.band_board.proofs.Starts.{vacancies_back}
use Rattle.band_board.proofs.front.Front.try_collect.Goals as goal

pub load-word-requires : goal.load-word-requires
load-word-requires g c = let f = c.args.self.now.is_front in
    (search rules, search rules, watches g.W.Work.right_job g.W.Work.right_drawn _ _ _ _ _ f.role (ap (λ n. n % 16) (sym f.collected_is)) c.requires.some)

pub store-requires : goal.store-requires
store-requires g c = let f = c.args.self.now.is_front in let now = c.load-word.ensures.2 in (
  search rules,
  search rules,
  collects g.W.Work.right_job g.W.Work.right_drawn _ _ _ _ _ _ _ (ap (λ m. m.0.role) now ∙ f.role) (ap (λ m. m.0.opened) now ∙ f.opened)
      (ap (λ m. m.0.noted) now ∙ or_right _ _ (eq-eqb _ 3 c.if-word-ne3.false)) (ap (λ m. m.0.collected) now ∙ f.collected_is) refl refl,
)

pub exchange-parcel-requires : goal.exchange-parcel-requires
exchange-parcel-requires g c = let told = c.store.ensures.2 in let has = ap (λ m. m.1) told.2 in
    (search rules, (Some (Drawn told.0), has ∙ (λ i. (c.args.self.now.collected % 16, Some (Drawn told.0)) ∷ sym (ap rest has) i)))

pub invariant_of-self-2 : goal.invariant_of-self-2
invariant_of-self-2 g c = let f = c.args.self.now.is_front in let watched = c.load-word.ensures.2 in let stored = c.store.ensures.2.2 in
    let swapped = c.exchange-parcel.ensures.3 in let turn = c.turn.ensures.2 in
    let view = ap (λ m. m.0) turn ∙ ap (λ m. m.0) swapped ∙ ap (λ m. m.0) stored ∙ ap (λ m. after_collection m.0) watched in
    let some_out = c.requires.some in let p = f.published_is in let q = f.collected_is in let w = f.within in record {
      is_front = record {
        role = ap (λ v. v.role) view ∙ f.role;
        opened = ap (λ v. v.opened) view ∙ f.opened;
        published_is = ap (λ v. v.published) view ∙ f.published_is;
        collected_is = ap (λ v. v.collected) view ∙ ap (λ n. n + 1) f.collected_is;
        hands_are = ap (λ v. v.hands) view ∙ f.hands_are;
        unnoted = ap (λ v. v.noted) view;
        behind = omega arith;
        within = omega arith;
        small = f.small;
        few = f.few;
        holds = ap (λ m. m.1) turn ∙ ap (λ m. turned m.1) swapped ∙ ap (λ m. rest m.1 ++ (c.args.self.now.collected % 16, None) ∷ []) stored
            ∙ ap (λ m. m.1 ++ (c.args.self.now.collected % 16, None) ∷ []) watched ∙ ap (λ l. l ++ (c.args.self.now.collected % 16, None) ∷ []) f.holds
            ∙ vacancies_back c.args.self.now.published c.args.self.now.collected f.within;
      };
    }
