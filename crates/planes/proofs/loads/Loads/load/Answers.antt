-- What is left of the old loads shows what they showed, once the new load follows.
use Rattle.std.proofs.Common.{◌≡◌, ◌*◌, ◌++◌, ◌∷◌, [], ◌∙◌, ℕ, List, sym, subst, ap}
use Rattle.planes.specs.declared.load.Load.{Load}
use Rattle.planes.specs.PlaneBit.{load_of, ShowsSame}
use Rattle.planes.proofs.Standing.{ShowsSame-shows}
use Rattle.planes.proofs.loads.Loads.load.Goals as goal

pub returns : goal.returns
returns c = record {
  same =
      let from : ℕ = 4 * c.args.h in
      let old : List Load = c.args.self.now in
      let left : List Load = c.drop_hidden.new.kept.items in
      let taken : Load = load_of c.args.h c.args.latches.now c.args.con1 c.args.hires in
      let load : Load = c.at-load.result in
      let shown : ShowsSame from (left ++ load ∷ []) (c.self.inside.kept.items ++ load ∷ []) =
      ShowsSame-shows from _ _ c.drop_hidden.ensures.same in
      let of_old : ShowsSame from (left ++ load ∷ []) (old ++ load ∷ []) =
      subst (λ (l : List Load). ShowsSame from (left ++ load ∷ []) (l ++ load ∷ [])) c.self.view_is shown in
      let of_taken : ShowsSame from (left ++ taken ∷ []) (old ++ taken ∷ []) =
      subst (λ (l : Load). ShowsSame from (left ++ l ∷ []) (old ++ l ∷ [])) c.at-load.ensures.value of_old in
      let items : left ++ taken ∷ [] ≡ c.push.new.self.items =
      ap (λ (l : Load). left ++ l ∷ []) (sym c.at-load.ensures.value) ∙ sym c.push.ensures.items in
      subst (λ (l : List Load). ShowsSame from l (old ++ taken ∷ [])) items of_taken;
}
