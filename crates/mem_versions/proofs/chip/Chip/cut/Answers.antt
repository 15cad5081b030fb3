-- The view has the writes before the cut, and the new base is the memory at the cut.
use Rattle.std.proofs.Common.{◌≡◌, ◌≤◌, List, length, take, drop, refl, ap, sym, subst, ◌∙◌, arith, length-take}
use Rattle.std.proofs.lemmas.List.Sorted.{IsNonDecreasingBy-take}
use Rattle.std.specs.List.Sorted.{IsNonDecreasingBy}
use Rattle.mem_versions.specs.declared.write.Write.{Write}
use Rattle.mem_versions.specs.MemoryAt.{words_after, writes_to, writes_below, writes_from}
use Rattle.mem_versions.specs.Chip.{ChipValue, after_cut}
use Rattle.mem_versions.specs.MemView.{ViewValue}
use Rattle.mem_versions.proofs.MemoryLaws.{IsSound-cut, IsViewOf-made}
use Rattle.mem_versions.proofs.CutLaws.{IsCut-made}
use Rattle.mem_versions.proofs.chip.Chip.cut.Goals as goal

pub invariant_of-self : goal.invariant_of-self
invariant_of-self c =
    let base = c.self.inside.base in
    let writes = c.self.inside.writes.items in
    let count = c.count_below-count.result in
    let later : c.self.inside.newest ≤ c.args.now.0 = omega (arith, ap (λ (v : ChipValue). v.newest) c.self.view_is) in
    IsSound-cut base c.self.inside.words.items c.replace-base.new.dest writes c.remove_first.new.writes.items c.self.inside.newest c.args.now.0 count
    c.self.invariant later
    (c.replace-base.ensures.after ∙ c.in_ok-words.ensures ∙ ap (λ (ws : List Write). words_after base (take count ws)) c.deref-4.ensures.value)
    c.remove_first.ensures

pub returns-clause-view : goal.returns-clause-view
returns-clause-view c =
    let now = c.args.now.0 in
    let chip = c.args.self.now in
    let is = c.self.view_is in
    let count = c.count_below-count.result in
    IsViewOf-made chip now c.new-view.result
    (ap (λ (v : ViewValue). v.from) c.new-view.ensures ∙ ap (λ (v : ChipValue). v.last) is)
    (ap (λ (v : ViewValue). v.to) c.new-view.ensures)
    (ap (λ (v : ViewValue). v.base) c.new-view.ensures ∙ c.replace-base.ensures.value ∙ ap (λ (v : ChipValue). v.base) is)
    (λ place.
    ap (λ (v : ViewValue). writes_to place v.writes) c.new-view.ensures
    ∙ c.in_ok-history.ensures.same place
    ∙ ap (λ (ws : List Write). writes_to place (take count ws)) c.deref-2.ensures.value
    ∙ ap (λ (ws : List Write). writes_to place (take count ws)) (sym c.deref.ensures.value)
    ∙ ap (writes_to place) c.count_below-count.ensures.below
    ∙ ap (λ (ws : List Write). writes_to place (writes_below now ws)) c.deref.ensures.value
    ∙ ap (λ (v : ChipValue). writes_to place (writes_below now v.writes)) is)
    (ap (λ (v : ViewValue). length v.writes) c.new-view.ensures
    ∙ c.in_ok-history.ensures.count
    ∙ ap (λ (ws : List Write). length (take count ws)) c.deref-2.ensures.value
    ∙ ap (λ (ws : List Write). length (take count ws)) (sym c.deref.ensures.value)
    ∙ ap length c.count_below-count.ensures.below
    ∙ ap (λ (ws : List Write). length (writes_below now ws)) c.deref.ensures.value
    ∙ ap (λ (v : ChipValue). length (writes_below now v.writes)) is)

pub count_below-count-requires : goal.count_below-count-requires
count_below-count-requires c = subst (IsNonDecreasingBy (λ (w : Write). w.clock)) (sym c.deref.ensures.value) c.self.invariant.stamped

pub slice_bounds-new-end : goal.slice_bounds-new-end
slice_bounds-new-end c =
    omega (
      arith,
      c.count_below-count.ensures.within,
      ap length c.deref.ensures.value,
      ap length c.deref-2.ensures.value,
      length-take c.count_below-count.result c.deref-2.result.now,
    )

pub new-requires : goal.new-requires
new-requires c =
    let count = c.count_below-count.result in
    record {
      order = subst (λ (ws : List Write). IsNonDecreasingBy (λ (w : Write). w.clock) (take count ws)) (sym c.deref-2.ensures.value)
          (IsNonDecreasingBy-take (λ w. w.clock) count c.self.inside.writes.items c.self.invariant.stamped);
    }

pub pages_after-requires-clause-within : goal.pages_after-requires-clause-within
pages_after-requires-clause-within c =
    omega (arith, c.count_below-count.ensures.within, ap length c.deref.ensures.value, ap length c.deref-4.ensures.value)

pub pages_after-requires-clause-present : goal.pages_after-requires-clause-present
pages_after-requires-clause-present c =
    c.deref-3.ensures.value ∙ c.self.invariant.present ∙ ap (words_after c.self.inside.base) (sym c.deref-4.ensures.value)

pub pages_after-requires-clause-same : goal.pages_after-requires-clause-same
pages_after-requires-clause-same c = λ place.
    c.in_ok-history.ensures.same place
    ∙ ap (λ (ws : List Write). writes_to place (take c.count_below-count.result ws)) (c.deref-2.ensures.value ∙ sym c.deref-4.ensures.value)

pub new-view-requires : goal.new-view-requires
new-view-requires c = omega (arith, ap length c.replace-base.ensures.value, c.count.ensures.size, c.in_ok-history.ensures.pages)

pub remove_first-requires : goal.remove_first-requires
remove_first-requires c = omega (arith, c.count_below-count.ensures.within, ap length c.deref.ensures.value)

pub returns-clause-cut : goal.returns-clause-cut
returns-clause-cut c =
    let now = c.args.now.0 in
    let count = c.count_below-count.result in
    let base = c.self.inside.base in
    let chip : ChipValue = record {
      last = c.self.inside.last;
      base = base;
      writes = c.self.inside.writes.items;
      words = c.self.inside.words.items;
      newest = c.self.inside.newest;
      reads = c.self.inside.reads;
    } in
    IsCut-made chip now count now c.replace-base.new.dest c.remove_first.new.writes.items refl
    (c.replace-base.ensures.after ∙ c.in_ok-words.ensures ∙ ap (λ (ws : List Write). words_after base (take count ws)) c.deref-4.ensures.value)
    c.remove_first.ensures
    (subst (λ (ws : List Write). take count ws ≡ writes_below now ws) c.deref.ensures.value c.count_below-count.ensures.below)
    (subst (λ (ws : List Write). drop count ws ≡ writes_from now ws) c.deref.ensures.value c.count_below-count.ensures.from)
    ∙ ap (λ v. after_cut v now) c.self.view_is
