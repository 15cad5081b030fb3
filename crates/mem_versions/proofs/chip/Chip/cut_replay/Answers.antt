-- The replay has the writes before the cut, and the new base is the memory at the cut.
use Rattle.std.proofs.Common.{◌≡◌, ◌+◌, ◌*◌, ◌<◌, ◌≤◌, ℕ, List, All, length, take, drop, refl, ap, sym, subst, ◌∙◌, arith, length-take}
use Rattle.std.proofs.lemmas.List.Elements.{All-weaker}
use Rattle.std.proofs.lemmas.List.Sorted.{IsNonDecreasingBy-take}
use Rattle.std.specs.List.Sorted.{IsNonDecreasingBy}
use Rattle.mem_versions.specs.declared.write.Write.{Write}
use Rattle.mem_versions.specs.MemoryAt.{words_after, writes_to, writes_below, writes_from}
use Rattle.mem_versions.specs.Chip.{ChipValue, after_cut}
use Rattle.mem_versions.specs.MemView.{ViewValue}
use Rattle.mem_versions.specs.code.Replay.{ChangedValue, ReplayedValue, AreCovered, HoldsPages}
use Rattle.mem_versions.specs.Sound.{IsSound}
use Rattle.mem_versions.proofs.MemoryLaws.{IsSound-cut, IsViewOf-made}
use Rattle.mem_versions.proofs.CutLaws.{IsCut-made}
use Rattle.mem_versions.proofs.chip.Chip.cut_replay.Goals as goal

pub invariant_of-self-2 : goal.invariant_of-self-2
invariant_of-self-2 c =
    let base = c.self.inside.base in
    let writes = c.self.inside.writes.items in
    let count = c.count_below-count.result in
    let later : c.self.inside.newest ≤ c.args.now.0 = omega (arith, c.requires, ap (λ (v : ChipValue). v.newest) c.self.view_is) in
    IsSound-cut base c.self.inside.words.items c.replace-base.new.dest writes c.take_first.new.writes.items c.self.inside.newest c.args.now.0 count
    c.self.invariant later
    (c.replace-base.ensures.after ∙ c.in_ok-after.ensures ∙ ap (λ (ws : List Write). words_after base (take count ws)) c.deref-4.ensures.value)
    c.in_ok-writes.ensures.rest

pub returns-clause-view : goal.returns-clause-view
returns-clause-view c =
    let now = c.args.now.0 in
    let chip = c.args.self.now in
    let is = c.self.view_is in
    let count = c.count_below-count.result in
    let those : c.new-replayed.result.writes ≡ writes_below now chip.writes =
    ap (λ (v : ReplayedValue). v.writes) c.new-replayed.ensures
    ∙ c.in_ok-writes.ensures.first
    ∙ ap (take count) (sym c.deref.ensures.value)
    ∙ c.count_below-count.ensures.below
    ∙ ap (writes_below now) c.deref.ensures.value
    ∙ ap (λ (v : ChipValue). writes_below now v.writes) is in
    let view : ViewValue = record {
      from = c.replace-from.result;
      to = now;
      base = c.new-replayed.result.base;
      writes = c.new-replayed.result.writes;
    } in
    IsViewOf-made chip now view
    (c.replace-from.ensures.value ∙ ap (λ (v : ChipValue). v.last) is)
    refl
    (ap (λ (v : ReplayedValue). v.base) c.new-replayed.ensures ∙ c.replace-base.ensures.value ∙ ap (λ (v : ChipValue). v.base) is)
    (λ place. ap (writes_to place) those)
    (ap length those)

pub count_below-count-requires : goal.count_below-count-requires
count_below-count-requires c = subst (IsNonDecreasingBy (λ (w : Write). w.clock)) (sym c.deref.ensures.value) c.self.invariant.stamped

pub slice_bounds-new-end : goal.slice_bounds-new-end
slice_bounds-new-end c =
    omega (
      arith,
      c.count_below-count.ensures.within,
      ap length c.deref.ensures.value,
      ap length c.deref-2.ensures.value,
      length-take c.count_below-count.result c.deref-2.result.now,
    )

pub new-requires : goal.new-requires
new-requires c = omega (arith, c.count.ensures.size, c.self.invariant.few)

pub words_behind-requires-clause-within : goal.words_behind-requires-clause-within
words_behind-requires-clause-within c =
    omega (arith, c.count_below-count.ensures.within, ap length c.deref.ensures.value, ap length c.deref-4.ensures.value)

pub words_behind-requires-clause-present : goal.words_behind-requires-clause-present
words_behind-requires-clause-present c =
    c.deref-3.ensures.value ∙ c.self.invariant.present ∙ ap (words_after c.self.inside.base) (sym c.deref-4.ensures.value)

pub words_behind-requires-clause-size : goal.words_behind-requires-clause-size
words_behind-requires-clause-size c = omega (arith, c.in_ok-changed.ensures.size, c.count.ensures.size)

pub words_behind-requires-clause-numbered : goal.words_behind-requires-clause-numbered
words_behind-requires-clause-numbered c = c.in_ok-changed.ensures.numbered

pub words_behind-requires-clause-covered : goal.words_behind-requires-clause-covered
words_behind-requires-clause-covered c =
    let places = c.in_ok-changed.changed.places in
    let count = c.count_below-count.result in
    subst (λ (n : ℕ). AreCovered places (take count c.deref-4.result.now) (length (take count c.deref-4.result.now)) n) (sym c.count.ensures.size)
    (subst (λ (ws : List Write). AreCovered places (take count ws) (length (take count ws)) (256 * c.count.result))
    (c.deref-2.ensures.value ∙ sym c.deref-4.ensures.value) c.in_ok-changed.ensures.covered)

pub page_words-requires-clause-few : goal.page_words-requires-clause-few
page_words-requires-clause-few c =
    omega (arith, c.in_ok-changed.ensures.numbered.few, c.in_ok-changed.ensures.numbered.count, ap length c.deref-5.ensures.value)

pub page_words-requires-clause-within : goal.page_words-requires-clause-within
page_words-requires-clause-within c =
    let places = c.in_ok-changed.changed.places in
    let base = c.self.inside.base in
    let numbers : c.deref-5.result.now ≡ c.in_ok-changed.changed.numbers =
    c.deref-5.ensures.value ∙ ap (λ (v : ChangedValue). v.numbers) c.changed.view_is in
    let most : 256 * length places ≤ length base = omega (arith, c.in_ok-changed.ensures.size, c.count.ensures.size) in
    subst (λ (ns : List ℕ). All (λ number. 256 * number + 256 ≤ length base) ns) (sym numbers)
    (All-weaker (λ number. number < length places) (λ number. 256 * number + 256 ≤ length base) (λ number low. omega (arith, low, most))
    c.in_ok-changed.changed.numbers c.in_ok-changed.ensures.numbered.low)

pub take_first-requires : goal.take_first-requires
take_first-requires c = omega (arith, c.count_below-count.ensures.within, ap length c.deref.ensures.value)

pub new-replayed-requires-clause-order : goal.new-replayed-requires-clause-order
new-replayed-requires-clause-order c =
    subst (IsNonDecreasingBy (λ (w : Write). w.clock)) (sym c.in_ok-writes.ensures.first)
    (IsNonDecreasingBy-take (λ w. w.clock) c.count_below-count.result c.self.inside.writes.items c.self.invariant.stamped)

pub new-replayed-requires-clause-numbered : goal.new-replayed-requires-clause-numbered
new-replayed-requires-clause-numbered c = c.in_ok-changed.ensures.numbered

pub new-replayed-requires-clause-pages : goal.new-replayed-requires-clause-pages
new-replayed-requires-clause-pages c = omega (arith, c.in_ok-changed.ensures.size, c.count.ensures.size, ap length c.replace-base.ensures.value)

pub new-replayed-requires-clause-covered : goal.new-replayed-requires-clause-covered
new-replayed-requires-clause-covered c =
    let places = c.in_ok-changed.changed.places in
    let count = c.count_below-count.result in
    let writes = c.in_ok-writes.writes.items in
    subst (λ (n : ℕ). AreCovered places writes (length writes) n) (sym c.count.ensures.size ∙ ap length (sym c.replace-base.ensures.value))
    (subst (λ (ws : List Write). AreCovered places ws (length ws) (256 * c.count.result))
    (ap (take count) c.deref-2.ensures.value ∙ sym c.in_ok-writes.ensures.first) c.in_ok-changed.ensures.covered)

pub new-replayed-requires-clause-room : goal.new-replayed-requires-clause-room
new-replayed-requires-clause-room c =
    c.in_ok-words.ensures.room ∙ ap (λ (ns : List ℕ). 256 * length ns) (c.deref-5.ensures.value ∙ ap (λ (v : ChangedValue). v.numbers) c.changed.view_is)

pub new-replayed-requires-clause-begun : goal.new-replayed-requires-clause-begun
new-replayed-requires-clause-begun c =
    let words = c.in_ok-words.words.items in
    subst (λ (base : List ℕ). HoldsPages base c.in_ok-changed.changed.numbers words (length c.in_ok-changed.changed.numbers)) (sym c.replace-base.ensures.value)
    (subst (λ (ns : List ℕ). HoldsPages c.self.inside.base ns words (length ns))
    (c.deref-5.ensures.value ∙ ap (λ (v : ChangedValue). v.numbers) c.changed.view_is) c.in_ok-words.ensures.begun)

pub invariant_of-self : goal.invariant_of-self
invariant_of-self c =
    subst (λ (ws : List Write). IsSound c.self.inside.base c.self.inside.words.items ws c.self.inside.newest)
    (ap (λ ws. ws.items) (sym c.in_err-writes.ensures.refused)) c.self.invariant

pub returns-clause-cut : goal.returns-clause-cut
returns-clause-cut c =
    let now = c.args.now.0 in
    let count = c.count_below-count.result in
    let base = c.self.inside.base in
    let writes = c.self.inside.writes.items in
    let chip : ChipValue = record {
      last = c.self.inside.last;
      base = base;
      writes = writes;
      words = c.self.inside.words.items;
      newest = c.self.inside.newest;
      reads = c.self.inside.reads;
    } in
    IsCut-made chip now count c.replace-from.new.dest c.replace-base.new.dest c.take_first.new.writes.items c.replace-from.ensures.after
    (c.replace-base.ensures.after ∙ c.in_ok-after.ensures ∙ ap (λ (ws : List Write). words_after base (take count ws)) c.deref-4.ensures.value)
    c.in_ok-writes.ensures.rest
    (subst (λ (ws : List Write). take count ws ≡ writes_below now ws) c.deref.ensures.value c.count_below-count.ensures.below)
    (subst (λ (ws : List Write). drop count ws ≡ writes_from now ws) c.deref.ensures.value c.count_below-count.ensures.from)
    ∙ ap (λ v. after_cut v now) c.self.view_is
