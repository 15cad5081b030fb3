-- A page is a part of the words, and its reads are counted.
use Rattle.std.proofs.Common.{◌≡◌, ◌+◌, ◌-◌, ◌*◌, ℕ, List, length, take, drop, refl, ap, ◌∙◌, arith, length-take, length-drop}
use Rattle.mem_versions.specs.Chip.{ChipValue, after_reads}
use Rattle.mem_versions.proofs.MemoryLaws.{length-words_after}
use Rattle.mem_versions.proofs.chip.Chip.page.Goals as goal

pub invariant_of-self : goal.invariant_of-self
invariant_of-self c = c.self.invariant

pub overflow_mul-result : goal.overflow_mul-result
overflow_mul-result c =
    omega (
      arith,
      c.requires,
      c.self.invariant.few,
      ap length c.self.invariant.present,
      ap (λ (v : ChipValue). length v.words) c.self.view_is,
      length-words_after c.self.inside.base c.self.inside.writes.items,
    )

pub overflow_mul-result-2 : goal.overflow_mul-result-2
overflow_mul-result-2 c =
    omega (
      arith,
      c.requires,
      c.self.invariant.few,
      ap length c.self.invariant.present,
      ap (λ (v : ChipValue). length v.words) c.self.view_is,
      length-words_after c.self.inside.base c.self.inside.writes.items,
    )

pub overflow_add-result : goal.overflow_add-result
overflow_add-result c =
    omega (
      arith,
      c.requires,
      c.self.invariant.few,
      ap length c.self.invariant.present,
      ap (λ (v : ChipValue). length v.words) c.self.view_is,
      length-words_after c.self.inside.base c.self.inside.writes.items,
    )

pub offset_bounds-deref-number : goal.offset_bounds-deref-number
offset_bounds-deref-number c =
    omega (
      arith,
      c.requires,
      c.self.invariant.few,
      ap length c.self.invariant.present,
      ap (λ (v : ChipValue). length v.words) c.self.view_is,
      length-words_after c.self.inside.base c.self.inside.writes.items,
    )

pub slice_bounds-result-count : goal.slice_bounds-result-count
slice_bounds-result-count c = omega arith

pub slice_bounds-result-start : goal.slice_bounds-result-start
slice_bounds-result-start c = omega arith

pub slice_bounds-result-end : goal.slice_bounds-result-end
slice_bounds-result-end c = omega (arith, c.requires, ap length c.deref.ensures.value, ap (λ (v : ChipValue). length v.words) c.self.view_is)

pub returns : goal.returns
returns c =
    let n = c.args.number in
    let chip : ChipValue = record {
      last = c.self.inside.last;
      base = c.self.inside.base;
      writes = c.self.inside.writes.items;
      words = c.self.inside.words.items;
      newest = c.self.inside.newest;
      reads = c.self.inside.reads;
    } in
    let room : 256 * n + 256 - 256 * n ≡ 256 = omega arith in
    let words : take (256 * n + 256 - 256 * n) (drop (256 * n) c.deref.result.now) ≡ take 256 (drop (256 * n) c.args.self.now.words) =
    ap (λ (k : ℕ). take k (drop (256 * n) c.deref.result.now)) room
    ∙ ap (λ (ws : List ℕ). take 256 (drop (256 * n) ws)) (c.deref.ensures.value ∙ ap (λ (v : ChipValue). v.words) c.self.view_is) in
    let size : length (take 256 (drop (256 * n) c.args.self.now.words)) ≡ 256 =
    omega (arith, c.requires, length-take 256 (drop (256 * n) c.args.self.now.words), length-drop (256 * n) c.args.self.now.words) in (
      (refl, λ end. tt, ap (λ (k : ℕ). record chip { reads = k }) c.saturating_add-self-inside.ensures ∙ ap (λ v. after_reads v 256) c.self.view_is),
      record { reads = tt; words = words; size = ap length words ∙ size },
    )
