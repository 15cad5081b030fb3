-- The memory of an image has whole pages, and nothing is written yet.
use Rattle.std.proofs.Common.{◌≤◌, ◌%◌, ◌/◌, ◌≡◌, ℕ, List, length, ap, sym, ◌∙◌, arith}
use Rattle.ocs_base.specs.Sizes.{bytes_of}
use Rattle.mem_versions.proofs.WordsLaws.{whole-groups, length-memory_of, some-words, few-words}
use Rattle.mem_versions.proofs.MemoryLaws.{IsSound-new}
use Rattle.mem_versions.proofs.chip.Chip.sized.Goals as goal

pub new-requires : goal.new-requires
new-requires c =
    let size = c.of_bytes-size.result in
    let fits : length c.args.image.now ≤ bytes_of size = omega (arith, c.requires.most, c.of_bytes-size.ensures.bytes) in
    ap (λ (words : List ℕ). length words % 8192) (c.deref.ensures.value ∙ c.in_ok-words.ensures) ∙ whole-groups size c.args.image.now fits

pub invariant_of-result : goal.invariant_of-result
invariant_of-result c =
    let size = c.of_bytes-size.result in
    let fits : length c.args.image.now ≤ bytes_of size = omega (arith, c.requires.most, c.of_bytes-size.ensures.bytes) in
    let count : length c.in_ok-base.base ≡ bytes_of size / 2 =
    ap length (c.in_ok-base.ensures ∙ c.deref.ensures.value ∙ c.in_ok-words.ensures) ∙ length-memory_of size c.args.image.now fits in
    IsSound-new c.in_ok-base.base c.in_ok-words.words.items c.new-2.result.items
    (some-words size (length c.in_ok-base.base) count) (few-words size (length c.in_ok-base.base) count)
    (sym (c.in_ok-base.ensures ∙ c.deref.ensures.value)) c.new-2.ensures.items
