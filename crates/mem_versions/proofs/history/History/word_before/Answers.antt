-- Only the writes to the page count.
use Rattle.std.proofs.Common.{◌≡◌, ◌==◌, ◌/◌, List, [], length, ap, sym, ◌∙◌, arith}
use Rattle.std.proofs.lemmas.Bool.Decides.{nat_tests}
use Rattle.std.proofs.lemmas.List.{nil_from_length}
use Rattle.std.proofs.lemmas.List.Sums.{length-filter}
use Rattle.mem_versions.specs.declared.write.Write.{Write}
use Rattle.mem_versions.specs.code.History.{word_before}
use Rattle.mem_versions.proofs.MemoryLaws.{word_before-filter}
use Rattle.mem_versions.proofs.OrderLaws.{same-page}
use Rattle.mem_versions.proofs.history.History.word_before.Goals as goal

pub returns-clause-word : goal.returns-clause-word
returns-clause-word g c =
    let place = c.args.place in
    let clock = c.args.clock in
    c.last_before.ensures.word
    ∙ ap (λ (ws : List Write). word_before place clock ws c.args.word) c.page-writes.ensures.writes
    ∙ word_before-filter (λ w. w.place / 256 == place / 256) place clock c.args.self.now.writes c.args.word (λ w counts. same-page place clock w counts)

pub returns-clause-cost : goal.returns-clause-cost
returns-clause-cost g c =
    let writes = c.args.self.now.writes in
    omega (arith, c.last_before.ensures.cost, ap length c.page-writes.ensures.writes, length-filter (λ (w : Write). w.place / 256 == c.args.place / 256) writes)

pub returns-then-is_empty-clause-word : goal.returns-then-is_empty-clause-word
returns-then-is_empty-clause-word g c =
    let place = c.args.place in
    let clock = c.args.clock in
    let empty : length c.page-writes.result.now ≡ 0 = grind (arith, nat_tests, c.if-is_empty.ensures) in
    let none : [] ≡ c.page-writes.result.now = sym (nil_from_length c.page-writes.result.now empty) in
    ap (λ (ws : List Write). word_before place clock ws c.args.word) (none ∙ c.page-writes.ensures.writes)
    ∙ word_before-filter (λ w. w.place / 256 == place / 256) place clock c.args.self.now.writes c.args.word (λ w counts. same-page place clock w counts)
