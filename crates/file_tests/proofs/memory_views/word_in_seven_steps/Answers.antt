-- Eight steps would want 128 writes.
use Rattle.std.proofs.Common.{◌-◌, ◌+◌, ◌/◌, ◌^◌, ◌<◌, ◌≤◌, ◌==◌, ◌⊎◌, inl, inr, ℕ, arith}
use Rattle.std.proofs.Math.Pow.{pow_mono}
use Rattle.std.proofs.lemmas.Bool.{cases_lt}
use Rattle.std.proofs.lemmas.List.Sums.{count_by-le-length}
use Rattle.mem_versions.specs.declared.write.Write.{Write}
use Rattle.file_tests.proofs.memory_views.word_in_seven_steps.Goals as goal

seven-at-most : (old new : ℕ) → 2 ^ (new - old) ≤ 201 → new ≤ old + 7
seven-at-most old new few = by_cases (cases_lt (new - old) 8)
  where
    by_cases : ((new - old) < 8) ⊎ (8 ≤ (new - old)) → new ≤ old + 7
    by_cases (inl less) = omega arith
    by_cases (inr more) = let least : 2 ^ 8 ≤ 2 ^ (new - old) = pow_mono more in absurd (omega arith)

pub returns-clause-steps : goal.returns-clause-steps
returns-clause-steps g c =
    let writes = c.args.view.now.writes in
    let page = c.args.a.value / 2 / 256 in
    let few : 2 ^ (c.at_counted.new.steps - c.args.steps.now) ≤ 201 =
    omega (arith, c.at_counted.ensures.cost, count_by-le-length (λ (w : Write). w.place / 256 == page) writes) in
    seven-at-most c.args.steps.now c.at_counted.new.steps few
