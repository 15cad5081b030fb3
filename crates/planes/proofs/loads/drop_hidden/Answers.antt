-- Each turn looks at one load: it is hidden and goes, or it stays and its starts count.
use Rattle.std.proofs.Common.{arith, ◌≡◌, ◌⊎◌, ℕ, ◌<◌, ◌≤◌, ◌-◌, suc, max, min, get_or, List, [], false, sym, ap, subst, inl, inr}
use Rattle.planes.specs.declared.load.Load.{Load}
use Rattle.planes.proofs.Pruning.{HasPruned, HasPruned-start, HasPruned-removed, HasPruned-kept}
use Rattle.planes.proofs.loads.drop_hidden.Goals as goal
use Rattle.planes.proofs.loads.drop_hidden.Goals.{else-odd-max-via-then-odd-max+else-even-max, else-odd-max-via-else-odd-max}

blank : Load
blank = record { odd = 0; even = 0; words = []; hires = false }

pub loop-at-init : goal.loop-at-init
loop-at-init c =
    subst (λ (n : ℕ). HasPruned c.args.from c.args.load.now c.args.kept.now.items c.args.kept.now.items n c.args.load.now.odd c.args.load.now.even)
    (sym c.len-at.ensures.value)
    (HasPruned-start c.args.from c.args.load.now c.args.kept.now.items c.requires.odd c.requires.even)

pub loop-at-preserved-then-even-max : goal.loop-at-preserved-then-even-max
unfolding blank
loop-at-preserved-then-even-max c =
    let i : ℕ = c.loop-at.at - 1 in
    let e : Load = get_or c.as_slice.result.now i blank in
    let place : c.loop-at.at ≡ suc i = omega arith in
    let is : e ≡ get_or c.loop-at.kept.items i blank = ap (λ (l : List Load). get_or l i blank) c.as_slice.ensures.value in
    let odd : c.loop-at.odd ≤ max c.args.from e.odd = subst (λ (n : ℕ). c.loop-at.odd ≤ n) c.max.ensures c.if-odd-max.true in
    let even : c.loop-at.even ≤ max c.args.from e.even =
    subst (λ (n : ℕ). c.loop-at.even ≤ n) c.max-then-odd-max.ensures c.if-even-max.true in
    subst (λ (l : List Load). HasPruned c.args.from c.args.load.now c.args.kept.now.items l i c.loop-at.odd c.loop-at.even)
    (sym c.remove.ensures.items)
    (HasPruned-removed c.args.from c.args.load.now c.args.kept.now.items c.loop-at.kept.items c.loop-at.at i c.loop-at.odd c.loop-at.even
    blank e place c.loop-at.invariant is odd even)

pub loop-at-preserved : goal.loop-at-preserved
unfolding blank
loop-at-preserved c =
    let i : ℕ = c.loop-at.at - 1 in
    let e : Load = get_or c.as_slice.result.now i blank in
    let place : c.loop-at.at ≡ suc i = omega arith in
    let is : e ≡ get_or c.loop-at.kept.items i blank = ap (λ (l : List Load). get_or l i blank) c.as_slice.ensures.value in
    let needed : (max c.args.from e.odd < c.loop-at.odd) ⊎ (max c.args.from e.even < c.loop-at.even) =
    elim c.else-odd-max.branch [
      | else-odd-max-via-then-odd-max+else-even-max w ↦
          inr (subst (λ (n : ℕ). n < c.loop-at.even) w.max-then-odd-max.ensures w.if-even-max.false)
      | else-odd-max-via-else-odd-max w ↦ inl (subst (λ (n : ℕ). n < c.loop-at.odd) c.max.ensures w.if-odd-max.false)
    ] in
    subst (λ (n : ℕ). HasPruned c.args.from c.args.load.now c.args.kept.now.items c.loop-at.kept.items i n c.min-even.result) (sym c.min-odd.ensures)
    (subst (λ (n : ℕ). HasPruned c.args.from c.args.load.now c.args.kept.now.items c.loop-at.kept.items i (min c.loop-at.odd e.odd) n) (sym c.min-even.ensures)
    (HasPruned-kept c.args.from c.args.load.now c.args.kept.now.items c.loop-at.kept.items c.loop-at.at i c.loop-at.odd c.loop-at.even
    blank e place c.loop-at.invariant is needed))
