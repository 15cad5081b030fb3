-- The load that is found gives the three planes their bits; where there is none they show 0.
use Rattle.std.proofs.Common.{arith, ◌≡◌, ◌≤◌, ℕ, ◌-◌, suc, get_or, List, [], false, refl, drop, None}
use Rattle.planes.specs.declared.load.Load.{Load}
use Rattle.planes.specs.PlaneBit.{plane_bit, shown_load}
use Rattle.planes.proofs.Searching.{found, none_at_all}
use Rattle.planes.proofs.shown.even_bits.Goals as goal

blank : Load
blank = record { odd = 0; even = 0; words = []; hires = false }

pub returns-then-load-x : goal.returns-then-load-x
unfolding blank
returns-then-load-x c =
    let loads : List Load = c.args.loads.now in
    let x : ℕ = c.args.x in
    let at : ℕ = c.loop-at.at in
    let i : ℕ = at - 1 in
    let e : Load = get_or loads i blank in
    let place : at ≡ suc i = omega arith in
    let started : e.even ≤ x = c.if-load-x.true in
    let none : shown_load 2 x (drop at loads) ≡ None = c.loop-at.invariant.1 in
    rw (
      c.three_bits.ensures,
      found 2 x loads at i blank e place c.loop-at.invariant.0 refl started none,
      found 4 x loads at i blank e place c.loop-at.invariant.0 refl started none,
      found 6 x loads at i blank e place c.loop-at.invariant.0 refl started none,
    )

pub returns : goal.returns
returns c =
    let loads : List Load = c.args.loads.now in
    let x : ℕ = c.args.x in
    let at : ℕ = c.loop-at.at in
    let start : at ≡ 0 = omega arith in
    let none : shown_load 2 x (drop at loads) ≡ None = c.loop-at.invariant.1 in
    let first : plane_bit 2 x loads ≡ 0 = none_at_all 2 x loads at start none in
    let second : plane_bit 4 x loads ≡ 0 = none_at_all 4 x loads at start none in
    let third : plane_bit 6 x loads ≡ 0 = none_at_all 6 x loads at start none in
    omega arith
