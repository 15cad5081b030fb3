-- The load that is found gives the three planes their bits; where there is none they show 0.
use Rattle.std.proofs.Common.{arith, ◌≡◌, ◌≤◌, ℕ, ◌-◌, suc, get_or, List, [], false, refl, drop, None}
use Rattle.planes.specs.declared.load.Load.{Load}
use Rattle.planes.specs.PlaneBit.{plane_bit, shown_load}
use Rattle.planes.proofs.Searching.{found, none_at_all}
use Rattle.planes.proofs.shown.odd_bits.Goals as goal

blank : Load
blank = record { odd = 0; even = 0; words = []; hires = false }

pub returns-then-load-x : goal.returns-then-load-x
unfolding blank
returns-then-load-x c =
    let loads : List Load = c.args.loads.now in
    let x : ℕ = c.args.x in
    let at : ℕ = c.loop-at.at in
    let i : ℕ = at - 1 in
    let e : Load = get_or loads i blank in
    let place : at ≡ suc i = omega arith in
    let started : e.odd ≤ x = c.if-load-x.true in
    let none : shown_load 1 x (drop at loads) ≡ None = c.loop-at.invariant.1 in
    rw (
      c.three_bits.ensures,
      found 1 x loads at i blank e place c.loop-at.invariant.0 refl started none,
      found 3 x loads at i blank e place c.loop-at.invariant.0 refl started none,
      found 5 x loads at i blank e place c.loop-at.invariant.0 refl started none,
    )

pub returns : goal.returns
returns c =
    let loads : List Load = c.args.loads.now in
    let x : ℕ = c.args.x in
    let at : ℕ = c.loop-at.at in
    let start : at ≡ 0 = omega arith in
    let none : shown_load 1 x (drop at loads) ≡ None = c.loop-at.invariant.1 in
    let first : plane_bit 1 x loads ≡ 0 = none_at_all 1 x loads at start none in
    let second : plane_bit 3 x loads ≡ 0 = none_at_all 3 x loads at start none in
    let third : plane_bit 5 x loads ≡ 0 = none_at_all 5 x loads at start none in
    omega arith
