use Rattle.std.proofs.Common.{◌≡◌, ◌-◌, arith, ap, subst, sym, ◌∙◌, None}
use Rattle.foreground.proofs.MadeLaws.{on_err}
use Rattle.foreground.specs.Fore.{over}
use Rattle.clock_loop.specs.code.BusRun.{CanMakeClocks}
use Rattle.clock_loop.proofs.ClockLaws.{first_can, next_can, run_and_clock, run_and_part, run_and_none, none_fewer, all_left}
use Rattle.clock_loop.proofs.LineLaws.{can_go_then}
use Rattle.foreground.proofs.RefusalLaws.{no_value, not_ok}
use Rattle.clock_loop.proofs.ahead.some_alone.Goals as goal

pub clock_alone-requires-clause-can : goal.clock_alone-requires-clause-can
clock_alone-requires-clause-can g c =
    let of = over g.S.Side.seen in
    let f0 = of c.args.fore.now in
    let g1 = of c.accesses_in_two.new.fore in
    let gt = c.if-made-gt0.false in
    let none : c.in_ok-made.made ≡ 0 = omega (arith, gt) in
    let can = none_fewer c.args.limit c.args.left _ c.args.rest None c.args.claim.now g1 none c.in_ok-made.ensures.can in
    let line = (can.line c.requires.some).before in
    let some = c.requires.some in
    let able = can_go_then f0 g1 c.requires.fits.0 c.requires.fits.0 _ _ (c.in_ok-made.ensures.runs c.requires.fits.0).clocks c.requires.fresh
    c.requires.fits.1 in
    (c.requires.fits.0, first_can c.args.limit c.args.left None c.args.rest c.args.claim.now g1 _ c.requires.some can able c.in_ok-made.ensures.fresh)

pub returns-in_err-clock_alone-clause-part : goal.returns-in_err-clock_alone-clause-part
returns-in_err-clock_alone-clause-part g c =
    let of = over g.S.Side.seen in
    let f0 = of c.args.fore.now in
    let g1 = of c.accesses_in_two.new.fore in
    let gt = c.if-made-gt0.false in
    let none : c.in_ok-made.made ≡ 0 = omega (arith, gt) in
    let can = none_fewer c.args.limit c.args.left _ c.args.rest None c.args.claim.now g1 none c.in_ok-made.ensures.can in
    let line = (can.line c.requires.some).before in
    let some = c.requires.some in
    let able = can_go_then f0 g1 c.requires.fits.0 c.requires.fits.0 _ _ (c.in_ok-made.ensures.runs c.requires.fits.0).clocks c.requires.fresh
    c.requires.fits.1 in
    on_err c.from_residual-in_err-clock_alone.result
    (λ seen. run_and_part c.args.limit f0 g1 (of c.clock_alone.new.fore) _ seen seen seen _ _ _ able c.in_ok-made.ensures.fresh
    c.accesses_in_two.ensures.run (omega (arith, line, some)) (c.in_ok-made.ensures.runs seen) (c.in_err-clock_alone.ensures.part seen))

pub returns-then-branch-clause-runs : goal.returns-then-branch-clause-runs
returns-then-branch-clause-runs g c seen =
    let of = over g.S.Side.seen in
    let f0 = of c.args.fore.now in
    let g1 = of c.accesses_in_two.new.fore in
    let gt = c.if-made-gt0.false in
    let none : c.in_ok-made.made ≡ 0 = omega (arith, gt) in
    let can = none_fewer c.args.limit c.args.left _ c.args.rest None c.args.claim.now g1 none c.in_ok-made.ensures.can in
    let line = (can.line c.requires.some).before in
    let some = c.requires.some in
    let able = can_go_then f0 g1 c.requires.fits.0 c.requires.fits.0 _ _ (c.in_ok-made.ensures.runs c.requires.fits.0).clocks c.requires.fresh
    c.requires.fits.1 in
    let h = of c.clock_alone.new.fore in
    let made = c.in_ok-clock_alone.ensures.made c.if-branch.true in
    run_and_clock c.args.limit f0 g1 h _ seen seen seen _ _ _ able c.in_ok-made.ensures.fresh c.accesses_in_two.ensures.run
    (omega (arith, line, some)) (c.in_ok-made.ensures.runs seen) (made seen)

pub returns-then-branch-clause-can : goal.returns-then-branch-clause-can
returns-then-branch-clause-can g c =
    let of = over g.S.Side.seen in
    let f0 = of c.args.fore.now in
    let g1 = of c.accesses_in_two.new.fore in
    let gt = c.if-made-gt0.false in
    let none : c.in_ok-made.made ≡ 0 = omega (arith, gt) in
    let can = none_fewer c.args.limit c.args.left _ c.args.rest None c.args.claim.now g1 none c.in_ok-made.ensures.can in
    let line = (can.line c.requires.some).before in
    let some = c.requires.some in
    let able = can_go_then f0 g1 c.requires.fits.0 c.requires.fits.0 _ _ (c.in_ok-made.ensures.runs c.requires.fits.0).clocks c.requires.fresh
    c.requires.fits.1 in
    let h = of c.clock_alone.new.fore in
    let made = c.in_ok-clock_alone.ensures.made c.if-branch.true in
    next_can c.args.limit c.args.left None c.args.rest _ c.args.claim.now g1 h c.requires.fits.0 c.requires.fits.0 _ _ c.requires.some can
    c.clock_alone.ensures.run (made c.requires.fits.0) (c.in_ok-clock_alone.ensures.bus c.if-branch.true)

pub returns-then-branch-clause-fresh : goal.returns-then-branch-clause-fresh
returns-then-branch-clause-fresh g c =
    let of = over g.S.Side.seen in
    let f0 = of c.args.fore.now in
    let g1 = of c.accesses_in_two.new.fore in
    let gt = c.if-made-gt0.false in
    let none : c.in_ok-made.made ≡ 0 = omega (arith, gt) in
    let can = none_fewer c.args.limit c.args.left _ c.args.rest None c.args.claim.now g1 none c.in_ok-made.ensures.can in
    let line = (can.line c.requires.some).before in
    let some = c.requires.some in
    let able = can_go_then f0 g1 c.requires.fits.0 c.requires.fits.0 _ _ (c.in_ok-made.ensures.runs c.requires.fits.0).clocks c.requires.fresh
    c.requires.fits.1 in
    let h = of c.clock_alone.new.fore in
    let made = c.in_ok-clock_alone.ensures.made c.if-branch.true in
    (made c.requires.fits.0).spent ∙ c.in_ok-made.ensures.fresh

pub returns-then-branch-clause-count : goal.returns-then-branch-clause-count
returns-then-branch-clause-count g c =
    let of = over g.S.Side.seen in
    let f0 = of c.args.fore.now in
    let g1 = of c.accesses_in_two.new.fore in
    let gt = c.if-made-gt0.false in
    let none : c.in_ok-made.made ≡ 0 = omega (arith, gt) in
    let can = none_fewer c.args.limit c.args.left _ c.args.rest None c.args.claim.now g1 none c.in_ok-made.ensures.can in
    let line = (can.line c.requires.some).before in
    let some = c.requires.some in
    let able = can_go_then f0 g1 c.requires.fits.0 c.requires.fits.0 _ _ (c.in_ok-made.ensures.runs c.requires.fits.0).clocks c.requires.fresh
    c.requires.fits.1 in
    let h = of c.clock_alone.new.fore in
    let made = c.in_ok-clock_alone.ensures.made c.if-branch.true in
    let before = c.in_ok-made.ensures.count in
    let count = (made c.requires.fits.0).count in
    omega (arith, none, before, count)

pub returns-then-branch-clause-still : goal.returns-then-branch-clause-still
returns-then-branch-clause-still g c same =
    let of = over g.S.Side.seen in
    let f0 = of c.args.fore.now in
    let g1 = of c.accesses_in_two.new.fore in
    let gt = c.if-made-gt0.false in
    let none : c.in_ok-made.made ≡ 0 = omega (arith, gt) in
    let can = none_fewer c.args.limit c.args.left _ c.args.rest None c.args.claim.now g1 none c.in_ok-made.ensures.can in
    let line = (can.line c.requires.some).before in
    let some = c.requires.some in
    let able = can_go_then f0 g1 c.requires.fits.0 c.requires.fits.0 _ _ (c.in_ok-made.ensures.runs c.requires.fits.0).clocks c.requires.fresh
    c.requires.fits.1 in
    let h = of c.clock_alone.new.fore in
    let made = c.in_ok-clock_alone.ensures.made c.if-branch.true in
    let on = (c.in_ok-made.ensures.runs c.requires.fits.0).on in
    let count = (made c.requires.fits.0).count in
    absurd (omega (arith, on, count, same))

pub returns-clause-runs : goal.returns-clause-runs
returns-clause-runs g c seen =
    let of = over g.S.Side.seen in
    let f0 = of c.args.fore.now in
    let g1 = of c.accesses_in_two.new.fore in
    let gt = c.if-made-gt0.false in
    let none : c.in_ok-made.made ≡ 0 = omega (arith, gt) in
    let can = none_fewer c.args.limit c.args.left _ c.args.rest None c.args.claim.now g1 none c.in_ok-made.ensures.can in
    let line = (can.line c.requires.some).before in
    let some = c.requires.some in
    let able = can_go_then f0 g1 c.requires.fits.0 c.requires.fits.0 _ _ (c.in_ok-made.ensures.runs c.requires.fits.0).clocks c.requires.fresh
    c.requires.fits.1 in
    run_and_none c.args.limit f0 g1 (of c.clock_alone.new.fore) seen seen _ _ _ (ap of (c.in_ok-clock_alone.ensures.none c.if-branch.false))
    (c.in_ok-clock_alone.ensures.given c.if-branch.false) (c.in_ok-made.ensures.runs seen)

pub returns-clause-can : goal.returns-clause-can
returns-clause-can g c =
    let of = over g.S.Side.seen in
    let f0 = of c.args.fore.now in
    let g1 = of c.accesses_in_two.new.fore in
    let gt = c.if-made-gt0.false in
    let none : c.in_ok-made.made ≡ 0 = omega (arith, gt) in
    let can = none_fewer c.args.limit c.args.left _ c.args.rest None c.args.claim.now g1 none c.in_ok-made.ensures.can in
    let line = (can.line c.requires.some).before in
    let some = c.requires.some in
    let able = can_go_then f0 g1 c.requires.fits.0 c.requires.fits.0 _ _ (c.in_ok-made.ensures.runs c.requires.fits.0).clocks c.requires.fresh
    c.requires.fits.1 in
    subst (λ x. CanMakeClocks c.args.limit (c.args.left - 0) None (c.args.rest - 0) c.args.claim.now x)
    (sym (ap of (c.in_ok-clock_alone.ensures.none c.if-branch.false)))
    (all_left c.args.limit c.args.left None c.args.rest c.args.claim.now g1 can)

pub accesses_in_two-requires-clause-fresh : goal.accesses_in_two-requires-clause-fresh
accesses_in_two-requires-clause-fresh g c = c.requires.fresh

pub accesses_in_two-requires-clause-can : goal.accesses_in_two-requires-clause-can
accesses_in_two-requires-clause-can g c = c.requires.can

pub accesses_in_two-requires-clause-alone : goal.accesses_in_two-requires-clause-alone
accesses_in_two-requires-clause-alone g c = c.requires.alone

pub returns-in_err-made-clause-most : goal.returns-in_err-made-clause-most
returns-in_err-made-clause-most g c = no_value c.from_residual.result _ c.from_residual.ensures.0

pub returns-in_err-made-clause-rest : goal.returns-in_err-made-clause-rest
returns-in_err-made-clause-rest g c = no_value c.from_residual.result _ c.from_residual.ensures.0

pub returns-in_err-made-clause-count : goal.returns-in_err-made-clause-count
returns-in_err-made-clause-count g c = no_value c.from_residual.result _ c.from_residual.ensures.0

pub returns-in_err-made-clause-runs : goal.returns-in_err-made-clause-runs
returns-in_err-made-clause-runs g c = not_ok c.from_residual.result _ c.from_residual.ensures.0

pub returns-in_err-made-clause-can : goal.returns-in_err-made-clause-can
returns-in_err-made-clause-can g c = no_value c.from_residual.result _ c.from_residual.ensures.0

pub returns-in_err-made-clause-fresh : goal.returns-in_err-made-clause-fresh
returns-in_err-made-clause-fresh g c = not_ok c.from_residual.result _ c.from_residual.ensures.0

pub returns-in_err-made-clause-still : goal.returns-in_err-made-clause-still
returns-in_err-made-clause-still g c = not_ok c.from_residual.result _ c.from_residual.ensures.0

pub returns-then-made-gt0-clause-part : goal.returns-then-made-gt0-clause-part
returns-then-made-gt0-clause-part g c = tt

pub returns-then-made-gt0-clause-run : goal.returns-then-made-gt0-clause-run
returns-then-made-gt0-clause-run g c = c.accesses_in_two.ensures.run

pub clock_alone-requires-clause-alone : goal.clock_alone-requires-clause-alone
clock_alone-requires-clause-alone g c = c.requires.alone

pub returns-in_err-clock_alone-clause-most : goal.returns-in_err-clock_alone-clause-most
returns-in_err-clock_alone-clause-most g c = no_value c.from_residual-in_err-clock_alone.result _ c.from_residual-in_err-clock_alone.ensures.0

pub returns-in_err-clock_alone-clause-rest : goal.returns-in_err-clock_alone-clause-rest
returns-in_err-clock_alone-clause-rest g c = no_value c.from_residual-in_err-clock_alone.result _ c.from_residual-in_err-clock_alone.ensures.0

pub returns-in_err-clock_alone-clause-count : goal.returns-in_err-clock_alone-clause-count
returns-in_err-clock_alone-clause-count g c = no_value c.from_residual-in_err-clock_alone.result _ c.from_residual-in_err-clock_alone.ensures.0

pub returns-in_err-clock_alone-clause-runs : goal.returns-in_err-clock_alone-clause-runs
returns-in_err-clock_alone-clause-runs g c = not_ok c.from_residual-in_err-clock_alone.result _ c.from_residual-in_err-clock_alone.ensures.0

pub returns-in_err-clock_alone-clause-can : goal.returns-in_err-clock_alone-clause-can
returns-in_err-clock_alone-clause-can g c = no_value c.from_residual-in_err-clock_alone.result _ c.from_residual-in_err-clock_alone.ensures.0

pub returns-in_err-clock_alone-clause-fresh : goal.returns-in_err-clock_alone-clause-fresh
returns-in_err-clock_alone-clause-fresh g c = not_ok c.from_residual-in_err-clock_alone.result _ c.from_residual-in_err-clock_alone.ensures.0

pub returns-in_err-clock_alone-clause-still : goal.returns-in_err-clock_alone-clause-still
returns-in_err-clock_alone-clause-still g c = not_ok c.from_residual-in_err-clock_alone.result _ c.from_residual-in_err-clock_alone.ensures.0

pub returns-then-branch-clause-part : goal.returns-then-branch-clause-part
returns-then-branch-clause-part g c = tt

pub returns-clause-part : goal.returns-clause-part
returns-clause-part g c = tt

pub returns-then-made-gt0-clause-can : goal.returns-then-made-gt0-clause-can
returns-then-made-gt0-clause-can g c = c.in_ok-made.ensures.can

pub returns-then-made-gt0-clause-count : goal.returns-then-made-gt0-clause-count
returns-then-made-gt0-clause-count g c = c.in_ok-made.ensures.count

pub returns-then-made-gt0-clause-fresh : goal.returns-then-made-gt0-clause-fresh
returns-then-made-gt0-clause-fresh g c = c.in_ok-made.ensures.fresh

pub returns-then-made-gt0-clause-still : goal.returns-then-made-gt0-clause-still
returns-then-made-gt0-clause-still g c = c.in_ok-made.ensures.still
