use Rattle.std.proofs.Common.{◌<◌, arith, refl, ap}
use Rattle.foreground.specs.Fore.{over}
use Rattle.clock_loop.proofs.AheadLaws.{alone_now, left_then, two_now, two_in_part, time_view, room_view, anew_view, if_ok_then, on_err_then}
use Rattle.clock_loop.proofs.ClockLaws.{first_can}
use Rattle.clock_loop.proofs.ahead.access_in_two.Goals as goal

pub access_in_two-requires-clause-alone : goal.access_in_two-requires-clause-alone
access_in_two-requires-clause-alone g c =
    let two = c.requires.two in
    let rests = c.requires.rests in
    let can = first_can c.args.limit c.args.left _ c.args.rest c.args.claim.now (over g.S.Side.seen c.args.fore.now) c.requires.fits.0
    (omega (arith, two)) c.requires.can c.requires.fits.1 c.requires.fresh in
    (c.args.rest, alone_now _ c.args.claim.now _ _ _ (ap (over g.S.Side.seen) c.fore.view_is) can (omega (arith, rests)) c.requires.alone)

pub access_in_two-requires-clause-next : goal.access_in_two-requires-clause-next
access_in_two-requires-clause-next g c =
    left_then c.args.limit c.args.left c.args.rest c.args.claim.now (over g.S.Side.seen c.args.fore.now) _ c.requires.fits.0 c.args.out.now
    (ap (over g.S.Side.seen) c.fore.view_is) c.requires.fits.1 c.requires.fresh c.requires.can c.requires.two c.requires.rests c.requires.alone

pub access_in_two-requires-clause-time : goal.access_in_two-requires-clause-time
access_in_two-requires-clause-time g c =
    time_view g.S.Side.seen _ c.args.fore.now c.fore.view_is (c.requires.fits.1 c.requires.fresh).1.at.time

pub access_in_two-requires-clause-count : goal.access_in_two-requires-clause-count
access_in_two-requires-clause-count g c =
    let two = c.requires.two in
    let some : 0 < c.args.left = omega (arith, two) in
    let line = (c.requires.can.line some).before in
    let limit = c.ranges.limit.fits in
    room_view g.S.Side.seen _ c.args.fore.now c.fore.view_is (omega (arith, line, two, limit))

pub access_in_two-requires-clause-anew : goal.access_in_two-requires-clause-anew
access_in_two-requires-clause-anew g c = anew_view g.S.Side.seen _ c.args.fore.now c.fore.view_is c.requires.anew

pub returns-clause-runs : goal.returns-clause-runs
returns-clause-runs g c =
    if_ok_then c.access_in_two.result (λ made told is. (two_now c.args.limit c.args.left c.args.rest c.args.claim.now
    (over g.S.Side.seen c.args.fore.now) _ _ c.requires.fits.0 _ _ (ap (over g.S.Side.seen) c.fore.view_is) c.requires.fits.1 c.requires.fresh
    c.requires.can c.requires.two c.requires.rests (told is)).runs) c.access_in_two.ensures.clocks

pub returns-clause-can : goal.returns-clause-can
returns-clause-can g c =
    if_ok_then c.access_in_two.result (λ made told is. (two_now c.args.limit c.args.left c.args.rest c.args.claim.now
    (over g.S.Side.seen c.args.fore.now) _ _ c.requires.fits.0 _ _ (ap (over g.S.Side.seen) c.fore.view_is) c.requires.fits.1 c.requires.fresh
    c.requires.can c.requires.two c.requires.rests (told is)).can) c.access_in_two.ensures.clocks

pub returns-clause-count : goal.returns-clause-count
returns-clause-count g c =
    if_ok_then c.access_in_two.result (λ made told is. (two_now c.args.limit c.args.left c.args.rest c.args.claim.now
    (over g.S.Side.seen c.args.fore.now) _ _ c.requires.fits.0 _ _ (ap (over g.S.Side.seen) c.fore.view_is) c.requires.fits.1 c.requires.fresh
    c.requires.can c.requires.two c.requires.rests (told is)).count) c.access_in_two.ensures.clocks

pub returns-clause-part : goal.returns-clause-part
returns-clause-part g c =
    on_err_then c.access_in_two.result (λ part seen. two_in_part c.args.limit c.args.left c.args.rest c.args.claim.now
    (over g.S.Side.seen c.args.fore.now) _ _ _ c.requires.fits.0 seen _ _ (ap (over g.S.Side.seen) c.fore.view_is) refl c.requires.fits.1
    c.requires.fresh c.requires.can c.requires.two c.requires.rests part) c.access_in_two.ensures.part
