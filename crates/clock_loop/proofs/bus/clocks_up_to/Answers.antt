use Rattle.std.proofs.Common.{◌<◌, ◌-◌, arith, refl, ◌∙◌, ap, subst}
use Rattle.std.proofs.lemmas.Result.{on_err_weaker, on_ok_weaker}
use Rattle.foreground.specs.Fore.{over}
use Rattle.clock_loop.specs.code.BusRun.{CanMakeClocks, is_made, stays_left}
use Rattle.clock_loop.proofs.BusLaws.{no_rest, none_made, no_unit, unit_as, unit_stays}
use Rattle.clock_loop.proofs.ClockLaws.{HasGoneOn, first_can, next_can, gone_then, gone_by_clock, gone_in_part, gone_in_part_run, gone_untold}
use Rattle.clock_loop.proofs.LineLaws.{nothing_made}
use Rattle.clock_loop.proofs.bus.clocks_up_to.Goals as goal
use Rattle.clock_loop.proofs.bus.clocks_up_to.Goals.{then-made-gt0, else-made-gt0}

pub loop-unit-init : goal.loop-unit-init
loop-unit-init g c = record {
  able = c.requires.fits;
  ran = none_made _ _ _ _;
  run = refl;
  fresh = c.requires.fresh;
  still = λ there. refl;
  room = omega arith;
  unit = no_unit c.args.fore.now.machine.beam.h c.args.fore.now.machine.chips.last _ c.none-unit.ensures;
  can = record {
    line = c.requires.bus.line;
    leave = c.requires.bus.leave;
    ready = c.requires.bus.ready;
    claims = λ some. c.requires.bus.asks;
    rests = λ some. no_rest c.args.fore.now.machine.t c.args.fore.now.machine.chips;
  };
}

pub returns-in-Err-clause-part : goal.returns-in-Err-clause-part
returns-in-Err-clause-part g c =
    let of = over g.S.Side.seen in
    let f0 = of c.args.fore.now in
    let f = of c.loop-unit.fore in
    let g1 = of c.run_alone.new.fore in
    let s0 = g.Q.Raster.seen c.args.raster.now in
    let s = g.Q.Raster.seen c.loop-unit.raster in
    let inv = c.loop-unit.invariant in
    let before = c.has_more.ensures.some c.loop-unit-test.true in
    let some : 0 < c.args.end - c.loop-unit.fore.machine.t = omega (arith, before) in
    let line = (inv.can.line some).before in
    let gone0 : HasGoneOn c.args.limit f0 f s0 s c.args.out.now c.loop-unit.out =
    record { able = inv.able; fresh = inv.fresh; run = inv.run; ran = inv.ran } in
    gone_in_part_run c.args.limit f0 f g1 _ s0 s s _ _ _ gone0 (omega (arith, line)) (c.in-Err.ensures.part s)
    (ap (λ x. x.machine.chip.reads) c.fore.view_is)

pub returns-then-is_last-clause-runs : goal.returns-then-is_last-clause-runs
returns-then-is_last-clause-runs g c =
    let of = over g.S.Side.seen in
    let f0 = of c.args.fore.now in
    let f = of c.loop-unit.fore in
    let g1 = of c.run_alone.new.fore in
    let s0 = g.Q.Raster.seen c.args.raster.now in
    let s = g.Q.Raster.seen c.loop-unit.raster in
    let inv = c.loop-unit.invariant in
    let before = c.has_more.ensures.some c.loop-unit-test.true in
    let some : 0 < c.args.end - c.loop-unit.fore.machine.t = omega (arith, before) in
    let line = (inv.can.line some).before in
    let gone0 : HasGoneOn c.args.limit f0 f s0 s c.args.out.now c.loop-unit.out =
    record { able = inv.able; fresh = inv.fresh; run = inv.run; ran = inv.ran } in
    let gone = gone_then c.args.limit f0 f g1 s0 s s _ _ _ gone0 (omega (arith, line)) c.run_alone.ensures.run c.in-Ok.ensures.fresh
    (c.in-Ok.ensures.runs s) in
    gone.ran

pub returns-then-is_last-clause-still : goal.returns-then-is_last-clause-still
returns-then-is_last-clause-still g c same =
    let more = (c.in-Ok.ensures.runs (g.Q.Raster.seen c.loop-unit.raster)).on in
    nothing_made c.args.fore.now c.loop-unit.fore c.run_alone.new.fore c.loop-unit.invariant.ran.on more c.loop-unit.invariant.still
    c.in-Ok.ensures.still (omega (arith, same))

pub clock_on_bus-requires-clause-can : goal.clock_on_bus-requires-clause-can
clock_on_bus-requires-clause-can g c =
    let of = over g.S.Side.seen in
    let f0 = of c.args.fore.now in
    let f = of c.loop-unit.fore in
    let g1 = of c.run_alone.new.fore in
    let s0 = g.Q.Raster.seen c.args.raster.now in
    let s = g.Q.Raster.seen c.loop-unit.raster in
    let inv = c.loop-unit.invariant in
    let before = c.has_more.ensures.some c.loop-unit-test.true in
    let some : 0 < c.args.end - c.loop-unit.fore.machine.t = omega (arith, before) in
    let line = (inv.can.line some).before in
    let gone0 : HasGoneOn c.args.limit f0 f s0 s c.args.out.now c.loop-unit.out =
    record { able = inv.able; fresh = inv.fresh; run = inv.run; ran = inv.ran } in
    let gone = gone_then c.args.limit f0 f g1 s0 s s _ _ _ gone0 (omega (arith, line)) c.run_alone.ensures.run c.in-Ok.ensures.fresh
    (c.in-Ok.ensures.runs s) in
    let most = c.in-Ok.ensures.most in
    let left = c.clocks_left-left.ensures in
    let fewer = c.is_last.ensures.more c.if-is_last.false (omega (arith, left, some)) most in
    let more : 0 < c.clocks_left-left.result - c.in-Ok.made = omega (arith, fewer) in
    let next = (c.in-Ok.ensures.can.line more).before in
    (s, first_can c.args.limit _ (g.T.Turn.rules c.args.turn.now) _ c.args.claim.now g1 s more c.in-Ok.ensures.can gone.able gone.fresh)

pub loop-unit-preserved : goal.loop-unit-preserved
loop-unit-preserved g c =
    let of = over g.S.Side.seen in
    let f0 = of c.args.fore.now in
    let f = of c.loop-unit.fore in
    let g1 = of c.run_alone.new.fore in
    let s0 = g.Q.Raster.seen c.args.raster.now in
    let s = g.Q.Raster.seen c.loop-unit.raster in
    let inv = c.loop-unit.invariant in
    let before = c.has_more.ensures.some c.loop-unit-test.true in
    let some : 0 < c.args.end - c.loop-unit.fore.machine.t = omega (arith, before) in
    let line = (inv.can.line some).before in
    let gone0 : HasGoneOn c.args.limit f0 f s0 s c.args.out.now c.loop-unit.out =
    record { able = inv.able; fresh = inv.fresh; run = inv.run; ran = inv.ran } in
    let gone = gone_then c.args.limit f0 f g1 s0 s s _ _ _ gone0 (omega (arith, line)) c.run_alone.ensures.run c.in-Ok.ensures.fresh
    (c.in-Ok.ensures.runs s) in
    let most = c.in-Ok.ensures.most in
    let left = c.clocks_left-left.ensures in
    let fewer = c.is_last.ensures.more c.if-is_last.false (omega (arith, left, some)) most in
    let more : 0 < c.clocks_left-left.result - c.in-Ok.made = omega (arith, fewer) in
    let next = (c.in-Ok.ensures.can.line more).before in
    let h = of c.clock_on_bus.new.fore in
    let made = c.in-Ok-Stays.ensures.made (ap is_made c.in-Ok-Stays.field-0-is) s in
    let all = gone_by_clock c.args.limit f0 g1 h s0 s s _ _ _ gone (omega (arith, more, next)) c.clock_on_bus.ensures.run made in
    let on = gone.ran.on in
    let count = made.count in
    let counted = c.in-Ok.ensures.count in
    let room = c.loop-unit.invariant.room in
    record {
      able = all.able;
      ran = all.ran;
      run = all.run;
      fresh = all.fresh;
      still = λ same. absurd (omega (arith, on, count, same));
      unit = c.in-Ok-Stays.ensures.unit (ap stays_left c.in-Ok-Stays.field-0-is);
      room = (let few = c.clock_on_bus.ensures.few (omega (arith, room, counted, before, fewer, left)) in
          omega (arith, few, counted, count, before, fewer, left));
      can = subst (λ k. CanMakeClocks c.args.limit k (g.T.Turn.rules c.args.turn.now) c.clock_on_bus.new.rest c.args.claim.now h)
          (omega (arith, counted, count, more, left))
          (next_can c.args.limit _ (g.T.Turn.rules c.args.turn.now) _ _ c.args.claim.now g1 h s s _ _ more c.in-Ok.ensures.can c.clock_on_bus.ensures.run made
          (c.in-Ok-Stays.ensures.bus (ap stays_left c.in-Ok-Stays.field-0-is)));
    }

pub returns-in-Ok-Ends-clause-runs : goal.returns-in-Ok-Ends-clause-runs
returns-in-Ok-Ends-clause-runs g c =
    let of = over g.S.Side.seen in
    let f0 = of c.args.fore.now in
    let f = of c.loop-unit.fore in
    let g1 = of c.run_alone.new.fore in
    let s0 = g.Q.Raster.seen c.args.raster.now in
    let s = g.Q.Raster.seen c.loop-unit.raster in
    let inv = c.loop-unit.invariant in
    let before = c.has_more.ensures.some c.loop-unit-test.true in
    let some : 0 < c.args.end - c.loop-unit.fore.machine.t = omega (arith, before) in
    let line = (inv.can.line some).before in
    let gone0 : HasGoneOn c.args.limit f0 f s0 s c.args.out.now c.loop-unit.out =
    record { able = inv.able; fresh = inv.fresh; run = inv.run; ran = inv.ran } in
    let gone = gone_then c.args.limit f0 f g1 s0 s s _ _ _ gone0 (omega (arith, line)) c.run_alone.ensures.run c.in-Ok.ensures.fresh
    (c.in-Ok.ensures.runs s) in
    let most = c.in-Ok.ensures.most in
    let left = c.clocks_left-left.ensures in
    let fewer = c.is_last.ensures.more c.if-is_last.false (omega (arith, left, some)) most in
    let more : 0 < c.clocks_left-left.result - c.in-Ok.made = omega (arith, fewer) in
    let next = (c.in-Ok.ensures.can.line more).before in
    let h = of c.clock_on_bus.new.fore in
    let made = c.in-Ok-Ends.ensures.made (ap is_made c.in-Ok-Ends.field-0-is) s in
    (gone_by_clock c.args.limit f0 g1 h s0 s s _ _ _ gone (omega (arith, more, next)) c.clock_on_bus.ensures.run made).ran

pub returns-in-Ok-Ends-clause-fresh : goal.returns-in-Ok-Ends-clause-fresh
returns-in-Ok-Ends-clause-fresh g c =
    let of = over g.S.Side.seen in
    let f0 = of c.args.fore.now in
    let f = of c.loop-unit.fore in
    let g1 = of c.run_alone.new.fore in
    let s0 = g.Q.Raster.seen c.args.raster.now in
    let s = g.Q.Raster.seen c.loop-unit.raster in
    let inv = c.loop-unit.invariant in
    let before = c.has_more.ensures.some c.loop-unit-test.true in
    let some : 0 < c.args.end - c.loop-unit.fore.machine.t = omega (arith, before) in
    let line = (inv.can.line some).before in
    let gone0 : HasGoneOn c.args.limit f0 f s0 s c.args.out.now c.loop-unit.out =
    record { able = inv.able; fresh = inv.fresh; run = inv.run; ran = inv.ran } in
    let gone = gone_then c.args.limit f0 f g1 s0 s s _ _ _ gone0 (omega (arith, line)) c.run_alone.ensures.run c.in-Ok.ensures.fresh
    (c.in-Ok.ensures.runs s) in
    let h = of c.clock_on_bus.new.fore in
    let made = c.in-Ok-Ends.ensures.made (ap is_made c.in-Ok-Ends.field-0-is) s in
    made.spent ∙ gone.fresh

pub returns-in-Ok-Ends-clause-still : goal.returns-in-Ok-Ends-clause-still
returns-in-Ok-Ends-clause-still g c same =
    let of = over g.S.Side.seen in
    let f0 = of c.args.fore.now in
    let f = of c.loop-unit.fore in
    let g1 = of c.run_alone.new.fore in
    let s0 = g.Q.Raster.seen c.args.raster.now in
    let s = g.Q.Raster.seen c.loop-unit.raster in
    let inv = c.loop-unit.invariant in
    let before = c.has_more.ensures.some c.loop-unit-test.true in
    let some : 0 < c.args.end - c.loop-unit.fore.machine.t = omega (arith, before) in
    let line = (inv.can.line some).before in
    let gone0 : HasGoneOn c.args.limit f0 f s0 s c.args.out.now c.loop-unit.out =
    record { able = inv.able; fresh = inv.fresh; run = inv.run; ran = inv.ran } in
    let gone = gone_then c.args.limit f0 f g1 s0 s s _ _ _ gone0 (omega (arith, line)) c.run_alone.ensures.run c.in-Ok.ensures.fresh
    (c.in-Ok.ensures.runs s) in
    let h = of c.clock_on_bus.new.fore in
    let made = c.in-Ok-Ends.ensures.made (ap is_made c.in-Ok-Ends.field-0-is) s in
    let on = gone.ran.on in
    let count = made.count in
    absurd (omega (arith, on, count, same))

pub finish_clock-requires : goal.finish_clock-requires
finish_clock-requires g c =
    let of = over g.S.Side.seen in
    let f0 = of c.args.fore.now in
    let f = of c.loop-unit.fore in
    let g1 = of c.run_alone.new.fore in
    let s0 = g.Q.Raster.seen c.args.raster.now in
    let s = g.Q.Raster.seen c.loop-unit.raster in
    let inv = c.loop-unit.invariant in
    let before = c.has_more.ensures.some c.loop-unit-test.true in
    let some : 0 < c.args.end - c.loop-unit.fore.machine.t = omega (arith, before) in
    let line = (inv.can.line some).before in
    let gone0 : HasGoneOn c.args.limit f0 f s0 s c.args.out.now c.loop-unit.out =
    record { able = inv.able; fresh = inv.fresh; run = inv.run; ran = inv.ran } in
    let gone = gone_then c.args.limit f0 f g1 s0 s s _ _ _ gone0 (omega (arith, line)) c.run_alone.ensures.run c.in-Ok.ensures.fresh
    (c.in-Ok.ensures.runs s) in
    let most = c.in-Ok.ensures.most in
    let left = c.clocks_left-left.ensures in
    let fewer = c.is_last.ensures.more c.if-is_last.false (omega (arith, left, some)) most in
    let more : 0 < c.clocks_left-left.result - c.in-Ok.made = omega (arith, fewer) in
    let next = (c.in-Ok.ensures.can.line more).before in
    let within = (first_can c.args.limit _ (g.T.Turn.rules c.args.turn.now) _ c.args.claim.now g1 s more c.in-Ok.ensures.can gone.able gone.fresh).within in
    let other = ap is_made c.in-Ok-Other.field-0-is in
    let asked = c.in-Ok-Other.ensures.asked other in
    record { asked = (g1, within, asked) }

pub returns-in-Ok-Other-clause-runs : goal.returns-in-Ok-Other-clause-runs
returns-in-Ok-Other-clause-runs g c =
    let of = over g.S.Side.seen in
    let f0 = of c.args.fore.now in
    let f = of c.loop-unit.fore in
    let g1 = of c.run_alone.new.fore in
    let s0 = g.Q.Raster.seen c.args.raster.now in
    let s = g.Q.Raster.seen c.loop-unit.raster in
    let inv = c.loop-unit.invariant in
    let before = c.has_more.ensures.some c.loop-unit-test.true in
    let some : 0 < c.args.end - c.loop-unit.fore.machine.t = omega (arith, before) in
    let line = (inv.can.line some).before in
    let gone0 : HasGoneOn c.args.limit f0 f s0 s c.args.out.now c.loop-unit.out =
    record { able = inv.able; fresh = inv.fresh; run = inv.run; ran = inv.ran } in
    let gone = gone_then c.args.limit f0 f g1 s0 s s _ _ _ gone0 (omega (arith, line)) c.run_alone.ensures.run c.in-Ok.ensures.fresh
    (c.in-Ok.ensures.runs s) in
    let most = c.in-Ok.ensures.most in
    let left = c.clocks_left-left.ensures in
    let fewer = c.is_last.ensures.more c.if-is_last.false (omega (arith, left, some)) most in
    let more : 0 < c.clocks_left-left.result - c.in-Ok.made = omega (arith, fewer) in
    let next = (c.in-Ok.ensures.can.line more).before in
    let within = (first_can c.args.limit _ (g.T.Turn.rules c.args.turn.now) _ c.args.claim.now g1 s more c.in-Ok.ensures.can gone.able gone.fresh).within in
    let other = ap is_made c.in-Ok-Other.field-0-is in
    let asked = c.in-Ok-Other.ensures.asked other in
    let h = of c.finish_clock.new.fore in
    let s2 = g.Q.Raster.seen c.finish_clock.new.raster in
    let here = gone_untold c.args.limit f0 g1 s0 s _ _ _ (c.in-Ok-Other.ensures.given other) gone in
    on_ok_weaker c.finish_clock.result (λ made. (gone_by_clock c.args.limit f0 g1 h s0 s s2 _ _ _ here (omega (arith, more, next))
    (c.finish_clock.ensures.run ∙ c.clock_on_bus.ensures.run) (made g1 within asked)).ran) c.finish_clock.ensures.made

pub returns-in-Ok-Other-clause-part : goal.returns-in-Ok-Other-clause-part
returns-in-Ok-Other-clause-part g c =
    let of = over g.S.Side.seen in
    let f0 = of c.args.fore.now in
    let f = of c.loop-unit.fore in
    let g1 = of c.run_alone.new.fore in
    let s0 = g.Q.Raster.seen c.args.raster.now in
    let s = g.Q.Raster.seen c.loop-unit.raster in
    let inv = c.loop-unit.invariant in
    let before = c.has_more.ensures.some c.loop-unit-test.true in
    let some : 0 < c.args.end - c.loop-unit.fore.machine.t = omega (arith, before) in
    let line = (inv.can.line some).before in
    let gone0 : HasGoneOn c.args.limit f0 f s0 s c.args.out.now c.loop-unit.out =
    record { able = inv.able; fresh = inv.fresh; run = inv.run; ran = inv.ran } in
    let gone = gone_then c.args.limit f0 f g1 s0 s s _ _ _ gone0 (omega (arith, line)) c.run_alone.ensures.run c.in-Ok.ensures.fresh
    (c.in-Ok.ensures.runs s) in
    let most = c.in-Ok.ensures.most in
    let left = c.clocks_left-left.ensures in
    let fewer = c.is_last.ensures.more c.if-is_last.false (omega (arith, left, some)) most in
    let more : 0 < c.clocks_left-left.result - c.in-Ok.made = omega (arith, fewer) in
    let next = (c.in-Ok.ensures.can.line more).before in
    let within = (first_can c.args.limit _ (g.T.Turn.rules c.args.turn.now) _ c.args.claim.now g1 s more c.in-Ok.ensures.can gone.able gone.fresh).within in
    let other = ap is_made c.in-Ok-Other.field-0-is in
    let asked = c.in-Ok-Other.ensures.asked other in
    let h = of c.finish_clock.new.fore in
    let s2 = g.Q.Raster.seen c.finish_clock.new.raster in
    let here = gone_untold c.args.limit f0 g1 s0 s _ _ _ (c.in-Ok-Other.ensures.given other) gone in
    on_err_weaker c.finish_clock.result (λ part. gone_in_part c.args.limit f0 g1 h h s0 s s2 _ _ _ here (omega (arith, more, next))
    (part g1 within asked) refl) c.finish_clock.ensures.part

pub returns-in-Ok-Other-clause-fresh : goal.returns-in-Ok-Other-clause-fresh
returns-in-Ok-Other-clause-fresh g c =
    let of = over g.S.Side.seen in
    let f0 = of c.args.fore.now in
    let f = of c.loop-unit.fore in
    let g1 = of c.run_alone.new.fore in
    let s0 = g.Q.Raster.seen c.args.raster.now in
    let s = g.Q.Raster.seen c.loop-unit.raster in
    let inv = c.loop-unit.invariant in
    let before = c.has_more.ensures.some c.loop-unit-test.true in
    let some : 0 < c.args.end - c.loop-unit.fore.machine.t = omega (arith, before) in
    let line = (inv.can.line some).before in
    let gone0 : HasGoneOn c.args.limit f0 f s0 s c.args.out.now c.loop-unit.out =
    record { able = inv.able; fresh = inv.fresh; run = inv.run; ran = inv.ran } in
    let gone = gone_then c.args.limit f0 f g1 s0 s s _ _ _ gone0 (omega (arith, line)) c.run_alone.ensures.run c.in-Ok.ensures.fresh
    (c.in-Ok.ensures.runs s) in
    let most = c.in-Ok.ensures.most in
    let left = c.clocks_left-left.ensures in
    let fewer = c.is_last.ensures.more c.if-is_last.false (omega (arith, left, some)) most in
    let more : 0 < c.clocks_left-left.result - c.in-Ok.made = omega (arith, fewer) in
    let next = (c.in-Ok.ensures.can.line more).before in
    let within = (first_can c.args.limit _ (g.T.Turn.rules c.args.turn.now) _ c.args.claim.now g1 s more c.in-Ok.ensures.can gone.able gone.fresh).within in
    let other = ap is_made c.in-Ok-Other.field-0-is in
    let asked = c.in-Ok-Other.ensures.asked other in
    on_ok_weaker c.finish_clock.result (λ made. (made g1 within asked).spent ∙ gone.fresh) c.finish_clock.ensures.made

pub returns-in-Ok-Other-clause-still : goal.returns-in-Ok-Other-clause-still
returns-in-Ok-Other-clause-still g c =
    let of = over g.S.Side.seen in
    let f0 = of c.args.fore.now in
    let f = of c.loop-unit.fore in
    let g1 = of c.run_alone.new.fore in
    let s0 = g.Q.Raster.seen c.args.raster.now in
    let s = g.Q.Raster.seen c.loop-unit.raster in
    let inv = c.loop-unit.invariant in
    let before = c.has_more.ensures.some c.loop-unit-test.true in
    let some : 0 < c.args.end - c.loop-unit.fore.machine.t = omega (arith, before) in
    let line = (inv.can.line some).before in
    let gone0 : HasGoneOn c.args.limit f0 f s0 s c.args.out.now c.loop-unit.out =
    record { able = inv.able; fresh = inv.fresh; run = inv.run; ran = inv.ran } in
    let gone = gone_then c.args.limit f0 f g1 s0 s s _ _ _ gone0 (omega (arith, line)) c.run_alone.ensures.run c.in-Ok.ensures.fresh
    (c.in-Ok.ensures.runs s) in
    let most = c.in-Ok.ensures.most in
    let left = c.clocks_left-left.ensures in
    let fewer = c.is_last.ensures.more c.if-is_last.false (omega (arith, left, some)) most in
    let more : 0 < c.clocks_left-left.result - c.in-Ok.made = omega (arith, fewer) in
    let next = (c.in-Ok.ensures.can.line more).before in
    let within = (first_can c.args.limit _ (g.T.Turn.rules c.args.turn.now) _ c.args.claim.now g1 s more c.in-Ok.ensures.can gone.able gone.fresh).within in
    let other = ap is_made c.in-Ok-Other.field-0-is in
    let asked = c.in-Ok-Other.ensures.asked other in
    let on = gone.ran.on in
    on_ok_weaker c.finish_clock.result
    (λ made same. absurd (let count = (made g1 within asked).count in omega (arith, on, count, same))) c.finish_clock.ensures.made

pub returns-in-Err-clock_on_bus-clause-part : goal.returns-in-Err-clock_on_bus-clause-part
returns-in-Err-clock_on_bus-clause-part g c =
    let of = over g.S.Side.seen in
    let f0 = of c.args.fore.now in
    let f = of c.loop-unit.fore in
    let g1 = of c.run_alone.new.fore in
    let s0 = g.Q.Raster.seen c.args.raster.now in
    let s = g.Q.Raster.seen c.loop-unit.raster in
    let inv = c.loop-unit.invariant in
    let before = c.has_more.ensures.some c.loop-unit-test.true in
    let some : 0 < c.args.end - c.loop-unit.fore.machine.t = omega (arith, before) in
    let line = (inv.can.line some).before in
    let gone0 : HasGoneOn c.args.limit f0 f s0 s c.args.out.now c.loop-unit.out =
    record { able = inv.able; fresh = inv.fresh; run = inv.run; ran = inv.ran } in
    let gone = gone_then c.args.limit f0 f g1 s0 s s _ _ _ gone0 (omega (arith, line)) c.run_alone.ensures.run c.in-Ok.ensures.fresh
    (c.in-Ok.ensures.runs s) in
    let most = c.in-Ok.ensures.most in
    let left = c.clocks_left-left.ensures in
    let fewer = c.is_last.ensures.more c.if-is_last.false (omega (arith, left, some)) most in
    let more : 0 < c.clocks_left-left.result - c.in-Ok.made = omega (arith, fewer) in
    let next = (c.in-Ok.ensures.can.line more).before in
    gone_in_part c.args.limit f0 g1 (of c.clock_on_bus.new.fore) _ s0 s s _ _ _ gone (omega (arith, more, next))
    (c.in-Err-clock_on_bus.ensures.part s) (ap (λ x. x.machine.chip.reads) c.fore-in-Err-clock_on_bus.view_is)

pub clock_on_bus-requires-clause-unit : goal.clock_on_bus-requires-clause-unit
clock_on_bus-requires-clause-unit g c =
    let f = c.run_alone.new.fore in
    elim c.if-made-gt0.branch [
      | then-made-gt0 w ↦ no_unit f.machine.beam.h f.machine.chips.last _ (w.unit-is ∙ w.none-unit-then-made-gt0.ensures)
      | else-made-gt0 w ↦
          let no = w.if-made-gt0.false in
          unit_as c.if-made-gt0.unit c.loop-unit.unit f.machine.beam.h f.machine.chips.last w.unit-is
          (unit_stays g.S.Side.seen c.loop-unit.fore f c.loop-unit.unit c.in-Ok.made (omega (arith, no)) c.in-Ok.ensures.count c.in-Ok.ensures.still
          c.loop-unit.invariant.unit)
    ]

pub loop-unit-smaller : goal.loop-unit-smaller
loop-unit-smaller g c =
    let of = over g.S.Side.seen in
    let f0 = of c.args.fore.now in
    let f = of c.loop-unit.fore in
    let g1 = of c.run_alone.new.fore in
    let s0 = g.Q.Raster.seen c.args.raster.now in
    let s = g.Q.Raster.seen c.loop-unit.raster in
    let inv = c.loop-unit.invariant in
    let before = c.has_more.ensures.some c.loop-unit-test.true in
    let some : 0 < c.args.end - c.loop-unit.fore.machine.t = omega (arith, before) in
    let line = (inv.can.line some).before in
    let gone0 : HasGoneOn c.args.limit f0 f s0 s c.args.out.now c.loop-unit.out =
    record { able = inv.able; fresh = inv.fresh; run = inv.run; ran = inv.ran } in
    let gone = gone_then c.args.limit f0 f g1 s0 s s _ _ _ gone0 (omega (arith, line)) c.run_alone.ensures.run c.in-Ok.ensures.fresh
    (c.in-Ok.ensures.runs s) in
    let most = c.in-Ok.ensures.most in
    let left = c.clocks_left-left.ensures in
    let fewer = c.is_last.ensures.more c.if-is_last.false (omega (arith, left, some)) most in
    let more : 0 < c.clocks_left-left.result - c.in-Ok.made = omega (arith, fewer) in
    let next = (c.in-Ok.ensures.can.line more).before in
    let h = of c.clock_on_bus.new.fore in
    let made = c.in-Ok-Stays.ensures.made (ap is_made c.in-Ok-Stays.field-0-is) s in
    let counted = c.in-Ok.ensures.count in
    let count = made.count in
    omega (arith, before, counted, count)
