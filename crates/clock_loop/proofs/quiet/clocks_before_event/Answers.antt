use Rattle.std.proofs.Common.{arith}
use Rattle.clock_loop.proofs.QuietLaws.{no_event, none_in_frame, none_in_line, none_until}
use Rattle.clock_loop.proofs.quiet.clocks_before_event.Goals.{then-event-beam-via-then-event-beam, then-event-beam-via-else-event-beam+then-event-beam-2}
use Rattle.clock_loop.proofs.quiet.clocks_before_event.Goals as goal

pub returns-in_default-clause-none : goal.returns-in_default-clause-none
returns-in_default-clause-none c = no_event c.args.beam.now c.args.events.now c.args.most c.in_default.ensures.cases

pub returns-then-event-beam-clause-none : goal.returns-then-event-beam-clause-none
returns-then-event-beam-clause-none c =
    elim c.then-event-beam.branch [
      | then-event-beam-via-then-event-beam w ↦
          none_in_frame c.args.beam.now c.args.events.now _ c.in-Some.event.now c.args.most c.requires.screen c.requires.room c.requires.queue
          c.in-Some.ensures.cases.0 w.if-event-beam.true
      | then-event-beam-via-else-event-beam+then-event-beam-2 w ↦
          none_in_line c.args.beam.now c.args.events.now _ c.in-Some.event.now c.args.most c.requires.screen c.requires.room c.requires.queue
          c.in-Some.ensures.cases.0 w.if-event-beam.false w.if-event-beam-2.true
    ]

pub returns-clause-none : goal.returns-clause-none
returns-clause-none c =
    none_until c.args.beam.now c.args.events.now _ c.in-Some.event.now c.min.result c.requires.screen
    (omega (arith, c.requires.room, c.min.ensures)) c.requires.queue c.in-Some.ensures.cases.0 c.if-event-beam.false c.if-event-beam-2.false
    (omega (arith, c.min.ensures, c.saturating_sub.ensures))
