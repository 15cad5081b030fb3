use Rattle.foreground.specs.Fore.{over}
use Rattle.clock_loop.proofs.EndLaws.{asked_as, ends_as, ends_by_alone, alone_refuses, alone_rest, blitter_turn, processor_turn}
use Rattle.clock_loop.proofs.turn.AnyTurnTurn.clock.Goals as goal

pub blit_clock_apart-requires-clause-asked : goal.blit_clock_apart-requires-clause-asked
blit_clock_apart-requires-clause-asked g c =
    let is = blitter_turn g.S.Side.seen _ c.args.fore.now c.fore.view_is c.requires.leaves
    (c.has_blitter_turn.ensures.blitter c.if-has_blitter_turn.true) in
    let asked = c.requires.asked in
    (asked.0, asked.1, asked.2, asked_as _ _ asked.0 (over g.S.Side.seen c.args.fore.now) is asked.3)

pub process_alone-requires-clause-asked : goal.process_alone-requires-clause-asked
process_alone-requires-clause-asked g c =
    let is = processor_turn g.S.Side.seen _ c.args.fore.now c.fore.view_is c.requires.leaves
    (c.has_blitter_turn.ensures.processor c.if-has_blitter_turn.false) in
    let asked = c.requires.asked in
    (asked.0, asked.1, asked.2, asked_as _ _ asked.0 (over g.S.Side.seen c.args.fore.now) is asked.3)

pub returns-then-has_blitter_turn-clause-ends : goal.returns-then-has_blitter_turn-clause-ends
returns-then-has_blitter_turn-clause-ends g c =
    let is = blitter_turn g.S.Side.seen _ c.args.fore.now c.fore.view_is c.requires.leaves
    (c.has_blitter_turn.ensures.blitter c.if-has_blitter_turn.true) in
    ends_as _ _ (over g.S.Side.seen c.args.fore.now) (over g.S.Side.seen c.blit_clock_apart.new.fore) _ _ c.blit_clock_apart.result is
    c.blit_clock_apart.ensures.ends

pub returns-in_err-process_alone-clause-ends : goal.returns-in_err-process_alone-clause-ends
returns-in_err-process_alone-clause-ends g c =
    let is = processor_turn g.S.Side.seen _ c.args.fore.now c.fore.view_is c.requires.leaves
    (c.has_blitter_turn.ensures.processor c.if-has_blitter_turn.false) in
    ends_as _ _ (over g.S.Side.seen c.args.fore.now) (over g.S.Side.seen c.process_alone.new.fore) _ _ c.from_residual.result is
    (alone_refuses _ _ (over g.S.Side.seen c.args.fore.now) (over g.S.Side.seen c.process_alone.new.fore) _ _ c.from_residual.result
    c.from_residual.ensures.0 c.in_err-process_alone.ensures.ends)

pub returns-in_ok-process_alone-clause-ends : goal.returns-in_ok-process_alone-clause-ends
returns-in_ok-process_alone-clause-ends g c =
    let is = processor_turn g.S.Side.seen _ c.args.fore.now c.fore.view_is c.requires.leaves
    (c.has_blitter_turn.ensures.processor c.if-has_blitter_turn.false) in
    ends_as _ _ (over g.S.Side.seen c.args.fore.now) (over g.S.Side.seen c.process_alone.new.fore) _ _ _ is
    (ends_by_alone _ (over g.S.Side.seen c.args.fore.now) (over g.S.Side.seen c.process_alone.new.fore) _ _ _ c.made_alone.result
    c.in_ok-process_alone.ensures.ends c.made_alone.ensures.made c.made_alone.ensures.stays)

pub returns-in_ok-process_alone-clause-rest : goal.returns-in_ok-process_alone-clause-rest
returns-in_ok-process_alone-clause-rest g c =
    let is = processor_turn g.S.Side.seen _ c.args.fore.now c.fore.view_is c.requires.leaves
    (c.has_blitter_turn.ensures.processor c.if-has_blitter_turn.false) in
    let asked = c.requires.asked in
    alone_rest c.args.rest.now _ asked.0 (over g.S.Side.seen c.args.fore.now) (over g.S.Side.seen c.process_alone.new.fore) asked.1 _ _ _
    c.made_alone.result
    asked.2 (asked_as _ _ asked.0 (over g.S.Side.seen c.args.fore.now) is asked.3) c.in_ok-process_alone.ensures.ends c.made_alone.ensures.stays
