use Rattle.std.proofs.Common.{ap, refl, ◌∙◌}
use Rattle.machine.specs.Machine.{machine_over}
use Rattle.foreground.specs.Fore.{ForeOf, over}
use Rattle.clock_loop.proofs.EndLaws.{alone_view, alone_ends, alone_refused, waits_asked}
use Rattle.clock_loop.proofs.clock.process_alone.Goals as goal

pub returns-in_err-process_alone-clause-ends : goal.returns-in_err-process_alone-clause-ends
returns-in_err-process_alone-clause-ends g c =
    alone_view g.S.Side.seen _ c.args.fore.now _ _ _ c.from_residual.result c.fore.view_is
    (alone_refused _ _ _ _ _ c.from_residual.result c.from_residual.ensures.0 c.in_err-process_alone.ensures.few
    c.in_err-process_alone.ensures.refused refl)

pub returns-then-branch-clause-ends : goal.returns-then-branch-clause-ends
returns-then-branch-clause-ends g c =
    let asked = c.requires.asked in
    let waits = ap (λ (f : ForeOf _). f.log.waiting) c.fore.view_is ∙ waits_asked _ asked.0 (over g.S.Side.seen c.args.fore.now) asked.1 asked.2 asked.3 in
    alone_view g.S.Side.seen _ c.args.fore.now _ _ _ _ c.fore.view_is
    (alone_ends _ _ (machine_over g.S.Side.seen c.process_alone.new.self) _ _ _ waits (c.in_ok-process_alone.ensures.made c.if-branch.true) (record {
      step = c.advance_in_line.ensures.step;
      beam = c.advance_in_line.ensures.beam;
      count = c.advance_in_line.ensures.count;
      chip = c.advance_in_line.ensures.chip;
      chips = c.advance_in_line.ensures.chips;
      side = ap g.S.Side.seen c.advance_in_line.ensures.side;
    }))
