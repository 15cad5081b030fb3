use Rattle.std.proofs.Common.{ap, sym, ◌∙◌}
use Rattle.std.proofs.lemmas.Bool.{true≢false}
use Rattle.machine.specs.Machine.{machine_over}
use Rattle.foreground.specs.Fore.{ForeOf}
use Rattle.clock_loop.proofs.EndLaws.{turned_over}
use Rattle.clock_loop.proofs.clock.end_beside.Goals as goal
use Rattle.clock_loop.proofs.clock.end_beside.Goals.{then-not-waited+in_ok-alone, else-not-waited}

pub returns-clause-ends : goal.returns-clause-ends
returns-clause-ends g c =
    record {
      processed = machine_over g.S.Side.seen c.if-not-waited.fore-inside.machine;
      turned = λ left. elim c.if-not-waited.branch [
        | then-not-waited+in_ok-alone w ↦ turned_over g.S.Side.seen _ c.args.fore.now w.process_beside_cias.new.self _ _ _ _ c.fore.view_is
            w.in_ok-alone.ensures.step w.in_ok-alone.ensures.same w.in_ok-alone.ensures.bus (ap (λ x. x.machine) w.fore-inside-is) w.out-is
        | else-not-waited w ↦ absurd (true≢false (sym w.if-not-waited.false ∙ left))
      ];
      same = λ waits. elim c.if-not-waited.branch [
        | then-not-waited+in_ok-alone w ↦ absurd (true≢false (sym waits ∙ w.if-not-waited.true))
        | else-not-waited w ↦ (
          ap (machine_over g.S.Side.seen) (ap (λ x. x.machine) w.fore-inside-is ∙ ap (λ (f : ForeOf _). f.machine) c.fore.view_is),
          w.out-is,
        )
      ];
      advances = record {
        step = c.advance_in_line.ensures.step;
        beam = c.advance_in_line.ensures.beam;
        count = c.advance_in_line.ensures.count;
        chip = c.advance_in_line.ensures.chip;
        chips = c.advance_in_line.ensures.chips;
        side = ap g.S.Side.seen c.advance_in_line.ensures.side;
      };
    }
