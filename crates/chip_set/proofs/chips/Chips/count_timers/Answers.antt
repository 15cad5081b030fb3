use Rattle.std.proofs.Common.{subst, sym, ◌∙◌}
use Rattle.chip_set.proofs.TurnLaws.{lines_requested, no_line}
use Rattle.serial_model.specs.Cias.{tick_timers, request_lines, time_chips}
use Rattle.chip_set.specs.Chips.{WorkingChips, IsChipsOf}
use Rattle.chip_set.proofs.chips.Chips.count_timers.Goals as goal

pub returns-then-bits-ne0-clause-chips : goal.returns-then-bits-ne0-clause-chips
unfolding time_chips
returns-then-bits-ne0-clause-chips c x is =
    let mid : WorkingChips = record {
      registers = c.self.inside.registers;
      last = c.self.inside.fetcher;
      kinds = c.self.inside.sprites;
      copper = c.self.inside.copper;
      blit = c.self.inside.blit;
      zero = c.self.inside.zero;
      irq = c.self.inside.irq;
      processor = c.self.inside.processor;
      missed = c.self.inside.missed;
      cia_a = c.self.inside.cia_a;
      cia_b = c.self.inside.cia_b;
      inputs = c.self.inside.inputs;
    } in
    let ticked : IsChipsOf mid (tick_timers c.args.t x) =
    subst (λ now. IsChipsOf now (tick_timers c.args.t x)) (sym c.self.view_is) (c.tick_timers.ensures.chips x is) in
    subst (λ irq. IsChipsOf (record mid { irq = irq }) (request_lines c.args.bits (tick_timers c.args.t x))) (sym c.request.ensures)
    (lines_requested c.args.bits c.line_bits-lines.result mid (tick_timers c.args.t x) (c.line_bits-lines.ensures _ (c.tick_timers.ensures.chips x is)) ticked)

pub returns-else-has_line-clause-chips : goal.returns-else-has_line-clause-chips
unfolding time_chips
returns-else-has_line-clause-chips c x is =
    let ticked : IsChipsOf c.tick_timers.new.self (tick_timers c.args.t x) = c.tick_timers.ensures.chips x is in
    no_line c.args.bits c.tick_timers.new.self (tick_timers c.args.t x) c.if-bits-ne0.false
    (sym (c.has_line.ensures _ ticked) ∙ c.if-has_line.false) ticked
