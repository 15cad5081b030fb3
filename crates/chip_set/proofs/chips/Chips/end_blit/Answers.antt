use Rattle.std.proofs.Common.{subst, sym}
use Rattle.chip_set.specs.Chips.{WorkingChips, IsChipsOf}
use Rattle.chip_set.proofs.BlitLaws.{blit_ends}
use Rattle.chip_set.proofs.chips.Chips.end_blit.Goals as goal

pub returns-in-Some-clause-ends : goal.returns-in-Some-clause-ends
returns-in-Some-clause-ends c chips is =
    let old : WorkingChips = record {
      registers = c.self.inside.registers;
      last = c.self.inside.fetcher;
      kinds = c.self.inside.sprites;
      copper = c.self.inside.copper;
      blit = c.self.inside.blit;
      zero = c.self.inside.zero;
      irq = c.self.inside.irq;
      processor = c.self.inside.processor;
      missed = c.self.inside.missed;
      cia_a = c.self.inside.cia_a;
      cia_b = c.self.inside.cia_b;
      inputs = c.self.inside.inputs;
    } in
    blit_ends old c.in-Some.blit c.regs.result c.keep_blit.new.regs c.zero-self-inside.result c.request.new.self c.in-Some.is c.regs.ensures
    c.zero-self-inside.ensures c.keep_blit.ensures c.request.ensures chips (subst (λ now. IsChipsOf now chips) (sym c.self.view_is) is)
