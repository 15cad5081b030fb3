use Rattle.std.proofs.Common.{subst, sym}
use Rattle.chip_set.specs.Chips.{WorkingChips, IsChipsOf}
use Rattle.chip_set.proofs.WriteLaws.{poked}
use Rattle.chip_set.proofs.chips.Chips.poke.Goals as goal

pub returns-clause-chips : goal.returns-clause-chips
returns-clause-chips c chips is =
    let old : WorkingChips = record {
      registers = c.self.inside.registers;
      last = c.self.inside.fetcher;
      kinds = c.self.inside.sprites;
      copper = c.self.inside.copper;
      blit = c.self.inside.blit;
      zero = c.self.inside.zero;
      irq = c.self.inside.irq;
      processor = c.self.inside.processor;
      missed = c.self.inside.missed;
      cia_a = c.self.inside.cia_a;
      cia_b = c.self.inside.cia_b;
      inputs = c.self.inside.inputs;
    } in
    poked old c.follow.new.self c.poke-effect.new.self c.poke-effect.result c.is_some-busy.result c.args.reg.offset c.args.word
    c.is_some-busy.ensures c.poke-effect.ensures.words c.poke-effect.ensures.effect c.follow.ensures chips
    (subst (λ now. IsChipsOf now chips) (sym c.self.view_is) is)
