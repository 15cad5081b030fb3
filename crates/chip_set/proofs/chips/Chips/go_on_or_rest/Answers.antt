use Rattle.std.proofs.Common.{◌<◌, subst, sym, arith}
use Rattle.chip_set.specs.Chips.{WorkingChips, IsChipsOf}
use Rattle.chip_set.proofs.QuietLaws.{goes_by_waiting, none_by_waiting}
use Rattle.chip_set.proofs.chips.Chips.go_on_or_rest.Goals as goal

abbrev before : goal.After-skip → WorkingChips
before c = record {
  registers = c.self.inside.registers;
  last = c.self.inside.fetcher;
  kinds = c.self.inside.sprites;
  copper = c.self.inside.copper;
  blit = c.self.inside.blit;
  zero = c.self.inside.zero;
  irq = c.self.inside.irq;
  processor = c.self.inside.processor;
  missed = c.self.inside.missed;
  cia_a = c.self.inside.cia_a;
  cia_b = c.self.inside.cia_b;
  inputs = c.self.inside.inputs;
}

pub returns-clause-chips : goal.returns-clause-chips
returns-clause-chips c chips is goes =
    let some : 0 < c.quiet.result = grind (arith, c.if-quiet-eq0.false) in
    goes_by_waiting c.args.word c.quiet.result (before c) c.skip.new.self chips some c.quiet.ensures.rests c.skip.ensures
    (subst (λ (now : WorkingChips). IsChipsOf now chips) (sym c.self.view_is) is) goes

pub returns-clause-interrupt : goal.returns-clause-interrupt
returns-clause-interrupt c chips is goes =
    let some : 0 < c.quiet.result = grind (arith, c.if-quiet-eq0.false) in
    none_by_waiting c.args.word c.quiet.result (before c) chips some c.quiet.ensures.rests
    (subst (λ (now : WorkingChips). IsChipsOf now chips) (sym c.self.view_is) is) goes
