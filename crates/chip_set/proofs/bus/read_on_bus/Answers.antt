use Rattle.std.proofs.Common.{ap, subst, sym, ◌∙◌}
use Rattle.serial_model.specs.declared.bus.Ask.{Ask}
use Rattle.chip_set.specs.Chips.{IsAnswer, read_by, reads_by_chips}
use Rattle.chip_set.proofs.bus.read_on_bus.Goals as goal

pub returns-in-Blit-clause-word : goal.returns-in-Blit-clause-word
returns-in-Blit-clause-word c b clx now =
    subst (λ (ask : Ask). IsAnswer ask b clx now c.args.chip.now.words c.read_for_blit.result) (sym c.in-Blit.is) c.read_for_blit.ensures.word

pub returns-in-Blit-clause-reads : goal.returns-in-Blit-clause-reads
returns-in-Blit-clause-reads c =
    c.read_for_blit.ensures.reads ∙ sym (ap (λ (ask : Ask). read_by (reads_by_chips ask) c.args.chip.now) c.in-Blit.is)
