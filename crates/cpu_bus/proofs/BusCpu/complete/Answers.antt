use Rattle.std.proofs.Common.{ap, ◌∙◌}
use Rattle.cpu_bus.specs.Bus.{is_slot}
use Rattle.cpu_bus.proofs.BusLaws.{slot_settles}
use Rattle.cpu_bus.proofs.BusCpu.complete.Goals as goal

pub returns-clause-answers : goal.returns-clause-answers
returns-clause-answers c p is = record {
  chip = is.chip;
  on = is.on;
  stands = c.complete_access.ensures p.regs p.under p.answers is.stands;
  settles = λ level. slot_settles p c.args.word level (ap is_slot is.wait ∙ c.requires);
}
