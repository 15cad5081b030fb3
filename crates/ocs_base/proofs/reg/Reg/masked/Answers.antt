use Rattle.ocs_base.proofs.Masks.{even_offset_masked}
use Rattle.ocs_base.proofs.Registers.{same_register}
use Rattle.ocs_base.proofs.reg.Reg.masked.Goals as goal

pub returns-clause-named : goal.returns-clause-named
returns-clause-named c = same_register _ _ (even_offset_masked c.args.word)
