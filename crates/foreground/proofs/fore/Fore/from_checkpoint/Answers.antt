use Rattle.foreground.proofs.RefusalLaws.{no_value}
use Rattle.foreground.proofs.fore.Fore.from_checkpoint.Goals as goal

pub back-requires : goal.back-requires
back-requires g c = tt

pub returns-in_err-back : goal.returns-in_err-back
returns-in_err-back g c = no_value c.from_residual.result _ c.from_residual.ensures.0

pub copied-requires : goal.copied-requires
copied-requires g c = tt

pub copied-requires-2 : goal.copied-requires-2
copied-requires-2 g c = tt

pub new-requires : goal.new-requires
new-requires g c = tt

pub returns-in_err-new : goal.returns-in_err-new
returns-in_err-new g c = no_value c.from_residual-in_err-new.result _ c.from_residual-in_err-new.ensures.0

pub new-requires-2 : goal.new-requires-2
new-requires-2 g c = tt

pub new-requires-3 : goal.new-requires-3
new-requires-3 g c = tt

pub new-requires-4 : goal.new-requires-4
new-requires-4 g c = tt
