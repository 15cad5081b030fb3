use Rattle.std.proofs.Common.{subst}
use Rattle.run_side.specs.declared.side.RunSide.{RunSide}
use Rattle.serial_bands.specs.Run.{RunOf}
use Rattle.foreground.specs.Fore.{IsNew}
use Rattle.files_run.specs.Underway.{run_of, fore_of}
use Rattle.files_run.proofs.run.begin.Goals as goal

pub returns-clause-new : goal.returns-clause-new
returns-clause-new c =
    subst (λ (r : RunOf RunSide). IsNew (run_of r) (fore_of c.in_ok-fore.fore)) c.in_ok-run.ensures.run c.in_ok-fore.ensures.fore
