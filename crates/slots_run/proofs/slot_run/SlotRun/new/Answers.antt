use Rattle.std.proofs.Common.{◌≡◌, IfOk, sym, subst}
use Rattle.foreground.specs.Fore.{IsNew}
use Rattle.slots_run.specs.code.SlotRun.{run_in, fore_of}
use Rattle.slots_run.proofs.slot_run.SlotRun.new.Goals as goal

pub at_reset-requires : goal.at_reset-requires
at_reset-requires c = subst (λ run. IsNew run (fore_of c.in_ok-fore.fore)) (sym c.in_ok-fore.ensures.run_of) c.in_ok-fore.ensures

pub returns-clause-run : goal.returns-clause-run
returns-clause-run c = subst (λ run. IfOk c.at_reset.result (λ r. run_in r ≡ run)) c.in_ok-fore.ensures.run_of c.at_reset.ensures.run
