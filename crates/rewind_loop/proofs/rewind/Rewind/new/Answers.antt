-- The foreground is of the run itself, of which it has a second handle.
use Rattle.std.proofs.Common.{subst}
use Rattle.foreground.specs.Fore.{IsNew}
use Rattle.rewind_loop.specs.Present.{run_of, fore_of}
use Rattle.rewind_loop.proofs.rewind.Rewind.new.Goals as goal

pub at_reset-requires-clause-new : goal.at_reset-requires-clause-new
at_reset-requires-clause-new c = subst (λ run. IsNew (run_of run) (fore_of c.in_ok-fore.fore)) c.in_ok-try_clone.ensures c.in_ok-fore.ensures
