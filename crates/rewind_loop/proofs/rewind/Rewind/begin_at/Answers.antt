-- Nothing but foreground and raster is another.
use Rattle.std.proofs.Common.{refl}
use Rattle.rewind_loop.proofs.rewind.Rewind.begin_at.Goals as goal

pub returns-in_err-self-clause-run : goal.returns-in_err-self-clause-run
returns-in_err-self-clause-run c = refl

pub returns-in_err-self-clause-every : goal.returns-in_err-self-clause-every
returns-in_err-self-clause-every c = refl

pub returns-in_err-self-clause-ring : goal.returns-in_err-self-clause-ring
returns-in_err-self-clause-ring c = refl

pub returns-clause-run : goal.returns-clause-run
returns-clause-run c = refl

pub returns-clause-every : goal.returns-clause-every
returns-clause-every c = refl

pub returns-clause-ring : goal.returns-clause-ring
returns-clause-ring c = refl

pub returns-clause-fore : goal.returns-clause-fore
returns-clause-fore c = refl

pub returns-clause-raster : goal.returns-clause-raster
returns-clause-raster c = c.in_ok-self.ensures
