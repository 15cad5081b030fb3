-- The foreground that is made of a checkpoint goes on from there.
use Rattle.std.proofs.Common.{sym, subst}
use Rattle.std.proofs.lemmas.Result.{IfOk-weaker}
use Rattle.foreground.specs.Fore.{ForeValue, IsUnderway}
use Rattle.foreground.proofs.CheckpointLaws.{checkpoint_goes_on}
use Rattle.foreground.proofs.fore.Fore.load.Goals as goal

pub returns-clause-goes_on : goal.returns-clause-goes_on
returns-clause-goes_on g c =
    IfOk-weaker c.from_checkpoint.result _ _
    (λ fore made run t raster is none next takes. subst (λ (f : ForeValue). IsUnderway f t raster) (sym made)
    (checkpoint_goes_on g.S.Side.seen run t c.args.from.now raster is none next takes))
    c.from_checkpoint.ensures
