use Rattle.chip_set.proofs.FetchLaws.{fetches_pass}
use Rattle.chip_set.proofs.laws.clocks_of_fetches.Goals as goal

pub returns : goal.returns
returns c = fetches_pass
