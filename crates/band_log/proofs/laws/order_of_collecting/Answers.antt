use Rattle.band_log.proofs.Order.{first_comes_first}
use Rattle.band_log.proofs.laws.order_of_collecting.Goals as goal

pub returns : goal.returns
returns c = first_comes_first
