use Rattle.serial_bands.proofs.Late.{fetches_are_late}
use Rattle.serial_bands.proofs.laws.fetches_late.Goals as goal

pub returns : goal.returns
returns c = fetches_are_late
