use Rattle.serial_bands.proofs.Replay.{bytes_of_kept, clx_of_kept, closing_of_kept, opening_of_kept}
use Rattle.serial_bands.proofs.laws.clock_drawn_later.Goals as goal

pub returns-clause-bytes : goal.returns-clause-bytes
returns-clause-bytes c = bytes_of_kept

pub returns-clause-clx : goal.returns-clause-clx
returns-clause-clx c = clx_of_kept

pub returns-clause-closing : goal.returns-clause-closing
returns-clause-closing c = closing_of_kept

pub returns-clause-opening : goal.returns-clause-opening
returns-clause-opening c = opening_of_kept
