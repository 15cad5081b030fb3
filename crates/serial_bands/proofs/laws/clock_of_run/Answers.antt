use Rattle.serial_bands.proofs.NextClock.{displayed_is_step, bytes_are_of_step, clx_is_of_step, closing_has_fetch}
use Rattle.serial_bands.proofs.laws.clock_of_run.Goals as goal

pub returns-clause-displayed : goal.returns-clause-displayed
returns-clause-displayed c = displayed_is_step

pub returns-clause-bytes : goal.returns-clause-bytes
returns-clause-bytes c = bytes_are_of_step

pub returns-clause-clx : goal.returns-clause-clx
returns-clause-clx c = clx_is_of_step

pub returns-clause-closing : goal.returns-clause-closing
returns-clause-closing c = closing_has_fetch
