use Rattle.serial_bands.proofs.Drawing.{words_are_found, drawing_begins, touch_is_next, drawing_goes_on, last_fetch_is_next, drawing_ends}
use Rattle.serial_bands.proofs.laws.drawn_band.Goals as goal

pub returns-clause-begins : goal.returns-clause-begins
returns-clause-begins c = drawing_begins

pub returns-clause-touch : goal.returns-clause-touch
returns-clause-touch c = touch_is_next

pub returns-clause-on : goal.returns-clause-on
returns-clause-on c = drawing_goes_on

pub returns-clause-fetch : goal.returns-clause-fetch
returns-clause-fetch c = last_fetch_is_next

pub returns-clause-ends : goal.returns-clause-ends
returns-clause-ends c = drawing_ends

pub returns-clause-words : goal.returns-clause-words
returns-clause-words c = words_are_found
