use Rattle.serial_bands.proofs.Spans.{drawing_goes_on_quietly, untouched_before_first, fetch_is_next}
use Rattle.serial_bands.proofs.laws.drawn_at_once.Goals as goal

pub returns-clause-on : goal.returns-clause-on
returns-clause-on c = drawing_goes_on_quietly

pub returns-clause-untouched : goal.returns-clause-untouched
returns-clause-untouched c = untouched_before_first

pub returns-clause-fetch : goal.returns-clause-fetch
returns-clause-fetch c = fetch_is_next
