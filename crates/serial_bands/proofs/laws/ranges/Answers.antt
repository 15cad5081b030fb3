use Rattle.serial_bands.proofs.Ranges.{shown_in_range, bytes_of_two, clx_of_two, read_by_access, read_by_script, events_in_range, events_of_one_more}
use Rattle.serial_bands.proofs.laws.ranges.Goals as goal

pub returns-clause-shown : goal.returns-clause-shown
returns-clause-shown c = shown_in_range

pub returns-clause-bytes : goal.returns-clause-bytes
returns-clause-bytes c = bytes_of_two

pub returns-clause-clx : goal.returns-clause-clx
returns-clause-clx c = clx_of_two

pub returns-clause-access : goal.returns-clause-access
returns-clause-access c = read_by_access

pub returns-clause-script : goal.returns-clause-script
returns-clause-script c = read_by_script

pub returns-clause-range : goal.returns-clause-range
returns-clause-range c = events_in_range

pub returns-clause-events : goal.returns-clause-events
returns-clause-events c = events_of_one_more
