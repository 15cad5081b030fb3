use Rattle.serial_bands.proofs.Reading.{script_events_are_sets, script_comes_first, rest_behind_script}
use Rattle.serial_bands.proofs.Reading.{last_behind_script, bus_touch_is_found, last_fetch_is_found}
use Rattle.serial_bands.proofs.laws.events_read_back.Goals as goal

pub returns-clause-sets : goal.returns-clause-sets
returns-clause-sets c = script_events_are_sets

pub returns-clause-script : goal.returns-clause-script
returns-clause-script c = script_comes_first

pub returns-clause-rest : goal.returns-clause-rest
returns-clause-rest c = rest_behind_script

pub returns-clause-last : goal.returns-clause-last
returns-clause-last c = last_behind_script

pub returns-clause-bus : goal.returns-clause-bus
returns-clause-bus c = bus_touch_is_found

pub returns-clause-fetch : goal.returns-clause-fetch
returns-clause-fetch c = last_fetch_is_found
