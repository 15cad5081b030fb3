use Rattle.serial_bands.proofs.BandOrder.{shown_by_bands, read_after_bands, peek_after_bands}
use Rattle.serial_bands.proofs.WholeRun.{clock_has_band, number_has_band, bands_of_run, bands_are_few, number_is_small}
use Rattle.serial_bands.proofs.laws.bands_of_run.Goals as goal

pub returns-clause-clock : goal.returns-clause-clock
returns-clause-clock c = clock_has_band

pub returns-clause-number : goal.returns-clause-number
returns-clause-number c = number_has_band

pub returns-clause-all : goal.returns-clause-all
returns-clause-all c = bands_of_run

pub returns-clause-few : goal.returns-clause-few
returns-clause-few c = bands_are_few

pub returns-clause-small : goal.returns-clause-small
returns-clause-small c = number_is_small

pub returns-clause-shown : goal.returns-clause-shown
returns-clause-shown c = shown_by_bands

pub returns-clause-read : goal.returns-clause-read
returns-clause-read c = read_after_bands

pub returns-clause-peek : goal.returns-clause-peek
returns-clause-peek c = peek_after_bands
