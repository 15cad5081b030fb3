use Rattle.serial_bands.proofs.BandRanges.{tint_of_two, length_of_tint, bands_rise, bands_begin, bands_are_alone}
use Rattle.serial_bands.proofs.BandRanges.{bands_of_two, bytes_of_bands_tinted, open_is_band, bytes_rise}
use Rattle.serial_bands.proofs.laws.bands_joined.Goals as goal

pub returns-clause-tint : goal.returns-clause-tint
returns-clause-tint c = tint_of_two

pub returns-clause-length : goal.returns-clause-length
returns-clause-length c = length_of_tint

pub returns-clause-rise : goal.returns-clause-rise
returns-clause-rise c = bands_rise

pub returns-clause-begin : goal.returns-clause-begin
returns-clause-begin c = bands_begin

pub returns-clause-alone : goal.returns-clause-alone
returns-clause-alone c = bands_are_alone

pub returns-clause-two : goal.returns-clause-two
returns-clause-two c = bands_of_two

pub returns-clause-bytes : goal.returns-clause-bytes
returns-clause-bytes c = bytes_of_bands_tinted

pub returns-clause-opened : goal.returns-clause-opened
returns-clause-opened c = open_is_band

pub returns-clause-room : goal.returns-clause-room
returns-clause-room c = bytes_rise
