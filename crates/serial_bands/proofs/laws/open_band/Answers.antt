use Rattle.serial_bands.proofs.Opening.{band_opens, band_goes_on, band_closes}
use Rattle.serial_bands.proofs.laws.open_band.Goals as goal

pub returns-clause-opens : goal.returns-clause-opens
returns-clause-opens c = band_opens

pub returns-clause-on : goal.returns-clause-on
returns-clause-on c = band_goes_on

pub returns-clause-closes : goal.returns-clause-closes
returns-clause-closes c = band_closes
