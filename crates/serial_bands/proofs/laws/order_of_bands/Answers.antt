use Rattle.serial_bands.proofs.BandOrder.{first_band, next_band, one_band, begun_in_band, one_band_more, bytes_of_all, clx_of_all, opening_of_next}
use Rattle.serial_bands.proofs.laws.order_of_bands.Goals as goal

pub returns-clause-first : goal.returns-clause-first
returns-clause-first c = first_band

pub returns-clause-next : goal.returns-clause-next
returns-clause-next c = next_band

pub returns-clause-one : goal.returns-clause-one
returns-clause-one c = one_band

pub returns-clause-within : goal.returns-clause-within
returns-clause-within c = begun_in_band

pub returns-clause-joined : goal.returns-clause-joined
returns-clause-joined c = one_band_more

pub returns-clause-bytes : goal.returns-clause-bytes
returns-clause-bytes c = bytes_of_all

pub returns-clause-clx : goal.returns-clause-clx
returns-clause-clx c = clx_of_all

pub returns-clause-opening : goal.returns-clause-opening
returns-clause-opening c = opening_of_next
