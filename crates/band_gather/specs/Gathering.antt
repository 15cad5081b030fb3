-- When drawn bands are gathered.
use Rattle.std.specs.Prelude.{ℕ}
use Rattle.band_gather.specs.declared.gathering.Gathering.{Gathering}
use Rattle.band_gather.specs.declared.gathering.Gathering.TheVariants.{Soon, Late}

-- how many bands may be outstanding when one more is submitted
abbrev pub places_of : Gathering → ℕ
places_of Soon = 1
places_of Late = 16
