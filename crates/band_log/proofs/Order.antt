-- The first of a list that is not empty stands where it is when others are put behind.
use Rattle.std.proofs.Common.{◌≡◌, ◌<◌, ◌+◌, List, [], ◌∷◌, ◌++◌, length, drop, refl, ap, arith}
use Rattle.band_log.specs.Raster.{Outstanding, RasterValue}
use Rattle.band_log.specs.Laws.{FirstComesFirst}

drop-first : (bands more : List Outstanding) → 0 < length bands → drop 1 (bands ++ more) ≡ drop 1 bands ++ more
drop-first [] more some = absurd (omega (arith, some))
drop-first (band ∷ bands) more some = refl

pub first_comes_first : FirstComesFirst
first_comes_first run n raster some =
    let with_bands : List Outstanding → RasterValue = λ bands. record raster { outstanding = bands; next = raster.next + 1 } in
    ap with_bands (drop-first raster.outstanding (record { run = run; number = n } ∷ []) some)
