-- A raster that took no band yet and is bound to no run fits a new foreground.
use Rattle.std.proofs.Common.{◌≡◌, ℕ, [], None, subst, sym}
use Rattle.serial_bands.specs.Run.{RunValue}
use Rattle.band_log.specs.Raster.{RasterValue, Takes}
use Rattle.foreground.specs.Fore.{ForeValue, IsNew, IsUnderway}

pub begins : (run : RunValue) (fore : ForeValue) (seen : RasterValue) → IsNew run fore → seen.outstanding ≡ [] → seen.next ≡ 0
    → seen.bound ≡ None → (first : ℕ) × IsUnderway fore first seen
begins run fore seen new empty first unbound =
    (0, new.fits seen empty first (subst (λ bound. Takes bound run) (sym unbound) tt))
