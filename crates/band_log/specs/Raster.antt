-- A raster as contracts see it, and what its calls make of it.
use Rattle.std.specs.Prelude.{◌≡◌, ℕ, ◌+◌, List, [], ◌∷◌, ◌++◌, drop, Option, Some, None}
use Rattle.serial_model.specs.Side.{SideValue}
use Rattle.serial_bands.specs.Run.{RunValue}
use Rattle.band_log.specs.declared.job.Drawn.{Drawn}
use Rattle.band_log.specs.Right.{IsRightFor}

-- a band that was submitted and is not yet collected: its run and its number
pub record Outstanding : Type 0 where
  pub run : RunValue
  pub number : ℕ

pub record RasterValue : Type 0 where
  -- in the order of submission
  pub outstanding : List Outstanding
  -- the number of the next band
  pub next : ℕ
  -- the run of which alone it takes bands, if there is one
  pub bound : Option RunValue
  -- what names the raster itself, and the byte under which it gives pixels: no call changes the two
  pub mark : ℕ
  pub tint : ℕ

-- a raster that is bound to a run takes bands of that run alone
abbrev pub Takes : Option RunValue → RunValue → Type 0
Takes None run = Unit {0}
Takes (Some bound) run = bound ≡ run

-- one more band is outstanding
abbrev pub with_submitted : RunValue → ℕ → RasterValue → RasterValue
with_submitted run n raster = record raster {
  outstanding = raster.outstanding ++ record { run = run; number = n } ∷ [];
  next = raster.next + 1;
}

-- the first outstanding band is taken away
abbrev pub without_first : RasterValue → RasterValue
without_first raster = record raster { outstanding = drop 1 raster.outstanding }

-- what was drawn is right under a tint for the first of outstanding bands; there is one
abbrev pub IsRightForFirst : {S : Type 0} → (S → SideValue) → ℕ → List Outstanding → Drawn S → Type 0
IsRightForFirst seen tint [] drawn = ⊥
IsRightForFirst seen tint (band ∷ bands) drawn = IsRightFor seen tint band.run band.number drawn
