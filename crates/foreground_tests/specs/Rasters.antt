-- Rasters of the tests, which hand their calls to one that draws its bands itself, of runs without a side.
use Rattle.std.specs.Arc.{arc_value}
use Rattle.serial_model.specs.declared.side.NoSide.{NoSide}
use Rattle.serial_model.specs.Side.{SideValue, no_side}
use Rattle.serial_bands.specs.Run.{RunValue, run_over}
use Rattle.band_log.specs.declared.job.Job.{Job}
use Rattle.band_log.specs.Raster.{RasterValue}
use Rattle.band_draw.specs.Direct.{DirectValue, seen_of}

abbrev pub none_seen : NoSide → SideValue
none_seen side = no_side

abbrev pub run_of_job : Job NoSide → RunValue
run_of_job job = run_over none_seen (arc_value job.run)

-- under the tint 255
abbrev pub inverted : DirectValue NoSide → RasterValue
inverted direct = record (seen_of none_seen direct) { tint = 255 }
