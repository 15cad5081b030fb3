-- A crew as contracts see it.
use Rattle.std.specs.Prelude.{◌≡◌, ◌<◌, ◌^◌, [], Some}
use Rattle.std.proofs.Common.{lit<}
use Rattle.std.specs.Arc.{arc_value}
use Rattle.run_side.specs.Side.{side_of}
use Rattle.run_side.specs.declared.side.RunSide.{RunSide}
use Rattle.serial_model.specs.Side.{SideValue}
use Rattle.serial_bands.specs.Run.{RunValue}
use Rattle.band_log.specs.Raster.{RasterValue}
use Rattle.band_board.specs.Answers.{front_view}
use Rattle.crew.specs.declared.crew.Crew.{Crew}
use Rattle.crew.specs.Parts.{seen_of}

-- what a side of a crew's runs does
abbrev pub side_seen : RunSide → SideValue
side_seen side = side_of side

module _ {R G : Type 0} where
  -- the crew as a raster
  abbrev pub crew_seen : Crew R G → RasterValue
  crew_seen crew = seen_of side_seen (arc_value crew.board).table.shared.table_id (front_view crew.front)

  -- its tint is a byte
  pub crew_tint : (crew : Crew R G) → (crew_seen crew).tint < 2 ^ 8
  crew_tint crew = lit< {m = 0} {n = 256} tt

  -- the crew is bound to a run, with nothing outstanding, and its next number is 0
  abbrev pub IsNewCrew : RunValue → Crew R G → Type 0
  IsNewCrew run crew = crew_seen crew ≡ record { outstanding = []; next = 0; bound = Some run; mark = (crew_seen crew).mark; tint = 0 }
