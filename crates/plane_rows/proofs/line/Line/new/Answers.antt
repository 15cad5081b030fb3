use Rattle.plane_rows.proofs.Loading.{blank_shows}
use Rattle.plane_rows.proofs.line.Line.new.Goals as goal

pub returns : goal.returns
returns c = record {
  odd = blank_shows 1 c.new.result.shown c.new.ensures.shown;
  even = blank_shows 2 c.new-2.result.shown c.new-2.ensures.shown;
}
