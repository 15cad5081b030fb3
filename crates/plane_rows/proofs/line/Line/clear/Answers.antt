use Rattle.plane_rows.proofs.Loading.{blank_shows}
use Rattle.plane_rows.proofs.line.Line.clear.Goals as goal

pub returns : goal.returns
returns c = record {
  odd = blank_shows 1 c.clear.new.self.shown c.clear.ensures.shown;
  even = blank_shows 2 c.clear-2.new.self.shown c.clear-2.ensures.shown;
}
