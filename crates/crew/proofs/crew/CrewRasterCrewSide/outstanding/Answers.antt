use Rattle.std.proofs.Common.{◌≡◌, ℕ, ◌-◌, sym, ◌∙◌, arith}
use Rattle.band_board.specs.Answers.{front_view}
use Rattle.crew.proofs.Gathering.{length-outstanding}
use Rattle.crew.proofs.crew.CrewRasterCrewSide.outstanding.Goals as goal

pub returns : goal.returns
returns g c =
    let v = front_view c.args.self.now.front in
    let is = c.args.self.now.is_crew in
    let behind = is.behind in
    let count : ◌≡◌ {A = ℕ} c.args.self.now.waiting (v.published - v.collected) = omega arith in
    count ∙ sym (length-outstanding _ v is.run_is)
