use Rattle.band_board.specs.Answers.{front_view}
use Rattle.crew.proofs.Gathering.{seen-gather, right-gather}
use Rattle.crew.proofs.crew.CrewRasterCrewSide.collect.Goals as goal

pub returns-clause-taken : goal.returns-clause-taken
returns-clause-taken g c =
    seen-gather _ _ (front_view c.args.self.now.front) _ _ c.args.self.now.is_crew.run_is c.requires c.gather-drawn.ensures.first

pub returns-clause-right : goal.returns-clause-right
returns-clause-right g c =
    right-gather _ (front_view c.args.self.now.front) _ _ c.args.self.now.is_crew.run_is c.requires c.gather-drawn.ensures.first
