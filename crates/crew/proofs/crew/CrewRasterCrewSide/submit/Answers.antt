use Rattle.std.proofs.Common.{◌≤◌, sym, ◌∙◌, arith}
use Rattle.std.specs.Arc.{arc_value}
use Rattle.run_side.specs.Side.{side_of}
use Rattle.band_board.specs.Answers.{front_view}
use Rattle.crew.proofs.Gathering.{seen-offer, length-outstanding, right_for, crew_offers}
use Rattle.crew.proofs.Ending.{one_table}
use Rattle.crew.proofs.crew.CrewRasterCrewSide.submit.Goals as goal

pub offer-requires-clause-board : goal.offer-requires-clause-board
offer-requires-clause-board g c κs = c.args.self.now.is_crew.front_of ∙ sym (one_table _ _ c.deref-2.ensures)

pub offer-requires-clause-next : goal.offer-requires-clause-next
offer-requires-clause-next g c κs = c.requires.number

pub offer-requires-clause-room : goal.offer-requires-clause-room
offer-requires-clause-room g c κs =
    let v = front_view c.args.self.now.front in
    let count = length-outstanding side_of v c.args.self.now.is_crew.run_is in
    omega (arith, count, c.requires.few, c.requires.number)

pub offer-requires-clause-right : goal.offer-requires-clause-right
offer-requires-clause-right g c κs =
    let v = front_view c.args.self.now.front in
    right_for side_of v.run c.deref.result.now (arc_value c.args.job.run) c.args.job.number c.args.job c.args.self.now.is_crew.run_is
    c.requires.bound c.deref.ensures c.script-good.ensures.good c.requires.right

pub returns : goal.returns
returns g c =
    let v = front_view c.args.self.now.front in
    let is = c.args.self.now.is_crew in
    let sum = is.behind in
    let behind : v.collected ≤ v.published = omega arith in
    seen-offer _ _ v (front_view c.offer.new.self) _ c.args.job.number is.run_is c.requires.bound behind c.requires.number c.offer.ensures.view

pub invariant_of-self : goal.invariant_of-self
invariant_of-self g c = record {
  is_crew =
      crew_offers side_of (arc_value c.args.self.now.board) c.args.self.now.front c.offer.new.self c.args.self.now.hand _ c.args.self.now.is_crew
      (c.offer.ensures.board ∙ one_table _ _ c.deref-2.ensures) c.offer.ensures.view c.requires.few;
}
