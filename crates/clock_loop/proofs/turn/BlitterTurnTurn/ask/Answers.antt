use Rattle.std.proofs.Common.{subst, sym}
use Rattle.chip_set.specs.Bus.{CiasRest}
use Rattle.foreground.specs.Fore.{ForeOf}
use Rattle.clock_loop.proofs.BusLaws.{unit_view}
use Rattle.clock_loop.proofs.turn.BlitterTurnTurn.ask.Goals as goal

pub ask_without_planes-requires-clause-rest : goal.ask_without_planes-requires-clause-rest
ask_without_planes-requires-clause-rest g c =
    subst (λ (f : ForeOf _). CiasRest f.machine.t c.args.rest.now f.machine.chips) (sym c.fore.view_is) c.requires.rest

pub ask_without_planes-requires-clause-unit : goal.ask_without_planes-requires-clause-unit
ask_without_planes-requires-clause-unit g c = unit_view g.S.Side.seen _ c.args.fore.now c.args.unit.now c.fore.view_is c.requires.unit
