use Rattle.machine.specs.Machine.{machine_over}
use Rattle.std.proofs.Common.{sym, subst, ap}
use Rattle.foreground.specs.Fore.{ForeValue, over}
use Rattle.foreground.specs.Script.{IsMachine}
use Rattle.foreground.proofs.AskedLaws.{runs_events}
use Rattle.foreground.proofs.ReachLaws.{machine_started}
use Rattle.foreground.proofs.fore.Fore.run_to_timers.Goals as goal

pub run_events-requires-clause-some : goal.run_events-requires-clause-some
run_events-requires-clause-some g c =
    machine_started _ _ c.args.out.now (subst (λ (f : ForeValue). IsMachine f.machine) (sym (ap (over g.S.Side.seen) c.self.view_is)) c.requires.some)
    c.start.ensures.step

pub returns-clause-events : goal.returns-clause-events
returns-clause-events g c =
    runs_events _ _ _ _ _ _ _ (ap (over g.S.Side.seen) c.self.view_is) c.start.ensures.step
    (ap (machine_over g.S.Side.seen) c.start.ensures.same)
    c.in_ok-run_events.ensures.step c.in_ok-run_events.ensures.place c.in_ok-run_events.ensures.noted
    c.in_ok-run_events.ensures.script (ap (over g.S.Side.seen) c.in_ok-run_events.ensures.same)
