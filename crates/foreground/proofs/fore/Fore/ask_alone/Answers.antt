use Rattle.std.proofs.Common.{sym, subst}
use Rattle.serial_model.specs.declared.bus.Ask.{Ask}
use Rattle.foreground.specs.Fore.{over}
use Rattle.machine.specs.MachineSteps.{AsksInTime}
use Rattle.foreground.proofs.fore.Fore.ask_alone.Goals as goal

pub returns-clause-asks : goal.returns-clause-asks
returns-clause-asks g c =
    subst (λ (ask : Ask). AsksInTime ask (over g.S.Side.seen c.args.self.now).machine (over g.S.Side.seen c.ask-early.new.self).machine)
    (sym c.early_or_late.ensures) c.ask-early.ensures.asks
