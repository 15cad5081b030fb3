use Rattle.std.proofs.Common.{ap}
use Rattle.std.proofs.lemmas.Result.{on_ok_weaker}
use Rattle.foreground.specs.Fore.{over}
use Rattle.foreground.proofs.BeginLaws.{begins_within_now}
use Rattle.foreground.proofs.KeptLaws.{before_seen}
use Rattle.foreground.proofs.fore.Fore.go_on.Goals as goal

pub returns-clause-begins : goal.returns-clause-begins
returns-clause-begins g c =
    on_ok_weaker c.take_waiting.result (λ waits. λ seen out. begins_within_now _ (over g.S.Side.seen c.args.self.now) c.take_waiting.new.self seen out
    (ap (over g.S.Side.seen) c.self.view_is) c.requires.running
    (before_seen _ (over g.S.Side.seen c.args.self.now) (ap (over g.S.Side.seen) c.self.view_is) c.requires.before) c.requires.place c.requires.unread waits)
    c.take_waiting.ensures
