use Rattle.std.proofs.Common.{◌+◌, ◌*◌, List, ℕ, take, subst, sym}
use Rattle.painter.specs.Span.{IsSpan}
use Rattle.painter.proofs.painter.Painter.show_alone.Goals as goal

pub returns-then-put_pair-clause-given : goal.returns-then-put_pair-clause-given
returns-then-put_pair-clause-given c p clx stands reached =
    subst (λ (l : List ℕ). IsSpan c.args.from.system c.args.from.v c.args.from.h c.args.count p (record c.args.self.now { held = l })
    (take c.args.filled c.args.room.now) (take (c.args.filled + 12 * c.args.count) c.put_pair.new.room) clx clx) (sym c.ink_bytes-self.ensures)
    (c.put_pair.ensures.given c.if-put_pair.true p clx stands reached)

pub returns-clause-given : goal.returns-clause-given
returns-clause-given c p clx stands reached =
    subst (λ (l : List ℕ). IsSpan c.args.from.system c.args.from.v c.args.from.h c.args.count p c.show_alone_clocks.new.self
    (take c.args.filled l) (take (c.args.filled + 12 * c.args.count) c.show_alone_clocks.new.room) clx clx) (c.put_pair.ensures.same c.if-put_pair.false)
    (c.show_alone_clocks.ensures.given p clx stands reached)
