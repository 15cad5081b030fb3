use Rattle.std.proofs.Common.{◌≡◌, ◌∙◌, ◌+◌, ◌++◌, ℕ, List, true, false, take, sym, ap, arith}
use Rattle.painter.specs.Span.{visible_clocks}
use Rattle.painter.proofs.Spans.{one_span, one_visible, hidden_bytes}
use Rattle.painter.proofs.painter.Painter.show_one.Goals as goal

pub put-requires : goal.put-requires
put-requires c =
    let one : visible_clocks c.args.place.system c.args.place.v c.args.place.h 1 ≡ 1 =
    one_visible c.args.place.system c.args.place.v c.args.place.h true (sym c.show.ensures.visible ∙ c.if-show.true) in
    omega (arith, c.requires.room)

pub returns-then-show-clause-given : goal.returns-then-show-clause-given
returns-then-show-clause-given c p stands =
    one_span c.args.place.system c.args.place.v c.args.place.h p c.show.new.self (take c.args.at c.args.room.now) (take (c.args.at + 12) c.put.new.room)
    c.args.clx.now c.show.new.clx (c.show.ensures.held p stands)
    (c.put.ensures.bytes ∙ ap (λ (l : List ℕ). take c.args.at c.args.room.now ++ l) (c.show.ensures.pixels p stands c.if-show.true))
    (c.show.ensures.clx p stands)

pub returns-then-show-clause-filled : goal.returns-then-show-clause-filled
returns-then-show-clause-filled c =
    let one : visible_clocks c.args.place.system c.args.place.v c.args.place.h 1 ≡ 1 =
    one_visible c.args.place.system c.args.place.v c.args.place.h true (sym c.show.ensures.visible ∙ c.if-show.true) in
    omega arith

pub returns-clause-given : goal.returns-clause-given
returns-clause-given c p stands =
    one_span c.args.place.system c.args.place.v c.args.place.h p c.show.new.self (take c.args.at c.args.room.now) (take c.args.at c.args.room.now)
    c.args.clx.now c.show.new.clx (c.show.ensures.held p stands)
    (hidden_bytes c.args.place.system c.args.place.v c.args.place.h p (take c.args.at c.args.room.now) (sym c.show.ensures.visible ∙ c.if-show.false))
    (c.show.ensures.clx p stands)

pub returns-clause-filled : goal.returns-clause-filled
returns-clause-filled c =
    let one : visible_clocks c.args.place.system c.args.place.v c.args.place.h 1 ≡ 0 =
    one_visible c.args.place.system c.args.place.v c.args.place.h false (sym c.show.ensures.visible ∙ c.if-show.false) in
    omega arith
