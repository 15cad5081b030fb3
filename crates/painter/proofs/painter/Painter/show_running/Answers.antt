use Rattle.std.proofs.Common.{◌≡◌, ◌∙◌, ◌+◌, ◌*◌, ℕ, true, sym, ap, arith}
use Rattle.painter.specs.Span.{visible_clocks}
use Rattle.painter.proofs.Spans.{visible_within}
use Rattle.painter.proofs.Clocks.{all_visible}
use Rattle.painter.proofs.painter.Painter.show_running.Goals as goal

pub show_covered-behind-requires-clause-first : goal.show_covered-behind-requires-clause-first
show_covered-behind-requires-clause-first c = c.clocks_inside-inside.ensures.first

pub show_covered-behind-requires-clause-second : goal.show_covered-behind-requires-clause-second
show_covered-behind-requires-clause-second c = c.clocks_inside-inside.ensures.second

pub show_covered-behind-requires-clause-seen : goal.show_covered-behind-requires-clause-seen
show_covered-behind-requires-clause-seen c k lt =
    c.requires.seen k (omega (arith, lt, c.clocks_inside-inside.ensures.most)) ∙ c.if-near.true

pub show_covered-behind-requires-clause-room : goal.show_covered-behind-requires-clause-room
show_covered-behind-requires-clause-room c =
    let n : ℕ = c.clocks_inside-inside.result in
    let all : visible_clocks c.args.from.system c.args.from.v c.args.from.h c.clocks_inside-inside.result ≡ c.clocks_inside-inside.result =
    all_visible c.args.from.system c.args.from.v c.args.from.h n true
    (λ k lt. c.requires.seen k (omega (arith, lt, c.clocks_inside-inside.ensures.most)) ∙ c.if-near.true) n (omega arith) in
    let within = visible_within c.args.from.system c.args.from.v c.args.from.h n c.args.near.now.count (omega (arith, c.clocks_inside-inside.ensures.most)) in
    omega (arith, c.requires.room)

pub returns-then-inside-gt0-clause-filled : goal.returns-then-inside-gt0-clause-filled
returns-then-inside-gt0-clause-filled c =
    let n : ℕ = c.clocks_inside-inside.result in
    c.show_covered-behind.ensures.place
    ∙ ap (λ (m : ℕ). c.args.at + 12 * m) (sym (all_visible c.args.from.system c.args.from.v c.args.from.h n true
    (λ k lt. c.requires.seen k (omega (arith, lt, c.clocks_inside-inside.ensures.most)) ∙ c.if-near.true) n (omega arith)))

pub show_each-behind-requires-clause-room : goal.show_each-behind-requires-clause-room
show_each-behind-requires-clause-room c =
    let within = visible_within c.args.from.system c.args.from.v c.args.from.h c.min-count.result c.args.near.now.count (omega arith) in
    omega (arith, c.requires.room)
