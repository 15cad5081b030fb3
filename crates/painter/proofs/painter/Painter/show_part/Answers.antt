use Rattle.std.proofs.Common.{◌≡◌, ◌∙◌, ◌+◌, ◌*◌, ℕ, true, take, sym, ap, arith}
use Rattle.painter.specs.Span.{visible_clocks}
use Rattle.painter.proofs.Spans.{visible_within}
use Rattle.painter.proofs.Clocks.{all_visible, backdrop_span}
use Rattle.painter.proofs.painter.Painter.show_part.Goals as goal

pub show_backdrops-behind-requires : goal.show_backdrops-behind-requires
show_backdrops-behind-requires c visible =
    let n : ℕ = c.backdrops-blank.result in
    let all : visible_clocks c.args.from.system c.args.from.v c.args.from.h c.backdrops-blank.result ≡ c.backdrops-blank.result =
    all_visible c.args.from.system c.args.from.v c.args.from.h n true
    (λ k lt. c.clocks_alike-near.ensures.seen k (omega (arith, lt, c.backdrops-blank.ensures.most, c.idle_clocks-idle.ensures.most)) ∙ visible)
    n (omega arith) in
    let within = visible_within c.args.from.system c.args.from.v c.args.from.h n c.args.count
    (omega (arith, c.clocks_alike-near.ensures.most, c.backdrops-blank.ensures.most, c.idle_clocks-idle.ensures.most)) in
    omega (arith, c.requires.room)

pub returns-then-blank-gt0-clause-given : goal.returns-then-blank-gt0-clause-given
returns-then-blank-gt0-clause-given c p stands =
    backdrop_span c.args.from.system c.args.from.v c.args.from.h c.backdrops-blank.result c.clocks_alike-near.result.visible c.args.self.now
    c.show_backdrops-behind.new.self p (take c.args.at c.args.room.now) (take c.show_backdrops-behind.result c.show_backdrops-behind.new.room)
    c.args.clx.now c.backdrops-blank.ensures.known
    (λ k lt. c.clocks_alike-near.ensures.seen k (omega (arith, lt, c.backdrops-blank.ensures.most, c.idle_clocks-idle.ensures.most)))
    stands (omega arith) c.show_backdrops-behind.ensures.held c.show_backdrops-behind.ensures.shown
    c.show_backdrops-behind.ensures.hidden (c.backdrops-blank.ensures.clx p stands)

pub returns-then-blank-gt0-clause-filled : goal.returns-then-blank-gt0-clause-filled
returns-then-blank-gt0-clause-filled c =
    let n : ℕ = c.backdrops-blank.result in
    c.show_backdrops-behind.ensures.place
    ∙ ap (λ (m : ℕ). c.args.at + 12 * m) (sym (all_visible c.args.from.system c.args.from.v c.args.from.h n c.clocks_alike-near.result.visible
    (λ k lt. c.clocks_alike-near.ensures.seen k (omega (arith, lt, c.backdrops-blank.ensures.most, c.idle_clocks-idle.ensures.most))) n (omega arith)))

pub show_planes-behind-requires-clause-seen : goal.show_planes-behind-requires-clause-seen
show_planes-behind-requires-clause-seen c k lt =
    c.clocks_alike-near.ensures.seen k (omega (arith, lt, c.inside_ahead-inside.ensures.most, c.idle_clocks-idle.ensures.most)) ∙ c.if-near.true

pub show_planes-behind-requires-clause-room : goal.show_planes-behind-requires-clause-room
show_planes-behind-requires-clause-room c =
    let n : ℕ = c.inside_ahead-inside.result in
    let all : visible_clocks c.args.from.system c.args.from.v c.args.from.h c.inside_ahead-inside.result ≡ c.inside_ahead-inside.result =
    all_visible c.args.from.system c.args.from.v c.args.from.h n true
    (λ k lt. c.clocks_alike-near.ensures.seen k (omega (arith, lt, c.inside_ahead-inside.ensures.most, c.idle_clocks-idle.ensures.most))
    ∙ c.if-near.true) n (omega arith) in
    let within = visible_within c.args.from.system c.args.from.v c.args.from.h n c.args.count
    (omega (arith, c.clocks_alike-near.ensures.most, c.inside_ahead-inside.ensures.most, c.idle_clocks-idle.ensures.most)) in
    omega (arith, c.requires.room)

pub returns-then-inside-gt0-clause-filled : goal.returns-then-inside-gt0-clause-filled
returns-then-inside-gt0-clause-filled c =
    let n : ℕ = c.inside_ahead-inside.result in
    c.show_planes-behind.ensures.place
    ∙ ap (λ (m : ℕ). c.args.at + 12 * m) (sym (all_visible c.args.from.system c.args.from.v c.args.from.h n true
    (λ k lt. c.clocks_alike-near.ensures.seen k (omega (arith, lt, c.inside_ahead-inside.ensures.most, c.idle_clocks-idle.ensures.most))
    ∙ c.if-near.true) n (omega arith)))

pub show_running-requires-clause-room : goal.show_running-requires-clause-room
show_running-requires-clause-room c =
    let within = visible_within c.args.from.system c.args.from.v c.args.from.h c.clocks_alike-near.result.count c.args.count c.clocks_alike-near.ensures.most in
    omega (arith, c.requires.room)
