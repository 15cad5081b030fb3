use Rattle.std.proofs.Common.{◌≡◌, ◌+◌, ◌*◌, ℕ, true, take, subst, arith}
use Rattle.ocs_base.specs.Systems.{is_visible}
use Rattle.serial_model.specs.Window.{is_inside}
use Rattle.painter.proofs.Begun.{begun, begun_again, begun_span}
use Rattle.painter.proofs.Overlays.{begun_stands}
use Rattle.painter.proofs.painter.Painter.show_next.Goals as goal

here : (h : ℕ) → h + 0 ≡ h
here h = omega arith

pub begun_clocks-steady-requires-clause-begun : goal.begun_clocks-steady-requires-clause-begun
begun_clocks-steady-requires-clause-begun c = begun_again (2 * c.args.from.h) c.args.self.now.sprites c.begin_words.new.self c.begin_words.ensures

pub show_beginning-requires-clause-first : goal.show_beginning-requires-clause-first
show_beginning-requires-clause-first c =
    subst (λ (n : ℕ). is_inside c.args.from.v (2 * n) c.args.self.now.window.diwstrt c.args.self.now.window.diwstop ≡ true) (here c.args.from.h)
    (c.requires.first 0 (omega (arith, c.requires.some)))

pub show_beginning-requires-clause-second : goal.show_beginning-requires-clause-second
show_beginning-requires-clause-second c =
    subst (λ (n : ℕ). is_inside c.args.from.v (2 * n + 1) c.args.self.now.window.diwstrt c.args.self.now.window.diwstop ≡ true) (here c.args.from.h)
    (c.requires.second 0 (omega (arith, c.requires.some)))

pub returns-then-steady-gt0-clause-given : goal.returns-then-steady-gt0-clause-given
returns-then-steady-gt0-clause-given c p stands =
    let h = c.args.from.h in
    begun_span c.args.from.system c.args.from.v h c.begun_clocks-steady.result p c.show_steady.new.self (take c.args.at c.args.room.now)
    (take (c.args.at + 12 * c.begun_clocks-steady.result) c.show_steady.new.room) c.args.clx.now c.show_steady.new.clx
    (omega (arith, c.if-steady-gt0.true))
    (c.show_steady.ensures.given (begun (2 * h) p) (begun_stands (2 * h) c.args.self.now p c.begin_words.new.self stands c.begin_words.ensures))

pub returns-clause-given : goal.returns-clause-given
returns-clause-given c p stands =
    let h = c.args.from.h in
    begun_span c.args.from.system c.args.from.v h 1 p c.show_beginning.new.self (take c.args.at c.args.room.now)
    (take (c.args.at + 12) c.show_beginning.new.room) c.args.clx.now c.show_beginning.new.clx (omega arith)
    (c.show_beginning.ensures.given (begun (2 * h) p) (begun_stands (2 * h) c.args.self.now p c.begin_words.new.self stands c.begin_words.ensures))

pub show_steady-requires-clause-first : goal.show_steady-requires-clause-first
show_steady-requires-clause-first c k lt = c.requires.first k (omega (arith, lt, c.begun_clocks-steady.ensures.most))

pub show_steady-requires-clause-second : goal.show_steady-requires-clause-second
show_steady-requires-clause-second c k lt = c.requires.second k (omega (arith, lt, c.begun_clocks-steady.ensures.most))

pub show_steady-requires-clause-seen : goal.show_steady-requires-clause-seen
show_steady-requires-clause-seen c k lt = c.requires.seen k (omega (arith, lt, c.begun_clocks-steady.ensures.most))

pub show_steady-requires-clause-steady : goal.show_steady-requires-clause-steady
show_steady-requires-clause-steady c = c.begun_clocks-steady.ensures.steady

pub show_steady-requires-clause-room : goal.show_steady-requires-clause-room
show_steady-requires-clause-room c = omega (arith, c.requires.room, c.begun_clocks-steady.ensures.most)

pub show_beginning-requires-clause-room : goal.show_beginning-requires-clause-room
show_beginning-requires-clause-room c = omega (arith, c.requires.room, c.requires.some)

pub show_beginning-requires-clause-seen : goal.show_beginning-requires-clause-seen
show_beginning-requires-clause-seen c =
    subst (λ (n : ℕ). is_visible c.args.from.system c.args.from.v n ≡ true) (here c.args.from.h) (c.requires.seen 0 (omega (arith, c.requires.some)))

pub returns-then-steady-gt0-clause-window : goal.returns-then-steady-gt0-clause-window
returns-then-steady-gt0-clause-window c = c.show_steady.ensures.window

pub returns-then-steady-gt0-clause-size : goal.returns-then-steady-gt0-clause-size
returns-then-steady-gt0-clause-size c = c.show_steady.ensures.size

pub returns-clause-window : goal.returns-clause-window
returns-clause-window c = c.show_beginning.ensures.window

pub returns-clause-size : goal.returns-clause-size
returns-clause-size c = c.show_beginning.ensures.size
