use Rattle.std.proofs.Common.{◌≡◌, ◌∙◌, ◌+◌, ◌*◌, ◌++◌, ℕ, List, bit_or, take, ap, subst, arith}
use Rattle.serial_model.specs.declared.picture.Denise.{Denise}
use Rattle.serial_model.specs.Picture.{held_after, step_of}
use Rattle.serial_model.specs.Window.{is_inside}
use Rattle.painter.specs.Painter.{with_held}
use Rattle.painter.specs.code.Steady.{IsSteadyFrom}
use Rattle.painter.proofs.Covering.{steady_same, steady_runs, steady_further}
use Rattle.painter.proofs.Overlays.{clock_shown, clock_stands, bits_apart}
use Rattle.painter.proofs.Spans.{one_span}
use Rattle.painter.proofs.painter.Painter.show_steady_clock.Goals as goal

pub cover_clock-requires-clause-first : goal.cover_clock-requires-clause-first
cover_clock-requires-clause-first c =
    ap (λ window. is_inside c.args.place.v (2 * c.args.place.h) window.diwstrt window.diwstop) c.show_inside.ensures.window ∙ c.requires.first

pub cover_clock-requires-clause-second : goal.cover_clock-requires-clause-second
cover_clock-requires-clause-second c =
    ap (λ window. is_inside c.args.place.v (2 * c.args.place.h + 1) window.diwstrt window.diwstop) c.show_inside.ensures.window ∙ c.requires.second

pub cover_clock-requires-clause-steady : goal.cover_clock-requires-clause-steady
cover_clock-requires-clause-steady c =
    steady_same c.args.place.h c.args.self.now c.show_inside.new.self c.show_inside.ensures.sprites c.requires.steady

pub show_inside-requires-clause-pairs : goal.show_inside-requires-clause-pairs
show_inside-requires-clause-pairs c = λ never. cc

pub cover_clock-requires-clause-holds : goal.cover_clock-requires-clause-holds
cover_clock-requires-clause-holds c =
    let same : c.args.place.h + 0 ≡ c.args.place.h = omega arith in
    subst (λ (h : ℕ). IsSteadyFrom h c.args.steady.now c.show_inside.new.self) same
    (steady_further c.args.place.h 0 c.args.steady.now c.args.self.now c.show_inside.new.self c.show_inside.ensures.sprites c.show_inside.ensures.line
    c.requires.holds)

pub returns-clause-given : goal.returns-clause-given
unfolding step_of
returns-clause-given c p stands =
    let v = c.args.place.v in
    let h = c.args.place.h in
    let now = c.show_inside.new.self in
    let next : Denise = with_held (held_after c.args.place.v c.args.place.h 4 p) p in
    let held = c.show_inside.ensures.held p stands in
    let steady = steady_same c.args.place.h c.args.self.now c.show_inside.new.self c.show_inside.ensures.sprites c.requires.steady in
    one_span c.args.place.system v h p now (take c.args.at c.args.room.now) (take (c.args.at + 12) c.put.new.room)
    c.args.clx.now c.cover_clock.new.clx
    (clock_stands c.args.place.system v h now p (steady_runs h now next held steady))
    (c.put.ensures.bytes
    ∙ ap (λ (l : List ℕ). take c.args.at c.args.room.now ++ l)
    (clock_shown c.args.place.system v h (held_after v h 4 p) p c.cover_clock.new.into c.show_inside.new.into c.requires.seen
    (c.show_inside.ensures.pixels p stands) (c.cover_clock.ensures.pixels next held)))
    (c.cover_clock.ensures.clx next held ∙ ap (bit_or c.args.clx.now) (bits_apart v h (held_after v h 4 p) p))
