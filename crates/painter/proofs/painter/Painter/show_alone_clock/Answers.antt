use Rattle.std.proofs.Common.{◌≡◌, ◌∙◌, ◌+◌, ◌*◌, ◌++◌, true, ℕ, List, bit_or, length, take, sym, ap, subst, arith}
use Rattle.serial_model.specs.declared.picture.Denise.{Denise}
use Rattle.serial_model.specs.Picture.{clock_collisions, held_after, step_of}
use Rattle.serial_model.specs.Window.{is_inside}
use Rattle.painter.specs.code.Overlay.{clock_over}
use Rattle.painter.specs.Painter.{with_held}
use Rattle.painter.specs.code.SpriteState.{SpriteRegisters, attached_in}
use Rattle.painter.specs.code.Starts.{IsAlone}
use Rattle.painter.specs.code.Steady.{IsSteadyFrom}
use Rattle.painter.proofs.Covering.{steady_same, steady_runs, steady_further, steady_first, steady_second, steady_pixels, steady_bits, column_reached}
use Rattle.painter.proofs.Overlays.{after_first, after_second, clock_shown, clock_stands, bits_apart}
use Rattle.painter.proofs.Pairs.{column_pair}
use Rattle.painter.proofs.Spans.{one_span}
use Rattle.painter.proofs.painter.Painter.show_alone_clock.Goals as goal

pub put_alone-requires-clause-pair : goal.put_alone-requires-clause-pair
put_alone-requires-clause-pair c paired =
    let holds : IsSteadyFrom (c.args.place.h + 0) c.args.steady.now c.show_inside.new.self =
    steady_further c.args.place.h 0 c.args.steady.now c.args.self.now c.show_inside.new.self c.show_inside.ensures.sprites c.show_inside.ensures.line
    c.requires.holds in
    column_pair c.show_inside.new.self.line (c.args.place.h + 0) (2 * c.args.place.h) (holds.pairs paired) (omega arith)

pub put_alone-requires-2-clause-pair : goal.put_alone-requires-2-clause-pair
put_alone-requires-2-clause-pair c paired =
    let holds : IsSteadyFrom (c.args.place.h + 0) c.args.steady.now c.show_inside.new.self =
    steady_further c.args.place.h 0 c.args.steady.now c.args.self.now c.show_inside.new.self c.show_inside.ensures.sprites c.show_inside.ensures.line
    c.requires.holds in
    column_pair c.show_inside.new.self.line (c.args.place.h + 0) (2 * c.args.place.h + 1) (holds.pairs paired) (omega arith)

pub returns-clause-given : goal.returns-clause-given
unfolding step_of
returns-clause-given c p clx stands reached =
    let v = c.args.place.v in
    let h = c.args.place.h in
    let reach = c.args.steady.now.reach in
    let now = c.show_inside.new.self in
    let shown = c.show_inside.new.into in
    let next : Denise = with_held (held_after c.args.place.v c.args.place.h 4 p) p in
    let held = c.show_inside.ensures.held p stands in
    let steady = steady_same c.args.place.h c.args.self.now c.show_inside.new.self c.show_inside.ensures.sprites c.requires.steady in
    let first : is_inside c.args.place.v (2 * c.args.place.h) c.show_inside.new.self.window.diwstrt c.show_inside.new.self.window.diwstop ≡ true =
    ap (λ window. is_inside v (2 * h) window.diwstrt window.diwstop) c.show_inside.ensures.window ∙ c.requires.first in
    let second : is_inside c.args.place.v (2 * c.args.place.h + 1) c.show_inside.new.self.window.diwstrt c.show_inside.new.self.window.diwstop ≡ true =
    ap (λ window. is_inside v (2 * h + 1) window.diwstrt window.diwstop) c.show_inside.ensures.window ∙ c.requires.second in
    let four : length c.show_inside.new.into ≡ 4 = ap (λ (l : List (List ℕ)). length l) (c.show_inside.ensures.pixels p stands) in
    let holds : IsSteadyFrom (c.args.place.h + 0) c.args.steady.now c.show_inside.new.self =
    steady_further c.args.place.h 0 c.args.steady.now c.args.self.now c.show_inside.new.self c.show_inside.ensures.sprites c.show_inside.ensures.line
    c.requires.holds in
    let over : c.put_alone-2.new.into ≡ clock_over c.args.place.v c.args.place.h c.show_inside.new.into next =
    steady_pixels v h now next shown c.put_alone.new.into c.put_alone-2.new.into held four first second
    (c.put_alone.ensures (after_first h next) (steady_first h now next held steady))
    (c.put_alone-2.ensures (after_second h next) (steady_second h now next held steady)) in
    let bits : clx ≡ bit_or clx (clock_collisions c.args.place.v c.args.place.h next) =
    steady_bits v h clx clx clx now next held first second
    (column_reached (2 * h) clx reach now (after_first h next) (steady_first h now next held steady)
    (λ con bits. holds.reach (2 * h) con bits (omega arith) (omega (arith, c.requires.place))) reached)
    (column_reached (2 * h + 1) clx reach now (after_second h next) (steady_second h now next held steady)
    (λ con bits. holds.reach (2 * h + 1) con bits (omega arith) (omega (arith, c.requires.place))) reached) in
    one_span c.args.place.system v h p now (take c.args.at c.args.room.now) (take (c.args.at + 12) c.put.new.room) clx clx
    (clock_stands c.args.place.system v h now p (steady_runs h now next held steady))
    (c.put.ensures.bytes
    ∙ ap (λ (l : List ℕ). take c.args.at c.args.room.now ++ l)
    (clock_shown c.args.place.system v h (held_after v h 4 p) p c.put_alone-2.new.into shown c.requires.seen
    (c.show_inside.ensures.pixels p stands) over))
    (bits ∙ ap (bit_or clx) (bits_apart v h (held_after v h 4 p) p))

pub show_inside-requires-clause-place : goal.show_inside-requires-clause-place
show_inside-requires-clause-place c = c.requires.place

pub show_inside-requires-clause-pairs : goal.show_inside-requires-clause-pairs
show_inside-requires-clause-pairs c = c.requires.holds.pairs

pub show_inside-requires-clause-first : goal.show_inside-requires-clause-first
show_inside-requires-clause-first c = c.requires.first

pub show_inside-requires-clause-second : goal.show_inside-requires-clause-second
show_inside-requires-clause-second c = c.requires.second

pub put_alone-requires-clause-room : goal.put_alone-requires-clause-room
put_alone-requires-clause-room c = omega (arith, c.requires.place)

pub put_alone-requires-clause-attached : goal.put_alone-requires-clause-attached
put_alone-requires-clause-attached c = c.requires.holds.attached ∙ ap (λ (s : SpriteRegisters). attached_in s) (sym c.show_inside.ensures.sprites)

pub put_alone-requires-clause-alone : goal.put_alone-requires-clause-alone
put_alone-requires-clause-alone c = c.requires.alone

pub put_alone-requires-clause-none : goal.put_alone-requires-clause-none
put_alone-requires-clause-none c =
    subst (λ (s : SpriteRegisters). IsAlone (2 * c.args.place.h) c.args.steady.now.lone s.runs) (sym c.show_inside.ensures.sprites)
    (c.requires.holds.alone c.requires.alone)

pub put_alone-requires-2-clause-room : goal.put_alone-requires-2-clause-room
put_alone-requires-2-clause-room c = omega (arith, c.requires.place)

pub put_alone-requires-2-clause-attached : goal.put_alone-requires-2-clause-attached
put_alone-requires-2-clause-attached c = c.requires.holds.attached ∙ ap (λ (s : SpriteRegisters). attached_in s) (sym c.show_inside.ensures.sprites)

pub put_alone-requires-2-clause-alone : goal.put_alone-requires-2-clause-alone
put_alone-requires-2-clause-alone c = c.requires.alone

pub put_alone-requires-2-clause-none : goal.put_alone-requires-2-clause-none
put_alone-requires-2-clause-none c =
    let first : IsAlone (2 * c.args.place.h) c.args.steady.now.lone c.show_inside.new.self.sprites.runs =
    subst (λ (s : SpriteRegisters). IsAlone (2 * c.args.place.h) c.args.steady.now.lone s.runs) (sym c.show_inside.ensures.sprites)
    (c.requires.holds.alone c.requires.alone) in
    record { none = λ q x few other from until. first.none q x few other (omega (arith, from)) until }

pub put-requires : goal.put-requires
put-requires c = c.requires.room

pub returns-clause-window : goal.returns-clause-window
returns-clause-window c = c.show_inside.ensures.window

pub returns-clause-sprites : goal.returns-clause-sprites
returns-clause-sprites c = c.show_inside.ensures.sprites

pub returns-clause-line : goal.returns-clause-line
returns-clause-line c = c.show_inside.ensures.line

pub returns-clause-size : goal.returns-clause-size
returns-clause-size c = c.put.ensures.size
