use Rattle.std.proofs.Common.{◌∙◌, ◌+◌, ◌++◌, ℕ, List, bit_or, take, ap}
use Rattle.serial_model.specs.declared.picture.Denise.{Denise}
use Rattle.serial_model.specs.Picture.{held_after, step_of}
use Rattle.painter.specs.Painter.{with_held}
use Rattle.painter.proofs.Overlays.{clock_shown, clock_stands, bits_apart}
use Rattle.painter.proofs.Spans.{one_span}
use Rattle.painter.proofs.painter.Painter.show_beginning.Goals as goal

pub returns-clause-given : goal.returns-clause-given
unfolding step_of
returns-clause-given c p stands =
    let v = c.args.place.v in
    let h = c.args.place.h in
    let next : Denise = with_held (held_after c.args.place.v c.args.place.h 4 p) p in
    let held = c.show_inside.ensures.held p stands in
    one_span c.args.place.system v h p c.show_sprite_columns.new.self (take c.args.at c.args.room.now) (take (c.args.at + 12) c.put.new.room)
    c.args.clx.now c.show_sprite_columns.new.clx
    (clock_stands c.args.place.system v h c.show_sprite_columns.new.self p (c.show_sprite_columns.ensures.runs next held))
    (c.put.ensures.bytes
    ∙ ap (λ (l : List ℕ). take c.args.at c.args.room.now ++ l)
    (clock_shown c.args.place.system v h (held_after v h 4 p) p c.show_sprite_columns.new.into c.show_inside.new.into c.requires.seen
    (c.show_inside.ensures.pixels p stands) (c.show_sprite_columns.ensures.pixels next held)))
    (c.show_sprite_columns.ensures.clx next held ∙ ap (bit_or c.args.clx.now) (bits_apart v h (held_after v h 4 p) p))
