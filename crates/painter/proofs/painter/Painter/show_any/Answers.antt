use Rattle.std.proofs.Common.{◌≡◌, ◌∙◌, true, bit_or, sym, ap}
use Rattle.ocs_base.specs.Systems.{is_visible}
use Rattle.serial_model.specs.declared.picture.Denise.{Denise}
use Rattle.serial_model.specs.Picture.{held_after, step_of}
use Rattle.painter.specs.Painter.{with_held}
use Rattle.painter.proofs.Overlays.{clock_shown, clock_stands, bits_apart}
use Rattle.painter.proofs.painter.Painter.show_any.Goals as goal

pub returns-clause-pixels : goal.returns-clause-pixels
returns-clause-pixels c p stands shown =
    let v = c.args.beam.now.v in
    let h = c.args.beam.now.h in
    let next : Denise = with_held (held_after c.args.beam.now.v c.args.beam.now.h 4 p) p in
    let visible : is_visible c.args.system c.args.beam.now.v c.args.beam.now.h ≡ true = sym c.is_shown.ensures ∙ shown in
    clock_shown c.args.system v h (held_after v h 4 p) p c.show_sprites.new.into c.show_playfields.new.into visible
    (c.show_playfields.ensures.pixels p stands)
    (c.show_sprites.ensures.pixels next (c.show_playfields.ensures.held p stands))

pub returns-clause-held : goal.returns-clause-held
returns-clause-held c p stands =
    let v = c.args.beam.now.v in
    let h = c.args.beam.now.h in
    let next : Denise = with_held (held_after c.args.beam.now.v c.args.beam.now.h 4 p) p in
    clock_stands c.args.system v h c.show_sprites.new.self p
    (c.show_sprites.ensures.runs next (c.show_playfields.ensures.held p stands))

pub returns-clause-clx : goal.returns-clause-clx
unfolding step_of
returns-clause-clx c p stands =
    let v = c.args.beam.now.v in
    let h = c.args.beam.now.h in
    let next : Denise = with_held (held_after c.args.beam.now.v c.args.beam.now.h 4 p) p in
    c.show_sprites.ensures.clx next (c.show_playfields.ensures.held p stands)
    ∙ ap (bit_or c.args.clx.now) (bits_apart v h (held_after v h 4 p) p)
