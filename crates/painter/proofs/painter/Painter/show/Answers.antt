use Rattle.std.proofs.Common.{◌≡◌, ◌∙◌, true, bit_or, sym, ap}
use Rattle.ocs_base.specs.Systems.{is_visible}
use Rattle.serial_model.specs.Picture.{step_of}
use Rattle.painter.proofs.Overlays.{backdrop_shown, backdrop_stands_after, backdrop_gathers}
use Rattle.painter.proofs.painter.Painter.show.Goals as goal

pub returns-then-is_backdrop-clause-pixels : goal.returns-then-is_backdrop-clause-pixels
returns-then-is_backdrop-clause-pixels c p stands shown =
    let visible : is_visible c.args.system c.args.beam.now.v c.args.beam.now.h ≡ true = sym c.is_shown.ensures ∙ shown in
    backdrop_shown c.args.system c.args.beam.now.v c.args.beam.now.h c.args.self.now p c.show_backdrop.new.into stands
    (c.is_backdrop.ensures.idle c.if-is_backdrop.true) (c.is_backdrop.ensures.pixels c.if-is_backdrop.true p stands) visible
    c.show_backdrop.ensures.pixels

pub returns-then-is_backdrop-clause-held : goal.returns-then-is_backdrop-clause-held
returns-then-is_backdrop-clause-held c p stands =
    backdrop_stands_after c.args.system c.args.beam.now.v c.args.beam.now.h c.args.self.now c.show_backdrop.new.self p stands
    (c.is_backdrop.ensures.idle c.if-is_backdrop.true) (c.is_backdrop.ensures.pixels c.if-is_backdrop.true p stands)
    c.show_backdrop.ensures.held

pub returns-then-is_backdrop-clause-clx : goal.returns-then-is_backdrop-clause-clx
unfolding step_of
returns-then-is_backdrop-clause-clx c p stands =
    c.is_backdrop.ensures.clx c.if-is_backdrop.true p stands
    ∙ ap (bit_or c.args.clx.now) (backdrop_gathers c.args.beam.now.v c.args.beam.now.h c.args.self.now p stands
    (c.is_backdrop.ensures.idle c.if-is_backdrop.true))
