use Rattle.std.proofs.Common.{◌≡◌, ◌∙◌, true, false, sym}
use Rattle.serial_model.specs.declared.picture.Denise.{Denise}
use Rattle.serial_model.specs.Picture.{runs_at, sprite_values}
use Rattle.serial_model.specs.Window.{is_inside}
use Rattle.painter.specs.code.Overlay.{with_runs}
use Rattle.painter.proofs.Overlays.{begun_stands, column_inside, column_outside, bits_inside, bits_outside, inside_same, same_bits}
use Rattle.painter.proofs.painter.Painter.show_sprite_column.Goals as goal

pub returns-then-has-clause-pixels : goal.returns-then-has-clause-pixels
returns-then-has-clause-pixels c p stands =
    let next : Denise = with_runs (runs_at c.args.column p p.runs) p in
    let inside : is_inside c.args.v c.args.column p.diwstrt p.diwstop ≡ true =
    inside_same c.args.v c.args.column c.args.self.now p stands ∙ sym c.has.ensures ∙ c.if-has.true in
    c.cover_column.ensures.pixels next (begun_stands c.args.column c.args.self.now p c.begin_words.new.self stands c.begin_words.ensures)
    ∙ column_inside c.args.v c.args.column c.args.at c.args.into.now next inside

pub returns-then-has-clause-clx : goal.returns-then-has-clause-clx
returns-then-has-clause-clx c p stands =
    let next : Denise = with_runs (runs_at c.args.column p p.runs) p in
    let inside : is_inside c.args.v c.args.column p.diwstrt p.diwstop ≡ true =
    inside_same c.args.v c.args.column c.args.self.now p stands ∙ sym c.has.ensures ∙ c.if-has.true in
    rw (← bits_inside c.args.v c.args.column next inside)
    (c.cover_column.ensures.clx next (begun_stands c.args.column c.args.self.now p c.begin_words.new.self stands c.begin_words.ensures))

pub returns-else-has-clause-pixels : goal.returns-else-has-clause-pixels
returns-else-has-clause-pixels c p stands =
    let outside : is_inside c.args.v c.args.column p.diwstrt p.diwstop ≡ false =
    inside_same c.args.v c.args.column c.args.self.now p stands ∙ sym c.has.ensures ∙ c.if-has.false in
    column_outside c.args.v c.args.column c.args.at c.args.into.now (with_runs (runs_at c.args.column p p.runs) p) outside

pub returns-else-has-clause-clx : goal.returns-else-has-clause-clx
returns-else-has-clause-clx c p stands =
    let next : Denise = with_runs (runs_at c.args.column p p.runs) p in
    let outside : is_inside c.args.v c.args.column p.diwstrt p.diwstop ≡ false =
    inside_same c.args.v c.args.column c.args.self.now p stands ∙ sym c.has.ensures ∙ c.if-has.false in
    same_bits c.args.clx.now _ (bits_outside c.args.v c.args.column (sprite_values c.args.column (runs_at c.args.column p p.runs)) next outside)
