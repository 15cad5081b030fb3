use Rattle.std.proofs.Common.{◌*◌, ℕ, subst}
use Rattle.serial_model.specs.declared.picture.Denise.{Denise}
use Rattle.painter.specs.Painter.{IsPainterOf, second_colour, with_held}
use Rattle.painter.proofs.Showing.{columns_of, clock_written}
use Rattle.painter.proofs.painter.Painter.show_columns.Goals as goal

pub returns-clause-pixels : goal.returns-clause-pixels
returns-clause-pixels c p stands =
    let next : Denise = with_held (second_colour c.args.v (2 * c.args.h) p) p in
    clock_written c.args.v c.args.h p c.args.into.now c.show_column.new.into c.show_column-2.new.into c.told-into
    (c.show_column.ensures.pixels p stands) (c.show_column-2.ensures.pixels next (c.show_column.ensures.held p stands))

pub returns-clause-held : goal.returns-clause-held
returns-clause-held c p stands =
    let next : Denise = with_held (second_colour c.args.v (2 * c.args.h) p) p in
    subst (λ (n : ℕ). IsPainterOf c.show_column-2.new.self (with_held n p)) (columns_of c.args.v c.args.h p).fourth
    (c.show_column-2.ensures.held next (c.show_column.ensures.held p stands))
