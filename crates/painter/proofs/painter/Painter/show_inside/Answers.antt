use Rattle.std.proofs.Common.{[], ◌∙◌, ◌+◌, ◌*◌, ℕ, List, get_or, sym, ap, arith}
use Rattle.serial_model.specs.Picture.{held_after}
use Rattle.painter.proofs.Showing.{backdrop_stands, ink_clock, unset_clock, with_held_stands}
use Rattle.painter.proofs.Pairs.{column_pair}
use Rattle.painter.proofs.painter.Painter.show_inside.Goals as goal

pub show_inks-requires-clause-pair : goal.show_inks-requires-clause-pair
show_inks-requires-clause-pair c paired =
    column_pair c.args.self.now.line c.args.h (2 * c.args.h) (c.requires.pairs paired) (omega arith)

pub show_inks-requires-2-clause-pair : goal.show_inks-requires-2-clause-pair
show_inks-requires-2-clause-pair c paired =
    column_pair c.args.self.now.line c.args.h (2 * c.args.h + 1) (c.requires.pairs paired) (omega arith)

pub returns-clause-pixels : goal.returns-clause-pixels
returns-clause-pixels c p stands =
    ink_clock c.args.v c.args.h c.args.self.now p stands c.requires.place c.requires.first c.requires.second
    (sym c.holds_colour.ensures ∙ c.if-holds_colour.false) c.args.into.now c.show_inks.new.into c.show_inks-2.new.into c.told-into
    c.show_inks.ensures c.show_inks-2.ensures

pub returns-clause-held : goal.returns-clause-held
returns-clause-held c p stands =
    with_held_stands c.args.self.now p (get_or c.show_inks-2.new.into 3 []) (held_after c.args.v c.args.h 4 p) stands
    (ap (λ (l : List (List ℕ)). get_or l 3 []) (returns-clause-pixels c p stands))

pub returns-then-is_blank_from-clause-pixels : goal.returns-then-is_blank_from-clause-pixels
returns-then-is_blank_from-clause-pixels c p stands =
    c.show_backdrop.ensures.pixels
    ∙ unset_clock c.args.v c.args.h c.args.self.now p stands c.requires.place
    (λ x from. c.is_blank_from.ensures.blank c.if-is_blank_from.true x from)

pub returns-then-is_blank_from-clause-held : goal.returns-then-is_blank_from-clause-held
returns-then-is_blank_from-clause-held c p stands =
    backdrop_stands c.args.v c.args.h c.args.self.now c.show_backdrop.new.self p stands
    (unset_clock c.args.v c.args.h c.args.self.now p stands c.requires.place
    (λ x from. c.is_blank_from.ensures.blank c.if-is_blank_from.true x from))
    c.show_backdrop.ensures.held
