use Rattle.std.proofs.Common.{◌+◌, ◌*◌, ◌∙◌, [], ℕ, List, get_or, sym, ap}
use Rattle.painter.specs.Painter.{second_colour}
use Rattle.painter.proofs.Showing.{border_column, ink_column, held_column, next_modified, two_written, last_written, with_held_stands}
use Rattle.painter.proofs.painter.Painter.show_column.Goals as goal
use Rattle.painter.proofs.painter.Painter.show_column.Goals.{then-not-has, else-not-has+then-holds_colour, else-not-has+else-holds_colour}

pub returns-clause-pixels : goal.returns-clause-pixels
returns-clause-pixels c p stands =
    elim c.if-not-has.branch [
      | then-not-has w ↦
          let both = border_column c.args.v c.args.column c.args.self.now p stands (sym c.has.ensures ∙ w.if-not-has.true) in
          w.into-is ∙ w.show_border.ensures ∙ two_written c.args.into.now c.args.at _ _ _ _ both.0 both.1
      | else-not-has+then-holds_colour w ↦
          let both = held_column c.args.v c.args.column c.args.self.now p stands c.requires.room
          (sym c.has.ensures ∙ w.if-not-has.false) (sym w.holds_colour.ensures ∙ w.if-holds_colour.true) in
          w.into-is
          ∙ w.show_modified.ensures.pixels p.held.0 (w.hold.ensures p.held.0 stands.held)
          ∙ two_written c.args.into.now c.args.at _ _ _ _ both.0
          (next_modified c.args.self.now.inks c.args.self.now.line (2 * c.args.column + 1) _ _ _ both.0 both.1)
      | else-not-has+else-holds_colour w ↦
          let both = ink_column c.args.v c.args.column c.args.self.now p stands c.requires.room
          (sym c.has.ensures ∙ w.if-not-has.false) (sym w.holds_colour.ensures ∙ w.if-holds_colour.false) in
          w.into-is ∙ w.show_inks.ensures ∙ two_written c.args.into.now c.args.at _ _ _ _ both.0 both.1
    ]

pub returns-clause-held : goal.returns-clause-held
returns-clause-held c p stands =
    with_held_stands c.args.self.now p (get_or c.if-not-has.into (c.args.at + 1) []) (second_colour c.args.v c.args.column p) stands
    (ap (λ (l : List (List ℕ)). get_or l (c.args.at + 1) []) (returns-clause-pixels c p stands)
    ∙ last_written c.args.into.now c.args.at _ _ [] c.told-into c.requires.place)
