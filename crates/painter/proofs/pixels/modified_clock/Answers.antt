use Rattle.std.proofs.Common.{◌∙◌, subst}
use Rattle.painter.specs.code.Held.{IsHeld}
use Rattle.painter.specs.code.Pixels.{modified_along}
use Rattle.painter.proofs.Showing.{two_written}
use Rattle.painter.proofs.Modifying.{four_modified, one_modified, two_modified, three_modified, last_modified}
use Rattle.painter.proofs.Pairs.{first_pair, second_pair}
use Rattle.painter.proofs.pixels.modified_clock.Goals as goal

pub show_two-second-requires-clause-pair : goal.show_two-second-requires-clause-pair
show_two-second-requires-clause-pair c paired = first_pair c.args.painter.now.line c.args.x (c.requires.pairs paired)

pub show_two-requires-clause-pair : goal.show_two-requires-clause-pair
show_two-requires-clause-pair c paired = second_pair c.args.painter.now.line c.args.x (c.requires.pairs paired)

pub returns-clause-held : goal.returns-clause-held
returns-clause-held c colour is =
    let inks = c.args.painter.now.inks in
    let line = c.args.painter.now.line in
    let x = c.args.x in
    let second : IsHeld c.show_two-second.result (modified_along c.args.painter.now.inks c.args.painter.now.line c.args.x colour 2) =
    subst (IsHeld c.show_two-second.result) (two_modified inks line x colour) (c.show_two-second.ensures.held colour is) in
    subst (IsHeld c.show_two.result) (last_modified inks line x colour)
    (c.show_two.ensures.held (modified_along c.args.painter.now.inks c.args.painter.now.line c.args.x colour 2) second)

pub returns-clause-pixels : goal.returns-clause-pixels
returns-clause-pixels c colour is =
    let inks = c.args.painter.now.inks in
    let line = c.args.painter.now.line in
    let x = c.args.x in
    let second : IsHeld c.show_two-second.result (modified_along c.args.painter.now.inks c.args.painter.now.line c.args.x colour 2) =
    subst (IsHeld c.show_two-second.result) (two_modified inks line x colour) (c.show_two-second.ensures.held colour is) in
    four_modified inks line x colour c.args.into.now c.show_two-second.new.into c.show_two.new.into c.told-into
    (c.show_two-second.ensures.pixels colour is
    ∙ two_written c.args.into.now 0 _ _ _ _ (one_modified inks line x colour) (two_modified inks line x colour))
    (c.show_two.ensures.pixels (modified_along c.args.painter.now.inks c.args.painter.now.line c.args.x colour 2) second
    ∙ two_written c.show_two-second.new.into 2 _ _ _ _ (three_modified inks line x colour) (last_modified inks line x colour))
