use Rattle.std.proofs.Common.{[], ℕ, List, get_or, ap, subst}
use Rattle.serial_model.specs.Picture.{held_after}
use Rattle.painter.specs.code.Held.{IsHeld}
use Rattle.painter.proofs.Showing.{held_clock, with_held_stands}
use Rattle.painter.proofs.painter.Painter.show_held.Goals as goal

pub returns-clause-pixels : goal.returns-clause-pixels
returns-clause-pixels c p stands =
    held_clock c.args.v c.args.h c.args.self.now p stands c.requires.place c.requires.first c.requires.second c.requires.held
    c.args.into.now c.show_modified-held.new.into c.show_modified.new.into c.told-into
    (c.show_modified-held.ensures.pixels p.held.0 (c.hold-held.ensures p.held.0 stands.held))
    (λ (colour : ℕ) is. c.show_modified.ensures.pixels colour
    (subst (IsHeld c.show_modified-held.result) is (c.show_modified-held.ensures.held p.held.0 (c.hold-held.ensures p.held.0 stands.held))))

pub returns-clause-held : goal.returns-clause-held
returns-clause-held c p stands =
    with_held_stands c.args.self.now p (get_or c.show_modified.new.into 3 []) (held_after c.args.v c.args.h 4 p) stands
    (ap (λ (l : List (List ℕ)). get_or l 3 []) (returns-clause-pixels c p stands))
