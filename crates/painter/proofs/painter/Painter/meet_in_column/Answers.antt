use Rattle.std.proofs.Common.{◌≡◌, ◌+◌, ◌*◌, ◌∙◌, bit_or, true, false, sym, ap, replicate}
use Rattle.serial_model.specs.Window.{is_inside}
use Rattle.painter.proofs.Overlays.{same_bits, bits_outside, inside_same, meets_same, first_meets, second_meets, none_meets}
use Rattle.painter.proofs.painter.Painter.meet_in_column.Goals as goal
use Rattle.painter.proofs.painter.Painter.meet_in_column.Goals.{then-do_playfields_meet-via-then-do_playfields_meet}
use Rattle.painter.proofs.painter.Painter.meet_in_column.Goals.{then-do_playfields_meet-via-else-do_playfields_meet+then-do_playfields_meet-2}

pub returns-then-not-has : goal.returns-then-not-has
returns-then-not-has c p stands =
    let outside : is_inside c.args.v c.args.column p.diwstrt p.diwstop ≡ false =
    inside_same c.args.v c.args.column c.args.self.now p stands ∙ sym c.has.ensures ∙ c.if-not-has.true in
    same_bits c.args.clx.now _ (bits_outside c.args.v c.args.column (replicate 8 0) p outside)

pub returns-then-do_playfields_meet : goal.returns-then-do_playfields_meet
returns-then-do_playfields_meet c p stands =
    let inside : is_inside c.args.v c.args.column p.diwstrt p.diwstop ≡ true =
    inside_same c.args.v c.args.column c.args.self.now p stands ∙ sym c.has.ensures ∙ c.if-not-has.false in
    elim c.then-do_playfields_meet.branch [
      | then-do_playfields_meet-via-then-do_playfields_meet w ↦
          ap (bit_or c.args.clx.now) (sym (first_meets c.args.v c.args.column p inside
          (meets_same (2 * c.args.column) _ _ c.args.self.now p stands (c.planes_at-first.ensures p stands) c.do_playfields_meet.ensures
          ∙ w.if-do_playfields_meet.true)))
      | then-do_playfields_meet-via-else-do_playfields_meet+then-do_playfields_meet-2 w ↦
          ap (bit_or c.args.clx.now) (sym (second_meets c.args.v c.args.column p inside
          (meets_same (2 * c.args.column + 1) _ _ c.args.self.now p stands (c.planes_at-second.ensures p stands)
          w.do_playfields_meet-else-do_playfields_meet.ensures
          ∙ w.if-do_playfields_meet-2.true)))
    ]

pub returns-else-do_playfields_meet-2 : goal.returns-else-do_playfields_meet-2
returns-else-do_playfields_meet-2 c p stands =
    let inside : is_inside c.args.v c.args.column p.diwstrt p.diwstop ≡ true =
    inside_same c.args.v c.args.column c.args.self.now p stands ∙ sym c.has.ensures ∙ c.if-not-has.false in
    same_bits c.args.clx.now _ (none_meets c.args.v c.args.column p inside
    (meets_same (2 * c.args.column) _ _ c.args.self.now p stands (c.planes_at-first.ensures p stands) c.do_playfields_meet.ensures
    ∙ c.if-do_playfields_meet.false)
    (meets_same (2 * c.args.column + 1) _ _ c.args.self.now p stands (c.planes_at-second.ensures p stands)
    c.do_playfields_meet-else-do_playfields_meet.ensures
    ∙ c.if-do_playfields_meet-2.false))
