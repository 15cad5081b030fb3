use Rattle.std.proofs.Common.{◌≡◌, ◌+◌, ◌*◌, ◌∙◌, false, sym, arith}
use Rattle.serial_model.specs.Window.{is_inside}
use Rattle.painter.proofs.Overlays.{inside_same, same_bits, clock_outside, quiet_kept, none_gather}
use Rattle.painter.proofs.painter.Painter.is_gathered.Goals as goal

pub returns-then-clx-eq1-clause-clx : goal.returns-then-clx-eq1-clause-clx
returns-then-clx-eq1-clause-clx c is p stands blank = quiet_kept c.args.v c.args.h c.args.clx p (omega arith)

pub returns-then-not-do_playfields_meet-clause-clx : goal.returns-then-not-do_playfields_meet-clause-clx
returns-then-not-do_playfields_meet-clause-clx c is p stands blank =
    same_bits c.args.clx _ (none_gather c.args.v c.args.h c.args.self.now p stands (omega arith) blank
    (sym c.do_playfields_meet.ensures ∙ c.if-not-do_playfields_meet.true))

pub returns-clause-clx : goal.returns-clause-clx
returns-clause-clx c is p stands blank =
    let v = c.args.v in
    let now = c.args.self.now in
    let first : is_inside c.args.v (2 * c.args.h) p.diwstrt p.diwstop ≡ false =
    inside_same v (2 * c.args.h) now p stands ∙ c.excludes_clock.ensures.first is in
    let second : is_inside c.args.v (2 * c.args.h + 1) p.diwstrt p.diwstop ≡ false =
    inside_same v (2 * c.args.h + 1) now p stands ∙ c.excludes_clock.ensures.second is in
    same_bits c.args.clx _ (clock_outside v c.args.h p first second)
