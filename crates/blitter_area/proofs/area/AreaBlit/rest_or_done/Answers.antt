use Rattle.std.proofs.Common.{arith, ◌<◌, ◌≤◌, ◌∙◌, ap, sym}
use Rattle.blit_words.specs.Blit.{height_of}
use Rattle.blitter_area.specs.Walk.{shown_ask}
use Rattle.blitter_area.proofs.Walking.{asked_is, shown_going, shown_done}
use Rattle.blitter_area.proofs.area.AreaBlit.rest_or_done.Goals as goal

pub returns-then-self : goal.returns-then-self
returns-then-self c =
    let b = c.args.self.now in
    let height = b.height_is in
    let below : b.row < height_of b.start = omega (arith, height) in
    ap (shown_ask b b.start) (sym c.requires ∙ asked_is b below) ∙ shown_going b below

pub returns-else-self : goal.returns-else-self
returns-else-self c =
    let b = c.args.self.now in
    let height = b.height_is in
    let over : height_of b.start ≤ b.row = omega (arith, height) in
    shown_done b over
