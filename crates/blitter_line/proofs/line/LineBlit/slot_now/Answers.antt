use Rattle.std.proofs.Common.{arith, ◌<◌, ◌≤◌, ◌∙◌}
use Rattle.blit_words.specs.Blit.{height_of}
use Rattle.blitter_line.proofs.Walking.{shown_going, shown_done}
use Rattle.blitter_line.proofs.line.LineBlit.slot_now.Goals as goal

pub returns-then-self-height : goal.returns-then-self-height
returns-then-self-height c =
    let b = c.args.self.now in
    let below : b.count < height_of b.start = omega (arith, c.height.ensures.value) in
    c.slot_ask.ensures ∙ shown_going b below

pub returns-else-self-height : goal.returns-else-self-height
returns-else-self-height c =
    let over : height_of c.args.self.now.start ≤ c.args.self.now.count = omega (arith, c.height.ensures.value) in
    shown_done c.args.self.now over
