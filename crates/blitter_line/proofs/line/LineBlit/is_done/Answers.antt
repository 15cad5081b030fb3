use Rattle.std.proofs.Common.{ap, ◌∙◌}
use Rattle.blit_words.specs.Blitter.{is_done}
use Rattle.blitter_line.proofs.Walking.{shows, done_is}
use Rattle.blitter_line.proofs.line.LineBlit.is_done.Goals as goal

pub returns-clause-shown : goal.returns-clause-shown
returns-clause-shown c = done_is c.args.self.now c.height.result c.height.ensures.value

pub returns-clause-ask : goal.returns-clause-ask
returns-clause-ask c = λ s ws h.
    let b = c.args.self.now in
    done_is b c.height.result c.height.ensures.value ∙ ap is_done (shows b s ws h)
