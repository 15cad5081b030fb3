use Rattle.std.proofs.Common.{ap, ◌∙◌}
use Rattle.blit_words.specs.Blitter.{is_done}
use Rattle.blitter_area.proofs.Walking.{shows, done_is}
use Rattle.blitter_area.proofs.area.AreaBlit.is_done.Goals as goal

pub returns-clause-shown : goal.returns-clause-shown
returns-clause-shown c = let b = c.args.self.now in done_is b b.height b.height_is

pub returns-clause-ask : goal.returns-clause-ask
returns-clause-ask c = λ s ws h. let b = c.args.self.now in done_is b b.height b.height_is ∙ ap is_done (shows b s ws h)
