use Rattle.std.proofs.Common.{◌∙◌, bit_or, ap, arith}
use Rattle.painter.proofs.Overlays.{still, still_pixels, still_collisions, quiet_kept, same_runs_stand}
use Rattle.painter.proofs.painter.Painter.show_sprites.Goals as goal

pub returns-then-clx-eq0-clause-pixels : goal.returns-then-clx-eq0-clause-pixels
returns-then-clx-eq0-clause-pixels c p stands =
    still_pixels c.args.v c.args.h p _ c.args.into.now
    (still c.args.h c.args.self.now p stands (c.is_idle.ensures.idle c.if-not-is_idle.false)) c.told-into

pub returns-then-clx-eq0-clause-runs : goal.returns-then-clx-eq0-clause-runs
returns-then-clx-eq0-clause-runs c p stands =
    same_runs_stand c.args.self.now p _ stands
    (still c.args.h c.args.self.now p stands (c.is_idle.ensures.idle c.if-not-is_idle.false)).both

pub returns-then-clx-eq0-clause-clx : goal.returns-then-clx-eq0-clause-clx
returns-then-clx-eq0-clause-clx c p stands =
    c.meet_playfields.ensures p stands
    ∙ ap (bit_or c.args.clx.now) (still_collisions c.args.v c.args.h p _
    (still c.args.h c.args.self.now p stands (c.is_idle.ensures.idle c.if-not-is_idle.false)))

pub returns-else-clx-eq0-clause-pixels : goal.returns-else-clx-eq0-clause-pixels
returns-else-clx-eq0-clause-pixels c p stands =
    still_pixels c.args.v c.args.h p _ c.args.into.now
    (still c.args.h c.args.self.now p stands (c.is_idle.ensures.idle c.if-not-is_idle.false)) c.told-into

pub returns-else-clx-eq0-clause-runs : goal.returns-else-clx-eq0-clause-runs
returns-else-clx-eq0-clause-runs c p stands =
    same_runs_stand c.args.self.now p _ stands
    (still c.args.h c.args.self.now p stands (c.is_idle.ensures.idle c.if-not-is_idle.false)).both

pub returns-else-clx-eq0-clause-clx : goal.returns-else-clx-eq0-clause-clx
returns-else-clx-eq0-clause-clx c p stands =
    quiet_kept c.args.v c.args.h c.args.clx.now p (omega arith)
    ∙ ap (bit_or c.args.clx.now) (still_collisions c.args.v c.args.h p _
    (still c.args.h c.args.self.now p stands (c.is_idle.ensures.idle c.if-not-is_idle.false)))
