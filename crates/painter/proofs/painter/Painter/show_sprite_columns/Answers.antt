use Rattle.std.proofs.Common.{List, Option, subst}
use Rattle.sprites.specs.declared.runs.Start.{Start}
use Rattle.painter.specs.code.Overlay.{with_runs}
use Rattle.painter.specs.Painter.{IsPainterOf}
use Rattle.painter.proofs.Overlays.{after_first, clock_changed, clock_gathered, runs_of}
use Rattle.painter.proofs.painter.Painter.show_sprite_columns.Goals as goal

pub returns-clause-pixels : goal.returns-clause-pixels
returns-clause-pixels c p stands =
    clock_changed c.args.v c.args.h p c.args.into.now c.show_sprite_column.new.into c.show_sprite_column-2.new.into c.told-into
    (c.show_sprite_column.ensures.pixels p stands)
    (c.show_sprite_column-2.ensures.pixels (after_first c.args.h p) (c.show_sprite_column.ensures.runs p stands))

pub returns-clause-runs : goal.returns-clause-runs
returns-clause-runs c p stands =
    subst (λ (runs : List (Option Start)). IsPainterOf c.show_sprite_column-2.new.self (with_runs runs p)) (runs_of c.args.h p).both
    (c.show_sprite_column-2.ensures.runs (after_first c.args.h p) (c.show_sprite_column.ensures.runs p stands))

pub returns-clause-clx : goal.returns-clause-clx
returns-clause-clx c p stands =
    clock_gathered c.args.v c.args.h p c.args.clx.now c.show_sprite_column.new.clx c.show_sprite_column-2.new.clx
    (c.show_sprite_column.ensures.clx p stands)
    (c.show_sprite_column-2.ensures.clx (after_first c.args.h p) (c.show_sprite_column.ensures.runs p stands))
