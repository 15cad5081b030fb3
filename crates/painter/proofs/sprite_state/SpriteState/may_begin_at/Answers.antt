use Rattle.std.proofs.Common.{ℕ, ◌+◌, ◌*◌, ◌%◌, nat_eq, slice_index, ◌∙◌, ap}
use Rattle.painter.specs.code.SpriteState.{SpriteRegisters, has_start_at}
use Rattle.painter.proofs.Beginning.{any_of_eight}
use Rattle.painter.proofs.sprite_state.SpriteState.may_begin_at.Goals as goal

pub returns : goal.returns
returns c =
    any_of_eight (λ (sprite : ℕ). nat_eq (2 * (slice_index c.self.inside.pos sprite % 256) + slice_index c.self.inside.ctl sprite % 2) c.args.column)
    ∙ ap (λ (s : SpriteRegisters). has_start_at c.args.column s) c.self.view_is
