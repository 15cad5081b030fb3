use Rattle.std.proofs.Common.{ℕ, ◌%◌, nat_eq, slice_index, ◌∙◌, ap}
use Rattle.painter.specs.code.SpriteState.{SpriteRegisters, has_start}
use Rattle.painter.proofs.Beginning.{any_of_eight}
use Rattle.painter.proofs.sprite_state.SpriteState.may_begin.Goals as goal

pub returns : goal.returns
returns c =
    any_of_eight (λ (sprite : ℕ). nat_eq (slice_index c.self.inside.pos sprite % 256) c.args.h)
    ∙ ap (λ (s : SpriteRegisters). has_start c.args.h s) c.self.view_is
