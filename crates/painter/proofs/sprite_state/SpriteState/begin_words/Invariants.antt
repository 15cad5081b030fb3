-- The words of the sprites below `sprite` have begun.
use Rattle.std.proofs.Common.{◌≡◌}
use Rattle.painter.specs.code.SpriteState.{first_begun}
use Rattle.painter.proofs.sprite_state.SpriteState.begin_words.Given as goal

abbrev pub invariant-loop-sprite : goal.invariant-loop-sprite
invariant-loop-sprite l = l.self ≡ first_begun l.column l.initial.self l.sprite
