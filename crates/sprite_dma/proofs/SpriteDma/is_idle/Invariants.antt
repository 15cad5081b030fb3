use Rattle.std.proofs.Common.{ℕ, ◌≡◌, ◌<◌, get_or}
use Rattle.serial_model.specs.declared.fetch.SpriteKind.TheVariants.{Nothing}
use Rattle.sprite_dma.proofs.SpriteDma.is_idle.Given as goal

-- the sprites looked at read nothing
abbrev pub invariant-loop-sprite : goal.invariant-loop-sprite
invariant-loop-sprite l = (k : ℕ) → k < l.sprite → get_or l.self k Nothing ≡ Nothing
