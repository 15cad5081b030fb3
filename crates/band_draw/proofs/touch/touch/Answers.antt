use Rattle.std.proofs.Common.{ℕ, subst}
use Rattle.serial_model.specs.Picture.{set_picture, sprite_data}
use Rattle.band_draw.specs.BandPainter.{IsBandPainterOf}
use Rattle.band_draw.proofs.touch.touch.Goals as goal

pub returns-then-sprite-lt8-clause-paints : goal.returns-then-sprite-lt8-clause-paints
returns-then-sprite-lt8-clause-paints c from p later is =
    rw c.in-Sprite.is
    (subst (λ (w : ℕ). IsBandPainterOf from c.fill_sprite.new.self (set_picture c.args.h (sprite_data c.in-Sprite.sprite c.in-Sprite.second) w p))
    c.word-word-in-Sprite.ensures.word (c.fill_sprite.ensures.paints c.args.h from p later is))
