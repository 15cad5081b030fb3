use Rattle.std.proofs.Common.{◌+◌, ◌*◌, arith}
use Rattle.serial_model.specs.Picture.{sprite_data}
use Rattle.painter.proofs.Registers.{sprite_from, second_word, first_word}
use Rattle.painter.proofs.painter.Painter.fill_sprite.Goals as goal

pub returns-then-second : goal.returns-then-second
returns-then-second c h p is =
    rw (sprite_from h (sprite_data c.args.sprite c.args.second) (8 * c.args.sprite + 6) c.args.word p (omega (arith, c.requires))
    (second_word c.args.sprite c.args.second c.if-second.true)) (c.set_sprite.ensures p is)

pub returns-else-second : goal.returns-else-second
returns-else-second c h p is =
    rw (sprite_from h (sprite_data c.args.sprite c.args.second) (8 * c.args.sprite + 4) c.args.word p (omega (arith, c.requires))
    (first_word c.args.sprite c.args.second c.if-second.false)) (c.set_sprite-else-second.ensures p is)
