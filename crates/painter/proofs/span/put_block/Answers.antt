use Rattle.std.proofs.Common.{replicate}
use Rattle.serial_model.specs.Picture.{colour_bytes}
use Rattle.painter.proofs.Clocks.{four_put_alike}
use Rattle.painter.proofs.span.put_block.Goals as goal

pub returns-clause-bytes : goal.returns-clause-bytes
returns-clause-bytes c colour is =
    four_put_alike c.args.at (replicate 4 (colour_bytes colour)) c.args.room.now
    c.put_twice.new.room c.put_twice-2.new.room c.put_twice-3.new.room c.put_last.new.room
    (c.put_twice.ensures.bytes colour is) (c.put_twice-2.ensures.bytes colour is) (c.put_twice-3.ensures.bytes colour is)
    (c.put_last.ensures.bytes colour is)
