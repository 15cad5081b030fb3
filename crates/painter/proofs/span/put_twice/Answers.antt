use Rattle.painter.proofs.Wide.{pairs_put}
use Rattle.painter.proofs.span.put_twice.Goals as goal

pub returns-clause-bytes : goal.returns-clause-bytes
returns-clause-bytes c colour is =
    pairs_put c.args.at colour colour c.args.room.now c.put_eight.new.room c.put_eight-2.new.room c.args.two.now c.args.two.now is is
    c.put_eight.ensures.six c.put_eight-2.ensures.six
