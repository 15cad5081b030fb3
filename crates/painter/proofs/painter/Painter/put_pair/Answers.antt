use Rattle.std.proofs.Common.{◌≡◌, ◌∙◌, ◌+◌, ◌*◌, true, take, sym, arith}
use Rattle.painter.proofs.PairOver.{span_of_pair}
use Rattle.painter.proofs.painter.Painter.put_pair.Goals as goal

pub returns-clause-given : goal.returns-clause-given
returns-clause-given c put p clx stands reached =
    let paired : c.args.steady.now.paired ≡ true = grind arith in
    span_of_pair c.args.from.system c.args.from.v c.args.from.h c.args.count c.args.steady.now c.in-Some.row.now
    (take c.args.at c.args.room.now) (take (c.args.at + 12 * c.args.count) c.put_clocks_over.new.room) clx c.args.self.now p stands
    (record {
      place = c.requires.place;
      first = c.requires.first;
      second = c.requires.second;
      seen = c.requires.seen;
      begins = c.requires.steady;
      holds = c.requires.holds;
      alone = c.requires.alone;
      paired = paired;
      free = sym c.holds_colour.ensures ∙ c.if-holds_colour.false;
      bytes = record { bytes = c.in-Some.ensures.value };
    }) reached c.requires.some c.put_clocks_over.ensures.bytes
