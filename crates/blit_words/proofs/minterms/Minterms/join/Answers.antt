use Rattle.blit_words.proofs.Choices.{joined_is}
use Rattle.blit_words.proofs.minterms.Minterms.join.Goals as goal

pub returns : goal.returns
returns c =
    let self = c.args.self.now in
    joined_is self.lf c.args.a c.args.b c.args.c _ _ _ _ _ _ _ _ _ _ _ _ _ _ _ self.neither_is self.b_alone_is self.a_alone_is self.both_is
    c.by-2.ensures c.by.ensures c.by-4.ensures c.by-3.ensures c.choose-low.ensures c.choose-high.ensures c.choose.ensures
