use Rattle.std.proofs.Common.{arith, ap, ◌∙◌, refl}
use Rattle.blit_words.specs.Blitter.{is_done}
use Rattle.blitter_line.proofs.Walking.{going, goes_on, shows, answered, answered_all}
use Rattle.blitter_line.proofs.line.LineBlit.give.Goals as goal

pub end_point-requires : goal.end_point-requires
end_point-requires c = going c.args.self.now c.requires

pub returns-then-self-lt3-clause-done : goal.returns-then-self-lt3-clause-done
returns-then-self-lt3-clause-done c = goes_on _ (going c.args.self.now c.requires)

pub returns-then-self-lt3-clause-ask : goal.returns-then-self-lt3-clause-ask
returns-then-self-lt3-clause-ask c = λ s ws h. goes_on _ (going c.args.self.now c.requires) ∙ ap is_done (shows _ s ws h)

pub returns-then-self-lt3-clause-gives : goal.returns-then-self-lt3-clause-gives
returns-then-self-lt3-clause-gives c = λ s ws h. record {
  walks = answered c.args.self.now _ s ws c.args.word h (record {
    start = refl;
    point = refl;
    count = refl;
    zero = refl;
    source = c.source_after-self.ensures;
  });
  place = omega arith;
}

pub returns-else-self-lt3-clause-gives : goal.returns-else-self-lt3-clause-gives
returns-else-self-lt3-clause-gives c = λ s ws h.
    c.end_point.ensures s _ (answered_all c.args.self.now _ s ws c.args.word h (record {
      start = refl;
      point = refl;
      count = refl;
      zero = refl;
      source = c.source_after-self.ensures;
    })
    (omega arith))
