-- A visit pushes a checkpoint, or nothing.
use Rattle.std.proofs.Common.{refl, sym, ap, ◌∙◌}
use Rattle.rewind_loop.specs.Places.{is_due}
use Rattle.rewind_loop.specs.Present.{run_in, fore_of, raster_of}
use Rattle.rewind_loop.proofs.PresentLaws.{present_none, present_again}
use Rattle.rewind_loop.proofs.rewind.Rewind.visit.Goals as goal

pub is_due-requires : goal.is_due-requires
is_due-requires c = c.requires.every

pub returns-then-not-is_due-clause-run : goal.returns-then-not-is_due-clause-run
returns-then-not-is_due-clause-run c = refl

pub returns-then-not-is_due-clause-every : goal.returns-then-not-is_due-clause-every
returns-then-not-is_due-clause-every c = refl

pub returns-then-not-is_due-clause-visits : goal.returns-then-not-is_due-clause-visits
returns-then-not-is_due-clause-visits c keep p is =
    let self = c.args.self.now in
    present_none (run_in self) keep p (fore_of self.fore) (raster_of self.raster) self.ring is self.every
    (sym (ap (is_due self.every) c.beam.ensures) ∙ sym c.is_due.ensures ∙ c.if-not-is_due.true)

pub is_kept-requires : goal.is_kept-requires
is_kept-requires c = c.requires.at

pub returns-then-is_kept-clause-run : goal.returns-then-is_kept-clause-run
returns-then-is_kept-clause-run c = refl

pub returns-then-is_kept-clause-every : goal.returns-then-is_kept-clause-every
returns-then-is_kept-clause-every c = refl

pub returns-then-is_kept-clause-visits : goal.returns-then-is_kept-clause-visits
returns-then-is_kept-clause-visits c keep p is =
    let self = c.args.self.now in
    present_again (run_in self) keep p (fore_of self.fore) (raster_of self.raster) self.ring is self.every
    (sym (c.is_kept.ensures keep p is) ∙ c.if-is_kept.true)

pub push_checkpoint-requires-clause-at : goal.push_checkpoint-requires-clause-at
push_checkpoint-requires-clause-at c = c.requires.at

pub push_checkpoint-requires-clause-due : goal.push_checkpoint-requires-clause-due
push_checkpoint-requires-clause-due c =
    sym (ap (is_due c.args.self.now.every) c.beam.ensures) ∙ sym c.is_due.ensures ∙ c.if-not-is_due.false

pub push_checkpoint-requires-clause-new : goal.push_checkpoint-requires-clause-new
push_checkpoint-requires-clause-new c keep p is = sym (c.is_kept.ensures keep p is) ∙ c.if-is_kept.false

pub returns-clause-run : goal.returns-clause-run
returns-clause-run c = c.push_checkpoint.ensures.run

pub returns-clause-every : goal.returns-clause-every
returns-clause-every c = c.push_checkpoint.ensures.every

pub returns-clause-visits : goal.returns-clause-visits
returns-clause-visits c = c.push_checkpoint.ensures.visits
