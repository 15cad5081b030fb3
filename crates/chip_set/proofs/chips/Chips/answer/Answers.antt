-- Whoever owns the slot: with its word the access is the definition's.
use Rattle.std.proofs.Common.{refl, sym, ap, subst, ◌∙◌}
use Rattle.serial_model.specs.declared.bus.Ask.{Ask}
use Rattle.serial_model.specs.declared.bus.Ask.TheVariants as A
use Rattle.serial_model.specs.declared.copper.CopperAct.TheVariants.{None as NoAct}
use Rattle.chip_set.specs.Chips.{CanAsk, CanDo, IsBlitAsk, kept_wish, read_by, reads_by_chips}
use Rattle.chip_set.proofs.AbleLaws.{can_make}
use Rattle.chip_set.proofs.AskLaws.{answer_is}
use Rattle.chip_set.proofs.chips.Chips.answer.Goals as goal

pub returns-in-Free-clause-access : goal.returns-in-Free-clause-access
returns-in-Free-clause-access c side chips time asked same =
    answer_is c.args.beam.now c.args.clx c.args.chip.now.words A.Free c.args.self.now c.answer_with.new.self c.answer_with.result
    (record { word = 0; answer = refl; owner = c.answer_with.ensures.owner; makes = c.answer_with.ensures.made })
    side chips time asked (sym c.in-Free.is ∙ same)

pub returns-in-Plane-clause-access : goal.returns-in-Plane-clause-access
returns-in-Plane-clause-access c side chips time asked same =
    answer_is c.args.beam.now c.args.clx c.args.chip.now.words (A.Plane c.in-Plane.ask) c.args.self.now c.answer_with-in-Plane.new.self
    c.answer_with-in-Plane.result
    (record {
      word = 0;
      answer = tt;
      owner = c.answer_with-in-Plane.ensures.owner;
      makes = c.answer_with-in-Plane.ensures.made;
    })
    side chips time asked (sym c.in-Plane.is ∙ same)

pub returns-in-Copper-clause-access : goal.returns-in-Copper-clause-access
returns-in-Copper-clause-access c side chips time asked same =
    answer_is c.args.beam.now c.args.clx c.args.chip.now.words (A.Copper c.in-Copper.at) c.args.self.now c.answer_with-in-Copper.new.self
    c.answer_with-in-Copper.result
    (record {
      word = c.read_memory-word.result;
      answer = c.read_memory-word.ensures.word;
      owner = c.answer_with-in-Copper.ensures.owner;
      makes = c.answer_with-in-Copper.ensures.made;
    })
    side chips time asked (sym c.in-Copper.is ∙ same)

pub returns-in-Blit-clause-access : goal.returns-in-Blit-clause-access
returns-in-Blit-clause-access c side chips time asked same =
    answer_is c.args.beam.now c.args.clx c.args.chip.now.words (A.Blit c.in-Blit.ask) c.args.self.now c.answer_with-in-Blit.new.self
    c.answer_with-in-Blit.result
    (record {
      word = c.read_for_blit-word.result;
      answer = c.read_for_blit-word.ensures.word;
      owner = c.answer_with-in-Blit.ensures.owner;
      makes = c.answer_with-in-Blit.ensures.made;
    })
    side chips time asked (sym c.in-Blit.is ∙ same)

pub returns-in-Processor-clause-access : goal.returns-in-Processor-clause-access
returns-in-Processor-clause-access c side chips time asked same =
    answer_is c.args.beam.now c.args.clx c.args.chip.now.words (A.Processor c.in-Processor.ask) c.args.self.now c.answer_with-in-Processor.new.self
    c.answer_with-in-Processor.result
    (record {
      word = c.read-word.result;
      answer = c.read-word.ensures.word;
      owner = c.answer_with-in-Processor.ensures.owner;
      makes = c.answer_with-in-Processor.ensures.made;
    })
    side chips time asked (sym c.in-Processor.is ∙ same)

pub answer_with-requires-in-Blit : goal.answer_with-requires-in-Blit
answer_with-requires-in-Blit c = subst (λ (ask : Ask). IsBlitAsk ask (kept_wish c.args.self.now)) c.in-Blit.is c.requires.wish

pub returns-in-Free-clause-able : goal.returns-in-Free-clause-able
returns-in-Free-clause-able c = subst CanDo (sym c.answer_with.ensures.made) (can_make A.Free 0 _ tt)

pub returns-in-Free-clause-reads : goal.returns-in-Free-clause-reads
returns-in-Free-clause-reads c =
    sym (ap (λ (ask : Ask). read_by (reads_by_chips ask) c.args.chip.now) c.in-Free.is)

pub returns-in-Plane-clause-able : goal.returns-in-Plane-clause-able
returns-in-Plane-clause-able c = subst CanDo (sym c.answer_with-in-Plane.ensures.made) (subst CanAsk c.in-Plane.is c.requires.able)

pub returns-in-Plane-clause-reads : goal.returns-in-Plane-clause-reads
returns-in-Plane-clause-reads c =
    sym (ap (λ (ask : Ask). read_by (reads_by_chips ask) c.args.chip.now) c.in-Plane.is)

pub returns-in-Copper-clause-able : goal.returns-in-Copper-clause-able
returns-in-Copper-clause-able c = subst CanDo (sym c.answer_with-in-Copper.ensures.made) (can_make (A.Copper c.in-Copper.at) c.read_memory-word.result _ tt)

pub returns-in-Copper-clause-reads : goal.returns-in-Copper-clause-reads
returns-in-Copper-clause-reads c =
    c.read_memory-word.ensures.reads ∙ sym (ap (λ (ask : Ask). read_by (reads_by_chips ask) c.args.chip.now) c.in-Copper.is)

pub returns-in-Blit-clause-able : goal.returns-in-Blit-clause-able
returns-in-Blit-clause-able c = subst CanDo (sym c.answer_with-in-Blit.ensures.made) (can_make (A.Blit c.in-Blit.ask) c.read_for_blit-word.result _ tt)

pub returns-in-Blit-clause-reads : goal.returns-in-Blit-clause-reads
returns-in-Blit-clause-reads c =
    c.read_for_blit-word.ensures.reads ∙ sym (ap (λ (ask : Ask). read_by (reads_by_chips ask) c.args.chip.now) c.in-Blit.is)

pub returns-in-Processor-clause-able : goal.returns-in-Processor-clause-able
returns-in-Processor-clause-able c =
    subst CanDo (sym c.answer_with-in-Processor.ensures.made) (can_make (A.Processor c.in-Processor.ask) c.read-word.result NoAct tt)

pub returns-in-Processor-clause-reads : goal.returns-in-Processor-clause-reads
returns-in-Processor-clause-reads c =
    c.read-word.ensures.reads ∙ sym (ap (λ (ask : Ask). read_by (reads_by_chips ask) c.args.chip.now) c.in-Processor.is)
