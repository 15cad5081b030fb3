use Rattle.std.proofs.Common.{refl, sym, ◌∙◌}
use Rattle.blitter_area.proofs.Rows.{first_reads}
use Rattle.blitter_area.proofs.Walking.{begun, some_width}
use Rattle.blitter_area.proofs.area.AreaBlit.start.Goals as goal

pub invariant_of-result-clause-column_inside : goal.invariant_of-result-clause-column_inside
invariant_of-result-clause-column_inside c = some_width c.args.r.now

pub invariant_of-result-clause-word_is : goal.invariant_of-result-clause-word_is
invariant_of-result-clause-word_is c = λ writes. absurd (first_reads c.args.r.now (sym (c.at.ensures c.args.r.now c.of-asks.ensures) ∙ writes))

pub invariant_of-result-clause-past_is : goal.invariant_of-result-clause-past_is
invariant_of-result-clause-past_is c = λ writes mixes. absurd (first_reads c.args.r.now (sym (c.at.ensures c.args.r.now c.of-asks.ensures) ∙ writes))

pub returns : goal.returns
returns c = begun _ c.requires refl refl refl refl refl refl refl c.is_set.ensures c.new.ensures
