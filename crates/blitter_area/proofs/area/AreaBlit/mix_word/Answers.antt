use Rattle.std.proofs.Common.{ap, ◌∙◌}
use Rattle.blitter_area.specs.declared.data_path.Outcome.{Outcome}
use Rattle.blitter_area.proofs.Results.{ready_outcome}
use Rattle.blitter_area.proofs.area.AreaBlit.mix_word.Goals as goal

pub end_inputs-requires-clause-word : goal.end_inputs-requires-clause-word
end_inputs-requires-clause-word c =
    let b = c.args.self.now in
    ap (λ (o : Outcome). o.word) (c.mix_into.ensures ∙ ready_outcome b.path b.start b.past b.column _ b.path_is)

pub end_inputs-requires-clause-past : goal.end_inputs-requires-clause-past
end_inputs-requires-clause-past c =
    let b = c.args.self.now in
    λ mixes. ap (λ (o : Outcome). o.past) (c.mix_into.ensures ∙ ready_outcome b.path b.start b.past b.column _ b.path_is)
