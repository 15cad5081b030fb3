use Rattle.std.proofs.Common.{◌≡◌, ◌∷◌, true, arith, rules}
use Rattle.std.proofs.lemmas.Grind.{common_steps}
use Rattle.ocs_words.specs.Asked.{extra_value}
use Rattle.run_inputs.specs.Names.{are_names}
use Rattle.ocs_words.specs.Order.{extra_names}
use Rattle.ocs_words.proofs.NameLaws.{three_apart, audio_apart}
use Rattle.ocs_words.proofs.order.order_in.Goals as goal

pub returns-clause-apart : goal.returns-clause-apart
returns-clause-apart c =
    let w = c.args.words in
    let all : are_names (w.image.now ∷ w.script.now ∷ w.frames.now ∷ w.trace.now ∷ w.memory.now ∷ extra_names (extra_value w.extra)) ≡ true =
    first_of (search rules, grind (arith, common_steps)) in
    let apart = three_apart w.image.now w.script.now w.frames.now w.trace.now w.memory.now (extra_names (extra_value w.extra)) all in
    record {
      frames_trace = apart.0;
      frames_memory = apart.1;
      trace_memory = apart.2;
      audio = audio_apart w.image.now w.script.now w.frames.now w.trace.now w.memory.now (extra_value w.extra) all;
    }
