use Rattle.std.proofs.Common.{sym, subst}
use Rattle.run_inputs.specs.Texts.{Says, input_fault_text}
use Rattle.run_inputs.proofs.texts.say_input_fault.Goals as goal

pub returns-in-OutOfMemory-clause-says : goal.returns-in-OutOfMemory-clause-says
unfolding input_fault_text
returns-in-OutOfMemory-clause-says g c =
    subst (λ fault. Says (input_fault_text c.args.image.now c.args.script.now fault) (g.P.Place.outside c.args.place.now)
    (g.P.Place.outside c.say-in-OutOfMemory.new.place))
    (sym c.in-OutOfMemory.is) c.say-in-OutOfMemory.ensures.says
