use Rattle.std.proofs.Common.{◌++◌, codes, map, string_bytes, sym, subst}
use Rattle.run_inputs.specs.Texts.{Says, input_fault_text}
use Rattle.ocs_words.specs.Texts.{fault_text, text_of, order_or_none}
use Rattle.ocs_words.specs.Words.{command_of}
use Rattle.ocs_words.proofs.texts.say_fault.Goals as goal

pub returns-in-Usage-clause-says : goal.returns-in-Usage-clause-says
unfolding fault_text
returns-in-Usage-clause-says g c =
    subst (λ fault. Says (text_of (map string_bytes c.args.words.now) fault) (g.P.Place.outside c.args.place.now)
    (g.P.Place.outside c.say.new.place))
    (sym c.in-Usage.is)
    (subst (λ text. Says text (g.P.Place.outside c.args.place.now) (g.P.Place.outside c.say.new.place)) c.usage.ensures c.say.ensures.says)

pub returns-in-OutOfMemory-clause-says : goal.returns-in-OutOfMemory-clause-says
unfolding fault_text
returns-in-OutOfMemory-clause-says g c =
    subst (λ fault. Says (text_of (map string_bytes c.args.words.now) fault) (g.P.Place.outside c.args.place.now)
    (g.P.Place.outside c.say-in-OutOfMemory.new.place))
    (sym c.in-OutOfMemory.is) c.say-in-OutOfMemory.ensures.says

pub returns-in-Inputs-clause-says : goal.returns-in-Inputs-clause-says
unfolding fault_text
returns-in-Inputs-clause-says g c =
    let old = g.P.Place.outside c.args.place.now in
    let new = g.P.Place.outside c.say_input_fault.new.place in
    let script = (order_or_none (command_of (map string_bytes c.args.words.now))).script in
    subst (λ fault. Says (text_of (map string_bytes c.args.words.now) fault) old new) (sym c.in-Inputs.is)
    (subst (λ name. Says (input_fault_text name script c.in-Inputs.fault) old new) c.input_name.ensures
    (subst (λ name. Says (input_fault_text c.input_name.result.now name c.in-Inputs.fault) old new) c.input_name-in-Inputs.ensures
    c.say_input_fault.ensures.says))

pub returns-in-UnreadTrack-clause-says : goal.returns-in-UnreadTrack-clause-says
unfolding fault_text
returns-in-UnreadTrack-clause-says g c =
    let old = g.P.Place.outside c.args.place.now in
    let new = g.P.Place.outside c.say_named.new.place in
    subst (λ fault. Says (text_of (map string_bytes c.args.words.now) fault) old new) (sym c.in-UnreadTrack.is)
    (subst (λ name. Says (codes "cannot read " ++ name ++ codes "\n") old new) c.track_name.ensures c.say_named.ensures.says)

pub returns-in-Unwritten-clause-says : goal.returns-in-Unwritten-clause-says
unfolding fault_text
returns-in-Unwritten-clause-says g c =
    let old = g.P.Place.outside c.args.place.now in
    let new = g.P.Place.outside c.say_named-in-Unwritten.new.place in
    subst (λ fault. Says (text_of (map string_bytes c.args.words.now) fault) old new) (sym c.in-Unwritten.is)
    (subst (λ name. Says (codes "cannot write " ++ name ++ codes "\n") old new) c.output_name.ensures c.say_named-in-Unwritten.ensures.says)
