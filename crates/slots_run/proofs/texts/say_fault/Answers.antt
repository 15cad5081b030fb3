use Rattle.std.proofs.Common.{map, string_bytes, sym, subst}
use Rattle.run_inputs.specs.Texts.{Says}
use Rattle.slots_run.specs.Order.{SlotsOrderValue}
use Rattle.slots_run.specs.Texts.{fault_text, text_of, unwritten_text}
use Rattle.slots_run.proofs.texts.say_fault.Goals as goal

pub returns-in-Usage-clause-says : goal.returns-in-Usage-clause-says
unfolding fault_text
returns-in-Usage-clause-says g c =
    subst (λ fault. Says (text_of (map string_bytes c.args.words.now) fault) (g.P.Place.outside c.args.place.now) (g.P.Place.outside c.say.new.place))
    (sym c.in-Usage.is) c.say.ensures.says

pub returns-in-Unwritten-clause-says : goal.returns-in-Unwritten-clause-says
unfolding fault_text
returns-in-Unwritten-clause-says g c =
    subst (λ fault. Says (text_of (map string_bytes c.args.words.now) fault) (g.P.Place.outside c.args.place.now)
    (g.P.Place.outside c.say_unwritten.new.place))
    (sym c.in-Unwritten.is)
    (subst (λ (o : SlotsOrderValue). Says (unwritten_text o.out) (g.P.Place.outside c.args.place.now) (g.P.Place.outside c.say_unwritten.new.place))
    c.order_or_none-order.ensures c.say_unwritten.ensures.says)

pub returns-in-OutOfMemory-clause-says : goal.returns-in-OutOfMemory-clause-says
unfolding fault_text
returns-in-OutOfMemory-clause-says g c =
    subst (λ fault. Says (text_of (map string_bytes c.args.words.now) fault) (g.P.Place.outside c.args.place.now)
    (g.P.Place.outside c.say-in-OutOfMemory.new.place))
    (sym c.in-OutOfMemory.is) c.say-in-OutOfMemory.ensures.says
