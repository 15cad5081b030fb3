use Rattle.foreground.specs.Fore.{over}
use Rattle.clock_loop.proofs.AheadLaws.{asked_as_it_stands, alone_goes_on, if_ok_then, on_err_then}
use Rattle.clock_loop.proofs.ahead.clock_alone.Goals as goal

pub process_alone-requires-clause-asked : goal.process_alone-requires-clause-asked
process_alone-requires-clause-asked g c =
    let f = over g.S.Side.seen c.args.fore.now in
    let can = c.requires.can in
    (f, can.0, can.1.within, asked_as_it_stands c.args.rest c.args.claim.now f can.0 can.1 c.requires.some c.requires.alone)

pub returns-clause-made : goal.returns-clause-made
returns-clause-made g c =
    let f = over g.S.Side.seen c.args.fore.now in
    let can = c.requires.can in
    let asked = asked_as_it_stands c.args.rest c.args.claim.now f can.0 can.1 c.requires.some c.requires.alone in
    if_ok_then c.process_alone.result (λ made told is seen. told is f can.0 seen can.1.within asked) c.process_alone.ensures.ends.made

pub returns-clause-part : goal.returns-clause-part
returns-clause-part g c =
    let f = over g.S.Side.seen c.args.fore.now in
    let can = c.requires.can in
    let asked = asked_as_it_stands c.args.rest c.args.claim.now f can.0 can.1 c.requires.some c.requires.alone in
    on_err_then c.process_alone.result (λ told seen. told f can.0 seen can.1.within asked) c.process_alone.ensures.ends.part

pub returns-clause-bus : goal.returns-clause-bus
returns-clause-bus g c =
    let f = over g.S.Side.seen c.args.fore.now in
    let can = c.requires.can in
    let asked = asked_as_it_stands c.args.rest c.args.claim.now f can.0 can.1 c.requires.some c.requires.alone in
    alone_goes_on c.args.rest c.args.claim.now _ f (over g.S.Side.seen c.process_alone.new.fore) can.0 _ _ c.process_alone.result can.1 asked
    c.process_alone.ensures.ends
