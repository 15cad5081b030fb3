-- Those on the bus come first.
use Rattle.std.proofs.Common.{◌≡◌, ◌≤◌, arith, ap}
use Rattle.std.proofs.lemmas.Bool.Decides.{nat_tests}
use Rattle.foreground.specs.Fore.{ForeOf, over}
use Rattle.foreground.proofs.MadeLaws.{on_err}
use Rattle.clock_loop.proofs.RunToLaws.{part_behind}
use Rattle.clock_loop.proofs.LineLaws.{can_go_then, reads_twice, few_in_two, nothing_made}
use Rattle.clock_loop.proofs.QuietRuns.{runs_more}
use Rattle.clock_loop.proofs.line.run_in_line.Goals as goal

pub run_up_to_look-requires-clause-fits : goal.run_up_to_look-requires-clause-fits
run_up_to_look-requires-clause-fits g c =
    let of = over g.S.Side.seen in
    can_go_then (of c.args.fore.now) (of c.run_where_due.new.fore) _ _ _ _ c.in_ok-run_where_due.ensures.runs.clocks c.requires.fresh c.requires.fits

pub returns-in_err-run_where_due-clause-part : goal.returns-in_err-run_where_due-clause-part
returns-in_err-run_where_due-clause-part g c = on_err c.from_residual.result c.in_err-run_where_due.ensures.part.part

pub returns-in_err-run_where_due-clause-few : goal.returns-in_err-run_where_due-clause-few
returns-in_err-run_where_due-clause-few g c = on_err c.from_residual.result c.in_err-run_where_due.ensures.part.few

pub returns-in_err-run_up_to_look-clause-part : goal.returns-in_err-run_up_to_look-clause-part
returns-in_err-run_up_to_look-clause-part g c =
    let of = over g.S.Side.seen in
    on_err c.from_residual-in_err-run_up_to_look.result (part_behind (of c.args.fore.now) (of c.run_where_due.new.fore) _ _ _ _ _ _
    c.in_ok-run_where_due.ensures.runs.clocks c.in_err-run_up_to_look.ensures.part c.run_where_due.ensures.run)

pub returns-in_err-run_up_to_look-clause-few : goal.returns-in_err-run_up_to_look-clause-few
returns-in_err-run_up_to_look-clause-few g c =
    let of = over g.S.Side.seen in
    on_err c.from_residual-in_err-run_up_to_look.result
    (few_in_two (of c.args.fore.now) (of c.run_where_due.new.fore) (of c.run_up_to_look.new.fore) c.args.limit
    c.run_where_due.ensures.run c.in_ok-run_where_due.ensures.runs.on c.in_ok-run_where_due.ensures.runs.most c.in_ok-run_where_due.ensures.runs.reads
    c.in_err-run_up_to_look.ensures.few)

pub returns-clause-clocks : goal.returns-clause-clocks
returns-clause-clocks g c =
    let of = over g.S.Side.seen in
    runs_more (of c.args.fore.now) (of c.run_where_due.new.fore) (of c.run_up_to_look.new.fore) _ _ _ _ _ _
    c.in_ok-run_where_due.ensures.runs.clocks c.in_ok-run_up_to_look.ensures.clocks c.run_where_due.ensures.run

pub returns-clause-reads : goal.returns-clause-reads
returns-clause-reads g c =
    let of = over g.S.Side.seen in
    reads_twice (of c.args.fore.now) (of c.run_where_due.new.fore) (of c.run_up_to_look.new.fore)
    c.run_where_due.ensures.run c.in_ok-run_where_due.ensures.runs.on c.in_ok-run_up_to_look.ensures.on c.in_ok-run_where_due.ensures.runs.reads
    c.in_ok-run_up_to_look.ensures.reads

pub returns-clause-none : goal.returns-clause-none
returns-clause-none g c none =
    let from : c.fore.inside.machine.t ≡ c.args.fore.now.machine.t = ap (λ (f : ForeOf _). f.machine.t) c.fore.view_is in
    let to : c.fore-2.inside.machine.t ≡ c.run_up_to_look.new.fore.machine.t = ap (λ (f : ForeOf _). f.machine.t) c.fore-2.view_is in
    let least : c.fore-2.inside.machine.t ≤ c.fore.inside.machine.t = grind (arith, nat_tests, none) in
    nothing_made c.args.fore.now c.run_where_due.new.fore c.run_up_to_look.new.fore c.in_ok-run_where_due.ensures.runs.on c.in_ok-run_up_to_look.ensures.on
    c.in_ok-run_where_due.ensures.still c.in_ok-run_up_to_look.ensures.still (omega (arith, from, to, least))

pub returns-clause-on : goal.returns-clause-on
returns-clause-on g c = omega (arith, c.in_ok-run_where_due.ensures.runs.on, c.in_ok-run_up_to_look.ensures.on)

pub returns-clause-most : goal.returns-clause-most
returns-clause-most g c = omega (arith, c.in_ok-run_where_due.ensures.runs.most, c.in_ok-run_up_to_look.ensures.most)
