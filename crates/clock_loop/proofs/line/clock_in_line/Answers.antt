-- A clock within a line: what it need not look at does nothing.
use Rattle.std.proofs.Common.{ap, refl}
use Rattle.std.proofs.lemmas.Result.{on_err_weaker, on_ok_weaker}
use Rattle.mem_versions.specs.Chip.{ChipValue}
use Rattle.foreground.specs.Fore.{over, looked_up}
use Rattle.foreground.proofs.BeginLaws.{begins_no_part, rises_same}
use Rattle.foreground.proofs.MadeLaws.{on_err, on_ok_two}
use Rattle.foreground.proofs.KeptLaws.{on_ok}
use Rattle.foreground.proofs.AskedLaws.{reaches_ask, at_ask, makes_from_ask, part_from_ask, kept_from_ask, rises_from_ask}
use Rattle.foreground.proofs.AdvanceLaws.{advances, part_accessing, part_ending, place_made}
use Rattle.clock_loop.proofs.LineLaws.{runs_none_behind, no_read_due, no_band_place, place_behind}
use Rattle.clock_loop.proofs.line.clock_in_line.Goals as goal

pub go_on-requires : goal.go_on-requires
go_on-requires g c = record {
  running = c.requires.running;
  unread = no_read_due (over g.S.Side.seen c.args.fore.now) _ _ c.requires.underway.1 c.requires.due;
  before = c.requires.before;
  place = no_band_place (over g.S.Side.seen c.args.fore.now).run.height c.args.fore.now.machine.beam c.requires.inner;
}

pub returns-in_err-go_on-clause-part : goal.returns-in_err-go_on-clause-part
returns-in_err-go_on-clause-part g c =
    on_err c.from_residual.result
    (begins_no_part (over g.S.Side.seen c.args.fore.now) (g.Q.Raster.seen c.args.raster.now) c.args.out.now)

pub access-requires-clause-can : goal.access-requires-clause-can
access-requires-clause-can g c =
    let f0 = over g.S.Side.seen c.args.fore.now in
    let f1 = over g.S.Side.seen c.go_on.new.self in
    let begins = c.in_ok-go_on.ensures.begins (g.Q.Raster.seen c.args.raster.now) c.args.out.now in
    let runs = runs_none_behind f0 f1 _ _ c.args.out.now (ap (over g.S.Side.seen) c.go_on.ensures.same) c.requires.underway.1 c.requires.inner
    c.requires.due in
    let reaches = reaches_ask _ _ _ _ _ _ _ runs c.ask-ask.ensures.asks (ap (over g.S.Side.seen) c.ask-ask.ensures.same) in
    let at = at_ask _ _ _ _ _ _ _ _ _ _ _ c.requires.underway.1 begins reaches in
    record { logged = at.1; asked = at.0; able = c.ask-ask.ensures.able; wish = c.ask-ask.ensures.wish }

pub returns-in_err-access-clause-part : goal.returns-in_err-access-clause-part
returns-in_err-access-clause-part g c =
    let f0 = over g.S.Side.seen c.args.fore.now in
    let f1 = over g.S.Side.seen c.go_on.new.self in
    let begins = c.in_ok-go_on.ensures.begins (g.Q.Raster.seen c.args.raster.now) c.args.out.now in
    let runs = runs_none_behind f0 f1 _ _ c.args.out.now (ap (over g.S.Side.seen) c.go_on.ensures.same) c.requires.underway.1 c.requires.inner
    c.requires.due in
    let reaches = reaches_ask _ _ _ _ _ _ _ runs c.ask-ask.ensures.asks (ap (over g.S.Side.seen) c.ask-ask.ensures.same) in
    on_err c.from_residual-in_err-access.result
    (part_accessing _ _ _ _ _ _ _ _ _ _ _ begins reaches.reaches (part_from_ask _ _ _ _ _ _ _ _ _ reaches c.in_err-access.ensures.part))

pub returns-in_err-access-clause-few : goal.returns-in_err-access-clause-few
returns-in_err-access-clause-few g c =
    let f0 = over g.S.Side.seen c.args.fore.now in
    let f1 = over g.S.Side.seen c.go_on.new.self in
    let begins = c.in_ok-go_on.ensures.begins (g.Q.Raster.seen c.args.raster.now) c.args.out.now in
    let runs = runs_none_behind f0 f1 _ _ c.args.out.now (ap (over g.S.Side.seen) c.go_on.ensures.same) c.requires.underway.1 c.requires.inner
    c.requires.due in
    let reaches = reaches_ask _ _ _ _ _ _ _ runs c.ask-ask.ensures.asks (ap (over g.S.Side.seen) c.ask-ask.ensures.same) in
    on_err c.from_residual-in_err-access.result (rises_from_ask f0 f1 _ _ _ _ (looked_up f0) _ _ _ _ _ _ _ c.requires.underway.1 begins
    (rises_same (looked_up f0) _ _ c.go_on.ensures.reads) reaches
    c.in_err-access.ensures.reads refl).1

pub returns-clause-clock : goal.returns-clause-clock
returns-clause-clock g c =
    let f0 = over g.S.Side.seen c.args.fore.now in
    let f1 = over g.S.Side.seen c.go_on.new.self in
    let begins = c.in_ok-go_on.ensures.begins (g.Q.Raster.seen c.args.raster.now) c.args.out.now in
    let runs = runs_none_behind f0 f1 _ _ c.args.out.now (ap (over g.S.Side.seen) c.go_on.ensures.same) c.requires.underway.1 c.requires.inner
    c.requires.due in
    let reaches = reaches_ask _ _ _ _ _ _ _ runs c.ask-ask.ensures.asks (ap (over g.S.Side.seen) c.ask-ask.ensures.same) in
    on_ok_two c.end_clock.result (λ end place. advances _ _ _ _ _ _ place.0 _ _ _ _ _ _ _ _ c.requires.running begins
    reaches.reaches (makes_from_ask _ _ _ _ _ _ _ _ _ _ reaches c.in_ok-access.ensures.makes)
    (kept_from_ask _ _ _ _ _ _ _ reaches c.in_ok-access.ensures.kept) end place.1)
    c.end_clock.ensures.ends c.end_clock.ensures.place

pub returns-clause-place : goal.returns-clause-place
returns-clause-place g c =
    let f0 = over g.S.Side.seen c.args.fore.now in
    let f1 = over g.S.Side.seen c.go_on.new.self in
    let begins = c.in_ok-go_on.ensures.begins (g.Q.Raster.seen c.args.raster.now) c.args.out.now in
    let runs = runs_none_behind f0 f1 _ _ c.args.out.now (ap (over g.S.Side.seen) c.go_on.ensures.same) c.requires.underway.1 c.requires.inner
    c.requires.due in
    let reaches = reaches_ask _ _ _ _ _ _ _ runs c.ask-ask.ensures.asks (ap (over g.S.Side.seen) c.ask-ask.ensures.same) in
    let there = place_made f0 f1 _ _ _ _ _ _ _ _ _ c.requires.underway.1 begins reaches.reaches
    (kept_from_ask _ _ _ _ _ _ _ reaches c.in_ok-access.ensures.kept) in
    on_ok_weaker c.end_clock.result (λ place. place_behind _ place.0 c.args.fore.now.machine.beam c.access.new.self.machine.beam
    c.end_clock.new.self.machine.beam c.requires.last there.0 place.1) c.end_clock.ensures.place

pub returns-clause-part : goal.returns-clause-part
returns-clause-part g c =
    let f0 = over g.S.Side.seen c.args.fore.now in
    let f1 = over g.S.Side.seen c.go_on.new.self in
    let begins = c.in_ok-go_on.ensures.begins (g.Q.Raster.seen c.args.raster.now) c.args.out.now in
    let runs = runs_none_behind f0 f1 _ _ c.args.out.now (ap (over g.S.Side.seen) c.go_on.ensures.same) c.requires.underway.1 c.requires.inner
    c.requires.due in
    let reaches = reaches_ask _ _ _ _ _ _ _ runs c.ask-ask.ensures.asks (ap (over g.S.Side.seen) c.ask-ask.ensures.same) in
    on_err_weaker c.end_clock.result (λ same. part_ending _ _ _ _ _ _ _ _ _ _ _ _ _ begins
    reaches.reaches (makes_from_ask _ _ _ _ _ _ _ _ _ _ reaches c.in_ok-access.ensures.makes)
    (kept_from_ask _ _ _ _ _ _ _ reaches c.in_ok-access.ensures.kept) same) c.end_clock.ensures.refused

pub returns-clause-reads : goal.returns-clause-reads
returns-clause-reads g c =
    let f0 = over g.S.Side.seen c.args.fore.now in
    let f1 = over g.S.Side.seen c.go_on.new.self in
    let begins = c.in_ok-go_on.ensures.begins (g.Q.Raster.seen c.args.raster.now) c.args.out.now in
    let runs = runs_none_behind f0 f1 _ _ c.args.out.now (ap (over g.S.Side.seen) c.go_on.ensures.same) c.requires.underway.1 c.requires.inner
    c.requires.due in
    let reaches = reaches_ask _ _ _ _ _ _ _ runs c.ask-ask.ensures.asks (ap (over g.S.Side.seen) c.ask-ask.ensures.same) in
    on_ok c.end_clock.result (rises_from_ask f0 f1 _ _ _ _ (looked_up f0) _ _ _ _ _ _ _ c.requires.underway.1 begins
    (rises_same (looked_up f0) _ _ c.go_on.ensures.reads) reaches
    c.in_ok-access.ensures.reads (ap (λ (x : ChipValue). x.reads) c.end_clock.ensures.chip)).0

pub returns-clause-few : goal.returns-clause-few
returns-clause-few g c =
    let f0 = over g.S.Side.seen c.args.fore.now in
    let f1 = over g.S.Side.seen c.go_on.new.self in
    let begins = c.in_ok-go_on.ensures.begins (g.Q.Raster.seen c.args.raster.now) c.args.out.now in
    let runs = runs_none_behind f0 f1 _ _ c.args.out.now (ap (over g.S.Side.seen) c.go_on.ensures.same) c.requires.underway.1 c.requires.inner
    c.requires.due in
    let reaches = reaches_ask _ _ _ _ _ _ _ runs c.ask-ask.ensures.asks (ap (over g.S.Side.seen) c.ask-ask.ensures.same) in
    on_err c.end_clock.result (rises_from_ask f0 f1 _ _ _ _ (looked_up f0) _ _ _ _ _ _ _ c.requires.underway.1 begins
    (rises_same (looked_up f0) _ _ c.go_on.ensures.reads) reaches
    c.in_ok-access.ensures.reads (ap (λ (x : ChipValue). x.reads) c.end_clock.ensures.chip)).1
