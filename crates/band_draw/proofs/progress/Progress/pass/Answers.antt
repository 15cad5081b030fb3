use Rattle.std.proofs.Common.{◌≡◌, ◌≤◌, ◌+◌, ◌-◌, ◌*◌, ℕ, suc, Bool, true, List, length, take, drop, arith, subst, sym, ap, ◌∙◌}
use Rattle.std.specs.Bool.{if◌then◌else◌}
use Rattle.ocs_base.specs.Script.{ScriptValue}
use Rattle.ocs_base.specs.declared.beam.Beam.{Beam}
use Rattle.ocs_base.specs.declared.script.At.{At}
use Rattle.painter.specs.Span.{visible_clocks}
use Rattle.serial_model.specs.Beam.{place_of}
use Rattle.serial_model.specs.Events.{due_events, touches_of}
use Rattle.serial_bands.specs.Run.{run_over}
use Rattle.band_draw.specs.code.Ahead.{IsFetched}
use Rattle.band_draw.specs.code.Due.{IsLeft, IsLeftEarlier}
use Rattle.band_draw.specs.Given.{IsSpanGiven}
use Rattle.band_draw.specs.code.Progress.{IsSource, IsFilled, IsShown}
use Rattle.band_draw.specs.declared.progress.Progress.{Progress}
use Rattle.band_draw.proofs.Beginning.{left_all}
use Rattle.band_draw.proofs.Fetching.{on_line, placed}
use Rattle.band_draw.proofs.Turning.{screen_there}
use Rattle.band_draw.proofs.Passing.{count_to, passed_to, room_passed, screen_passed, left_passed, stays_at, passed, passed_with}
use Rattle.band_draw.proofs.progress.Progress.pass.Goals as goal

pub fetch_ahead-until-requires-clause-screen : goal.fetch_ahead-until-requires-clause-screen
fetch_ahead-until-requires-clause-screen g c =
    let run = run_over g.S.Side.seen c.args.run.now in
    omega (arith, (screen_there run c.args.events.now c.args.self.now c.requires.at.reached).clock)

pub fetch_ahead-until-requires-clause-placed : goal.fetch_ahead-until-requires-clause-placed
fetch_ahead-until-requires-clause-placed g c =
    placed (run_over g.S.Side.seen c.args.run.now) c.args.events.now c.args.self.now c.requires.at.reached

pub returns-then-until-self-clause-at : goal.returns-then-until-self-clause-at
returns-then-until-self-clause-at g c =
    let run = run_over g.S.Side.seen c.args.run.now in
    let so = c.fetch_ahead-until.ensures.fetched in
    let here : c.fetch_ahead-until.result ≡ c.args.self.now.clock = c.if-until-self.true ∙ ap (λ (p : Progress). p.clock) so.same in
    stays_at run c.args.events.now c.args.room.now c.args.self.now c.fetch_ahead-until.new.self c.requires.at
    (subst (λ m. IsFetched run c.args.events.now c.args.self.now c.fetch_ahead-until.new.self m) here so)

pub is_clock_taken-on-requires : goal.is_clock_taken-on-requires
is_clock_taken-on-requires g c =
    let ahead = c.fetch_ahead-until in
    omega (arith, ahead.ensures.band, ap (λ (p : Progress). p.to) ahead.ensures.fetched.same)

pub count_with-shown-requires : goal.count_with-shown-requires
count_with-shown-requires g c =
    let run = run_over g.S.Side.seen c.args.run.now in
    let ahead = c.fetch_ahead-until in
    omega (
      arith,
      (screen_passed run c.args.view.now c.args.events.now c.args.room.now c.args.self.now ahead.new.self ahead.result c.requires.source c.requires.at
          ahead.ensures.fetched ahead.ensures.band (λ some. ahead.ensures.line (omega (arith, some)))).clock,
    )

pub show_span-self-requires-clause-place : goal.show_span-self-requires-clause-place
show_span-self-requires-clause-place g c =
    let run = run_over g.S.Side.seen c.args.run.now in
    let ahead = c.fetch_ahead-until in
    omega (
      arith,
      (screen_passed run c.args.view.now c.args.events.now c.args.room.now c.args.self.now ahead.new.self ahead.result c.requires.source c.requires.at
          ahead.ensures.fetched ahead.ensures.band (λ some. ahead.ensures.line (omega (arith, some)))).clock,
      c.count_with-shown.ensures.most,
    )

pub show_span-self-requires-clause-room : goal.show_span-self-requires-clause-room
show_span-self-requires-clause-room g c =
    let run = run_over g.S.Side.seen c.args.run.now in
    let ahead = c.fetch_ahead-until in
    let q : Progress = ahead.new.self in
    let system : c.system.result ≡ c.args.run.now.script.system =
    c.system.ensures ∙ ap (λ (s : ScriptValue). s.system) c.script-script.ensures.value in
    subst (λ k. q.filled + 12 * visible_clocks c.system.result q.beam.v q.beam.h k ≤ length c.args.room.now) (sym c.count_with-shown.ensures.count)
    (subst (λ s. q.filled + 12 * visible_clocks s q.beam.v q.beam.h (count_to q ahead.result + (if c.is_clock_taken-on.result then 1 else 0))
    ≤ length c.args.room.now) (sym system)
    (room_passed run c.args.view.now c.args.events.now c.args.room.now c.args.self.now q ahead.result c.is_clock_taken-on.result c.requires.source
    c.requires.at ahead.ensures.fetched ahead.ensures.band (λ some. ahead.ensures.line (omega (arith, some)))))

pub find_due-due-requires-clause-screen : goal.find_due-due-requires-clause-screen
find_due-due-requires-clause-screen g c =
    let run = run_over g.S.Side.seen c.args.run.now in
    let ahead = c.fetch_ahead-until in
    screen_passed run c.args.view.now c.args.events.now c.args.room.now c.args.self.now ahead.new.self ahead.result c.requires.source c.requires.at
    ahead.ensures.fetched ahead.ensures.band (λ some. ahead.ensures.line (omega (arith, some)))

pub find_due-due-requires-clause-all : goal.find_due-due-requires-clause-all
find_due-due-requires-clause-all g c =
    let script : c.events.result.now ≡ c.args.run.now.script.events =
    c.events.ensures ∙ ap (λ (s : ScriptValue). s.events) c.script-script.ensures.value in
    subst (λ l. IsLeft 0 l l) (sym script) (left_all c.args.run.now.script c.script-script.ensures.good.script)

pub find_due-due-requires-clause-left : goal.find_due-due-requires-clause-left
find_due-due-requires-clause-left g c =
    let run = run_over g.S.Side.seen c.args.run.now in
    let ahead = c.fetch_ahead-until in
    let q : Progress = ahead.new.self in
    let so = ahead.ensures.fetched in
    let script : c.events.result.now ≡ c.args.run.now.script.events =
    c.events.ensures ∙ ap (λ (s : ScriptValue). s.events) c.script-script.ensures.value in
    subst (λ (l : List At). IsLeftEarlier (place_of (on_line q.beam (ahead.result - q.clock))) l (drop q.due.next l)) (sym script)
    (left_passed run c.args.events.now c.args.room.now c.args.self.now q ahead.result c.requires.at so
    (omega (arith, c.if-until-self.false, so.least, ap (λ (p : Progress). p.clock) so.same)))

pub find_due-due-requires-clause-within : goal.find_due-due-requires-clause-within
find_due-due-requires-clause-within g c =
    let so = c.fetch_ahead-until.ensures.fetched in
    let script : c.events.result.now ≡ c.args.run.now.script.events =
    c.events.ensures ∙ ap (λ (s : ScriptValue). s.events) c.script-script.ensures.value in
    subst (λ (l : List At). c.fetch_ahead-until.new.self.due.next ≤ length l) (sym script)
    (subst (λ (k : Progress). k.due.next ≤ length c.args.run.now.script.events) (sym so.same) c.requires.at.reached.due)

-- a clock more, and none
one_clock_on : (n : ℕ) → n + 1 ≡ suc n
one_clock_on n = omega arith

no_clock_on : (n : ℕ) → n + 0 ≡ n
no_clock_on n = omega arith

pub go_to_next-requires-clause-source : goal.go_to_next-requires-clause-source
go_to_next-requires-clause-source g c =
    let run = run_over g.S.Side.seen c.args.run.now in
    let ahead = c.fetch_ahead-until in
    subst (λ v. IsSource run ahead.new.self.from ahead.new.self.to v) (sym ahead.ensures.view)
    (subst (λ (k : Progress). IsSource run k.from k.to c.args.view.now) (sym ahead.ensures.fetched.same) c.requires.source)

pub go_to_next-requires-clause-shown : goal.go_to_next-requires-clause-shown
go_to_next-requires-clause-shown g c =
    let run = run_over g.S.Side.seen c.args.run.now in
    let ahead = c.fetch_ahead-until in
    let q : Progress = ahead.new.self in
    let span = c.show_span-self in
    let due = c.find_due-due in
    let n : ℕ = count_to q ahead.result in
    let beam : Beam = on_line q.beam n in
    let script : c.events.result.now ≡ c.args.run.now.script.events =
    c.events.ensures ∙ ap (λ (s : ScriptValue). s.events) c.script-script.ensures.value in
    let system : c.system.result ≡ c.args.run.now.script.system =
    c.system.ensures ∙ ap (λ (s : ScriptValue). s.system) c.script-script.ensures.value in
    let on : c.is_clock_taken-on.result ≡ true = c.if-on.true in
    let none : due.result.sets ≡ 0 = c.is_clock_taken-on.ensures.none on in
    let count : c.count_with-shown.result ≡ suc n =
    c.count_with-shown.ensures.count ∙ ap (λ (b : Bool). n + (if b then 1 else 0)) on ∙ one_clock_on n in
    let both =
    passed_with run c.args.view.now c.args.events.now c.args.room.now span.new.room c.args.self.now q span.new.self ahead.result span.result
    span.new.clx due.result.behind.next c.requires.source c.requires.at ahead.ensures.fetched
    (omega (arith, c.is_clock_taken-on.ensures.more on, ap (λ (p : Progress). p.to) ahead.ensures.fetched.same))
    (λ some. ahead.ensures.line (omega (arith, some)))
    (record {
      given = λ from d is.
          subst (λ k. IsSpanGiven from c.args.run.now.script.system q.beam.v q.beam.h k d span.new.self (take q.filled c.args.room.now)
          (take span.result span.new.room) q.clx span.new.clx) count
          (subst (λ s. IsSpanGiven from s q.beam.v q.beam.h c.count_with-shown.result d span.new.self (take q.filled c.args.room.now)
          (take span.result span.new.room) q.clx span.new.clx) system (span.ensures.given from d is));
      keeps = span.ensures.keeps;
      bytes =
          span.ensures.filled ∙ ap (λ s. q.filled + 12 * visible_clocks s q.beam.v q.beam.h c.count_with-shown.result) system
          ∙ ap (λ k. q.filled + 12 * visible_clocks c.args.run.now.script.system q.beam.v q.beam.h k) count;
      size = span.ensures.size;
      coming = sym none ∙ due.ensures.sets ∙ ap (λ l. length (touches_of (due_events beam l))) script;
      left = subst (λ l. IsLeft (place_of beam + 1) l (drop due.result.behind.next l)) script due.ensures.left;
      bound = subst (λ (l : List At). due.result.behind.next ≤ length l) script due.ensures.within;
    }) in
    subst (λ k. IsShown run c.args.events.now (passed_to q span.new.self ahead.result span.result span.new.clx k due.result.behind.next)) (sym none)
    both.0

pub go_to_next-requires-clause-more : goal.go_to_next-requires-clause-more
go_to_next-requires-clause-more g c = c.is_clock_taken-on.ensures.more c.if-on.true

pub returns-then-on-clause-at : goal.returns-then-on-clause-at
returns-then-on-clause-at g c =
    let run = run_over g.S.Side.seen c.args.run.now in
    let ahead = c.fetch_ahead-until in
    let q : Progress = ahead.new.self in
    let span = c.show_span-self in
    let due = c.find_due-due in
    let n : ℕ = count_to q ahead.result in
    let beam : Beam = on_line q.beam n in
    let script : c.events.result.now ≡ c.args.run.now.script.events =
    c.events.ensures ∙ ap (λ (s : ScriptValue). s.events) c.script-script.ensures.value in
    let system : c.system.result ≡ c.args.run.now.script.system =
    c.system.ensures ∙ ap (λ (s : ScriptValue). s.system) c.script-script.ensures.value in
    let on : c.is_clock_taken-on.result ≡ true = c.if-on.true in
    let none : due.result.sets ≡ 0 = c.is_clock_taken-on.ensures.none on in
    let count : c.count_with-shown.result ≡ suc n =
    c.count_with-shown.ensures.count ∙ ap (λ (b : Bool). n + (if b then 1 else 0)) on ∙ one_clock_on n in
    let both =
    passed_with run c.args.view.now c.args.events.now c.args.room.now span.new.room c.args.self.now q span.new.self ahead.result span.result
    span.new.clx due.result.behind.next c.requires.source c.requires.at ahead.ensures.fetched
    (omega (arith, c.is_clock_taken-on.ensures.more on, ap (λ (p : Progress). p.to) ahead.ensures.fetched.same))
    (λ some. ahead.ensures.line (omega (arith, some)))
    (record {
      given = λ from d is.
          subst (λ k. IsSpanGiven from c.args.run.now.script.system q.beam.v q.beam.h k d span.new.self (take q.filled c.args.room.now)
          (take span.result span.new.room) q.clx span.new.clx) count
          (subst (λ s. IsSpanGiven from s q.beam.v q.beam.h c.count_with-shown.result d span.new.self (take q.filled c.args.room.now)
          (take span.result span.new.room) q.clx span.new.clx) system (span.ensures.given from d is));
      keeps = span.ensures.keeps;
      bytes =
          span.ensures.filled ∙ ap (λ s. q.filled + 12 * visible_clocks s q.beam.v q.beam.h c.count_with-shown.result) system
          ∙ ap (λ k. q.filled + 12 * visible_clocks c.args.run.now.script.system q.beam.v q.beam.h k) count;
      size = span.ensures.size;
      coming = sym none ∙ due.ensures.sets ∙ ap (λ l. length (touches_of (due_events beam l))) script;
      left = subst (λ l. IsLeft (place_of beam + 1) l (drop due.result.behind.next l)) script due.ensures.left;
      bound = subst (λ (l : List At). due.result.behind.next ≤ length l) script due.ensures.within;
    }) in
    c.go_to_next.ensures.at span.new.room
    (subst (λ k. IsFilled run (ahead.result + 1) span.new.room
    (passed_to q span.new.self ahead.result span.result span.new.clx k due.result.behind.next)) (sym none) both.1)

pub returns-else-on-clause-at : goal.returns-else-on-clause-at
returns-else-on-clause-at g c =
    let run = run_over g.S.Side.seen c.args.run.now in
    let ahead = c.fetch_ahead-until in
    let q : Progress = ahead.new.self in
    let span = c.show_span-self in
    let due = c.find_due-due in
    let n : ℕ = count_to q ahead.result in
    let beam : Beam = on_line q.beam n in
    let script : c.events.result.now ≡ c.args.run.now.script.events =
    c.events.ensures ∙ ap (λ (s : ScriptValue). s.events) c.script-script.ensures.value in
    let system : c.system.result ≡ c.args.run.now.script.system =
    c.system.ensures ∙ ap (λ (s : ScriptValue). s.system) c.script-script.ensures.value in
    let count : c.count_with-shown.result ≡ n =
    c.count_with-shown.ensures.count ∙ ap (λ (b : Bool). n + (if b then 1 else 0)) c.if-on.false ∙ no_clock_on n in
    passed run c.args.view.now c.args.events.now c.args.room.now span.new.room c.args.self.now q span.new.self ahead.result span.result
    span.new.clx due.result.sets due.result.behind.next c.requires.source c.requires.at ahead.ensures.fetched ahead.ensures.band
    (λ some. ahead.ensures.line (omega (arith, some)))
    (record {
      given = λ from d is.
          subst (λ k. IsSpanGiven from c.args.run.now.script.system q.beam.v q.beam.h k d span.new.self (take q.filled c.args.room.now)
          (take span.result span.new.room) q.clx span.new.clx) count
          (subst (λ s. IsSpanGiven from s q.beam.v q.beam.h c.count_with-shown.result d span.new.self (take q.filled c.args.room.now)
          (take span.result span.new.room) q.clx span.new.clx) system (span.ensures.given from d is));
      keeps = span.ensures.keeps;
      bytes =
          span.ensures.filled ∙ ap (λ s. q.filled + 12 * visible_clocks s q.beam.v q.beam.h c.count_with-shown.result) system
          ∙ ap (λ k. q.filled + 12 * visible_clocks c.args.run.now.script.system q.beam.v q.beam.h k) count;
      size = span.ensures.size;
      coming = due.ensures.sets ∙ ap (λ l. length (touches_of (due_events beam l))) script;
      left = subst (λ l. IsLeft (place_of beam + 1) l (drop due.result.behind.next l)) script due.ensures.left;
      bound = subst (λ (l : List At). due.result.behind.next ≤ length l) script due.ensures.within;
    })
