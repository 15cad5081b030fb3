use Rattle.std.proofs.Common.{◌≡◌, ◌+◌, ◌++◌, ◌∷◌, [], false, Result, Ok, Err, OnOk, refl, sym, ap, subst, ◌∙◌}
use Rattle.std.specs.Result.{is_err}
use Rattle.script_read.specs.Split.{lines_of}
use Rattle.script_read.specs.Grammar.{body_of}
use Rattle.script_read.specs.Versions.{begun}
use Rattle.script_read.specs.Verdict.{ReadsAs}
use Rattle.script_read.proofs.BodyLaws.{StandsAt, StandsAt-bad, StandsAt-end, StandsAt-more}
use Rattle.script_read.proofs.reader.read_body.Goals as goal

pushed : {E : Type 0} (answer : Result (Unit {0}) E) (P : Type 0) → is_err answer ≡ false → OnOk answer P → P
pushed (Ok done) P e holds = holds
pushed (Err refused) P e holds = absurd (cc e)

pub returns-in-Err : goal.returns-in-Err
returns-in-Err c =
    subst (λ fault. ReadsAs (body_of (begun c.args.head) c.args.first 0 (lines_of c.args.text.now)) (Err fault))
    (sym c.bad.ensures)
    (StandsAt-bad (begun c.args.head) c.args.first (lines_of c.args.text.now) c.loop-line.script c.loop-line.number c.loop-line.before
    (lines_of c.loop-line.rest.now)
    c.in-Some.line.text.now (lines_of c.in-Some.line.rest.now) c.in-Err.kind c.loop-line.invariant.stands c.in-Some.ensures.0 c.in-Err.ensures.line)

pub returns-in_default-event : goal.returns-in_default-event
returns-in_default-event c =
    subst (λ verdict. ReadsAs verdict c.read_end.result)
    (sym (StandsAt-end (begun c.args.head) c.args.first (lines_of c.args.text.now) c.loop-line.script c.loop-line.number c.loop-line.before
    (lines_of c.loop-line.rest.now)
    c.in-Some.line.text.now (lines_of c.in-Some.line.rest.now) refl c.loop-line.invariant.stands c.in-Some.ensures.0
    (ap Ok (sym c.in_default-event.is) ∙ c.in-Ok.ensures.line)))
    c.read_end.ensures

pub loop-line-preserved : goal.loop-line-preserved
loop-line-preserved c = record {
  stands =
      subst (λ script. StandsAt (begun c.args.head) c.args.first (lines_of c.args.text.now) script
      (c.loop-line.number + 1) c.time-before.result (lines_of c.in-Some.line.rest.now))
      (sym (pushed c.push.result _ (sym c.is_err.ensures.value ∙ c.if-is_err.false) c.push.ensures.ok))
      (subst (λ time. StandsAt (begun c.args.head) c.args.first (lines_of c.args.text.now)
      (record c.loop-line.script { events = c.loop-line.script.events ++ c.in-Some-event.at ∷ [] }) (c.loop-line.number + 1) time
      (lines_of c.in-Some.line.rest.now))
      (sym c.time-before.ensures)
      (StandsAt-more (begun c.args.head) c.args.first (lines_of c.args.text.now) c.loop-line.script c.loop-line.number c.loop-line.before
      (lines_of c.loop-line.rest.now)
      c.in-Some.line.text.now (lines_of c.in-Some.line.rest.now) c.in-Some-event.at c.loop-line.invariant.stands c.in-Some.ensures.0
      (ap Ok (sym c.in-Some-event.is) ∙ c.in-Ok.ensures.line)));
}
