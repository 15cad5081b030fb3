use Rattle.std.proofs.Common.{◌≡◌, ◌<◌, ◌-◌, ◌++◌, ap, sym, ◌∙◌, arith, append-nil}
use Rattle.ocs_base.specs.declared.beam.Beam.{Beam}
use Rattle.serial_bands.specs.Run.{RunValue}
use Rattle.slots_run.specs.Log.{log_text}
use Rattle.slots_run.specs.code.SlotRun.{run_in, frame_in}
use Rattle.slots_run.proofs.SlotRunLaws.{going_first, going_next, going_end, fewer, noted_more}
use Rattle.slots_run.proofs.slot_run.SlotRun.note_to_frame.Goals as goal

pub loop-self-init : goal.loop-self-init
loop-self-init c =
    let t = c.args.self.now.fore.machine.t in
    let none : 0 ≡ t - t = omega arith in
    record {
      going = going_first c.args.frame c.args.self.now c.requires.stands c.requires.least;
      noted = sym (append-nil c.args.text.now.items)
          ∙ ap (λ n. c.args.text.now.items ++ log_text (run_in c.args.self.now).image (run_in c.args.self.now).script t n) none;
    }

pub note_clock-requires-clause-stands : goal.note_clock-requires-clause-stands
note_clock-requires-clause-stands c = c.loop-self.invariant.going.stands

pub note_clock-requires-clause-running : goal.note_clock-requires-clause-running
note_clock-requires-clause-running c =
    let frame : c.beam.result.frame ≡ frame_in c.loop-self.self = ap (λ (b : Beam). b.frame) c.beam.ensures in
    let frames : (run_in c.loop-self.self).script.frames ≡ (run_in c.args.self.now).script.frames =
    ap (λ (r : RunValue). r.script.frames) c.loop-self.invariant.going.run in
    omega (arith, frame, frames, c.loop-self-test.true, c.requires.most)

pub loop-self-smaller : goal.loop-self-smaller
loop-self-smaller c =
    let frame : c.beam.result.frame ≡ frame_in c.loop-self.self = ap (λ (b : Beam). b.frame) c.beam.ensures in
    let before : frame_in c.loop-self.self < c.args.frame = omega (arith, frame, c.loop-self-test.true) in
    fewer c.args.frame c.args.self.now c.loop-self.self c.loop-self.invariant.going c.note_clock.new.self before c.in_ok-note_clock.ensures.goes

pub loop-self-preserved : goal.loop-self-preserved
loop-self-preserved c =
    let old = c.args.self.now in
    let now = c.loop-self.self in
    let going = c.loop-self.invariant.going in
    let noted = c.in_ok-note_clock.ensures in
    let frame : c.beam.result.frame ≡ frame_in now = ap (λ (b : Beam). b.frame) c.beam.ensures in
    let before : frame_in now < c.args.frame = omega (arith, frame, c.loop-self-test.true) in
    record {
      going = going_next c.args.frame old now going c.note_clock.new.self before noted.goes;
      noted = noted_more (run_in old) (run_in now) old.fore.machine.t now.fore.machine.t c.note_clock.new.self.fore.machine.t
          c.args.text.now.items c.loop-self.text.items c.note_clock.new.text.items going.run going.on noted.count c.loop-self.invariant.noted
          noted.noted;
    }

pub returns-clause-comes : goal.returns-clause-comes
returns-clause-comes c =
    let frame : c.beam.result.frame ≡ frame_in c.loop-self.self = ap (λ (b : Beam). b.frame) c.beam.ensures in
    going_end c.args.frame c.args.self.now c.loop-self.self c.loop-self.invariant.going (λ less. omega (arith, frame, c.loop-self-test.false, less))

pub returns-clause-noted : goal.returns-clause-noted
returns-clause-noted c = c.loop-self.invariant.noted
