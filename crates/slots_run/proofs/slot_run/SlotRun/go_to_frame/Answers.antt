use Rattle.std.proofs.Common.{◌≡◌, ◌<◌, ap, arith}
use Rattle.ocs_base.specs.declared.beam.Beam.{Beam}
use Rattle.serial_bands.specs.Run.{RunValue}
use Rattle.slots_run.specs.code.SlotRun.{run_in, frame_in}
use Rattle.slots_run.proofs.SlotRunLaws.{going_first, going_next, going_end, fewer}
use Rattle.slots_run.proofs.slot_run.SlotRun.go_to_frame.Goals as goal

pub loop-self-init : goal.loop-self-init
loop-self-init c = going_first c.args.frame c.args.self.now c.requires.stands c.requires.least

pub go_to_line-requires-clause-stands : goal.go_to_line-requires-clause-stands
go_to_line-requires-clause-stands c = c.loop-self.invariant.stands

pub go_to_line-requires-clause-running : goal.go_to_line-requires-clause-running
go_to_line-requires-clause-running c =
    let frame : c.beam.result.frame ≡ frame_in c.loop-self.self = ap (λ (b : Beam). b.frame) c.beam.ensures in
    let frames : (run_in c.loop-self.self).script.frames ≡ (run_in c.args.self.now).script.frames =
    ap (λ (r : RunValue). r.script.frames) c.loop-self.invariant.run in
    omega (arith, frame, frames, c.loop-self-test.true, c.requires.most)

pub loop-self-smaller : goal.loop-self-smaller
loop-self-smaller c =
    let frame : c.beam.result.frame ≡ frame_in c.loop-self.self = ap (λ (b : Beam). b.frame) c.beam.ensures in
    let before : frame_in c.loop-self.self < c.args.frame = omega (arith, frame, c.loop-self-test.true) in
    fewer c.args.frame c.args.self.now c.loop-self.self c.loop-self.invariant c.go_to_line.new.self before c.in_ok-go_to_line.ensures

pub loop-self-preserved : goal.loop-self-preserved
loop-self-preserved c =
    let frame : c.beam.result.frame ≡ frame_in c.loop-self.self = ap (λ (b : Beam). b.frame) c.beam.ensures in
    let before : frame_in c.loop-self.self < c.args.frame = omega (arith, frame, c.loop-self-test.true) in
    going_next c.args.frame c.args.self.now c.loop-self.self c.loop-self.invariant c.go_to_line.new.self before c.in_ok-go_to_line.ensures

pub returns : goal.returns
returns c =
    let frame : c.beam.result.frame ≡ frame_in c.loop-self.self = ap (λ (b : Beam). b.frame) c.beam.ensures in
    going_end c.args.frame c.args.self.now c.loop-self.self c.loop-self.invariant (λ less. omega (arith, frame, c.loop-self-test.false, less))
