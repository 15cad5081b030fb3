use Rattle.std.proofs.Common.{◌≡◌, ◌++◌, ◌-◌, min, List, ℕ, ap, subst, ◌∙◌, arith}
use Rattle.ocs_base.specs.Script.{ScriptValue}
use Rattle.ocs_base.specs.Sizes.{bytes_of}
use Rattle.serial_bands.specs.Run.{RunValue}
use Rattle.slot_log.specs.Heading.{heading}
use Rattle.slots_run.specs.Log.{log_text}
use Rattle.slots_run.specs.code.SlotRun.{run_in, frame_in, Comes}
use Rattle.slots_run.proofs.LogLaws.{is_log}
use Rattle.slots_run.proofs.SlotRunLaws.{frame_at_reset}
use Rattle.slots_run.proofs.log.put_log.Goals as goal

pub go_to_frame-requires-clause-least : goal.go_to_frame-requires-clause-least
go_to_frame-requires-clause-least c =
    let zero : frame_in c.args.run.now ≡ 0 = frame_at_reset c.args.run.now c.requires.stands c.requires.first in
    omega (arith, zero)

pub go_to_frame-requires-clause-stands : goal.go_to_frame-requires-clause-stands
go_to_frame-requires-clause-stands c = c.requires.stands

pub go_to_frame-requires-clause-most : goal.go_to_frame-requires-clause-most
go_to_frame-requires-clause-most c =
    let frames : c.frames-frames.result ≡ (run_in c.args.run.now).script.frames =
    c.frames-frames.ensures ∙ ap (λ (s : ScriptValue). s.frames) c.script-script.ensures in
    omega (arith, c.min.ensures, frames)

pub note_to_frame-requires-clause-stands : goal.note_to_frame-requires-clause-stands
note_to_frame-requires-clause-stands c = c.in_ok-go_to_frame.ensures.stands

pub note_to_frame-requires-clause-least : goal.note_to_frame-requires-clause-least
note_to_frame-requires-clause-least c =
    omega (arith, c.in_ok-go_to_frame.ensures.there, c.min.ensures, c.min-2.ensures, c.requires.order)

pub note_to_frame-requires-clause-most : goal.note_to_frame-requires-clause-most
note_to_frame-requires-clause-most c =
    let frames : c.frames-frames.result ≡ (run_in c.args.run.now).script.frames =
    c.frames-frames.ensures ∙ ap (λ (s : ScriptValue). s.frames) c.script-script.ensures in
    let same : (run_in c.go_to_frame.new.self).script.frames ≡ (run_in c.args.run.now).script.frames =
    ap (λ (r : RunValue). r.script.frames) c.in_ok-go_to_frame.ensures.run in
    omega (arith, c.min-2.ensures, frames, same)

pub returns : goal.returns
returns c =
    let start = c.args.run.now in
    let first = c.go_to_frame.new.self in
    let last = c.note_to_frame.new.self in
    let script : ScriptValue = (run_in start).script in
    let is : c.script-script.result.now ≡ script = c.script-script.ensures in
    let frames_is : c.frames-frames.result ≡ script.frames = c.frames-frames.ensures ∙ ap (λ (s : ScriptValue). s.frames) is in
    let from_is : c.min.result ≡ min c.args.from script.frames = c.min.ensures ∙ ap (λ n. min c.args.from n) frames_is in
    let to_is : c.min-2.result ≡ min c.args.to script.frames = c.min-2.ensures ∙ ap (λ n. min c.args.to n) frames_is in
    let comes : Comes (min c.args.from script.frames) start first = subst (λ n. Comes n start first) from_is c.in_ok-go_to_frame.ensures in
    let leaves : Comes (min c.args.to script.frames) first last = subst (λ n. Comes n first last) to_is c.in_ok-note_to_frame.ensures.comes in
    let front : List ℕ = heading script.system c.args.from c.args.to (bytes_of script.chip) in
    let system_is : c.system.result ≡ script.system = c.system.ensures ∙ ap (λ (s : ScriptValue). s.system) is in
    let bytes_is : c.chip.result ≡ bytes_of script.chip = c.chip.ensures ∙ ap (λ (s : ScriptValue). bytes_of s.chip) is in
    let heading_is : c.put_heading.new.into.items ≡ front =
    c.in_ok-put_heading.ensures
    ∙ ap (λ items. items ++ heading c.system.result c.args.from c.args.to c.chip.result) c.requires.empty
    ∙ ap (λ s. heading s c.args.from c.args.to c.chip.result) system_is
    ∙ ap (λ n. heading script.system c.args.from c.args.to n) bytes_is in
    is_log c.args.from c.args.to start first last c.requires.order c.requires.first comes leaves c.note_to_frame.new.text.items
    (c.in_ok-note_to_frame.ensures.noted ∙ ap (λ items. items ++ log_text (run_in first).image (run_in first).script first.fore.machine.t (last.fore.machine.t - first.fore.machine.t)) heading_is)
