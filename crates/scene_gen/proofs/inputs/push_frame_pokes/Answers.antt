use Rattle.std.proofs.Common.{◌≡◌, List, ◌++◌, sym, subst, OnOk}
use Rattle.ocs_base.specs.declared.script.At.{At}
use Rattle.scene_gen.proofs.ScriptLaws.{frame_pokes-first}
use Rattle.scene_gen.proofs.inputs.push_frame_pokes.Goals as goal

pub returns-then-frame-eq0 : goal.returns-then-frame-eq0
returns-then-frame-eq0 c =
    subst
    (λ (events : List At). OnOk c.push_pokes.result
    (c.push_pokes.new.script ≡ record c.args.script.now { events = c.args.script.now.events ++ events }))
    (sym (frame_pokes-first c.args.n c.args.frame c.if-frame-eq0.true)) c.push_pokes.ensures
