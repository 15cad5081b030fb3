use Rattle.std.proofs.Common.{◌≡◌, ap, ◌∙◌, arith}
use Rattle.scene_gen.specs.Scene.{scene_script}
use Rattle.scene_gen.proofs.ScriptLaws.{script_of, next_frame}
use Rattle.scene_gen.proofs.inputs.make_script.Goals as goal

pub loop-frame-preserved : goal.loop-frame-preserved
loop-frame-preserved c =
    next_frame c.args.n c.loop-frame.frame c.loop-frame.script c.push_frame.new.script c.loop-frame.invariant c.in_ok-push_frame.ensures

pub returns : goal.returns
unfolding scene_script
returns c =
    let all : c.loop-frame.frame ≡ 10 = omega arith in
    c.loop-frame.invariant ∙ ap (script_of c.args.n) all
