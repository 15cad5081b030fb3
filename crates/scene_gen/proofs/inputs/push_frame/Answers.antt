use Rattle.std.proofs.lemmas.Result.{on_ok_weaker}
use Rattle.scene_gen.proofs.ScriptLaws.{frame_events-is}
use Rattle.scene_gen.proofs.inputs.push_frame.Goals as goal

pub returns : goal.returns
returns c =
    on_ok_weaker c.push_event-2.result
    (frame_events-is c.args.n c.args.frame c.colour.result c.args.script.now c.push_frame_pokes.new.script c.push_event.new.script
    c.push_event-2.new.script c.make_peek.result c.make_poke-background.result c.make_peek.ensures c.make_poke-background.ensures c.colour.ensures
    c.in_ok-push_frame_pokes.ensures c.in_ok-push_event.ensures)
    c.push_event-2.ensures
