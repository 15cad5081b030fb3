use Rattle.ocs_run.proofs.SceneLaws.{frames_fit, memory_fits, is_summary}
use Rattle.ocs_run.proofs.scene.summarize.Goals as goal

pub make_text-requires-clause-frames : goal.make_text-requires-clause-frames
make_text-requires-clause-frames g c = frames_fit c.args.order.number c.in_ok-shelf.shelf.files _ c.in_ok-shelf.ensures.files c.bytes_of.ensures

pub make_text-requires-clause-memory : goal.make_text-requires-clause-memory
make_text-requires-clause-memory g c = memory_fits c.args.order.number c.in_ok-shelf.shelf.files _ c.in_ok-shelf.ensures.files c.bytes_of-3.ensures

pub returns-clause-summary : goal.returns-clause-summary
returns-clause-summary g c =
    is_summary c.args.order.number c.in_ok-shelf.shelf.files _ _ _ _ c.in_ok-shelf.ensures.files c.bytes_of.ensures c.bytes_of-2.ensures c.bytes_of-3.ensures
    c.in_ok-text.ensures
