use Rattle.std.proofs.Common.{List, ℕ, subst}
use Rattle.ocs_base.specs.Script.{ScriptValue}
use Rattle.slots_run.specs.Log.{IsLogOf}
use Rattle.slots_run.specs.code.SlotRun.{run_in}
use Rattle.slots_run.proofs.log.make_log.Goals as goal

pub returns : goal.returns
returns c =
    let text = c.put_log.new.text.items in
    subst (λ (s : ScriptValue). IsLogOf c.args.image.items s c.args.from c.args.to text) c.in_ok-run.ensures.script
    (subst (λ (bytes : List ℕ). IsLogOf bytes (run_in c.in_ok-run.run').script c.args.from c.args.to text) c.in_ok-run.ensures.image
    c.in_ok-put_log.ensures)
