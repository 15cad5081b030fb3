use Rattle.slots_run.proofs.OrderLaws.{made_none, on_err, file_result, file_done}
use Rattle.slots_run.proofs.file.write_file.Goals as goal

pub returns-clause-done : goal.returns-clause-done
returns-clause-done g c = file_done _ _ _ _ _ _ c.in_ok-create.ensures.done c.append.ensures.done

pub returns-clause-part : goal.returns-clause-part
returns-clause-part g c = file_result _ _ _ _ _ _ c.in_ok-create.ensures.done c.append.ensures.part

pub returns-in_err-create-clause-part : goal.returns-in_err-create-clause-part
returns-in_err-create-clause-part g c =
    on_err _ _ (made_none _ _ c.args.name.now c.args.text.now c.in_err-create.ensures.part)
