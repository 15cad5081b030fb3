use Rattle.run_inputs.proofs.InputLaws.{too_long}
use Rattle.run_inputs.proofs.inputs.read_script_file.Goals as goal

pub returns-in-Err-TooLong-clause-fault : goal.returns-in-Err-TooLong-clause-fault
returns-in-Err-TooLong-clause-fault g c =
    too_long (g.P.Place.outside c.args.place.now).files c.args.name.now (rw c.in-Err-TooLong.field-0-is at c.in-Err-TooLong.ensures.answer).0
