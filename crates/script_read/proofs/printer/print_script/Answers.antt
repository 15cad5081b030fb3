use Rattle.std.proofs.Common.{Result, Ok, Err, OnOk}
use Rattle.script_read.proofs.RoundTrip.{script_of-script_text}
use Rattle.script_read.proofs.printer.print_script.Goals as goal

on_ok : {T E : Type 0} (answer : Result T E) (P Q : Type 0) → OnOk answer P → (P → Q) → OnOk answer Q
on_ok (Ok done) P Q holds gives = gives holds
on_ok (Err refused) P Q holds gives = tt

pub returns-else-is_err-clause-reads : goal.returns-else-is_err-clause-reads
returns-else-is_err-clause-reads c =
    on_ok c.put_script-printed.result _ _ c.put_script-printed.ensures.words
    (λ words. script_of-script_text c.args.script.now c.requires words)
