-- Laws of refusals.
use Rattle.std.proofs.Common.{Result, Ok, Err, OnErr}

-- what holds in any case holds of a refusal
pub on_err_held : {T E P : Type 0} (r : Result T E) → P → OnErr r P
on_err_held (Ok x) holds = tt
on_err_held (Err e) holds = holds
