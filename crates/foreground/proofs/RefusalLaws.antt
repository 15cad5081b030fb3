-- What is said of a value holds where there is a refusal.
use Rattle.std.proofs.Common.{◌≡◌, true, false, OnOk, IfOk, Result, Ok, Err}
use Rattle.std.specs.Result.{IsErr}

differ : false ≡ true → ⊥
differ same = cc

pub not_ok : {T E : Type 0} (r : Result T E) (P : Type 0) → IsErr r → OnOk r P
not_ok (Ok x) P is = absurd (differ is)
not_ok (Err e) P is = tt

pub no_value : {T E : Type 0} (r : Result T E) (P : T → Type 0) → IsErr r → IfOk r P
no_value (Ok x) P is = absurd (differ is)
no_value (Err e) P is = tt
