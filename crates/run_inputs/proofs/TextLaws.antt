-- Texts that are appended piece by piece.
use Rattle.std.proofs.Common.{◌≡◌, ℕ, List, ◌++◌, Result, Ok, Err, OnOk, append_assoc, ap, ◌∙◌}

joined : (t a d c k n : List ℕ) → ((t ++ a) ++ d) ++ ((c ++ k) ++ n) ≡ t ++ ((((a ++ d) ++ c) ++ k) ++ n)
joined t a d c k n = simp append_assoc

pub put_three : {T E : Type 0} (r : Result T E) (t t1 t2 t3 a d c k n : List ℕ) → t1 ≡ t ++ a → t2 ≡ t1 ++ d
    → OnOk r (t3 ≡ t2 ++ ((c ++ k) ++ n)) → OnOk r (t3 ≡ t ++ ((((a ++ d) ++ c) ++ k) ++ n))
put_three (Ok v) t t1 t2 t3 a d c k n e f g =
    g ∙ ap (λ x. x ++ ((c ++ k) ++ n)) (f ∙ ap (λ x. x ++ d) e) ∙ joined t a d c k n
put_three (Err v) t t1 t2 t3 a d c k n e f g = tt
