-- Files that are not told stay so.
use Rattle.std.proofs.Common.{◌≡◌, ℕ, ◌+◌, ◌-◌, ◌^◌, ◌<◌, min, List, refl, sym, ap, subst, ◌∙◌, Option, None, arith}
use Rattle.ocs_io.specs.Folder.{counts_alone}
use Rattle.ocs_io.specs.Place.{Files, Outside, with_file, grown, next_number, Rose, OnlyWrites, OnlySays}

pub untold-with_file : (files : Option Files) (name bytes : List ℕ) → None ≡ files → files ≡ with_file files name bytes
unfolding with_file
untold-with_file files name bytes untold = sym untold ∙ ap (λ f. with_file f name bytes) untold

pub untold-grown : (files : Option Files) (name piece : List ℕ) → None ≡ files → None ≡ grown files name piece
unfolding grown
untold-grown files name piece untold = ap (λ f. grown f name piece) untold

-- a refused write, and a refused say: its count has risen, and nothing else has changed
pub write_refused : (reads writes says risen : ℕ) (old : Outside) → counts_alone reads writes says ≡ old → risen ≡ min (writes + 1) (2 ^ 64 - 1)
    → counts_alone reads risen says ≡ record old { write_faults = next_number old.write_faults }
write_refused reads writes says risen old same rises =
    subst (λ (o : Outside). counts_alone reads risen says ≡ record o { write_faults = next_number o.write_faults }) same
    (ap (λ (n : ℕ). counts_alone reads n says) rises)

pub refused_writes : (reads writes says risen : ℕ) (old : Outside) → counts_alone reads writes says ≡ old → risen ≡ min (writes + 1) (2 ^ 64 - 1)
    → writes < 2 ^ 64 → OnlyWrites old (counts_alone reads risen says)
refused_writes reads writes says risen old same rises small =
    subst (λ (o : Outside). OnlyWrites o (counts_alone reads risen says)) same
    (record { said = refl; read_faults = refl; write_faults = omega (arith, rises, small); say_faults = refl })

pub write_rose : (reads writes says risen : ℕ) (old : Outside) → counts_alone reads writes says ≡ old → risen ≡ min (writes + 1) (2 ^ 64 - 1)
    → Rose old.write_faults risen
write_rose reads writes says risen old same rises = subst (λ (o : Outside). Rose o.write_faults risen) same (omega (arith, rises))

pub say_refused : (reads writes says risen : ℕ) (old : Outside) → counts_alone reads writes says ≡ old → risen ≡ min (says + 1) (2 ^ 64 - 1)
    → counts_alone reads writes risen ≡ record old { say_faults = next_number old.say_faults }
say_refused reads writes says risen old same rises =
    subst (λ (o : Outside). counts_alone reads writes risen ≡ record o { say_faults = next_number o.say_faults }) same
    (ap (λ (n : ℕ). counts_alone reads writes n) rises)

pub refused_says : (reads writes says risen : ℕ) (old : Outside) → counts_alone reads writes says ≡ old → risen ≡ min (says + 1) (2 ^ 64 - 1)
    → says < 2 ^ 64 → OnlySays old (counts_alone reads writes risen)
refused_says reads writes says risen old same rises small =
    subst (λ (o : Outside). OnlySays o (counts_alone reads writes risen)) same
    (record { files = refl; read_faults = refl; write_faults = refl; say_faults = omega (arith, rises, small) })

pub say_rose : (reads writes says risen : ℕ) (old : Outside) → counts_alone reads writes says ≡ old → risen ≡ min (says + 1) (2 ^ 64 - 1)
    → Rose old.say_faults risen
say_rose reads writes says risen old same rises = subst (λ (o : Outside). Rose o.say_faults risen) same (omega (arith, rises))

-- a call that is done changes nothing
pub no_write : (old : Outside) → OnlyWrites old old
no_write old = record { said = refl; read_faults = refl; write_faults = omega arith; say_faults = refl }

pub no_say : (old : Outside) → OnlySays old old
no_say old = record { files = refl; read_faults = refl; write_faults = refl; say_faults = omega arith }
