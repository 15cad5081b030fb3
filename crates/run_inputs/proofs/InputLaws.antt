-- What the inputs tell of the verdict.
use Rattle.std.proofs.Common.{◌≡◌, ℕ, ◌<◌, true, if◌then◌else◌, List, length, Option, Some, None, arith, ap, nat_lt}
use Rattle.std.proofs.lemmas.Bool.Decides.{nat_tests}
use Rattle.ocs_io.specs.Answers.{WhereTold, HoldsMore}
use Rattle.ocs_io.specs.Place.{Files}
use Rattle.script_read.specs.declared.fault.BadKind.TheVariants.{Long}
use Rattle.script_read.specs.Grammar.{script_of, from_header, Bad}
use Rattle.script_read.specs.Split.{lines_of}
use Rattle.run_inputs.specs.Inputs.{HoldsBadScript}

long_text : (text : List ℕ) → 4194304 < length text → script_of text ≡ Bad 0 Long
unfolding script_of
long_text text more =
    let test : nat_lt 4194304 (length text) ≡ true = grind (arith, nat_tests) in
    ap (λ b. if b then Bad 0 Long else from_header (lines_of text)) test

-- a text that is longer than a script may be
pub too_long : (files : Option Files) (name : List ℕ) → WhereTold files (HoldsMore name 4194304) → WhereTold files (HoldsBadScript name 0 Long)
too_long None name told = tt
too_long (Some files) name told = record { text = told.0; there = told.1; bad = long_text told.0 told.2 }
