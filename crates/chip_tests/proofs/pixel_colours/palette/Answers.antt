-- Each word is tested.
use Rattle.std.proofs.Common.{ℕ, List, ◌∷◌, ◌++◌, replicate, refl}
use Rattle.priority_ham.proofs.Within.{are_colours-each}
use Rattle.chip_tests.proofs.pixel_colours.palette.Goals as goal

pub returns : goal.returns
returns c =
    let zeros : ℕ → List ℕ = λ n. replicate n 0 in
    are_colours-each (3976 ∷ 291 ∷ 1110 ∷ (zeros 6 ++ (1929 ∷ (zeros 7 ++ (15 ∷ zeros 14))))) refl
