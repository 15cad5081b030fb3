use Rattle.std.proofs.Common.{rules, ◌≡◌, ap, ◌∙◌, ℤ, pos, w32, unsigned_abs}
use Rattle.std.proofs.Common.{SFits}
use Rattle.std.proofs.lemmas.Int.{to_z-of_z}
use Rattle.std.specs.Int.{int_rem_euclid}
use Rattle.paula_audio.specs.Sound.{level_of, half_sum}
use Rattle.paula_audio.proofs.paula.half_of_both.Goals as goal

pub returns : goal.returns
returns c =
    let one : c.level.result ≡ level_of c.args.one.now = search rules in
    let other : c.level-2.result ≡ level_of c.args.other.now = search rules in
    let half : c.div_euclid-half.result ≡ half_sum c.args.one.now c.args.other.now = search (rules, to_z-of_z, one, other) in
    let summed : SFits w32 c.div_euclid-half.result = search rules in
    let left_over : SFits w32 c.rem_euclid.result = search rules in
    ap unsigned_abs
    (to_z-of_z w32 c.rem_euclid.result left_over
    ∙ c.rem_euclid.ensures.value
    ∙ ap (λ (z : ℤ). int_rem_euclid z (pos 256)) (to_z-of_z w32 c.div_euclid-half.result summed ∙ half))
