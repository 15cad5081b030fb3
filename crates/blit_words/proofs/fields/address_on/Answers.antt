use Rattle.std.proofs.Common.{◌∙◌, ap, ℤ, pos, ◌+ℤ◌, FitsSigned, rules}
use Rattle.std.specs.Int.{int_rem_euclid, w32}
use Rattle.std.proofs.lemmas.Int.{to_z-of_z}
use Rattle.ocs_base.specs.Span.{span_of}
use Rattle.blit_words.proofs.Addresses.{address_is}
use Rattle.blit_words.proofs.fields.address_on.Goals as goal

pub returns : goal.returns
returns c =
    let f : FitsSigned w32 c.args.bytes = search rules in
    address_is c.args.at c.step.result c.args.bytes
    (c.step.ensures.value ∙ ap (λ (z : ℤ). int_rem_euclid (pos c.args.at.value +ℤ z) (pos (span_of c.args.at))) (to_z-of_z w32 c.args.bytes f))
    c.step.ensures.size
