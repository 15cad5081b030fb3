use Rattle.std.proofs.Common.{arith, ap, ◌∙◌, ◌++◌}
use Rattle.ocs_io.proofs.NumberLaws.{last_digits}
use Rattle.ocs_io.proofs.numbers.put_hex.Goals as goal

pub returns-clause-ok : goal.returns-clause-ok
returns-clause-ok c =
    c.in_ok-extend_from_slice.ensures.items
    ∙ ap (λ text. c.args.into.now.items ++ text)
    (last_digits c.args.digits c.args.n c.digit.result c.digit-2.result c.digit-3.result c.digit-4.result c.requires.few c.requires.many
    (omega arith) c.digit.ensures c.digit-2.ensures c.digit-3.ensures c.digit-4.ensures)
