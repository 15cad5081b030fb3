use Rattle.plane_rows.proofs.Spreading.{eight_bytes, two_regrouped}
use Rattle.plane_rows.proofs.words.two_once.Goals as goal

pub returns : goal.returns
returns c =
    rw (
      c.to_le_bytes.ensures,
      c.bits_once.ensures,
      c.bits_once-2.ensures,
      two_regrouped _ _ _ _,
    ) (eight_bytes c.args.a c.args.b 0)
