use Rattle.plane_rows.proofs.Spreading.{eight_bytes, regrouped}
use Rattle.plane_rows.proofs.words.bytes_once.Goals as goal

pub returns : goal.returns
returns c =
    rw (
      c.to_le_bytes.ensures,
      c.bits_once.ensures,
      c.bits_once-2.ensures,
      c.bits_once-3.ensures,
      regrouped _ _ _ _ _ _,
    ) (eight_bytes c.args.a c.args.b c.args.c)
