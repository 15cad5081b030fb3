use Rattle.sprite_rows.proofs.Spreading.{eight_bytes}
use Rattle.sprite_rows.proofs.words.eight_values.Goals as goal

pub returns : goal.returns
returns c = rw (
  c.to_le_bytes.ensures,
  c.bits_as_bytes.ensures,
  c.bits_as_bytes-2.ensures,
  c.bits_as_bytes-3.ensures,
  c.bits_as_bytes-4.ensures,
) (eight_bytes c.args.a c.args.b)
