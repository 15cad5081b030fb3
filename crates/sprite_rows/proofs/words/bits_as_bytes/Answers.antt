use Rattle.sprite_rows.proofs.Spreading.{entry_of}
use Rattle.sprite_rows.proofs.words.bits_as_bytes.Goals as goal

pub returns : goal.returns
returns c = entry_of c.args.word
