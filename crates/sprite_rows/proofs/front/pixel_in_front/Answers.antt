use Rattle.sprite_rows.proofs.FrontByBytes.{none_in_front}
use Rattle.sprite_rows.proofs.front.pixel_in_front.Goals as goal

pub returns-then-a-b-eq0-clause-value : goal.returns-then-a-b-eq0-clause-value
returns-then-a-b-eq0-clause-value c = none_in_front c.args.a c.args.b c.args.c c.args.d c.args.attached c.if-a-b-eq0.true
