use Rattle.std.proofs.Common.{codes, decimal}
use Rattle.script_read.specs.KindName.{kind_name}
use Rattle.run_inputs.proofs.TextLaws.{put_three}
use Rattle.run_inputs.proofs.texts.put_bad_line.Goals as goal

pub returns : goal.returns
returns c =
    put_three _ c.args.text.now.items _ _ _ (codes "bad script: line ") (decimal c.args.line) (codes ": ") (kind_name c.args.kind) (codes "\n")
    c.in_ok-put.ensures c.in_ok-put_dec.ensures.ok (rw c.name.ensures at c.put_named.ensures)
