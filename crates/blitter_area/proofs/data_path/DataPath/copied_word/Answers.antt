use Rattle.std.proofs.Common.{ap}
use Rattle.blitter_area.specs.declared.data_path.Outcome.{Outcome}
use Rattle.blitter_area.proofs.Copies.{copied}
use Rattle.blitter_area.proofs.data_path.DataPath.copied_word.Goals as goal

pub returns : goal.returns
returns c =
    let is = c.copy.ensures in
    ap (λ (o : Outcome). o.word)
    (copied c.args.self.now c.args.past.now c.args.column c.args.words.now c.copy.result c.requires is.masked is.joined)
