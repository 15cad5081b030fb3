use Rattle.std.proofs.Common.{Some, sym, ap, ◌∙◌}
use Rattle.ocs_io.proofs.KeptLaws.{IsThere-found, IsAbsent-looked}
use Rattle.ocs_io.proofs.files.FilesInMemory.bytes.Goals as goal

pub returns-in-Some : goal.returns-in-Some
returns-in-Some c =
    let there =
    IsThere-found c.args.name.now c.deref.result.now c.self.inside.kept.items c.args.self.now c.in-Some.at c.index.result.now c.deref.ensures.value
    c.self.view_is c.in-Some.ensures c.index.ensures in
    ap Some c.as_slice.ensures.value ∙ sym there.bytes

pub returns-in-None : goal.returns-in-None
returns-in-None c =
    sym (IsAbsent-looked c.args.name.now c.deref.result.now c.self.inside.kept.items c.args.self.now c.deref.ensures.value c.self.view_is c.in-None.ensures)
