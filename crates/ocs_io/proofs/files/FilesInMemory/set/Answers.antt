use Rattle.std.proofs.Common.{refl, ap, ◌∙◌}
use Rattle.std.specs.FinMap.{insert}
use Rattle.ocs_io.specs.code.KeptFiles.{files_of}
use Rattle.ocs_io.proofs.KeptLaws.{IsThere-found, with_new}
use Rattle.ocs_io.proofs.files.FilesInMemory.set.Goals as goal

pub returns-in-Some-clause-ok : goal.returns-in-Some-clause-ok
returns-in-Some-clause-ok c =
    let there =
    IsThere-found c.args.name.now c.deref.result.now c.self.inside.kept.items c.args.self.now c.in-Some.at c.index_mut.result.now c.deref.ensures.value
    c.self.view_is c.in-Some.ensures c.index_mut.ensures.value in
    there.changed (record { name = c.index_mut.result.now.name; bytes = c.in_ok-bytes.bytes }) refl
    ∙ ap (insert c.args.self.now c.args.name.now) c.in_ok-bytes.ensures.items

pub returns-in_ok-push-in-None-clause-ok : goal.returns-in_ok-push-in-None-clause-ok
returns-in_ok-push-in-None-clause-ok c =
    ap files_of c.in_ok-push-in-None.ensures.items
    ∙ with_new c.args.name.now c.deref.result.now c.self.inside.kept.items c.args.self.now
    (record {
      name = c.in_ok-name-in-None.name;
      bytes =
          c.in_ok-bytes.bytes;
    }) c.deref.ensures.value c.self.view_is c.in-None.ensures c.in_ok-name-in-None.ensures.items
    ∙ ap (insert c.args.self.now c.args.name.now) c.in_ok-bytes.ensures.items
