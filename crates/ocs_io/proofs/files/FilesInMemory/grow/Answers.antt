use Rattle.std.proofs.Common.{[], ◌++◌, IsSome, unwrap_or, refl, sym, ap, subst, ◌∙◌}
use Rattle.std.specs.FinMap.{insert}
use Rattle.ocs_io.proofs.MapLaws.{on_err}
use Rattle.ocs_io.proofs.KeptLaws.{IsThere-found, IsAbsent-looked}
use Rattle.ocs_io.proofs.files.FilesInMemory.grow.Goals as goal

pub returns-in_err-extend_from_slice-clause-refused :
    goal.returns-in_err-extend_from_slice-clause-refused
returns-in_err-extend_from_slice-clause-refused c =
    let there =
    IsThere-found c.args.name.now c.deref.result.now c.self.inside.kept.items c.args.self.now c.in-Some.at c.index_mut-file.result.now c.deref.ensures.value
    c.self.view_is c.in-Some.ensures c.index_mut-file.ensures.value in
    on_err c.from_residual.result _ (there.unchanged (record
    { name = c.index_mut-file.result.now.name; bytes = c.extend_from_slice.new.self }) refl c.in_err-extend_from_slice.ensures.items)

pub returns-in_ok-extend_from_slice-clause-ok : goal.returns-in_ok-extend_from_slice-clause-ok
returns-in_ok-extend_from_slice-clause-ok c =
    let there =
    IsThere-found c.args.name.now c.deref.result.now c.self.inside.kept.items c.args.self.now c.in-Some.at c.index_mut-file.result.now c.deref.ensures.value
    c.self.view_is c.in-Some.ensures c.index_mut-file.ensures.value in
    there.changed (record { name = c.index_mut-file.result.now.name; bytes = c.extend_from_slice.new.self }) refl
    ∙ ap (insert c.args.self.now c.args.name.now)
    (c.in_ok-extend_from_slice.ensures.items ∙ ap (λ file. unwrap_or file [] ++ c.args.piece.now) (sym there.bytes))

pub returns-in_default-clause-ok : goal.returns-in_default-clause-ok
returns-in_default-clause-ok c =
    absurd (cc
    (subst IsSome
    (IsAbsent-looked c.args.name.now c.deref.result.now c.self.inside.kept.items c.args.self.now c.deref.ensures.value c.self.view_is c.in_default.ensures)
    c.requires))
