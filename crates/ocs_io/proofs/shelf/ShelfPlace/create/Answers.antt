use Rattle.std.proofs.Common.{List, ℕ, subst}
use Rattle.ocs_io.specs.Answers.{CreateAnswers, GrowsIfOk}
use Rattle.ocs_io.specs.Shelf.{outside_of, IsHeld, ShelfCreates}
use Rattle.ocs_io.proofs.ShelfLaws.{CreateAnswers-shelf, GrowsIfOk-shelf, OnlyWrites-create, Rose-create, Same-create, KeepsNames-create}
use Rattle.ocs_io.proofs.shelf.ShelfPlace.create.Goals as goal

pub returns-clause-exact : goal.returns-clause-exact
returns-clause-exact c =
    subst (λ (name : List ℕ). ShelfCreates c.args.self.now c.create_file.new.self name c.create_file.result) c.as_bytes.ensures.value
    c.create_file.ensures.exact

pub returns-clause-answer : goal.returns-clause-answer
returns-clause-answer c =
    subst (λ (name : List ℕ). CreateAnswers (outside_of c.args.self.now) (outside_of c.create_file.new.self) name c.create_file.result)
    c.as_bytes.ensures.value
    (CreateAnswers-shelf c.args.self.now c.create_file.new.self c.as_bytes.result.now c.create_file.result c.create_file.ensures.exact)

pub returns-clause-growable : goal.returns-clause-growable
returns-clause-growable c =
    subst (λ (name : List ℕ). GrowsIfOk (IsHeld c.create_file.new.self.files name) c.create_file.result) c.as_bytes.ensures.value
    (GrowsIfOk-shelf c.args.self.now c.create_file.new.self c.as_bytes.result.now c.create_file.result c.create_file.ensures.exact)

pub returns-clause-kept : goal.returns-clause-kept
returns-clause-kept c = OnlyWrites-create c.args.self.now c.create_file.new.self c.as_bytes.result.now c.create_file.result c.create_file.ensures.fits
    c.create_file.ensures.exact

pub returns-clause-cause : goal.returns-clause-cause
returns-clause-cause c = Rose-create c.args.self.now c.create_file.new.self c.as_bytes.result.now c.create_file.result c.create_file.ensures.exact

pub returns-clause-wanting : goal.returns-clause-wanting
returns-clause-wanting c = Same-create c.args.self.now c.create_file.new.self c.as_bytes.result.now c.create_file.result c.create_file.ensures.exact

pub returns-clause-names : goal.returns-clause-names
returns-clause-names c = KeepsNames-create c.args.self.now c.create_file.new.self c.as_bytes.result.now c.create_file.result c.create_file.ensures.exact
