use Rattle.std.proofs.Common.{ℕ, List, [], subst}
use Rattle.ocs_io.specs.Answers.{CreateAnswers, GrowsIfOk}
use Rattle.ocs_io.specs.Shelf.{IsHeld}
use Rattle.ocs_io.specs.SureShelf.{sure_outside, set_file, SureWrites}
use Rattle.ocs_io.proofs.SureShelfLaws.{CreateAnswers-sure, GrowsIfOk-sure, OnlyWrites-sure, Rose-write, Same-write, KeepsNames-write}
use Rattle.ocs_io.proofs.sure_shelf.SureShelfPlace.create.Goals as goal

pub returns-clause-exact : goal.returns-clause-exact
returns-clause-exact c =
    subst (λ (name : List ℕ). SureWrites c.args.self.now (set_file c.args.self.now name []) c.create_file.new.self c.create_file.result)
    c.as_bytes.ensures.value c.create_file.ensures

pub returns-clause-answer : goal.returns-clause-answer
returns-clause-answer c =
    subst (λ (name : List ℕ). CreateAnswers (sure_outside c.args.self.now) (sure_outside c.create_file.new.self) name c.create_file.result)
    c.as_bytes.ensures.value
    (CreateAnswers-sure c.args.self.now c.create_file.new.self c.as_bytes.result.now c.create_file.result c.create_file.ensures)

pub returns-clause-growable : goal.returns-clause-growable
returns-clause-growable c =
    subst (λ (name : List ℕ). GrowsIfOk (IsHeld c.create_file.new.self.files name) c.create_file.result) c.as_bytes.ensures.value
    (GrowsIfOk-sure c.args.self.now c.create_file.new.self c.as_bytes.result.now c.create_file.result c.create_file.ensures)

pub returns-clause-kept : goal.returns-clause-kept
returns-clause-kept c = OnlyWrites-sure c.args.self.now c.create_file.new.self c.as_bytes.result.now [] c.create_file.result c.create_file.ensures

pub returns-clause-cause : goal.returns-clause-cause
returns-clause-cause c =
    Rose-write c.args.self.now (set_file c.args.self.now c.as_bytes.result.now []) c.create_file.new.self c.create_file.result c.create_file.ensures

pub returns-clause-wanting : goal.returns-clause-wanting
returns-clause-wanting c =
    Same-write c.args.self.now (set_file c.args.self.now c.as_bytes.result.now []) c.create_file.new.self c.create_file.result c.create_file.ensures

pub returns-clause-names : goal.returns-clause-names
returns-clause-names c = KeepsNames-write c.args.self.now c.create_file.new.self c.as_bytes.result.now [] c.create_file.result c.create_file.ensures
