use Rattle.std.proofs.Common.{List, ℕ, subst}
use Rattle.ocs_io.specs.Answers.{ReadAnswers}
use Rattle.ocs_io.specs.SureShelf.{sure_outside, SureReads}
use Rattle.ocs_io.proofs.SureShelfLaws.{ReadAnswers-sure, OnlyReads-sure, Rose-read, KeepsNames-read}
use Rattle.ocs_io.proofs.sure_shelf.SureShelfPlace.read.Goals as goal

pub returns-clause-exact : goal.returns-clause-exact
returns-clause-exact c =
    subst (λ (name : List ℕ). SureReads c.args.self.now c.read_file.new.self name c.args.cap c.read_file.new.into.items c.read_file.result)
    c.as_bytes.ensures.value
    c.read_file.ensures

pub returns-clause-answer : goal.returns-clause-answer
returns-clause-answer c =
    subst (λ (name : List ℕ). ReadAnswers (sure_outside c.args.self.now) name c.args.cap c.read_file.new.into.items c.read_file.result)
    c.as_bytes.ensures.value
    (ReadAnswers-sure c.args.self.now c.read_file.new.self c.as_bytes.result.now c.args.cap c.read_file.new.into.items c.read_file.result c.read_file.ensures)

pub returns-clause-kept : goal.returns-clause-kept
returns-clause-kept c =
    OnlyReads-sure c.args.self.now c.read_file.new.self c.as_bytes.result.now c.args.cap c.read_file.new.into.items c.read_file.result c.read_file.ensures

pub returns-clause-cause : goal.returns-clause-cause
returns-clause-cause c =
    Rose-read c.args.self.now c.read_file.new.self c.as_bytes.result.now c.args.cap c.read_file.new.into.items c.read_file.result c.read_file.ensures

pub returns-clause-names : goal.returns-clause-names
returns-clause-names c =
    KeepsNames-read c.args.self.now c.read_file.new.self c.as_bytes.result.now c.args.cap c.read_file.new.into.items c.read_file.result c.read_file.ensures
