use Rattle.std.proofs.Common.{List, ℕ, subst}
use Rattle.ocs_io.specs.Answers.{ReadAnswers}
use Rattle.ocs_io.specs.Shelf.{outside_of, ShelfReads}
use Rattle.ocs_io.proofs.ShelfLaws.{ReadAnswers-shelf, OnlyReads-shelf, Rose-read, KeepsNames-read}
use Rattle.ocs_io.proofs.shelf.ShelfPlace.read.Goals as goal

pub returns-clause-exact : goal.returns-clause-exact
returns-clause-exact c =
    subst (λ (name : List ℕ). ShelfReads c.args.self.now c.read_file.new.self name c.args.cap c.read_file.new.into.items c.read_file.result)
    c.as_bytes.ensures.value
    c.read_file.ensures.exact

pub returns-clause-answer : goal.returns-clause-answer
returns-clause-answer c =
    subst (λ (name : List ℕ). ReadAnswers (outside_of c.args.self.now) name c.args.cap c.read_file.new.into.items c.read_file.result) c.as_bytes.ensures.value
    (ReadAnswers-shelf c.args.self.now c.read_file.new.self c.as_bytes.result.now c.args.cap c.read_file.new.into.items c.read_file.result
    c.read_file.ensures.exact)

pub returns-clause-kept : goal.returns-clause-kept
returns-clause-kept c =
    OnlyReads-shelf c.args.self.now c.read_file.new.self c.as_bytes.result.now c.args.cap c.read_file.new.into.items c.read_file.result
    c.read_file.ensures.fits
    c.read_file.ensures.exact

pub returns-clause-cause : goal.returns-clause-cause
returns-clause-cause c =
    Rose-read c.args.self.now c.read_file.new.self c.as_bytes.result.now c.args.cap c.read_file.new.into.items c.read_file.result c.read_file.ensures.exact

pub returns-clause-names : goal.returns-clause-names
returns-clause-names c =
    KeepsNames-read c.args.self.now c.read_file.new.self c.as_bytes.result.now c.args.cap c.read_file.new.into.items c.read_file.result
    c.read_file.ensures.fits
    c.read_file.ensures.exact
