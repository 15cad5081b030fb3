use Rattle.std.proofs.Common.{List, ℕ, subst}
use Rattle.ocs_io.specs.Answers.{AppendAnswers}
use Rattle.ocs_io.specs.Shelf.{outside_of, ShelfAppends}
use Rattle.ocs_io.proofs.ShelfLaws.{AppendAnswers-shelf, OnlyWrites-append, Rose-append, Same-append, KeepsNames-append}
use Rattle.ocs_io.proofs.shelf.ShelfPlace.append.Goals as goal

pub returns-clause-exact : goal.returns-clause-exact
returns-clause-exact c =
    subst (λ (name : List ℕ). ShelfAppends c.args.self.now c.append_piece.new.self name c.args.piece.now c.append_piece.result) c.as_bytes.ensures.value
    c.append_piece.ensures.exact

pub returns-clause-answer : goal.returns-clause-answer
returns-clause-answer c =
    subst (λ (name : List ℕ). AppendAnswers (outside_of c.args.self.now) (outside_of c.append_piece.new.self) name c.args.piece.now c.append_piece.result)
    c.as_bytes.ensures.value
    (AppendAnswers-shelf c.args.self.now c.append_piece.new.self c.as_bytes.result.now c.args.piece.now c.append_piece.result c.append_piece.ensures.exact)

pub returns-clause-kept : goal.returns-clause-kept
returns-clause-kept c = OnlyWrites-append c.args.self.now c.append_piece.new.self c.as_bytes.result.now c.args.piece.now c.append_piece.result
    c.append_piece.ensures.fits c.append_piece.ensures.exact

pub returns-clause-cause : goal.returns-clause-cause
returns-clause-cause c = Rose-append c.args.self.now c.append_piece.new.self c.as_bytes.result.now c.args.piece.now c.append_piece.result
    c.append_piece.ensures.exact

pub returns-clause-wanting : goal.returns-clause-wanting
returns-clause-wanting c = Same-append c.args.self.now c.append_piece.new.self c.as_bytes.result.now c.args.piece.now c.append_piece.result
    c.append_piece.ensures.exact

pub returns-clause-names : goal.returns-clause-names
returns-clause-names c = KeepsNames-append c.args.self.now c.append_piece.new.self c.as_bytes.result.now c.args.piece.now c.append_piece.result
    c.append_piece.ensures.exact
