use Rattle.std.proofs.Common.{ℕ, List, [], ◌++◌, unwrap_or, subst}
use Rattle.std.specs.FinMap.{get}
use Rattle.ocs_io.specs.Answers.{AppendAnswers}
use Rattle.ocs_io.specs.SureShelf.{sure_outside, set_file, SureWrites}
use Rattle.ocs_io.proofs.SureShelfLaws.{AppendAnswers-sure, OnlyWrites-sure, Rose-write, Same-write, KeepsNames-write}
use Rattle.ocs_io.proofs.sure_shelf.SureShelfPlace.append.Goals as goal

pub returns-clause-exact : goal.returns-clause-exact
returns-clause-exact c =
    subst
    (λ (name : List ℕ). SureWrites c.args.self.now (set_file c.args.self.now name (unwrap_or (get c.args.self.now.files name) [] ++ c.args.piece.now))
    c.append_piece.new.self c.append_piece.result)
    c.as_bytes.ensures.value c.append_piece.ensures

pub returns-clause-answer : goal.returns-clause-answer
returns-clause-answer c =
    subst (λ (name : List ℕ). AppendAnswers (sure_outside c.args.self.now) (sure_outside c.append_piece.new.self) name c.args.piece.now c.append_piece.result)
    c.as_bytes.ensures.value
    (AppendAnswers-sure c.args.self.now c.append_piece.new.self c.as_bytes.result.now c.args.piece.now c.append_piece.result c.append_piece.ensures)

pub returns-clause-kept : goal.returns-clause-kept
returns-clause-kept c =
    OnlyWrites-sure c.args.self.now c.append_piece.new.self c.as_bytes.result.now
    (unwrap_or (get c.args.self.now.files c.as_bytes.result.now) [] ++ c.args.piece.now)
    c.append_piece.result c.append_piece.ensures

pub returns-clause-cause : goal.returns-clause-cause
returns-clause-cause c =
    Rose-write c.args.self.now
    (set_file c.args.self.now c.as_bytes.result.now (unwrap_or (get c.args.self.now.files c.as_bytes.result.now) [] ++ c.args.piece.now))
    c.append_piece.new.self
    c.append_piece.result c.append_piece.ensures

pub returns-clause-wanting : goal.returns-clause-wanting
returns-clause-wanting c =
    Same-write c.args.self.now
    (set_file c.args.self.now c.as_bytes.result.now (unwrap_or (get c.args.self.now.files c.as_bytes.result.now) [] ++ c.args.piece.now))
    c.append_piece.new.self
    c.append_piece.result c.append_piece.ensures

pub returns-clause-names : goal.returns-clause-names
returns-clause-names c =
    KeepsNames-write c.args.self.now c.append_piece.new.self c.as_bytes.result.now
    (unwrap_or (get c.args.self.now.files c.as_bytes.result.now) [] ++ c.args.piece.now)
    c.append_piece.result c.append_piece.ensures
