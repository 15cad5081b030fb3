use Rattle.ocs_io.specs.SureShelf.{after_saying}
use Rattle.ocs_io.proofs.SureShelfLaws.{SayAnswers-sure, OnlySays-sure, Rose-write, Same-write, KeepsNames-say}
use Rattle.ocs_io.proofs.sure_shelf.SureShelfPlace.say.Goals as goal

pub returns-clause-exact : goal.returns-clause-exact
returns-clause-exact c = c.say_piece.ensures.exact

pub returns-clause-freely : goal.returns-clause-freely
returns-clause-freely c = c.say_piece.ensures.freely

pub returns-clause-answer : goal.returns-clause-answer
returns-clause-answer c = SayAnswers-sure c.args.self.now c.say_piece.new.self c.args.piece.now c.say_piece.result c.say_piece.ensures.exact

pub returns-clause-kept : goal.returns-clause-kept
returns-clause-kept c = OnlySays-sure c.args.self.now c.say_piece.new.self c.args.piece.now c.say_piece.result c.say_piece.ensures.exact

pub returns-clause-cause : goal.returns-clause-cause
returns-clause-cause c =
    Rose-write c.args.self.now (after_saying c.args.self.now c.args.piece.now) c.say_piece.new.self c.say_piece.result c.say_piece.ensures.exact

pub returns-clause-wanting : goal.returns-clause-wanting
returns-clause-wanting c =
    Same-write c.args.self.now (after_saying c.args.self.now c.args.piece.now) c.say_piece.new.self c.say_piece.result c.say_piece.ensures.exact

pub returns-clause-names : goal.returns-clause-names
returns-clause-names c = KeepsNames-say c.args.self.now c.say_piece.new.self c.args.piece.now c.say_piece.result c.say_piece.ensures.exact
