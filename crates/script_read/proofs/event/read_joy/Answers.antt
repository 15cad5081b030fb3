use Rattle.std.proofs.Common.{Some, None, refl, ◌∙◌}
use Rattle.script_read.specs.code.Cut.{words_left}
use Rattle.script_read.specs.Words.{hex_number}
use Rattle.script_read.proofs.EventLaws.{joy-read}
use Rattle.script_read.proofs.event.read_joy.Goals as goal

pub returns-in_err-port : goal.returns-in_err-port
returns-in_err-port c = c.from_residual-in_err-port.ensures
    ∙ joy-read (words_left c.args.args) c.in_ok-words.words.first.now c.in_ok-words.words.second.now None
    (hex_number 4 c.in_ok-words.words.second.now) c.in_ok-words.ensures c.in_err-port.ensures.value refl

pub returns-in_err-word : goal.returns-in_err-word
returns-in_err-word c = c.from_residual-in_err-word.ensures
    ∙ joy-read (words_left c.args.args) c.in_ok-words.words.first.now c.in_ok-words.words.second.now
    (Some c.in_ok-port.field-0) None c.in_ok-words.ensures c.in_ok-port.ensures.value c.in_err-word.ensures.value

pub returns : goal.returns
returns c = joy-read (words_left c.args.args) c.in_ok-words.words.first.now c.in_ok-words.words.second.now (Some c.in_ok-port.field-0)
    (Some c.in_ok-word.word) c.in_ok-words.ensures c.in_ok-port.ensures.value c.in_ok-word.ensures.value
