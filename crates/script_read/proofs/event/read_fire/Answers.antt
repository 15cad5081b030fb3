use Rattle.std.proofs.Common.{Some, None, refl, ◌∙◌}
use Rattle.script_read.specs.code.Cut.{words_left}
use Rattle.script_read.specs.Words.{below}
use Rattle.script_read.proofs.EventLaws.{fire-read}
use Rattle.script_read.proofs.event.read_fire.Goals as goal

pub returns-in_err-port : goal.returns-in_err-port
returns-in_err-port c = c.from_residual-in_err-port.ensures
    ∙ fire-read (words_left c.args.args) c.in_ok-words.words.first.now c.in_ok-words.words.second.now None
    (below 2 c.in_ok-words.words.second.now) c.in_ok-words.ensures c.in_err-port.ensures.value refl

pub returns-in_err-down : goal.returns-in_err-down
returns-in_err-down c = c.from_residual-in_err-down.ensures
    ∙ fire-read (words_left c.args.args) c.in_ok-words.words.first.now c.in_ok-words.words.second.now
    (Some c.in_ok-port.field-0) None c.in_ok-words.ensures c.in_ok-port.ensures.value c.in_err-down.ensures.value

pub returns : goal.returns
returns c = fire-read (words_left c.args.args) c.in_ok-words.words.first.now c.in_ok-words.words.second.now (Some c.in_ok-port.field-0)
    (Some c.in_ok-down.field-0) c.in_ok-words.ensures c.in_ok-port.ensures.value c.in_ok-down.ensures.value
