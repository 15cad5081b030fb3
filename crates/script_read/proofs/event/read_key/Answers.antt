use Rattle.std.proofs.Common.{Some, None, ◌∙◌}
use Rattle.script_read.specs.code.Cut.{words_left}
use Rattle.script_read.proofs.EventLaws.{key-read}
use Rattle.script_read.proofs.event.read_key.Goals as goal

pub returns-in_err-code : goal.returns-in_err-code
returns-in_err-code c = c.from_residual-in_err-code.ensures
    ∙ key-read (words_left c.args.args) c.in_ok-one_word.field-0.now None c.in_ok-one_word.ensures c.in_err-code.ensures.value

pub returns : goal.returns
returns c = key-read (words_left c.args.args) c.in_ok-one_word.field-0.now (Some c.in_ok-code.field-0) c.in_ok-one_word.ensures c.in_ok-code.ensures.value
