use Rattle.std.proofs.Common.{Some, None, ◌∙◌}
use Rattle.script_read.specs.code.Cut.{words_left}
use Rattle.script_read.proofs.EventLaws.{peek-read}
use Rattle.script_read.proofs.event.read_peek.Goals as goal

pub returns-in_err-reg : goal.returns-in_err-reg
returns-in_err-reg c = c.from_residual-in_err-reg.ensures
    ∙ peek-read (words_left c.args.args) c.in_ok-one_word.field-0.now None c.in_ok-one_word.ensures c.in_err-reg.ensures

pub returns : goal.returns
returns c = peek-read (words_left c.args.args) c.in_ok-one_word.field-0.now (Some c.in_ok-reg.reg) c.in_ok-one_word.ensures c.in_ok-reg.ensures
