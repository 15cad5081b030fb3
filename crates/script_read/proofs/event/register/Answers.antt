use Rattle.std.proofs.Common.{◌∙◌}
use Rattle.script_read.proofs.EventLaws.{register_named-none, register_named-some}
use Rattle.script_read.proofs.event.register.Goals as goal

pub returns-in_err-hex_digits : goal.returns-in_err-hex_digits
returns-in_err-hex_digits c = c.from_residual.ensures ∙ register_named-none c.args.text.now c.in_err-hex_digits.ensures.value

pub returns : goal.returns
returns c = register_named-some c.args.text.now c.in_ok-hex_digits.field-0 c.new.result c.in_ok-hex_digits.ensures.value c.new.ensures.there
    c.new.ensures.offset
