-- The clocks of an instruction that an opcode decodes to are those of the opcode's row.
use Rattle.std.proofs.Common.{◌∙◌, ap, sym}
use Rattle.m68k_opcodes.specs.Clocks.{number}
use Rattle.m68k_opcodes.specs.code.Timing.{timing}
use Rattle.m68k_opcodes.proofs.Whole.{timed_at}
use Rattle.m68k_opcodes.proofs.timing.clocks.Goals as goal

pub returns : goal.returns
returns c = λ opcode below is. c.clocks_of.ensures ∙ ap (λ i. number (timing i) c.args.extra) (sym is)
    ∙ ap (λ t. number t c.args.extra) (sym (timed_at opcode below))
