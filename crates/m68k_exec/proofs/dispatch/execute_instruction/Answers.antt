use Rattle.std.proofs.Common.{sym, ◌∙◌}
use Rattle.m68k_exec.proofs.PlainRows.{executes_row, executes_plain}
use Rattle.m68k_exec.proofs.dispatch.execute_instruction.Goals as goal

pub returns-then-is_plain : goal.returns-then-is_plain
returns-then-is_plain c =
    c.start_general_row.ensures
    ∙ sym (executes_plain _ _ _ c.args.context.now.fetched.made (sym c.is_plain.ensures ∙ c.if-is_plain.true))

pub returns-in_default : goal.returns-in_default
returns-in_default c =
    c.start_general_row-in_default.ensures
    ∙ sym (executes_row _ _ _ c.args.context.now.fetched.made c.in_default.not-Other c.in_default.not-ImmediateToStatus c.in_default.not-MoveToStatus)
