use Rattle.std.proofs.Common.{arith, sym}
use Rattle.blitter_area.proofs.Rows.{row_at, past_row}
use Rattle.blitter_area.proofs.asks.AskRow.at.Goals as goal

pub returns-then-place-lt4 : goal.returns-then-place-lt4
returns-then-place-lt4 c = λ s is. row_at s c.args.self.now c.args.place _ is (omega arith)

pub returns-else-place-lt4 : goal.returns-else-place-lt4
returns-else-place-lt4 c = λ s is. sym (past_row s c.args.place (omega arith))
