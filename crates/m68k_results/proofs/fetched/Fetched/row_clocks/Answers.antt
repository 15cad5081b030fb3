use Rattle.std.proofs.Common.{sym}
use Rattle.m68k_results.proofs.fetched.Fetched.row_clocks.Goals as goal

-- the number that is kept is the one of the struct's opcode
pub returns-then-extra-eq0 : goal.returns-then-extra-eq0
returns-then-extra-eq0 c = rw c.if-extra-eq0.true (sym c.args.self.now.ready)

-- the opcode of the struct is the one of the call's clause
pub returns : goal.returns
returns c = c.clocks.ensures c.args.self.now.opcode c.args.self.now.word c.args.self.now.known
