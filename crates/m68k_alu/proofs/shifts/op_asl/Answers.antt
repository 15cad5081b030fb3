-- V is what `sign_changes` found, which is so exactly where some step leaves another top bit.
use Rattle.std.proofs.Common.{◌≡◌, ap}
use Rattle.m68k_decode.specs.declared.outcome.Outcome.{Outcome}
use Rattle.m68k_decode.specs.Results.{low}
use Rattle.m68k_decode.specs.ResultsShifts.{shift_count, top_bit_changes}
use Rattle.m68k_alu.proofs.TopBit.{flag_is}
use Rattle.m68k_alu.proofs.shifts.op_asl.Goals as goal

pub returns-clause-step : goal.returns-clause-step
returns-clause-step c =
    let v : c.shifted_outcome.result.flags.v ≡ c.sign_changes-overflow.result = ap (λ (o : Outcome). o.flags.v) c.shifted_outcome.ensures in
    let e : c.shifted_outcome.result.flags.v ≡ top_bit_changes c.args.size (low c.args.size c.args.a) (shift_count c.args.b) =
    cc (v, c.sign_changes-overflow.ensures, c.low_part-number.ensures) in
    flag_is c.shifted_outcome.result.flags.v c.args.size c.args.a (shift_count c.args.b) e
