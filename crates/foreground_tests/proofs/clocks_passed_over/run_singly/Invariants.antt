-- The foreground stands somewhere in the run.
use Rattle.std.proofs.Common.{◌≡◌, ℕ, false}
use Rattle.foreground.specs.Fore.{over, IsUnderway}
use Rattle.foreground_tests.proofs.clocks_passed_over.run_singly.Given as goal

abbrev pub invariant-loop : goal.invariant-loop
invariant-loop g l = (l.fore.spent ≡ false) × ((first : ℕ) × IsUnderway (over g.S.Side.seen l.fore) first (g.Q.Raster.seen l.raster))
