use Rattle.std.proofs.Common.{◌≡◌, ◌++◌, map, take, drop}
use Rattle.serial_bands.specs.declared.shadow.Filling.TheVariants as F
use Rattle.picture_log.proofs.shadow.fill.Given as goal

abbrev pub invariant-loop-i : goal.invariant-loop-i
invariant-loop-i l = l.fillings ≡ map (λ word. F.Word word) (take l.i l.words) ++ drop l.i l.fn.fillings
