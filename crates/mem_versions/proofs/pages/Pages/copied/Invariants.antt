-- The words of the pages so far.
use Rattle.std.proofs.Common.{◌≡◌, ◌*◌, take}
use Rattle.mem_versions.proofs.pages.Pages.copied.Given as goal

abbrev pub invariant-loop-number : goal.invariant-loop-number
invariant-loop-number l = l.list.items ≡ take (256 * l.number) l.self
