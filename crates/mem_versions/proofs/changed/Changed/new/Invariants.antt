-- The writes so far are to changed pages, or above the memory; so is the last of them.
use Rattle.std.proofs.Common.{◌≡◌, ◌≤◌, ◌*◌, length, get_or}
use Rattle.mem_versions.specs.code.Replay.{AreNumbered, AreCovered}
use Rattle.mem_versions.proofs.changed.Changed.new.Given as goal

abbrev pub invariant-loop-write : goal.invariant-loop-write
invariant-loop-write l = record {
  size : length l.changed.places ≡ l.pages;
  numbered : AreNumbered l.changed.places l.changed.numbers;
  covered : AreCovered l.changed.places l.writes l.write-index (256 * l.pages);
  known : get_or l.changed.places l.last 0 ≡ 0 → l.pages ≤ l.last;
}
