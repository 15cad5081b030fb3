-- The words before a place are looked up, and the others are as they were.
use Rattle.std.proofs.Common.{◌≡◌, ◌++◌, count_by, map, take, drop}
use Rattle.mem_versions.specs.Chip.{after_reads}
use Rattle.mem_versions.specs.MemView.{word_then}
use Rattle.serial_bands.specs.Shadows.{found_filling}
use Rattle.serial_bands.specs.Fetches.{is_fetched_filling}
use Rattle.picture_log.proofs.shadow.find_all.Given as goal

abbrev pub invariant-loop-i : goal.invariant-loop-i
invariant-loop-i l = record {
  words : l.fillings ≡ map (found_filling (word_then l.view)) (take l.i l.fn.fillings) ++ drop l.i l.fn.fillings;
  reads : l.chip ≡ after_reads l.fn.chip (count_by is_fetched_filling (take l.i l.fn.fillings));
}
