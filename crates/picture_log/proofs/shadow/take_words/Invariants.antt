use Rattle.std.proofs.Common.{◌≡◌, ◌++◌, map, take, drop}
use Rattle.serial_bands.specs.Run.{RunValue}
use Rattle.serial_bands.specs.Shadows.{filling_word}
use Rattle.picture_log.proofs.shadow.take_words.Given as goal

abbrev pub invariant-loop-i : goal.invariant-loop-i
invariant-loop-i l = (run : RunValue) → l.words ≡ map (filling_word run) (take l.i l.fillings) ++ drop l.i l.fn.words
