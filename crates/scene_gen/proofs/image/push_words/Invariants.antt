use Rattle.std.proofs.Common.{◌≡◌, ◌++◌, take}
use Rattle.scene_gen.specs.Blocks.{bytes_of}
use Rattle.scene_gen.proofs.image.push_words.Given as goal

abbrev pub invariant-loop-word : goal.invariant-loop-word
invariant-loop-word l = l.image.items ≡ l.fn.image.items ++ bytes_of (take l.word-index l.words)
