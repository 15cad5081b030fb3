-- The words that wait for a slot, at most three.
use Rattle.std.specs.Prelude.{ℕ, List, [], ◌∷◌}
use Rattle.disk_dma.specs.declared.queue.Queue.{Queue}
use Rattle.disk_dma.specs.declared.queue.Queue.TheVariants.{Empty, One, Two, Three}

-- the first to leave first
abbrev pub words_in : Queue → List ℕ
words_in Empty = []
words_in (One first) = first ∷ []
words_in (Two first second) = first ∷ second ∷ []
words_in (Three first second third) = first ∷ second ∷ third ∷ []
