-- What a chip memory is once a page that it lent is given back.
use Rattle.std.specs.Prelude.{◌≡◌}
use Rattle.std.specs.Borrow.{MutBor, Fml}
use Rattle.std.specs.Io.BufRead.{Rests}
use Rattle.mem_versions.specs.Chip.{ChipValue, after_reads}
use Rattle.mem_versions.specs.contracts.chip.Chip.{the_row}

-- it has counted the 256 reads of the page
abbrev pub CountsPage : MutBor ChipValue → Fml
CountsPage chip = Rests the_row chip (λ last. last ≡ after_reads chip.now 256)
