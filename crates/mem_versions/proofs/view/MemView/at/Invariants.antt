-- The count is of a ledger of its own.
use Rattle.mem_versions.proofs.view.MemView.at.Given as goal

abbrev pub ghosts-at_uncounted : goal.ghosts-at_uncounted
ghosts-at_uncounted a = record { name = a.blank.name; parts = a.blank.parts }
