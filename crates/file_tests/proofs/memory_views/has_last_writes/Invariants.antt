-- The count is of a ledger of its own.
use Rattle.file_tests.proofs.memory_views.has_last_writes.Given as goal

abbrev pub ghosts-counted_word : goal.ghosts-counted_word
ghosts-counted_word a = record { name = a.blank.name; parts = a.blank.parts }
