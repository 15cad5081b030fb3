use Rattle.serial_bands.proofs.Storing.{stores_make_memory, memory_by_stores, view_has_memory}
use Rattle.serial_bands.proofs.laws.memory_of_range.Goals as goal

pub returns-clause-end : goal.returns-clause-end
returns-clause-end c = stores_make_memory

pub returns-clause-clock : goal.returns-clause-clock
returns-clause-clock c = memory_by_stores

pub returns-clause-view : goal.returns-clause-view
returns-clause-view c = view_has_memory
