use Rattle.serial_bands.proofs.NextClock.{read_gives_clx, writes_read_nothing, picture_of_tick, opening_of_tick}
use Rattle.serial_bands.proofs.NextClock.{cleared, clx_before, clx_after, clx_of_tick, place_of_tick}
use Rattle.serial_bands.proofs.laws.clock_of_state.Goals as goal

pub returns-clause-write : goal.returns-clause-write
returns-clause-write c = writes_read_nothing

pub returns-clause-picture : goal.returns-clause-picture
returns-clause-picture c = picture_of_tick

pub returns-clause-opening : goal.returns-clause-opening
returns-clause-opening c = opening_of_tick

pub returns-clause-before : goal.returns-clause-before
returns-clause-before c = clx_before

pub returns-clause-after : goal.returns-clause-after
returns-clause-after c = clx_after

pub returns-clause-clx : goal.returns-clause-clx
returns-clause-clx c = clx_of_tick

pub returns-clause-place : goal.returns-clause-place
returns-clause-place c = place_of_tick

pub returns-clause-events : goal.returns-clause-events
returns-clause-events c = cleared

pub returns-clause-read : goal.returns-clause-read
returns-clause-read c = read_gives_clx
