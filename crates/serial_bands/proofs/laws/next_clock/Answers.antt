use Rattle.serial_bands.proofs.NextClock.{next_memory, next_opening, next_shown, clx_at_start, clx_at_access, next_clx, next_in_band, events_by_place}
use Rattle.serial_bands.proofs.WholeRun.{frames_rise}
use Rattle.serial_bands.proofs.laws.next_clock.Goals as goal

pub returns-clause-memory : goal.returns-clause-memory
returns-clause-memory c = next_memory

pub returns-clause-opening : goal.returns-clause-opening
returns-clause-opening c = next_opening

pub returns-clause-shown : goal.returns-clause-shown
returns-clause-shown c = next_shown

pub returns-clause-start : goal.returns-clause-start
returns-clause-start c = clx_at_start

pub returns-clause-access : goal.returns-clause-access
returns-clause-access c = clx_at_access

pub returns-clause-clx : goal.returns-clause-clx
returns-clause-clx c = next_clx

pub returns-clause-place : goal.returns-clause-place
returns-clause-place c = next_in_band

pub returns-clause-events : goal.returns-clause-events
returns-clause-events c = events_by_place

pub returns-clause-frames : goal.returns-clause-frames
returns-clause-frames c = frames_rise
