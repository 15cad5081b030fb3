use Rattle.serial_bands.proofs.FetchRanges.{range_of_picture, range_of_found, range_of_sets, range_of_touch, shadow_found_in}
use Rattle.serial_bands.proofs.Fetches.{left_of_picture, left_of_found, left_by_sets, left_by_touch, touch_in_two, fewer_with_write, fetches_are_latched}
use Rattle.serial_bands.proofs.Shading.{shadow_sets, shadow_access}
use Rattle.serial_bands.proofs.laws.fetches_left.Goals as goal

pub returns-clause-picture : goal.returns-clause-picture
returns-clause-picture c = left_of_picture

pub returns-clause-found : goal.returns-clause-found
returns-clause-found c = left_of_found

pub returns-clause-sets : goal.returns-clause-sets
returns-clause-sets c = left_by_sets

pub returns-clause-touch : goal.returns-clause-touch
returns-clause-touch c = left_by_touch

pub returns-clause-in_two : goal.returns-clause-in_two
returns-clause-in_two c = touch_in_two

pub returns-clause-fewer : goal.returns-clause-fewer
returns-clause-fewer c = fewer_with_write

pub returns-clause-latched : goal.returns-clause-latched
returns-clause-latched c = fetches_are_latched

pub returns-clause-range_of_picture : goal.returns-clause-range_of_picture
returns-clause-range_of_picture c = range_of_picture

pub returns-clause-range_of_found : goal.returns-clause-range_of_found
returns-clause-range_of_found c = range_of_found

pub returns-clause-range_of_sets : goal.returns-clause-range_of_sets
returns-clause-range_of_sets c = range_of_sets

pub returns-clause-range_of_touch : goal.returns-clause-range_of_touch
returns-clause-range_of_touch c = range_of_touch

pub returns-clause-shadow_found : goal.returns-clause-shadow_found
returns-clause-shadow_found c = shadow_found_in

pub returns-clause-shadow_sets : goal.returns-clause-shadow_sets
returns-clause-shadow_sets c = shadow_sets

pub returns-clause-shadow_access : goal.returns-clause-shadow_access
returns-clause-shadow_access c = shadow_access
