use Rattle.serial_bands.proofs.Shading.{shadow_of_picture, shadow_of_kept, first_shadow, shadow_touched}
use Rattle.serial_bands.proofs.Shading.{shadow_shown, shadow_cleared, next_shadow, shadow_found, line_opens}
use Rattle.serial_bands.proofs.laws.shadow_of_picture.Goals as goal

pub returns-clause-touched : goal.returns-clause-touched
returns-clause-touched c = shadow_touched

pub returns-clause-shown : goal.returns-clause-shown
returns-clause-shown c = shadow_shown

pub returns-clause-cleared : goal.returns-clause-cleared
returns-clause-cleared c = shadow_cleared

pub returns-clause-next : goal.returns-clause-next
returns-clause-next c = next_shadow

pub returns-clause-found : goal.returns-clause-found
returns-clause-found c = shadow_found

pub returns-clause-opening : goal.returns-clause-opening
returns-clause-opening c = line_opens

pub returns-clause-picture : goal.returns-clause-picture
returns-clause-picture c = shadow_of_picture

pub returns-clause-kept : goal.returns-clause-kept
returns-clause-kept c = shadow_of_kept

pub returns-clause-first : goal.returns-clause-first
returns-clause-first c = first_shadow
