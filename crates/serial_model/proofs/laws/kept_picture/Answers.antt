use Rattle.serial_model.proofs.Standing.{stands_for_itself, stands_later, stands_on, stands_written, stands_touched}
use Rattle.serial_model.proofs.Standing.{stands_touched_in_order, stands_cleared, stands_shown, stands_after}
use Rattle.serial_model.proofs.laws.kept_picture.Goals as goal

pub returns-clause-itself : goal.returns-clause-itself
returns-clause-itself c = stands_for_itself

pub returns-clause-later : goal.returns-clause-later
returns-clause-later c = stands_later

pub returns-clause-on : goal.returns-clause-on
returns-clause-on c = stands_on

pub returns-clause-written : goal.returns-clause-written
returns-clause-written c = stands_written

pub returns-clause-touched : goal.returns-clause-touched
returns-clause-touched c = stands_touched

pub returns-clause-in_order : goal.returns-clause-in_order
returns-clause-in_order c = stands_touched_in_order

pub returns-clause-cleared : goal.returns-clause-cleared
returns-clause-cleared c = stands_cleared

pub returns-clause-shown : goal.returns-clause-shown
returns-clause-shown c = stands_shown

pub returns-clause-after : goal.returns-clause-after
returns-clause-after c = stands_after
