use Rattle.std.proofs.Common.{map, string_bytes}
use Rattle.slots_run.specs.Order.{order_of}
use Rattle.slots_run.proofs.TopLaws.{done_clause, complete_done_clause, said_done_clause, usage_clause, image_clause, script_clause, unread_clause}
use Rattle.slots_run.proofs.TopLaws.{refused_clause, wanting_clause, kept_clause, complete_clause, said_clause, usage_said_clause}
use Rattle.slots_run.proofs.top.slots_main.Goals as goal

pub returns-in-Ok-clause-done : goal.returns-in-Ok-clause-done
returns-in-Ok-clause-done g c zero = done_clause _ _ _ _ c.in-Ok.ensures.answer

pub returns-in-Ok-clause-complete : goal.returns-in-Ok-clause-complete
returns-in-Ok-clause-complete g c = complete_done_clause _ _ _ _ c.in-Ok.ensures.answer

pub returns-in-Ok-clause-said : goal.returns-in-Ok-clause-said
returns-in-Ok-clause-said g c = said_done_clause _ _ _ c.in-Ok.ensures.said

pub returns-in-Err-clause-usage : goal.returns-in-Err-clause-usage
returns-in-Err-clause-usage g c = usage_clause _ _ c.in-Err.fault _ c.status.ensures _ c.in-Err.ensures.answer

pub returns-in-Err-clause-image : goal.returns-in-Err-clause-image
returns-in-Err-clause-image g c three = image_clause _ _ c.in-Err.fault _ c.status.ensures _ c.in-Err.ensures.answer three

pub returns-in-Err-clause-script : goal.returns-in-Err-clause-script
returns-in-Err-clause-script g c four = script_clause _ _ c.in-Err.fault _ c.status.ensures _ c.in-Err.ensures.answer four

pub returns-in-Err-clause-unread : goal.returns-in-Err-clause-unread
returns-in-Err-clause-unread g c five =
    unread_clause _ _ c.in-Err.fault _ c.status.ensures _ c.say_fault.ensures.kept _ c.in-Err.ensures.answer five

pub returns-in-Err-clause-refused : goal.returns-in-Err-clause-refused
returns-in-Err-clause-refused g c six =
    (refused_clause _ _ c.in-Err.fault _ c.status.ensures _ c.say_fault.ensures.kept _ c.in-Err.ensures.answer six).0

pub returns-in-Err-clause-unwritten : goal.returns-in-Err-clause-unwritten
returns-in-Err-clause-unwritten g c six =
    (refused_clause _ _ c.in-Err.fault _ c.status.ensures _ c.say_fault.ensures.kept _ c.in-Err.ensures.answer six).1

pub returns-in-Err-clause-wanting : goal.returns-in-Err-clause-wanting
returns-in-Err-clause-wanting g c seven =
    wanting_clause _ _ c.in-Err.fault _ c.status.ensures _ c.say_fault.ensures.kept _ c.in-Err.ensures.answer seven

pub returns-in-Err-clause-kept : goal.returns-in-Err-clause-kept
returns-in-Err-clause-kept g c early =
    kept_clause _ _ c.in-Err.fault _ c.status.ensures _ c.say_fault.ensures.kept _ c.in-Err.ensures.answer early

pub returns-in-Err-clause-complete : goal.returns-in-Err-clause-complete
returns-in-Err-clause-complete g c =
    complete_clause _ _ c.in-Err.fault _ c.status.ensures _ c.say_fault.ensures.kept _ c.in-Err.ensures.answer

pub returns-in-Err-clause-said : goal.returns-in-Err-clause-said
returns-in-Err-clause-said g c =
    said_clause (map string_bytes c.args.words.now) _ _ _ c.in-Err.fault _ c.in-Err.ensures.answer c.status.ensures c.in-Err.ensures.said
    c.say_fault.ensures.says

pub returns-in-Err-clause-usage_said : goal.returns-in-Err-clause-usage_said
returns-in-Err-clause-usage_said g c two free =
    usage_said_clause g.P.Place.outside g.P.Place.says_freely c.args.place.now c.write_slots.new.place (g.P.Place.outside c.say_fault.new.place)
    (order_of (map string_bytes c.args.words.now)) c.in-Err.fault _ c.in-Err.ensures.answer c.status.ensures c.in-Err.ensures.untouched
    c.say_fault.ensures.usage two free
