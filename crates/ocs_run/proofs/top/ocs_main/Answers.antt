use Rattle.std.proofs.Common.{map, string_bytes}
use Rattle.ocs_words.specs.Words.{command_of}
use Rattle.ocs_run.proofs.EndLaws.{ends_where_told}
use Rattle.ocs_run.proofs.ReadableLaws.{readable_command}
use Rattle.ocs_run.proofs.TopLaws.{done_clause, complete_done_clause, usage_iff_clause, image_clause, wanting_clause}
use Rattle.ocs_run.proofs.TopLaws.{track_clause, script_clause, unread_clause, unwritten_clause, kept_clause, apart_clause, complete_clause}
use Rattle.ocs_run.proofs.TopLaws.{refused_clause, said_clause, usage_clause, apart_done_clause, said_done_clause}
use Rattle.ocs_run.proofs.top.ocs_main.Goals as goal

pub run_words-requires-clause-readable : goal.run_words-requires-clause-readable
run_words-requires-clause-readable g c κs within = readable_command _ (command_of (map string_bytes c.args.words.now)) c.requires

pub returns-in-Ok-clause-said : goal.returns-in-Ok-clause-said
returns-in-Ok-clause-said g c = said_done_clause _ _ _ _ c.in-Ok.ensures.answer c.in-Ok.ensures.said

pub returns-in-Ok-clause-apart : goal.returns-in-Ok-clause-apart
returns-in-Ok-clause-apart g c scene = apart_done_clause _ _ _ _ c.in-Ok.ensures.answer scene

pub returns-in-Err-clause-unread : goal.returns-in-Err-clause-unread
returns-in-Err-clause-unread g c five = unread_clause _ _ _ _ c.in-Err.fault _ c.in-Err.ensures.answer c.status.ensures c.say_fault.ensures.kept five

pub returns-in-Err-clause-unwritten : goal.returns-in-Err-clause-unwritten
returns-in-Err-clause-unwritten g c six =
    unwritten_clause _ _ _ _ c.in-Err.fault _ c.in-Err.ensures.answer c.status.ensures c.say_fault.ensures.kept six

pub returns-in-Err-clause-script : goal.returns-in-Err-clause-script
returns-in-Err-clause-script g c four = script_clause _ _ _ c.in-Err.fault _ c.in-Err.ensures.answer c.status.ensures four

pub returns-in-Err-clause-track : goal.returns-in-Err-clause-track
returns-in-Err-clause-track g c nine = track_clause _ _ _ c.in-Err.fault _ c.in-Err.ensures.answer c.status.ensures nine

pub returns-in-Err-clause-kept : goal.returns-in-Err-clause-kept
returns-in-Err-clause-kept g c early = kept_clause _ _ _ _ c.in-Err.fault _ c.in-Err.ensures.answer c.status.ensures c.say_fault.ensures.kept early

pub returns-in-Err-clause-apart : goal.returns-in-Err-clause-apart
returns-in-Err-clause-apart g c scene = apart_clause _ _ _ _ c.in-Err.fault c.in-Err.ensures.answer c.say_fault.ensures.kept scene

pub returns-in-Err-clause-refused : goal.returns-in-Err-clause-refused
returns-in-Err-clause-refused g c six =
    refused_clause _ _ _ _ c.in-Err.fault _ c.in-Err.ensures.answer c.status.ensures c.say_fault.ensures.kept six

pub returns-in-Err-clause-complete : goal.returns-in-Err-clause-complete
returns-in-Err-clause-complete g c = complete_clause _ _ _ _ c.in-Err.fault _ c.in-Err.ensures.answer c.status.ensures c.say_fault.ensures.kept

pub returns-in-Err-clause-said : goal.returns-in-Err-clause-said
returns-in-Err-clause-said g c =
    said_clause _ _ _ _ c.in-Err.fault _ c.in-Err.ensures.answer c.status.ensures c.in-Err.ensures.said c.say_fault.ensures.kept c.say_fault.ensures.says

pub returns-in-Err-clause-ends : goal.returns-in-Err-clause-ends
returns-in-Err-clause-ends g c = ends_where_told _ _

pub returns-in-Err-clause-usage_said : goal.returns-in-Err-clause-usage_said
returns-in-Err-clause-usage_said g c two free =
    usage_clause g.P.Place.outside g.P.Place.says_freely c.args.place.now c.run_words.new.place (g.P.Place.outside c.say_fault.new.place) _ c.in-Err.fault _
    c.in-Err.ensures.answer c.status.ensures c.in-Err.ensures.untouched c.say_fault.ensures.usage two free

pub returns-in-Ok-clause-done : goal.returns-in-Ok-clause-done
returns-in-Ok-clause-done g c zero = done_clause _ _ _ _ c.in-Ok.ensures.answer

pub returns-in-Ok-clause-complete : goal.returns-in-Ok-clause-complete
returns-in-Ok-clause-complete g c = complete_done_clause _ _ _ _ c.in-Ok.ensures.answer

pub returns-in-Ok-clause-ends : goal.returns-in-Ok-clause-ends
returns-in-Ok-clause-ends g c = ends_where_told _ _

pub returns-in-Err-clause-usage : goal.returns-in-Err-clause-usage
returns-in-Err-clause-usage g c = usage_iff_clause _ _ _ c.in-Err.fault _ c.in-Err.ensures.answer c.status.ensures

pub returns-in-Err-clause-image : goal.returns-in-Err-clause-image
returns-in-Err-clause-image g c three = image_clause _ _ _ c.in-Err.fault _ c.in-Err.ensures.answer c.status.ensures three

pub returns-in-Err-clause-wanting : goal.returns-in-Err-clause-wanting
returns-in-Err-clause-wanting g c seven =
    wanting_clause _ _ _ _ c.in-Err.fault _ c.in-Err.ensures.answer c.status.ensures c.say_fault.ensures.kept seven
