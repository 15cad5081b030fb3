-- The run of a good verdict has an end.
use Rattle.std.proofs.Common.{ℕ, Bool, true, false, if◌then◌else◌, List, Option, Some, None}
use Rattle.ocs_base.specs.Limits.{IsRunnable}
use Rattle.ocs_base.specs.Script.{ScriptValue}
use Rattle.ocs_io.specs.Answers.{WhereTold}
use Rattle.ocs_io.specs.Place.{Files, file}
use Rattle.scene_gen.specs.Scene.{scene_image, scene_script}
use Rattle.scene_gen.proofs.ScriptLaws.{IsRunnable-scene}
use Rattle.script_read.proofs.RunnableLaws.{IsPrintable-script_of}
use Rattle.serial_model.specs.Side.{no_side}
use Rattle.serial_model.proofs.EndLaws.{has_end}
use Rattle.disk_dma.specs.Disk.{disk_side, new_disk}
use Rattle.disk_dma.specs.Track.{is_track}
use Rattle.paula_audio.specs.Paula.{paula_side, reset_paula}
use Rattle.ocs_words.specs.Order.{OrderValue, ExtraValue, NoFile, AudioFile, TrackFile}
use Rattle.ocs_run.specs.Top.{HasRunEnd}
use Rattle.ocs_words.specs.RewindOrder.{RewindOrderValue}
use Rattle.ocs_run.specs.Verdict.{Verdict, Rewind, of_track, of_extra, of_order, of_rewind, of_command}
use Rattle.ocs_words.specs.Words.{CommandValue, Run, Gen, Rewind as GoTo}
use Rattle.ocs_run.proofs.VerdictLaws.{inputs_are}

if_ends : (good : Bool) (v w : Verdict) → HasRunEnd v → HasRunEnd w → HasRunEnd (if good then v else w)
if_ends true v w first second = first
if_ends false v w first second = second

track_ends : (order : OrderValue) (image : List ℕ) (script : ScriptValue) (name : List ℕ) (track : Option (List ℕ)) → IsRunnable script
    → HasRunEnd (of_track order image script name track)
track_ends order image script name None good = tt
track_ends order image script name (Some track) good =
    if_ends (is_track track) _ _ (has_end (disk_side (new_disk track script.chip)) image script good) tt

extra_ends : (order : OrderValue) (files : Files) (image : List ℕ) (script : ScriptValue) (extra : ExtraValue) → IsRunnable script
    → HasRunEnd (of_extra order files image script extra)
extra_ends order files image script NoFile good = has_end no_side image script good
extra_ends order files image script (AudioFile name) good = has_end (paula_side (reset_paula script.chip)) image script good
extra_ends order files image script (TrackFile name) good = track_ends order image script name (file files name) good

order_ends : (order : OrderValue) (files : Files) → HasRunEnd (of_order order files)
order_ends order files =
    inputs_are HasRunEnd (λ image script. of_extra order files image script order.extra) order.image order.script files (λ name. tt) tt
    (λ line kind. tt) (λ image text script is. extra_ends order files image script order.extra (IsPrintable-script_of text script is).runnable)

rewind_ends : (order : RewindOrderValue) (files : Files) → HasRunEnd (of_rewind order files)
rewind_ends order files =
    inputs_are HasRunEnd (λ image script. Rewind image script order.every order.keep order.clocks) order.image order.script files (λ name. tt) tt
    (λ line kind. tt) (λ image text script is. has_end no_side image script (IsPrintable-script_of text script is).runnable)

verdict_ends : (command : Option CommandValue) (files : Files) → HasRunEnd (of_command command files)
verdict_ends None files = tt
verdict_ends (Some (Run order)) files = order_ends order files
verdict_ends (Some (GoTo order)) files = rewind_ends order files
verdict_ends (Some (Gen scene)) files = has_end no_side (scene_image scene.number) (scene_script scene.number) (IsRunnable-scene scene.number)

pub ends_where_told : (command : Option CommandValue) (files : Option Files) → WhereTold files (λ f. HasRunEnd (of_command command f))
ends_where_told command None = tt
ends_where_told command (Some files) = verdict_ends command files
