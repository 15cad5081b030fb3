-- The clauses of the top call, from what stands after the command and what was said.
use Rattle.std.proofs.Common.{◌≡◌, ℕ, zero, suc, ◌≤◌, ◌⊎◌, ◌↔◌, List, [], take}
use Rattle.std.proofs.Common.{Option, Some, None, Ok, Err, inl, inr, refl, sym, ap, subst, ◌∙◌, append-nil, arith}
use Rattle.ocs_base.specs.Script.{ScriptValue}
use Rattle.ocs_io.specs.Answers.{WhereTold}
use Rattle.ocs_io.specs.Place.{Files, Outside, Rose, OnlySays, said_more}
use Rattle.run_inputs.specs.Texts.{Says, SaysSurely, KeepsSaid}
use Rattle.ocs_run.specs.Command.{OrderAnswers, IsDone, IsUnwritten, IsWanting}
use Rattle.ocs_words.specs.Fault.{status_of}
use Rattle.ocs_words.specs.Order.{OrderValue}
use Rattle.ocs_run.specs.SceneAnswers.{SceneAnswers, SaysSummaryPart}
use Rattle.ocs_words.specs.Texts.{usage_text, fault_text, text_of}
use Rattle.ocs_run.specs.RewindAnswers.{SaysLinesPart}
use Rattle.ocs_words.specs.RewindOrder.{RewindOrderValue}
use Rattle.ocs_run.specs.Top.{UsageAnswers, CommandAnswers, SaysNothingElse, IsEarly, WritesNoFile, IsRefused}
use Rattle.ocs_run.specs.Top.{HasBadImage, HasBadScript, HasBadTrack, Completed, IsToldOfRun, IsToldOfRewind, IsTold, SaysFault, SaysOwn, SaysStatus}
use Rattle.ocs_run.specs.Verdict.{Verdict, Usage as UsageVerdict, Absent, BadImage as BadImageVerdict, of_extra}
use Rattle.ocs_run.specs.Verdict.{BadScript as BadScriptVerdict, BadTrack as BadTrackVerdict, Good, Scene, Rewind as RewindVerdict, of_order, of_command}
use Rattle.ocs_words.specs.Words.{CommandValue, Run, Gen, Rewind, command_of}
use Rattle.ocs_words.specs.declared.fault.Fault.{Fault}
use Rattle.ocs_words.specs.declared.fault.Fault.TheVariants.{Usage, Inputs, BadTrack, UnreadTrack, Unwritten, Unsaid, OutOfMemory}
use Rattle.run_inputs.specs.declared.fault.InputFault.TheVariants.{BadImage, BadScript, Unread, OutOfMemory as NoRoomForInputs}
use Rattle.run_inputs.proofs.FaultLaws.{told_more, not_two, not_six, not_nine, image_cause, script_cause, unread_cause, told_of_inputs}
use Rattle.ocs_run.proofs.OrderLaws.{IsOfRun, of_run, wants}
use Rattle.ocs_run.proofs.RewindTopLaws.{rewind_done, rewind_two, rewind_nine, rewind_image, rewind_script, rewind_unread, rewind_refused}
use Rattle.ocs_run.proofs.RewindTopLaws.{rewind_unsaid, rewind_complete, rewind_wanting, rewind_said}
use Rattle.ocs_run.proofs.VerdictLaws.{no_image, no_script}

-- what the faults of each command are
usage_fault : (old mid : Outside) (fault : Fault) → UsageAnswers old mid (Err fault) → (fault ≡ Usage) × (mid.files ≡ old.files)
usage_fault old mid Usage is = (refl, is)
usage_fault old mid (Inputs fault) is = absurd is
usage_fault old mid BadTrack is = absurd is
usage_fault old mid UnreadTrack is = absurd is
usage_fault old mid (Unwritten output) is = absurd is
usage_fault old mid Unsaid is = absurd is
usage_fault old mid OutOfMemory is = absurd is

scene_fault : (number : ℕ) (old mid : Outside) (fault : Fault) → SceneAnswers number old mid (Err fault)
    → ((fault ≡ Unsaid) × SaysSummaryPart number old mid) ⊎ ((fault ≡ OutOfMemory) × KeepsSaid old mid)
scene_fault number old mid Usage is = absurd is
scene_fault number old mid (Inputs fault) is = absurd is
scene_fault number old mid BadTrack is = absurd is
scene_fault number old mid UnreadTrack is = absurd is
scene_fault number old mid (Unwritten output) is = absurd is
scene_fault number old mid Unsaid is = inl (refl, is)
scene_fault number old mid OutOfMemory is = inr (refl, is)

usage_status : (old mid : Outside) (fault : Fault) (s : ℕ) → UsageAnswers old mid (Err fault) → s ≡ status_of fault → s ≡ 2
usage_status old mid fault s is e = e ∙ ap status_of (usage_fault old mid fault is).0

scene_status : (number : ℕ) (old mid : Outside) (fault : Fault) (s : ℕ) → SceneAnswers number old mid (Err fault) → s ≡ status_of fault → 6 ≤ s
scene_status number old mid fault s is e = step (scene_fault number old mid fault is)
  where
    step : ((fault ≡ Unsaid) × SaysSummaryPart number old mid) ⊎ ((fault ≡ OutOfMemory) × KeepsSaid old mid) → 6 ≤ s
    step (inl part) = let six : s ≡ 6 = e ∙ ap status_of part.0 in omega arith
    step (inr none) = let seven : s ≡ 7 = e ∙ ap status_of none.0 in omega arith

-- what is asked of good inputs
abbrev asked_in : OrderValue → Files → List ℕ → ScriptValue → Verdict
asked_in order f image script = of_extra order f image script order.extra

order_script : (order : OrderValue) (old mid : Outside) (fault : Fault) (s : ℕ) → OrderAnswers order old mid (Err fault) → s ≡ status_of fault
    → s ≡ 4 → WhereTold old.files (λ files. HasBadScript (of_order order files))
order_script order old mid Usage s is e four = absurd is
order_script order old mid (Inputs fault) s is e four =
    no_script (asked_in order) order.image order.script old.files (script_cause old mid order.image order.script fault is.0 (sym e ∙ four))
order_script order old mid BadTrack s is e four = absurd (omega arith)
order_script order old mid UnreadTrack s is e four = absurd (omega arith)
order_script order old mid (Unwritten output) s is e four = absurd (omega arith)
order_script order old mid Unsaid s is e four = absurd is
order_script order old mid OutOfMemory s is e four = absurd (omega arith)

pub script_clause : (command : Option CommandValue) (old mid : Outside) (fault : Fault) (s : ℕ) → CommandAnswers command old mid (Err fault)
    → s ≡ status_of fault → s ≡ 4 → WhereTold old.files (λ files. HasBadScript (of_command command files))
script_clause None old mid fault s is e four = absurd (let two : s ≡ 2 = usage_status old mid fault s is e in omega arith)
script_clause (Some (Run order)) old mid fault s is e four = order_script order old mid fault s is e four
script_clause (Some (Gen scene)) old mid fault s is e four =
    absurd (let more : 6 ≤ s = scene_status scene.number old mid fault s is.0 e in omega arith)
script_clause (Some (Rewind order)) old mid fault s is e four = rewind_script order old mid s fault is.0 e four

order_track : (order : OrderValue) (old mid : Outside) (fault : Fault) (s : ℕ) → OrderAnswers order old mid (Err fault) → s ≡ status_of fault
    → s ≡ 9 → WhereTold old.files (λ files. HasBadTrack (of_order order files))
order_track order old mid Usage s is e nine = absurd is
order_track order old mid (Inputs fault) s is e nine = absurd (not_nine fault (sym e ∙ nine))
order_track order old mid BadTrack s is e nine = is.0
order_track order old mid UnreadTrack s is e nine = absurd (omega arith)
order_track order old mid (Unwritten output) s is e nine = absurd (omega arith)
order_track order old mid Unsaid s is e nine = absurd is
order_track order old mid OutOfMemory s is e nine = absurd (omega arith)

scene_below : (number : ℕ) (old mid : Outside) (fault : Fault) (s : ℕ) → SceneAnswers number old mid (Err fault) → s ≡ status_of fault → s ≤ 7
scene_below number old mid fault s is e = step (scene_fault number old mid fault is)
  where
    step : ((fault ≡ Unsaid) × SaysSummaryPart number old mid) ⊎ ((fault ≡ OutOfMemory) × KeepsSaid old mid) → s ≤ 7
    step (inl part) = let six : s ≡ 6 = e ∙ ap status_of part.0 in omega arith
    step (inr none) = let seven : s ≡ 7 = e ∙ ap status_of none.0 in omega arith

pub track_clause : (command : Option CommandValue) (old mid : Outside) (fault : Fault) (s : ℕ) → CommandAnswers command old mid (Err fault)
    → s ≡ status_of fault → s ≡ 9 → WhereTold old.files (λ files. HasBadTrack (of_command command files))
track_clause None old mid fault s is e nine = absurd (let two : s ≡ 2 = usage_status old mid fault s is e in omega arith)
track_clause (Some (Run order)) old mid fault s is e nine = order_track order old mid fault s is e nine
track_clause (Some (Gen scene)) old mid fault s is e nine =
    absurd (let less : s ≤ 7 = scene_below scene.number old mid fault s is.0 e in omega arith)
track_clause (Some (Rewind order)) old mid fault s is e nine = absurd (rewind_nine order old mid s fault is.0 e nine)

not_early : (s n : ℕ) → s ≡ n → 6 ≤ n → n ≤ 8 → IsEarly s → ⊥
not_early s n e big small (inl two) = omega arith
not_early s n e big small (inr (inl three)) = omega arith
not_early s n e big small (inr (inr (inl four))) = omega arith
not_early s n e big small (inr (inr (inr (inl five)))) = omega arith
not_early s n e big small (inr (inr (inr (inr nine)))) = omega arith

order_kept : (order : OrderValue) (old mid new : Outside) (fault : Fault) (s : ℕ) → OrderAnswers order old mid (Err fault) → s ≡ status_of fault
    → OnlySays mid new → IsEarly s → new.files ≡ old.files
order_kept order old mid new BadTrack s is e says early = says.files ∙ is.1
order_kept order old mid new UnreadTrack s is e says early = says.files ∙ is.1
order_kept order old mid new Usage s is e says early = absurd is
order_kept order old mid new (Inputs fault) s is e says early = says.files ∙ is.1
order_kept order old mid new (Unwritten output) s is e says early = absurd (not_early s 6 e (omega arith) (omega arith) early)
order_kept order old mid new Unsaid s is e says early = absurd is
order_kept order old mid new OutOfMemory s is e says early = absurd (not_early s 7 e (omega arith) (omega arith) early)

pub kept_clause : (command : Option CommandValue) (old mid new : Outside) (fault : Fault) (s : ℕ) → CommandAnswers command old mid (Err fault)
    → s ≡ status_of fault → OnlySays mid new → IsEarly s → new.files ≡ old.files
kept_clause None old mid new fault s is e says early = says.files ∙ (usage_fault old mid fault is).1
kept_clause (Some (Run order)) old mid new fault s is e says early = order_kept order old mid new fault s is e says early
kept_clause (Some (Gen scene)) old mid new fault s is e says early = says.files ∙ is.1
kept_clause (Some (Rewind order)) old mid new fault s is e says early = says.files ∙ is.1

pub apart_clause : (command : Option CommandValue) (old mid new : Outside) (fault : Fault) → CommandAnswers command old mid (Err fault)
    → OnlySays mid new → WritesNoFile command → new.files ≡ old.files
apart_clause None old mid new fault is says scene = absurd scene
apart_clause (Some (Run order)) old mid new fault is says scene = absurd scene
apart_clause (Some (Gen order)) old mid new fault is says scene = says.files ∙ is.1
apart_clause (Some (Rewind order)) old mid new fault is says scene = says.files ∙ is.1

unread : (v : Verdict) (old new : Outside) (s : ℕ) → IsOfRun v → s ≡ 5 → Rose old.read_faults new.read_faults → Completed v old new s
unread UsageVerdict old new s run e rose = absurd run
unread (Absent name) old new s run e rose = inl e
unread BadImageVerdict old new s run e rose = inl rose
unread (BadScriptVerdict line kind) old new s run e rose = inl rose
unread BadTrackVerdict old new s run e rose = inl rose
unread (Good image script order side) old new s run e rose = inl (inl rose)
unread (Scene number band workers) old new s run e rose = absurd run
unread (RewindVerdict image script every keep clocks) old new s run e rose = absurd run

unwritten : (v : Verdict) (files : Files) (after : Option Files) (old new : Outside) (s : ℕ) → IsOfRun v → IsUnwritten v files after
    → Rose old.write_faults new.write_faults → Completed v old new s
unwritten UsageVerdict files after old new s run is rose = absurd run
unwritten (Absent name) files after old new s run is rose = absurd is
unwritten BadImageVerdict files after old new s run is rose = absurd is
unwritten (BadScriptVerdict line kind) files after old new s run is rose = absurd is
unwritten BadTrackVerdict files after old new s run is rose = absurd is
unwritten (Good image script order side) files after old new s run is rose = inl (inr rose)
unwritten (Scene number band workers) files after old new s run is rose = absurd run
unwritten (RewindVerdict image script every keep clocks) files after old new s run is rose = absurd run

wanting : (v : Verdict) (files : Files) (after : Option Files) (old new : Outside) (s : ℕ) → IsWanting v files after → s ≡ 7 → Completed v old new s
wanting UsageVerdict files after old new s is e = absurd is
wanting (Absent name) files after old new s is e = inr e
wanting BadImageVerdict files after old new s is e = inr (inr e)
wanting (BadScriptVerdict line kind) files after old new s is e = inr (inr e)
wanting BadTrackVerdict files after old new s is e = inr (inr e)
wanting (Good image script order side) files after old new s is e = inr (inr e)
wanting (Scene number band workers) files after old new s is e = inr (inr e)
wanting (RewindVerdict image script every keep clocks) files after old new s is e = inr (inr e)

rose_read : (old mid new : Outside) → OnlySays mid new → Rose old.read_faults mid.read_faults → Rose old.read_faults new.read_faults
rose_read old mid new says rose = subst (λ n. Rose old.read_faults n) (sym says.read_faults) rose

rose_write : (old mid new : Outside) → OnlySays mid new → Rose old.write_faults mid.write_faults → Rose old.write_faults new.write_faults
rose_write old mid new says rose = subst (λ n. Rose old.write_faults n) (sym says.write_faults) rose

always : (files : Option Files) (Q : Files → Type 0) → ((f : Files) → Q f) → WhereTold files Q
always None Q f = tt
always (Some files) Q f = f files

order_image : (order : OrderValue) (old mid : Outside) (fault : Fault) (s : ℕ) → OrderAnswers order old mid (Err fault) → s ≡ status_of fault
    → s ≡ 3 → WhereTold old.files (λ files. HasBadImage (of_order order files))
order_image order old mid Usage s is e three = absurd is
order_image order old mid (Inputs fault) s is e three =
    no_image (asked_in order) order.image order.script old.files (image_cause old mid order.image order.script fault is.0 (sym e ∙ three))
order_image order old mid BadTrack s is e three = absurd (omega arith)
order_image order old mid UnreadTrack s is e three = absurd (omega arith)
order_image order old mid (Unwritten output) s is e three = absurd (omega arith)
order_image order old mid Unsaid s is e three = absurd is
order_image order old mid OutOfMemory s is e three = absurd (omega arith)

order_unread : (order : OrderValue) (old mid new : Outside) (fault : Fault) (s : ℕ) → OrderAnswers order old mid (Err fault) → s ≡ status_of fault
    → OnlySays mid new → s ≡ 5 → Rose old.read_faults new.read_faults
order_unread order old mid new Usage s is e says five = absurd is
order_unread order old mid new (Inputs fault) s is e says five =
    rose_read old mid new says (unread_cause old mid order.image order.script fault is.0 (sym e ∙ five))
order_unread order old mid new BadTrack s is e says five = absurd (omega arith)
order_unread order old mid new UnreadTrack s is e says five = rose_read old mid new says is.0
order_unread order old mid new (Unwritten output) s is e says five = absurd (omega arith)
order_unread order old mid new Unsaid s is e says five = absurd is
order_unread order old mid new OutOfMemory s is e says five = absurd (omega arith)

order_complete : (order : OrderValue) (old mid new : Outside) (fault : Fault) (s : ℕ) → OrderAnswers order old mid (Err fault) → s ≡ status_of fault
    → OnlySays mid new → WhereTold old.files (λ files. Completed (of_order order files) old new s)
order_complete order old mid new Usage s is e says = absurd is
order_complete order old mid new (Inputs BadImage) s is e says =
    told_more old.files (λ f. HasBadImage (of_order order f)) (λ f. Completed (of_order order f) old new s)
    (λ f v. subst (λ w. Completed w old new s) (sym v) (inr (inl e))) (order_image order old mid (Inputs BadImage) s is e e)
order_complete order old mid new (Inputs (BadScript line kind)) s is e says =
    told_more old.files (λ f. HasBadScript (of_order order f)) (λ f. Completed (of_order order f) old new s)
    (λ f v. subst (λ w. Completed w old new s) (sym v.2) (inr (inl e))) (order_script order old mid (Inputs (BadScript line kind)) s is e e)
order_complete order old mid new (Inputs (Unread input)) s is e says =
    always old.files (λ f. Completed (of_order order f) old new s)
    (λ f. unread _ old new s (of_run order f) e (order_unread order old mid new (Inputs (Unread input)) s is e says e))
order_complete order old mid new (Inputs NoRoomForInputs) s is e says =
    told_more old.files (λ f. IsWanting (of_order order f) f mid.files) (λ f. Completed (of_order order f) old new s)
    (λ f w. wanting _ f mid.files old new s w e) (wants order old mid is.1)
order_complete order old mid new BadTrack s is e says =
    told_more old.files _ (λ f. Completed (of_order order f) old new s) (λ f v. subst (λ w. Completed w old new s) (sym v) (inr (inl e))) is.0
order_complete order old mid new UnreadTrack s is e says =
    always old.files (λ f. Completed (of_order order f) old new s) (λ f. unread _ old new s (of_run order f) e (rose_read old mid new says is.0))
order_complete order old mid new (Unwritten output) s is e says =
    told_more old.files (λ f. IsUnwritten (of_order order f) f mid.files) (λ f. Completed (of_order order f) old new s)
    (λ f w. unwritten _ f mid.files old new s (of_run order f) w (rose_write old mid new says is.0)) is.1
order_complete order old mid new Unsaid s is e says = absurd is
order_complete order old mid new OutOfMemory s is e says =
    told_more old.files (λ f. IsWanting (of_order order f) f mid.files) (λ f. Completed (of_order order f) old new s)
    (λ f w. wanting _ f mid.files old new s w e) is

-- a count that rose has risen later too
rose_later : (a b c : ℕ) → Rose a b → b ≤ c → Rose a c
rose_later a b c rose le = omega (arith, rose, le)

rose_say : (old mid new : Outside) → OnlySays mid new → Rose old.say_faults mid.say_faults → Rose old.say_faults new.say_faults
rose_say old mid new says rose = rose_later old.say_faults mid.say_faults new.say_faults rose says.say_faults

scene_complete : (number band workers : ℕ) (old mid new : Outside) (fault : Fault) (s : ℕ) → SceneAnswers number old mid (Err fault)
    → s ≡ status_of fault → OnlySays mid new → Completed (Scene number band workers) old new s
scene_complete number band workers old mid new fault s is e says = step (scene_fault number old mid fault is)
  where
    step : ((fault ≡ Unsaid) × SaysSummaryPart number old mid) ⊎ ((fault ≡ OutOfMemory) × KeepsSaid old mid)
        → Completed (Scene number band workers) old new s
    step (inl part) = inl (rose_say old mid new says part.1.refused)
    step (inr none) = inr (inr (e ∙ ap status_of none.0))

pub complete_clause : (command : Option CommandValue) (old mid new : Outside) (fault : Fault) (s : ℕ) → CommandAnswers command old mid (Err fault)
    → s ≡ status_of fault → OnlySays mid new → WhereTold old.files (λ files. Completed (of_command command files) old new s)
complete_clause None old mid new fault s is e says =
    always old.files (λ f. Completed (of_command None f) old new s) (λ f. usage_status old mid fault s is e)
complete_clause (Some (Run order)) old mid new fault s is e says = order_complete order old mid new fault s is e says
complete_clause (Some (Gen scene)) old mid new fault s is e says =
    always old.files (λ f. Completed (of_command (Some (Gen scene)) f) old new s)
    (λ f. scene_complete scene.number scene.band scene.workers old mid new fault s is.0 e says)
complete_clause (Some (Rewind order)) old mid new fault s is e says = rewind_complete order old mid s new says fault is.0 e

-- the faults of refusals to write
order_refused : (order : OrderValue) (old mid new : Outside) (fault : Fault) (s : ℕ) → OrderAnswers order old mid (Err fault) → s ≡ status_of fault
    → OnlySays mid new → s ≡ 6 → Rose old.write_faults new.write_faults
order_refused order old mid new Usage s is e says six = absurd is
order_refused order old mid new (Inputs fault) s is e says six = absurd (not_six fault (sym e ∙ six))
order_refused order old mid new BadTrack s is e says six = absurd (omega arith)
order_refused order old mid new UnreadTrack s is e says six = absurd (omega arith)
order_refused order old mid new (Unwritten output) s is e says six = rose_write old mid new says is.0
order_refused order old mid new Unsaid s is e says six = absurd is
order_refused order old mid new OutOfMemory s is e says six = absurd (omega arith)

scene_refused : (number : ℕ) (old mid new : Outside) (fault : Fault) (s : ℕ) → SceneAnswers number old mid (Err fault) → s ≡ status_of fault
    → OnlySays mid new → s ≡ 6 → Rose old.say_faults new.say_faults
scene_refused number old mid new fault s is e says six = step (scene_fault number old mid fault is)
  where
    step : ((fault ≡ Unsaid) × SaysSummaryPart number old mid) ⊎ ((fault ≡ OutOfMemory) × KeepsSaid old mid) → Rose old.say_faults new.say_faults
    step (inl part) = rose_say old mid new says part.1.refused
    step (inr none) = absurd (let seven : s ≡ 7 = e ∙ ap status_of none.0 in omega arith)

pub refused_clause : (command : Option CommandValue) (old mid new : Outside) (fault : Fault) (s : ℕ) → CommandAnswers command old mid (Err fault)
    → s ≡ status_of fault → OnlySays mid new → s ≡ 6 → IsRefused command old new
refused_clause None old mid new fault s is e says six = absurd (let two : s ≡ 2 = usage_status old mid fault s is e in omega arith)
refused_clause (Some (Run order)) old mid new fault s is e says six = order_refused order old mid new fault s is e says six
refused_clause (Some (Gen scene)) old mid new fault s is e says six = scene_refused scene.number old mid new fault s is.0 e says six
refused_clause (Some (Rewind order)) old mid new fault s is e says six = rewind_refused order old mid s new says fault is.0 e six

pub unread_clause : (command : Option CommandValue) (old mid new : Outside) (fault : Fault) (s : ℕ) → CommandAnswers command old mid (Err fault)
    → s ≡ status_of fault → OnlySays mid new → s ≡ 5 → Rose old.read_faults new.read_faults
unread_clause None old mid new fault s is e says five = absurd (let two : s ≡ 2 = usage_status old mid fault s is e in omega arith)
unread_clause (Some (Run order)) old mid new fault s is e says five = order_unread order old mid new fault s is e says five
unread_clause (Some (Gen scene)) old mid new fault s is e says five =
    absurd (let more : 6 ≤ s = scene_status scene.number old mid fault s is.0 e in omega arith)
unread_clause (Some (Rewind order)) old mid new fault s is e says five = rewind_unread order old mid s new says fault is.0 e five

-- what a refusal to write leaves
order_unwritten : (order : OrderValue) (old mid new : Outside) (fault : Fault) (s : ℕ) → OrderAnswers order old mid (Err fault) → s ≡ status_of fault
    → OnlySays mid new → s ≡ 6 → WhereTold old.files (λ files. IsUnwritten (of_order order files) files new.files)
order_unwritten order old mid new Usage s is e says six = absurd is
order_unwritten order old mid new (Inputs fault) s is e says six = absurd (not_six fault (sym e ∙ six))
order_unwritten order old mid new BadTrack s is e says six = absurd (omega arith)
order_unwritten order old mid new UnreadTrack s is e says six = absurd (omega arith)
order_unwritten order old mid new (Unwritten output) s is e says six =
    subst (λ after. WhereTold old.files (λ files. IsUnwritten (of_order order files) files after)) (sym says.files) is.1
order_unwritten order old mid new Unsaid s is e says six = absurd is
order_unwritten order old mid new OutOfMemory s is e says six = absurd (omega arith)

kept_where_told : (before after : Option Files) → after ≡ before → WhereTold before (λ files. after ≡ Some files)
kept_where_told None after same = tt
kept_where_told (Some files) after same = same

pub unwritten_clause : (command : Option CommandValue) (old mid new : Outside) (fault : Fault) (s : ℕ) → CommandAnswers command old mid (Err fault)
    → s ≡ status_of fault → OnlySays mid new → s ≡ 6
    → WhereTold old.files (λ files. IsUnwritten (of_command command files) files new.files)
unwritten_clause None old mid new fault s is e says six = absurd (let two : s ≡ 2 = usage_status old mid fault s is e in omega arith)
unwritten_clause (Some (Run order)) old mid new fault s is e says six = order_unwritten order old mid new fault s is e says six
unwritten_clause (Some (Gen scene)) old mid new fault s is e says six = kept_where_told old.files new.files (says.files ∙ is.1)
unwritten_clause (Some (Rewind order)) old mid new fault s is e says six = rewind_unsaid order old mid s new says fault is.0 e (says.files ∙ is.1) six

-- ---- what is said

told : (order : OrderValue) (old mid : Outside) (fault : Fault) → OrderAnswers order old mid (Err fault) → IsToldOfRun order old fault
told order old mid Usage is = absurd is
told order old mid (Inputs fault) is = told_of_inputs old mid order.image order.script fault is.0
told order old mid BadTrack is = is.2
told order old mid UnreadTrack is = (is.2, is.3)
told order old mid (Unwritten output) is = is.2
told order old mid Unsaid is = absurd is
told order old mid OutOfMemory is = tt

says_from : (text : List ℕ) (old mid new : Outside) → KeepsSaid old mid → Says text mid new → Says text old new
says_from text old mid new kept (inl (inl all)) = inl (inl (all ∙ ap (λ t. said_more t text) kept.said))
says_from text old mid new kept (inl (inr part)) =
    inl (inr (part.0, part.1 ∙ ap (λ t. said_more t (take part.0 text)) kept.said, subst (λ n. Rose n new.say_faults) kept.faults part.2))
says_from text old mid new kept (inr none) = inr (none ∙ kept.said)

-- at status 2 the words are of no form, and their form is told
order_no_usage : (order : OrderValue) (old mid : Outside) (fault : Fault) (s : ℕ) → OrderAnswers order old mid (Err fault) → s ≡ status_of fault
    → s ≡ 2 → ⊥
order_no_usage order old mid Usage s is e two = is
order_no_usage order old mid (Inputs fault) s is e two = not_two fault (sym e ∙ two)
order_no_usage order old mid BadTrack s is e two = omega arith
order_no_usage order old mid UnreadTrack s is e two = omega arith
order_no_usage order old mid (Unwritten output) s is e two = omega arith
order_no_usage order old mid Unsaid s is e two = is
order_no_usage order old mid OutOfMemory s is e two = omega arith

usage_of : (command : Option CommandValue) (old mid : Outside) (fault : Fault) (s : ℕ) → CommandAnswers command old mid (Err fault)
    → s ≡ status_of fault → s ≡ 2 → (command ≡ None) × (fault ≡ Usage)
usage_of None old mid fault s is e two = (refl, (usage_fault old mid fault is).0)
usage_of (Some (Run order)) old mid fault s is e two = absurd (order_no_usage order old mid fault s is e two)
usage_of (Some (Gen scene)) old mid fault s is e two =
    absurd (let more : 6 ≤ s = scene_status scene.number old mid fault s is.0 e in omega arith)
usage_of (Some (Rewind order)) old mid fault s is e two = absurd (rewind_two order old mid s fault is.0 e two)

-- no call of the place comes before it is said
pub usage_clause : {V : Type 0} (outside : V → Outside) (freely : V → List ℕ → Type 0) (before mid : V) (new : Outside) (words : List (List ℕ))
    (fault : Fault) (s : ℕ)
    → CommandAnswers (command_of words) (outside before) (outside mid) (Err fault) → s ≡ status_of fault
    → (command_of words ≡ None → mid ≡ before)
    → (fault ≡ Usage → freely mid (usage_text words) → SaysSurely (usage_text words) (outside mid) new)
    → s ≡ 2 → freely before (usage_text words) → SaysSurely (usage_text words) (outside before) new
usage_clause outside freely before mid new words fault s is e same says two free =
    let usage = usage_of (command_of words) (outside before) (outside mid) fault s is e two in
    let back : mid ≡ before = same usage.0 in
    subst (λ p. SaysSurely (usage_text words) (outside p) new) back
    (says usage.1 (subst (λ p. freely p (usage_text words)) (sym back) free))

-- an empty text adds nothing
said_nothing : (said : Option (List ℕ)) → said_more said [] ≡ said
said_nothing None = refl
said_nothing (Some text) = ap Some (append-nil text)

taken_nothing : (n : ℕ) → take {A = ℕ} n [] ≡ []
taken_nothing zero = refl
taken_nothing (suc n) = refl

says_no_text : (mid new : Outside) → Says [] mid new → new.said ≡ mid.said
says_no_text mid new (inl (inl all)) = all ∙ said_nothing mid.said
says_no_text mid new (inl (inr part)) = part.1 ∙ ap (said_more mid.said) (taken_nothing part.0) ∙ said_nothing mid.said
says_no_text mid new (inr none) = none

no_text : (words : List (List ℕ)) → text_of words Unsaid ≡ []
unfolding fault_text
no_text words = refl

scene_part : (words : List (List ℕ)) (number : ℕ) (old mid new : Outside) (fault : Fault) → fault ≡ Unsaid → SaysSummaryPart number old mid
    → OnlySays mid new → Says (text_of words fault) mid new → SaysSummaryPart number old new
scene_part words number old mid new fault is part only says = record {
  text = part.text;
  summary = part.summary;
  count = part.count;
  said = says_no_text mid new (subst (λ text. Says text mid new) (ap (text_of words) is ∙ no_text words) says) ∙ part.said;
  refused = rose_say old mid new only part.refused;
}

lines_part : (words : List (List ℕ)) (order : RewindOrderValue) (old mid new : Outside) (fault : Fault) → fault ≡ Unsaid
    → SaysLinesPart order old mid → OnlySays mid new → Says (text_of words fault) mid new → SaysLinesPart order old new
lines_part words order old mid new fault is part only says = record {
  text = part.text;
  lines = part.lines;
  count = part.count;
  said = says_no_text mid new (subst (λ text. Says text mid new) (ap (text_of words) is ∙ no_text words) says) ∙ part.said;
  refused = rose_say old mid new only part.refused;
}

said_by : (words : List (List ℕ)) (command : Option CommandValue) (old mid new : Outside) (fault : Fault) (s : ℕ) → command_of words ≡ command
    → CommandAnswers command old mid (Err fault) → s ≡ status_of fault → SaysNothingElse command old mid → OnlySays mid new
    → Says (text_of words fault) mid new → SaysOwn command old new s ⊎ SaysFault words old new s
said_by words None old mid new fault s is answers e kept only says = inr (record {
  fault = fault;
  answered = e;
  said = says_from (text_of words fault) old mid new kept says;
  told = subst (λ c. IsTold c old fault) (sym is) (usage_fault old mid fault answers).0;
})
said_by words (Some (Run order)) old mid new fault s is answers e kept only says = inr (record {
  fault = fault;
  answered = e;
  said = says_from (text_of words fault) old mid new kept says;
  told = subst (λ c. IsTold c old fault) (sym is) (told order old mid fault answers);
})
said_by words (Some (Gen scene)) old mid new fault s is answers e kept only says = step (scene_fault scene.number old mid fault answers.0)
  where
    step : ((fault ≡ Unsaid) × SaysSummaryPart scene.number old mid) ⊎ ((fault ≡ OutOfMemory) × KeepsSaid old mid)
        → SaysOwn (Some (Gen scene)) old new s ⊎ SaysFault words old new s
    step (inl part) =
        inl (inr (e ∙ ap status_of part.0, scene_part words scene.number old mid new fault part.0 part.1 only says))
    step (inr none) = inr (record {
      fault = fault;
      answered = e;
      said = says_from (text_of words fault) old mid new none.1 says;
      told = subst (λ c. IsTold c old fault) (sym is) none.0;
    })
said_by words (Some (Rewind order)) old mid new fault s is answers e kept only says = step (rewind_said order old mid fault answers.0)
  where
    step : ((fault ≡ Unsaid) × SaysLinesPart order old mid) ⊎ (KeepsSaid old mid × IsToldOfRewind order old fault)
        → SaysOwn (Some (Rewind order)) old new s ⊎ SaysFault words old new s
    step (inl part) = inl (inr (e ∙ ap status_of part.0, lines_part words order old mid new fault part.0 part.1 only says))
    step (inr none) = inr (record {
      fault = fault;
      answered = e;
      said = says_from (text_of words fault) old mid new none.0 says;
      told = subst (λ c. IsTold c old fault) (sym is) none.1;
    })

pub said_clause : (words : List (List ℕ)) (old mid new : Outside) (fault : Fault) (s : ℕ) → CommandAnswers (command_of words) old mid (Err fault)
    → s ≡ status_of fault → SaysNothingElse (command_of words) old mid → OnlySays mid new → Says (text_of words fault) mid new
    → SaysStatus words old new s
said_clause words old mid new fault s answers e kept only says = said_by words (command_of words) old mid new fault s refl answers e kept only says

pub apart_done_clause : (command : Option CommandValue) (old new : Outside) (done : Unit {0}) → CommandAnswers command old new (Ok done)
    → WritesNoFile command → new.files ≡ old.files
apart_done_clause None old new done answers scene = absurd scene
apart_done_clause (Some (Run order)) old new done answers scene = absurd scene
apart_done_clause (Some (Gen order)) old new done answers scene = answers.1
apart_done_clause (Some (Rewind order)) old new done answers scene = answers.1

-- done: a run said nothing, and of a scene the summary was said
said_done : (command : Option CommandValue) (old new : Outside) (done : Unit {0}) → CommandAnswers command old new (Ok done)
    → SaysNothingElse command old new → SaysOwn command old new 0
said_done None old new done answers kept = absurd answers
said_done (Some (Run order)) old new done answers kept = (refl, kept.said)
said_done (Some (Gen scene)) old new done answers kept = inl (refl, answers.0)
said_done (Some (Rewind order)) old new done answers kept = inl (refl, answers.0)

pub said_done_clause : (words : List (List ℕ)) (old new : Outside) (done : Unit {0}) → CommandAnswers (command_of words) old new (Ok done)
    → SaysNothingElse (command_of words) old new → SaysStatus words old new 0
said_done_clause words old new done answers kept = inl (said_done (command_of words) old new done answers kept)

-- ---- the other clauses

done_by : (command : Option CommandValue) (old new : Outside) (done : Unit {0}) → CommandAnswers command old new (Ok done)
    → WhereTold old.files (λ files. IsDone (of_command command files) files new.files)
done_by None old new done answers = absurd answers
done_by (Some (Run order)) old new done answers = answers
done_by (Some (Gen scene)) old new done answers = kept_where_told old.files new.files answers.1
done_by (Some (Rewind order)) old new done answers = rewind_done order old new answers.0 answers.1

pub done_clause : (command : Option CommandValue) (old new : Outside) (done : Unit {0}) → CommandAnswers command old new (Ok done)
    → WhereTold old.files (λ files. IsDone (of_command command files) files new.files)
done_clause command old new done answers = done_by command old new done answers

done_complete : (v : Verdict) (files : Files) (after : Option Files) (old new : Outside) → IsDone v files after → Completed v old new 0
done_complete UsageVerdict files after old new is = absurd is
done_complete (Absent name) files after old new is = absurd is
done_complete BadImageVerdict files after old new is = absurd is
done_complete (BadScriptVerdict line kind) files after old new is = absurd is
done_complete BadTrackVerdict files after old new is = absurd is
done_complete (Good image script order side) files after old new is = inr (inl refl)
done_complete (Scene number band workers) files after old new is = inr (inl refl)
done_complete (RewindVerdict image script every keep clocks) files after old new is = inr (inl refl)

pub complete_done_clause : (command : Option CommandValue) (old new : Outside) (done : Unit {0}) → CommandAnswers command old new (Ok done)
    → WhereTold old.files (λ files. Completed (of_command command files) old new 0)
complete_done_clause command old new done answers =
    told_more old.files (λ f. IsDone (of_command command f) f new.files) (λ f. Completed (of_command command f) old new 0)
    (λ f is. done_complete (of_command command f) f new.files old new is) (done_by command old new done answers)

some_is_none : {A : Type 0} (x : A) → Some x ≡ None → ⊥
some_is_none x e = cc

pub usage_iff_clause : (command : Option CommandValue) (old mid : Outside) (fault : Fault) (s : ℕ) → CommandAnswers command old mid (Err fault)
    → s ≡ status_of fault → (s ≡ 2) ↔ (command ≡ None)
usage_iff_clause None old mid fault s is e = (λ two. refl, λ none. usage_status old mid fault s is e)
usage_iff_clause (Some command) old mid fault s is e =
    (λ two. (usage_of (Some command) old mid fault s is e two).0, λ none. absurd (some_is_none command none))

pub image_clause : (command : Option CommandValue) (old mid : Outside) (fault : Fault) (s : ℕ) → CommandAnswers command old mid (Err fault)
    → s ≡ status_of fault → s ≡ 3 → WhereTold old.files (λ files. HasBadImage (of_command command files))
image_clause None old mid fault s is e three = absurd (let two : s ≡ 2 = usage_status old mid fault s is e in omega arith)
image_clause (Some (Run order)) old mid fault s is e three = order_image order old mid fault s is e three
image_clause (Some (Gen scene)) old mid fault s is e three =
    absurd (let more : 6 ≤ s = scene_status scene.number old mid fault s is.0 e in omega arith)
image_clause (Some (Rewind order)) old mid fault s is e three = rewind_image order old mid s fault is.0 e three

order_wanting : (order : OrderValue) (old mid new : Outside) (fault : Fault) (s : ℕ) → OrderAnswers order old mid (Err fault) → s ≡ status_of fault
    → OnlySays mid new → s ≡ 7 → WhereTold old.files (λ files. IsWanting (of_order order files) files new.files)
order_wanting order old mid new Usage s is e says seven = absurd is
order_wanting order old mid new (Inputs fault) s is e says seven = wants order old new (says.files ∙ is.1)
order_wanting order old mid new BadTrack s is e says seven = absurd (omega arith)
order_wanting order old mid new UnreadTrack s is e says seven = absurd (omega arith)
order_wanting order old mid new (Unwritten output) s is e says seven = absurd (omega arith)
order_wanting order old mid new Unsaid s is e says seven = absurd is
order_wanting order old mid new OutOfMemory s is e says seven =
    subst (λ after. WhereTold old.files (λ files. IsWanting (of_order order files) files after)) (sym says.files) is

pub wanting_clause : (command : Option CommandValue) (old mid new : Outside) (fault : Fault) (s : ℕ) → CommandAnswers command old mid (Err fault)
    → s ≡ status_of fault → OnlySays mid new → s ≡ 7
    → WhereTold old.files (λ files. IsWanting (of_command command files) files new.files)
wanting_clause None old mid new fault s is e says seven = absurd (let two : s ≡ 2 = usage_status old mid fault s is e in omega arith)
wanting_clause (Some (Run order)) old mid new fault s is e says seven = order_wanting order old mid new fault s is e says seven
wanting_clause (Some (Gen scene)) old mid new fault s is e says seven = kept_where_told old.files new.files (says.files ∙ is.1)
wanting_clause (Some (Rewind order)) old mid new fault s is e says seven = rewind_wanting order old new (says.files ∙ is.1)
