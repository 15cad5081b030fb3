-- The clauses of the top call, of a rewind.
use Rattle.std.proofs.Common.{◌≡◌, ℕ, ◌≤◌, ◌⊎◌, List, Option, Some, None, Err, inl, inr, refl, sym, subst, ◌∙◌, arith}
use Rattle.ocs_io.specs.Answers.{WhereTold}
use Rattle.ocs_io.specs.Place.{Files, Outside, Rose, OnlySays}
use Rattle.ocs_run.specs.Command.{IsDone, IsUnwritten, IsWanting}
use Rattle.run_inputs.specs.Texts.{KeepsSaid}
use Rattle.ocs_words.specs.Fault.{status_of}
use Rattle.ocs_run.specs.RewindAnswers.{RewindAnswers, AreLinesOf, SaysLines, SaysLinesPart}
use Rattle.ocs_words.specs.RewindOrder.{RewindOrderValue}
use Rattle.ocs_run.specs.Top.{HasBadImage, HasBadScript, Completed, IsToldOfRewind}
use Rattle.ocs_run.specs.Verdict.{Verdict, Usage as UsageVerdict, Absent, BadImage as BadImageVerdict}
use Rattle.ocs_run.specs.Verdict.{BadScript as BadScriptVerdict, BadTrack as BadTrackVerdict, Good, Scene, Rewind, of_rewind}
use Rattle.ocs_words.specs.declared.fault.Fault.{Fault}
use Rattle.ocs_words.specs.declared.fault.Fault.TheVariants.{Usage, Inputs, BadTrack, UnreadTrack, Unwritten, Unsaid, OutOfMemory}
use Rattle.run_inputs.specs.declared.fault.InputFault.TheVariants.{BadImage, BadScript, Unread, OutOfMemory as NoRoomForInputs}
use Rattle.run_inputs.proofs.FaultLaws.{not_two, not_six, not_nine, image_cause, script_cause, unread_cause, told_of_inputs}
use Rattle.ocs_run.proofs.RewindOrderLaws.{asked_by}
use Rattle.ocs_run.proofs.VerdictLaws.{inputs_are, no_image, no_script}

-- ---- the verdict of a rewind is no usage, no track, no run and no scene

abbrev pub IsOfRewind : Verdict → Type 0
IsOfRewind UsageVerdict = ⊥
IsOfRewind (Absent name) = Unit {0}
IsOfRewind BadImageVerdict = Unit {0}
IsOfRewind (BadScriptVerdict line kind) = Unit {0}
IsOfRewind BadTrackVerdict = ⊥
IsOfRewind (Good image script order side) = ⊥
IsOfRewind (Scene number band workers) = ⊥
IsOfRewind (Rewind image script every keep clocks) = Unit {0}

pub is_of_rewind : (o : RewindOrderValue) (files : Files) → IsOfRewind (of_rewind o files)
is_of_rewind o files = inputs_are IsOfRewind (asked_by o) o.image o.script files (λ name. tt) tt (λ line kind. tt) (λ image text script is. tt)

wanting_as_before : (v : Verdict) (f : Files) (new : Option Files) → IsOfRewind v → new ≡ Some f → IsWanting v f new
wanting_as_before UsageVerdict f new is same = absurd is
wanting_as_before (Absent name) f new is same = same
wanting_as_before BadImageVerdict f new is same = same
wanting_as_before (BadScriptVerdict line kind) f new is same = same
wanting_as_before BadTrackVerdict f new is same = absurd is
wanting_as_before (Good image script order side) f new is same = absurd is
wanting_as_before (Scene number band workers) f new is same = absurd is
wanting_as_before (Rewind image script every keep clocks) f new is same = same

-- where lines were made the verdict is that of a rewind
lined_done : (v : Verdict) (text : List ℕ) (f : Files) (new : Option Files) → AreLinesOf text v → new ≡ Some f → IsDone v f new
lined_done UsageVerdict text f new are same = absurd are
lined_done (Absent name) text f new are same = absurd are
lined_done BadImageVerdict text f new are same = absurd are
lined_done (BadScriptVerdict line kind) text f new are same = absurd are
lined_done BadTrackVerdict text f new are same = absurd are
lined_done (Good image script order side) text f new are same = absurd are
lined_done (Scene number band workers) text f new are same = absurd are
lined_done (Rewind image script every keep clocks) text f new are same = same

lined_unwritten : (v : Verdict) (text : List ℕ) (f : Files) (new : Option Files) → AreLinesOf text v → new ≡ Some f → IsUnwritten v f new
lined_unwritten UsageVerdict text f new are same = absurd are
lined_unwritten (Absent name) text f new are same = absurd are
lined_unwritten BadImageVerdict text f new are same = absurd are
lined_unwritten (BadScriptVerdict line kind) text f new are same = absurd are
lined_unwritten BadTrackVerdict text f new are same = absurd are
lined_unwritten (Good image script order side) text f new are same = absurd are
lined_unwritten (Scene number band workers) text f new are same = absurd are
lined_unwritten (Rewind image script every keep clocks) text f new are same = same

lined_refused : (v : Verdict) (text : List ℕ) (old new : Outside) (s : ℕ) → AreLinesOf text v → Rose old.say_faults new.say_faults → Completed v old new s
lined_refused UsageVerdict text old new s are rose = absurd are
lined_refused (Absent name) text old new s are rose = absurd are
lined_refused BadImageVerdict text old new s are rose = absurd are
lined_refused (BadScriptVerdict line kind) text old new s are rose = absurd are
lined_refused BadTrackVerdict text old new s are rose = absurd are
lined_refused (Good image script order side) text old new s are rose = absurd are
lined_refused (Scene number band workers) text old new s are rose = absurd are
lined_refused (Rewind image script every keep clocks) text old new s are rose = inl (inr rose)

unread_completes : (v : Verdict) (old new : Outside) (s : ℕ) → IsOfRewind v → s ≡ 5 → Rose old.read_faults new.read_faults → Completed v old new s
unread_completes UsageVerdict old new s is e rose = absurd is
unread_completes (Absent name) old new s is e rose = inl e
unread_completes BadImageVerdict old new s is e rose = inl rose
unread_completes (BadScriptVerdict line kind) old new s is e rose = inl rose
unread_completes BadTrackVerdict old new s is e rose = absurd is
unread_completes (Good image script order side) old new s is e rose = absurd is
unread_completes (Scene number band workers) old new s is e rose = absurd is
unread_completes (Rewind image script every keep clocks) old new s is e rose = inl (inl rose)

wanting_completes : (v : Verdict) (old new : Outside) (s : ℕ) → IsOfRewind v → s ≡ 7 → Completed v old new s
wanting_completes UsageVerdict old new s is e = absurd is
wanting_completes (Absent name) old new s is e = inr e
wanting_completes BadImageVerdict old new s is e = inr (inr e)
wanting_completes (BadScriptVerdict line kind) old new s is e = inr (inr e)
wanting_completes BadTrackVerdict old new s is e = absurd is
wanting_completes (Good image script order side) old new s is e = absurd is
wanting_completes (Scene number band workers) old new s is e = absurd is
wanting_completes (Rewind image script every keep clocks) old new s is e = inr (inr e)

-- ---- where the place tells its files

by_told : (files : Option Files) (P Q : Files → Type 0) → ((f : Files) → files ≡ Some f → P f → Q f) → WhereTold files P → WhereTold files Q
by_told None P Q f told = tt
by_told (Some files) P Q f told = f files refl told

-- ---- the clauses

rose_since_say : (a b c : ℕ) → Rose a b → b ≤ c → Rose a c
rose_since_say a b c rose le = omega (arith, rose, le)

module _ (order : RewindOrderValue) (old : Outside) where
  pub rewind_done : (new : Outside) → SaysLines order old new → new.files ≡ old.files
      → WhereTold old.files (λ files. IsDone (of_rewind order files) files new.files)
  rewind_done new says same =
      by_told old.files (λ f. AreLinesOf says.text (of_rewind order f)) (λ f. IsDone (of_rewind order f) f new.files)
      (λ f is are. lined_done (of_rewind order f) says.text f new.files are (same ∙ is)) says.lines

  module _ (mid : Outside) (s : ℕ) where
    pub rewind_two : (fault : Fault) → RewindAnswers order old mid (Err fault) → s ≡ status_of fault → s ≡ 2 → ⊥
    rewind_two Usage is e two = is
    rewind_two (Inputs fault) is e two = not_two fault (sym e ∙ two)
    rewind_two BadTrack is e two = is
    rewind_two UnreadTrack is e two = is
    rewind_two (Unwritten output) is e two = is
    rewind_two Unsaid is e two = omega arith
    rewind_two OutOfMemory is e two = omega arith

    pub rewind_nine : (fault : Fault) → RewindAnswers order old mid (Err fault) → s ≡ status_of fault → s ≡ 9 → ⊥
    rewind_nine Usage is e nine = is
    rewind_nine (Inputs fault) is e nine = not_nine fault (sym e ∙ nine)
    rewind_nine BadTrack is e nine = is
    rewind_nine UnreadTrack is e nine = is
    rewind_nine (Unwritten output) is e nine = is
    rewind_nine Unsaid is e nine = omega arith
    rewind_nine OutOfMemory is e nine = omega arith

    pub rewind_image : (fault : Fault) → RewindAnswers order old mid (Err fault) → s ≡ status_of fault → s ≡ 3
        → WhereTold old.files (λ files. HasBadImage (of_rewind order files))
    rewind_image Usage is e three = absurd is
    rewind_image (Inputs fault) is e three =
        no_image (λ f. asked_by order) order.image order.script old.files (image_cause old mid order.image order.script fault is.0 (sym e ∙ three))
    rewind_image BadTrack is e three = absurd is
    rewind_image UnreadTrack is e three = absurd is
    rewind_image (Unwritten output) is e three = absurd is
    rewind_image Unsaid is e three = absurd (omega arith)
    rewind_image OutOfMemory is e three = absurd (omega arith)

    pub rewind_script : (fault : Fault) → RewindAnswers order old mid (Err fault) → s ≡ status_of fault → s ≡ 4
        → WhereTold old.files (λ files. HasBadScript (of_rewind order files))
    rewind_script Usage is e four = absurd is
    rewind_script (Inputs fault) is e four =
        no_script (λ f. asked_by order) order.image order.script old.files (script_cause old mid order.image order.script fault is.0 (sym e ∙ four))
    rewind_script BadTrack is e four = absurd is
    rewind_script UnreadTrack is e four = absurd is
    rewind_script (Unwritten output) is e four = absurd is
    rewind_script Unsaid is e four = absurd (omega arith)
    rewind_script OutOfMemory is e four = absurd (omega arith)

    module _ (new : Outside) (says : OnlySays mid new) where
      read_rose : Rose old.read_faults mid.read_faults → Rose old.read_faults new.read_faults
      read_rose rose = subst (λ n. Rose old.read_faults n) (sym says.read_faults) rose

      say_rose : Rose old.say_faults mid.say_faults → Rose old.say_faults new.say_faults
      say_rose rose = rose_since_say old.say_faults mid.say_faults new.say_faults rose says.say_faults

      pub rewind_unread : (fault : Fault) → RewindAnswers order old mid (Err fault) → s ≡ status_of fault → s ≡ 5
          → Rose old.read_faults new.read_faults
      rewind_unread Usage is e five = absurd is
      rewind_unread (Inputs fault) is e five = read_rose (unread_cause old mid order.image order.script fault is.0 (sym e ∙ five))
      rewind_unread BadTrack is e five = absurd is
      rewind_unread UnreadTrack is e five = absurd is
      rewind_unread (Unwritten output) is e five = absurd is
      rewind_unread Unsaid is e five = absurd (omega arith)
      rewind_unread OutOfMemory is e five = absurd (omega arith)

      pub rewind_refused : (fault : Fault) → RewindAnswers order old mid (Err fault) → s ≡ status_of fault → s ≡ 6
          → Rose old.say_faults new.say_faults
      rewind_refused Usage is e six = absurd is
      rewind_refused (Inputs fault) is e six = absurd (not_six fault (sym e ∙ six))
      rewind_refused BadTrack is e six = absurd is
      rewind_refused UnreadTrack is e six = absurd is
      rewind_refused (Unwritten output) is e six = absurd is
      rewind_refused Unsaid is e six = say_rose is.refused
      rewind_refused OutOfMemory is e six = absurd (omega arith)

      pub rewind_unsaid : (fault : Fault) → RewindAnswers order old mid (Err fault) → s ≡ status_of fault → new.files ≡ old.files → s ≡ 6
          → WhereTold old.files (λ files. IsUnwritten (of_rewind order files) files new.files)
      rewind_unsaid Usage is e same six = absurd is
      rewind_unsaid (Inputs fault) is e same six = absurd (not_six fault (sym e ∙ six))
      rewind_unsaid BadTrack is e same six = absurd is
      rewind_unsaid UnreadTrack is e same six = absurd is
      rewind_unsaid (Unwritten output) is e same six = absurd is
      rewind_unsaid Unsaid is e same six =
          by_told old.files (λ f. AreLinesOf is.text (of_rewind order f)) (λ f. IsUnwritten (of_rewind order f) f new.files)
          (λ f there are. lined_unwritten (of_rewind order f) is.text f new.files are (same ∙ there)) is.lines
      rewind_unsaid OutOfMemory is e same six = absurd (omega arith)

      everywhere : (P : Verdict → Type 0) → ((f : Files) → P (of_rewind order f)) → WhereTold old.files (λ f. P (of_rewind order f))
      everywhere P all = told old.files
        where
          told : (files : Option Files) → WhereTold files (λ f. P (of_rewind order f))
          told None = tt
          told (Some f) = all f

      pub rewind_complete : (fault : Fault) → RewindAnswers order old mid (Err fault) → s ≡ status_of fault
          → WhereTold old.files (λ files. Completed (of_rewind order files) old new s)
      rewind_complete Usage is e = absurd is
      rewind_complete (Inputs BadImage) is e =
          by_told old.files (λ f. of_rewind order f ≡ BadImageVerdict) (λ f. Completed (of_rewind order f) old new s)
          (λ f there v. subst (λ w. Completed w old new s) (sym v) (inr (inl e)))
          (rewind_image (Inputs BadImage) is e e)
      rewind_complete (Inputs (BadScript line kind)) is e =
          by_told old.files (λ f. HasBadScript (of_rewind order f)) (λ f. Completed (of_rewind order f) old new s)
          (λ f there v. subst (λ w. Completed w old new s) (sym v.2) (inr (inl e)))
          (rewind_script (Inputs (BadScript line kind)) is e e)
      rewind_complete (Inputs (Unread input)) is e =
          everywhere (λ v. Completed v old new s)
          (λ f. unread_completes _ old new s (is_of_rewind order f) e (rewind_unread (Inputs (Unread input)) is e e))
      rewind_complete (Inputs NoRoomForInputs) is e =
          everywhere (λ v. Completed v old new s) (λ f. wanting_completes _ old new s (is_of_rewind order f) e)
      rewind_complete BadTrack is e = absurd is
      rewind_complete UnreadTrack is e = absurd is
      rewind_complete (Unwritten output) is e = absurd is
      rewind_complete Unsaid is e =
          by_told old.files (λ f. AreLinesOf is.text (of_rewind order f)) (λ f. Completed (of_rewind order f) old new s)
          (λ f there are. lined_refused (of_rewind order f) is.text old new s are (say_rose is.refused)) is.lines
      rewind_complete OutOfMemory is e =
          everywhere (λ v. Completed v old new s) (λ f. wanting_completes _ old new s (is_of_rewind order f) e)

  pub rewind_wanting : (new : Outside) → new.files ≡ old.files → WhereTold old.files (λ files. IsWanting (of_rewind order files) files new.files)
  rewind_wanting new same = told old.files same
    where
      told : (files : Option Files) → new.files ≡ files → WhereTold files (λ f. IsWanting (of_rewind order f) f new.files)
      told None is = tt
      told (Some f) is = wanting_as_before (of_rewind order f) f new.files (is_of_rewind order f) is

-- ---- what is said

-- the lines were refused, or nothing was said yet and what the text of the fault tells is so
pub rewind_said : (order : RewindOrderValue) (old mid : Outside) (fault : Fault) → RewindAnswers order old mid (Err fault)
    → ((fault ≡ Unsaid) × SaysLinesPart order old mid) ⊎ (KeepsSaid old mid × IsToldOfRewind order old fault)
rewind_said order old mid Usage is = absurd is
rewind_said order old mid (Inputs fault) is = inr (is.1, told_of_inputs old mid order.image order.script fault is.0)
rewind_said order old mid BadTrack is = absurd is
rewind_said order old mid UnreadTrack is = absurd is
rewind_said order old mid (Unwritten output) is = absurd is
rewind_said order old mid Unsaid is = inl (refl, is)
rewind_said order old mid OutOfMemory is = inr (is, tt)
