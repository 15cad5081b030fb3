-- The answers to an order, from what its inputs were read to be and from how its run ended.
use Rattle.std.proofs.Common.{◌≡◌, ℕ, ◌≤◌, Bool, true, false, if◌then◌else◌, List, Option, Some, None, Result, Ok, Err, OnOk, OnErr, IfErr}
use Rattle.std.proofs.Common.{refl, sym, ap, subst, ◌∙◌}
use Rattle.crew.specs.Crew.{side_seen}
use Rattle.disk_dma.specs.Disk.{disk_side, new_disk}
use Rattle.disk_dma.specs.Track.{is_track}
use Rattle.ocs_base.specs.Script.{ScriptValue}
use Rattle.ocs_io.specs.Answers.{WhereTold}
use Rattle.ocs_io.specs.Place.{Files, Outside, file}
use Rattle.serial_model.specs.Side.{SideValue}
use Rattle.ocs_run.specs.Command.{OrderAnswers, IsDone, IsUnwritten, IsWanting, HasOrdered, LeavesOrdered, out_names}
use Rattle.ocs_words.specs.Fault.{IsRunFault}
use Rattle.run_inputs.specs.Inputs.{Holds, HoldsRun, AreInputsOf}
use Rattle.run_inputs.proofs.VerdictLaws.{told_all, at_told}
use Rattle.ocs_words.specs.Order.{OrderValue, ExtraValue, NoFile, AudioFile, TrackFile, HasTrack, audio_of}
use Rattle.out_files.specs.OutFiles.{OutNames}
use Rattle.files_run.specs.Run.{HasAllFiles}
use Rattle.files_run.specs.Prefix.{LeavesFiles}
use Rattle.ocs_run.specs.code.Setup.{IsSetupOf}
use Rattle.ocs_run.specs.Sides.{HoldsNoTrack, IsTrackFault, IsSideOf, IsSideFault}
use Rattle.ocs_run.specs.Verdict.{Verdict, Usage as UsageVerdict, Absent, BadImage as BadImageVerdict, BadScript as BadScriptVerdict}
use Rattle.ocs_run.specs.Verdict.{BadTrack as BadTrackVerdict, Good, Scene, Rewind, of_order, of_extra, of_track}
use Rattle.ocs_words.specs.declared.fault.Fault.{Fault}
use Rattle.ocs_words.specs.declared.fault.Fault.TheVariants.{Usage, Inputs, BadTrack, UnreadTrack, Unwritten, Unsaid, OutOfMemory}
use Rattle.files_run.specs.declared.run.Setup.{Setup}
use Rattle.files_run.proofs.AudioLaws.{LeavesFiles-none}
use Rattle.files_run.proofs.PrefixLaws.{prefixes_kept}
use Rattle.ocs_run.proofs.VerdictLaws.{rose_since, inputs_are, inputs_good}

-- ---- the verdict of an order is no usage and no scene

abbrev pub IsOfRun : Verdict → Type 0
IsOfRun UsageVerdict = ⊥
IsOfRun (Absent name) = Unit {0}
IsOfRun BadImageVerdict = Unit {0}
IsOfRun (BadScriptVerdict line kind) = Unit {0}
IsOfRun BadTrackVerdict = Unit {0}
IsOfRun (Good image script order side) = Unit {0}
IsOfRun (Scene number band workers) = ⊥
IsOfRun (Rewind image script every keep clocks) = ⊥

if_of_run : (good : Bool) (v w : Verdict) → IsOfRun v → IsOfRun w → IsOfRun (if good then v else w)
if_of_run true v w first second = first
if_of_run false v w first second = second

track_of_run : (o : OrderValue) (image : List ℕ) (script : ScriptValue) (name : List ℕ) (track : Option (List ℕ))
    → IsOfRun (of_track o image script name track)
track_of_run o image script name None = tt
track_of_run o image script name (Some track) = if_of_run (is_track track) _ _ tt tt

extra_of_run : (o : OrderValue) (files : Files) (image : List ℕ) (script : ScriptValue) (extra : ExtraValue)
    → IsOfRun (of_extra o files image script extra)
extra_of_run o files image script NoFile = tt
extra_of_run o files image script (AudioFile name) = tt
extra_of_run o files image script (TrackFile name) = track_of_run o image script name (file files name)

pub of_run : (o : OrderValue) (files : Files) → IsOfRun (of_order o files)
of_run o files =
    inputs_are IsOfRun (λ image script. of_extra o files image script o.extra) o.image o.script files (λ name. tt) tt (λ line kind. tt)
    (λ image text script is. extra_of_run o files image script o.extra)

-- and the side that was made of them
side_is : (old : Outside) (o : OrderValue) (image : List ℕ) (script : ScriptValue) (f : Files) (extra : ExtraValue) (side : SideValue)
    → old.files ≡ Some f → IsSideOf old script.chip extra side → of_extra o f image script extra ≡ Good image script o side
side_is old o image script f NoFile side is made = ap (λ s. Good image script o s) (sym made)
side_is old o image script f (AudioFile name) side is made = ap (λ s. Good image script o s) (sym made)
side_is old o image script f (TrackFile name) side is made =
    ap (λ found. of_track o image script name found) (at_told old.files _ f is made.1.holds)
    ∙ ap (λ b. if b then Good image script o (disk_side (new_disk made.0 script.chip)) else BadTrackVerdict) made.1.good
    ∙ ap (λ s. Good image script o s) (sym made.2)

good_verdict : (old : Outside) (o : OrderValue) (image : List ℕ) (script : ScriptValue) (side : SideValue) (f : Files) → old.files ≡ Some f
    → AreInputsOf old o.image o.script image script → IsSideOf old script.chip o.extra side → of_order o f ≡ Good image script o side
good_verdict old o image script side f is read made =
    inputs_good (λ image script. of_extra o f image script o.extra) o.image o.script f old image script is read
    ∙ side_is old o image script f o.extra side is made

-- ---- all files are as before

LeavesOrdered-kept : (o : OrderValue) (image : List ℕ) (script : ScriptValue) (side : SideValue) (old new : Option Files) → new ≡ old
    → LeavesOrdered o image script side old new
LeavesOrdered-kept o image script side old new same =
    LeavesFiles-none side image script (out_names o) (audio_of o.extra) old new (prefixes_kept side image script (out_names o) old new same)

wanting_kept : (v : Verdict) (f : Files) (new : Option Files) → IsOfRun v → new ≡ Some f → IsWanting v f new
wanting_kept UsageVerdict f new run same = absurd run
wanting_kept (Absent name) f new run same = same
wanting_kept BadImageVerdict f new run same = same
wanting_kept (BadScriptVerdict line kind) f new run same = same
wanting_kept BadTrackVerdict f new run same = same
wanting_kept (Good image script order side) f new run same = LeavesOrdered-kept order image script side (Some f) new same
wanting_kept (Scene number band workers) f new run same = absurd run
wanting_kept (Rewind image script every keep clocks) f new run same = absurd run

pub wants : (o : OrderValue) (old new : Outside) → new.files ≡ old.files → OrderAnswers o old new (Err OutOfMemory)
wants o old new same =
    told_all old.files (λ f. IsWanting (of_order o f) f new.files) (λ f is. wanting_kept (of_order o f) f new.files (of_run o f) (same ∙ is))

-- ---- the faults of the track

-- a track that was read and is none
bad_track : (old : Outside) (o : OrderValue) (image : List ℕ) (script : ScriptValue) (f : Files) (name : List ℕ) (extra : ExtraValue) → old.files ≡ Some f
    → extra ≡ TrackFile name → HoldsNoTrack name f → of_extra o f image script extra ≡ BadTrackVerdict
bad_track old o image script f name extra e is holds =
    ap (λ x. of_extra o f image script x) is
    ∙ ap (λ found. of_track o image script name found) holds.there
    ∙ ap (λ b. if b then Good image script o (disk_side (new_disk holds.bytes script.chip)) else BadTrackVerdict) holds.bad

module _ (o : OrderValue) (old mid new : Outside) (image : List ℕ) (script : ScriptValue) where
  track_fault : (name : List ℕ) (fault : Fault) → o.extra ≡ TrackFile name → AreInputsOf old o.image o.script image script → mid.files ≡ old.files
      → old.read_faults ≤ mid.read_faults → IsTrackFault mid new name fault → new.files ≡ mid.files → OrderAnswers o old new (Err fault)
  track_fault name Usage extra read kept count is same = absurd is
  track_fault name (Inputs fault) extra read kept count is same = absurd is
  track_fault name BadTrack extra read kept count is same = (
    told_all old.files (λ f. of_order o f ≡ BadTrackVerdict)
        (λ f e. inputs_good (λ image script. of_extra o f image script o.extra) o.image o.script f old image script e read
        ∙ bad_track old o image script f name o.extra e extra (at_told mid.files _ f (kept ∙ e) is)),
    same ∙ kept,
    subst HasTrack (sym extra) tt,
  )
  track_fault name UnreadTrack extra read kept count is same = (
    rose_since old.read_faults mid.read_faults new.read_faults count is,
    same ∙ kept,
    told_all old.files (HoldsRun o.image o.script) (λ f e. record {
      image = image;
      script = script;
      image_there = at_told old.files _ f e read.image_of.holds;
      image_good = read.image_of.good;
      script_good = at_told old.files _ f e read.script_of.holds;
      fits = read.fits;
    }),
    subst HasTrack (sym extra) tt,
  )
  track_fault name (Unwritten output) extra read kept count is same = absurd is
  track_fault name Unsaid extra read kept count is same = absurd is
  track_fault name OutOfMemory extra read kept count is same = wants o old new (same ∙ kept)

  side_fault_by : (extra : ExtraValue) (fault : Fault) → o.extra ≡ extra → AreInputsOf old o.image o.script image script → mid.files ≡ old.files
      → old.read_faults ≤ mid.read_faults → IsSideFault mid new extra fault → new.files ≡ mid.files → OrderAnswers o old new (Err fault)
  side_fault_by NoFile fault is read kept count why same = absurd why
  side_fault_by (AudioFile name) fault is read kept count why same = absurd why
  side_fault_by (TrackFile name) fault is read kept count why same = track_fault name fault is read kept count why same

  pub side_fault : (fault : Fault) → AreInputsOf old o.image o.script image script → mid.files ≡ old.files → old.read_faults ≤ mid.read_faults
      → IsSideFault mid new o.extra fault → new.files ≡ mid.files → OrderAnswers o old new (Err fault)
  side_fault fault read kept count why same = side_fault_by o.extra fault refl read kept count why same

-- ---- the run

-- a side that was read where the files were as before
side_by : (old mid : Outside) (o : OrderValue) (script : ScriptValue) (extra : ExtraValue) (side : SideValue) → mid.files ≡ old.files
    → IsSideOf mid script.chip extra side → IsSideOf old script.chip extra side
side_by old mid o script NoFile side kept made = made
side_by old mid o script (AudioFile name) side kept made = made
side_by old mid o script (TrackFile name) side kept made = (
  made.0,
  record { holds = subst (λ files. WhereTold files (Holds name made.0)) kept made.1.holds; good = made.1.good },
  made.2,
)

abbrev IsReady : Outside → OrderValue → List ℕ → ScriptValue → SideValue → Type 0
IsReady old o image script side = (f : Files) → old.files ≡ Some f → of_order o f ≡ Good image script o side

run_fault : (o : OrderValue) (old mid new : Outside) (image : List ℕ) (script : ScriptValue) (side : SideValue) (fault : Fault)
    → IsReady old o image script side → mid.files ≡ old.files → old.write_faults ≤ mid.write_faults
    → IsRunFault (audio_of o.extra) mid new fault → LeavesOrdered o image script side mid.files new.files → OrderAnswers o old new (Err fault)
run_fault o old mid new image script side Usage ready kept count is leaves = absurd is
run_fault o old mid new image script side (Inputs fault) ready kept count is leaves = absurd is
run_fault o old mid new image script side BadTrack ready kept count is leaves = absurd is
run_fault o old mid new image script side UnreadTrack ready kept count is leaves = absurd is
run_fault o old mid new image script side (Unwritten output) ready kept count is leaves = (
  rose_since old.write_faults mid.write_faults new.write_faults count is.0,
  told_all old.files (λ f. IsUnwritten (of_order o f) f new.files) (λ f e. subst (λ v. IsUnwritten v f new.files) (sym (ready f e))
      (subst (λ files. LeavesOrdered o image script side files new.files) (kept ∙ e) leaves)),
  is.1,
)
run_fault o old mid new image script side Unsaid ready kept count is leaves = absurd is
run_fault o old mid new image script side OutOfMemory ready kept count is leaves =
    told_all old.files (λ f. IsWanting (of_order o f) f new.files) (λ f e. subst (λ v. IsWanting v f new.files) (sym (ready f e))
    (subst (λ files. LeavesOrdered o image script side files new.files) (kept ∙ e) leaves))

run_ended : (o : OrderValue) (old mid new : Outside) (image : List ℕ) (script : ScriptValue) (side : SideValue) (answer : Result (Unit {0}) Fault)
    → IsReady old o image script side → mid.files ≡ old.files → old.write_faults ≤ mid.write_faults
    → OnOk answer (HasOrdered o image script side mid.files new.files) → OnErr answer (LeavesOrdered o image script side mid.files new.files)
    → IfErr answer (IsRunFault (audio_of o.extra) mid new) → OrderAnswers o old new answer
run_ended o old mid new image script side (Ok done) ready kept count has leaves cause =
    told_all old.files (λ f. IsDone (of_order o f) f new.files) (λ f e. subst (λ v. IsDone v f new.files) (sym (ready f e))
    (subst (λ files. HasOrdered o image script side files new.files) (kept ∙ e) has))
run_ended o old mid new image script side (Err fault) ready kept count has leaves cause =
    run_fault o old mid new image script side fault ready kept count cause leaves

-- what a run gives, said of equal values
moved : (P : Option (List ℕ) → SideValue → List ℕ → ScriptValue → OutNames → Type 0) (a b : Option (List ℕ)) (s t : SideValue) (i j : List ℕ)
    (c d : ScriptValue) (n m : OutNames) → a ≡ b → s ≡ t → i ≡ j → c ≡ d → n ≡ m → P a s i c n → P b t j d m
moved P a b s t i j c d n m audio side image script names is =
    subst (λ x. P b t j d x) names (subst (λ x. P b t j x n) script (subst (λ x. P b t x c n) image
    (subst (λ x. P b x i c n) side (subst (λ x. P x s i c n) audio is))))

-- the run of an order has ended
pub order_ended : (o : OrderValue) (old made mid new : Outside) (image : List ℕ) (script : ScriptValue) (side : SideValue) (setup : Setup)
    (audio : Option (List ℕ)) (answer : Result (Unit {0}) Fault) → AreInputsOf old o.image o.script image script → made.files ≡ old.files
    → IsSideOf made script.chip o.extra side → mid.files ≡ old.files → old.write_faults ≤ mid.write_faults
    → IsSetupOf o image script side setup → audio ≡ audio_of o.extra
    → OnOk answer (HasAllFiles audio (side_seen setup.run.side) setup.run.image setup.run.script setup.out.names mid.files new.files)
    → OnErr answer (LeavesFiles audio (side_seen setup.run.side) setup.run.image setup.run.script setup.out.names mid.files new.files)
    → IfErr answer (IsRunFault audio mid new) → OrderAnswers o old new answer
order_ended o old made mid new image script side setup audio answer read kept side_made same count is name has leaves cause =
    run_ended o old mid new image script side answer
    (λ f e. good_verdict old o image script side f e read (side_by old made o script o.extra side kept side_made)) same count
    (moved (λ a s j c n. OnOk answer (HasAllFiles a s j c n mid.files new.files)) _ _ _ _ _ _ _ _ _ _ name is.side_is is.image_is is.script_is
    is.files.named has)
    (moved (λ a s j c n. OnErr answer (LeavesFiles a s j c n mid.files new.files)) _ _ _ _ _ _ _ _ _ _ name is.side_is is.image_is is.script_is
    is.files.named leaves)
    (subst (λ a. IfErr answer (IsRunFault a mid new)) name cause)

-- memory was wanting before a file was created
pub order_wanting : (o : OrderValue) (old new : Outside) (fault : Fault) → fault ≡ OutOfMemory → new.files ≡ old.files → OrderAnswers o old new (Err fault)
order_wanting o old new fault is same = subst (λ (f : Fault). OrderAnswers o old new (Err f)) (sym is) (wants o old new same)
