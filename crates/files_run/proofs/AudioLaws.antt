-- What a run sounds, clock by clock, and its file beside the three.
use Rattle.std.proofs.Common.{◌≡◌, ◌≢◌, ℕ, zero, suc, ◌+◌, ◌-◌, max, ◌<◌, ◌==◌, ◌||◌, if◌then◌else◌, Bool, true, false, List, [], ◌++◌, take, drop, Option, Some, None}
use Rattle.std.proofs.Common.{refl, sym, ap, ◌∙◌, subst, arith, inl, inr, ◌≤◌, Result, Ok, Err, OnOk, OnErr, add-one, append-nil}
use Rattle.std.specs.Prelude.{option_map}
use Rattle.std.specs.Prelude.{is_some}
use Rattle.std.proofs.lemmas.List.{take-append-drop}
use Rattle.ocs_base.specs.Script.{ScriptValue}
use Rattle.ocs_base.specs.Systems.{last_clock}
use Rattle.ocs_base.specs.declared.beam.Beam.{Beam}
use Rattle.ocs_io.specs.Place.{Files, with_file, grown}
use Rattle.ocs_io.proofs.MapLaws.{same_name, same_text, insert_other}
use Rattle.out_files.specs.Answers.{with_empty, in_order}
use Rattle.out_files.specs.OutFiles.{OutNames, OutFilesValue}
use Rattle.out_files.specs.Together.{three_files, AreTogether, Begins, Completes}
use Rattle.out_files.proofs.FilesLaws.{grown-with_file, grown-other}
use Rattle.serial_model.specs.Serial.{state_over, IsEndOver}
use Rattle.serial_model.specs.Side.{SideValue, shown_by_side}
use Rattle.serial_model.specs.State.{State}
use Rattle.serial_model.specs.MemoryText.{memory_text}
use Rattle.serial_model.specs.Outputs.{frames_text}
use Rattle.serial_model.specs.TraceText.{trace_text}
use Rattle.serial_bands.specs.Run.{RunValue, state_of, beam_at, IsEndOf}
use Rattle.band_log.specs.Raster.{RasterValue}
use Rattle.foreground.specs.Fore.{ForeValue, IsNew}
use Rattle.clock_loop.specs.RunTo.{HasRunOn, RunsOn, HasCome}
use Rattle.serial_bands.proofs.LineClocks.{IsLater, clocks_on, least_last}
use Rattle.files_run.specs.Audio.{audio_text, is_sampled, sampled, with_audio, grown_audio, MayHaveMade, MayHaveGrown}
use Rattle.ocs_words.specs.Order.{IsFourth, IsFourthName}
use Rattle.files_run.specs.Prefix.{IsPartOf, LeavesPrefixesOver, LeavesFiles}
use Rattle.files_run.specs.code.Rest.{WritesRest, WritesPart}
use Rattle.files_run.specs.Run.{HasFilesOver, HasAllFiles}
use Rattle.files_run.specs.Underway.{AreUnsampled, CanRun, IsFresh, IsHeard, IsWritten, EndsFromStart}
use Rattle.files_run.specs.declared.audio.Recording.{Recording}
use Rattle.files_run.proofs.RunLaws.{HasFiles-run, LeavesPrefixes-memory, begins_created}
use Rattle.files_run.proofs.PrefixLaws.{LeavesPrefixes-all, LeavesPrefixes-whole, one_end}

-- ---- what is taken

abbrev taken : RunValue → ℕ → List ℕ
taken run clocks = audio_text run.side run.image run.script clocks

taken_next : (run : RunValue) (n : ℕ)
    → taken run (n + 1) ≡ taken run n ++ sampled (state_of run n).beam (state_of run (n + 1)).side
unfolding audio_text
taken_next run n = rw (add-one n) refl

nothing_taken_yet : (run : RunValue) → taken run 0 ≡ []
unfolding audio_text
nothing_taken_yet run = refl

-- one clock more
heard_next : (old new : ForeValue) (seen after : RasterValue) (out given : OutFilesValue) (bytes : List ℕ) → CanRun old seen
    → RunsOn old new seen after out given → new.run ≡ old.run → new.machine.t ≡ old.machine.t + 1 → bytes ≡ taken old.run old.machine.t
    → bytes ++ sampled old.machine.beam new.machine.side ≡ taken new.run new.machine.t
heard_next old new seen after out given bytes can runs run clock heard =
    let so : HasRunOn old new can.first seen after out given = runs can.first can.stands in
    let beam : (state_of old.run old.machine.t).beam ≡ old.machine.beam = can.stands.at.machine.beam in
    let side : (state_of new.run new.machine.t).side ≡ new.machine.side = so.stands.at.machine.side in
    let later : (state_of old.run (old.machine.t + 1)).side ≡ new.machine.side =
    ap (λ n. (state_of old.run n).side) (sym clock) ∙ ap (λ r. (state_of r new.machine.t).side) (sym run) ∙ side in
    ap (λ text. text ++ sampled old.machine.beam new.machine.side) heard
    ∙ ap (λ b. taken old.run old.machine.t ++ sampled b new.machine.side) (sym beam)
    ∙ ap (λ s. taken old.run old.machine.t ++ sampled (state_of old.run old.machine.t).beam s) (sym later)
    ∙ sym (taken_next old.run old.machine.t)
    ∙ ap (λ n. taken old.run n) (sym clock)
    ∙ ap (λ r. taken r new.machine.t) (sym run)

one_clock : (old new : ForeValue) (limit : ℕ) → HasCome limit old new → limit ≡ old.machine.t + 1 → old.machine.t < new.machine.t
    → new.machine.t ≡ old.machine.t + 1
one_clock old new limit come is later = omega (arith, come.most, is, later)

-- nothing is taken of clocks that are not sampled
nothing_here : (b : Beam) (side : SideValue) → is_sampled b ≡ false → sampled b side ≡ []
nothing_here b side not = ap (λ is. if is then shown_by_side side else []) not

taken_on : (run : RunValue) (t n : ℕ) → ((k : ℕ) → k < n → is_sampled (beam_at run (k + t)) ≡ false) → taken run (n + t) ≡ taken run t
taken_on run t zero none = ap (λ c. taken run c) (plain t)
  where
    plain : (t : ℕ) → 0 + t ≡ t
    plain t = omega arith
taken_on run t (suc n) none =
    ap (λ c. taken run c) (one_more n t)
    ∙ taken_next run (n + t)
    ∙ ap (λ text. taken run (n + t) ++ text) (nothing_here (beam_at run (n + t)) (state_of run ((n + t) + 1)).side (none n (omega arith)))
    ∙ append-nil (taken run (n + t))
    ∙ taken_on run t n (λ k less. none k (omega (arith, less)))
  where
    one_more : (n t : ℕ) → suc n + t ≡ (n + t) + 1
    one_more n t = omega arith

unsampled_at : (fore : ForeValue) (limit k : ℕ) → beam_at fore.run fore.machine.t ≡ fore.machine.beam → AreUnsampled limit fore
    → k + fore.machine.t < limit → is_sampled (beam_at fore.run (k + fore.machine.t)) ≡ false
unsampled_at fore limit zero here are before =
    let t : ℕ = fore.machine.t in
    let now : 0 + t ≡ t = omega arith in
    let h : fore.machine.beam.h ≡ fore.machine.beam.h + 0 = omega arith in
    ap (λ c. is_sampled (beam_at fore.run c)) now ∙ ap (λ (b : Beam). is_sampled b) here ∙ ap (λ x. (x == 0) || (x == 114)) h
    ∙ are.none 0 (omega (arith, before))
unsampled_at fore limit (suc k) here are before =
    let t : ℕ = fore.machine.t in
    let first : Beam = beam_at fore.run t in
    let least : 226 ≤ last_clock fore.run.script.system first.v = least_last fore.run.script.system first.v in
    let same : first.h ≡ fore.machine.beam.h = ap (λ (b : Beam). b.h) here in
    let later : IsLater first (beam_at fore.run (suc k + t)) (suc k) =
    clocks_on fore.run t (suc k) (suc k + t) refl (within first.h _ t limit same are.line before least) in
    ap (λ x. (x == 0) || (x == 114)) (other_order first.h _ same later.clock) ∙ are.none (suc k) (omega (arith, before))
  where
    within : (first h t limit : ℕ) {last : ℕ} → first ≡ h → limit ≤ t + max 1 (227 - h) → suc k + t < limit → 226 ≤ last → suc k + first ≤ last
    within first h t limit same line before least = omega (arith, same, line, before, least)

    other_order : (first h : ℕ) {at : ℕ} → first ≡ h → at ≡ suc k + first → at ≡ h + suc k
    other_order first h same is = omega (arith, same, is)

taken_along : (old new : ForeValue) (seen after : RasterValue) (out given : OutFilesValue) (limit : ℕ) → CanRun old seen → new.run ≡ old.run
    → HasCome limit old new → old.machine.t < new.machine.t → AreUnsampled limit old
    → taken new.run new.machine.t ≡ taken old.run old.machine.t
taken_along old new seen after out given limit can run come later are =
    let n : ℕ = new.machine.t - old.machine.t in
    let end : new.machine.t ≡ n + old.machine.t = omega (arith, later) in
    ap (λ r. taken r new.machine.t) run
    ∙ ap (λ c. taken old.run c) end
    ∙ taken_on old.run old.machine.t n
    (λ k less. unsampled_at old limit k can.stands.at.machine.beam are (below k n old.machine.t new.machine.t limit less end come.most later))
  where
    below : (k n t next limit : ℕ) → k < n → next ≡ n + t → next ≤ max t limit → t < next → k + t < limit
    below k n t next limit less end most later = omega (arith, less, end, most, later)

pub IsHeard-next : (was now : Recording) (old new : ForeValue) (seen after : RasterValue) (out given : OutFilesValue) (limit : ℕ) → CanRun old seen
    → RunsOn old new seen after out given → new.run ≡ old.run → HasCome limit old new → old.machine.t < new.machine.t
    → (was.on ≡ true → is_sampled old.machine.beam ≡ true → limit ≡ old.machine.t + 1)
    → (was.on ≡ true → is_sampled old.machine.beam ≡ false → AreUnsampled limit old)
    → (was.on ≡ true → now.bytes.items ≡ was.bytes.items ++ sampled old.machine.beam new.machine.side) → now.on ≡ was.on
    → IsHeard was old → IsHeard now new
IsHeard-next was now old new seen after out given limit can runs run come later one between added same heard = record {
  taken = λ on. by_place (is_sampled old.machine.beam) refl (sym same ∙ on);
}
  where
    by_place : (here : Bool) → is_sampled old.machine.beam ≡ here → was.on ≡ true → now.bytes.items ≡ taken new.run new.machine.t
    by_place true here on =
        added on ∙ heard_next old new seen after out given was.bytes.items can runs run (one_clock old new limit come (one on here) later) (heard.taken on)
    by_place false here on =
        added on
        ∙ ap (λ piece. was.bytes.items ++ piece) (nothing_here old.machine.beam new.machine.side here)
        ∙ append-nil was.bytes.items
        ∙ heard.taken on
        ∙ sym (taken_along old new seen after out given limit can run come later (between on here))

pub IsHeard-start : (audio : Recording) (run : RunValue) (fore : ForeValue) → IsNew run fore → audio.bytes.items ≡ []
    → IsHeard audio fore
IsHeard-start audio run fore new empty =
    record { taken = λ on. empty ∙ sym (nothing_taken_yet fore.run) ∙ ap (λ n. taken fore.run n) (sym new.clock) }

pub IsHeard-same : (audio : Recording) (old new : ForeValue) → new.run ≡ old.run → new.machine.t ≡ old.machine.t → IsHeard audio old → IsHeard audio new
IsHeard-same audio old new run clock heard = record {
  taken = λ on. heard.taken on ∙ ap (λ n. taken old.run n) (sym clock) ∙ ap (λ r. taken r new.machine.t) (sym run);
}

-- ---- the file

apart : (a b : List ℕ) → a ≢ b → same_name a b ≡ false
apart a b differ = by_test (same_name a b) refl
  where
    by_test : (test : Bool) → same_name a b ≡ test → test ≡ false
    by_test true same = absurd (differ (same_text a b same))
    by_test false other = refl

-- two files of other names, in one order or the other
with_other : (files : Option Files) (name other v w : List ℕ) → name ≢ other
    → with_file (with_file files name v) other w ≡ with_file (with_file files other w) name v
unfolding with_file
with_other None name other v w differ = refl
with_other (Some f) name other v w differ = ap (λ (g : Files). Some g) (insert_other f name other v w (apart name other differ))

fourth_set : (names : OutNames) (base : Option Files) (name frames trace memory text : List ℕ) → IsFourth names name
    → with_file (three_files names base frames trace memory) name text ≡ three_files names (with_file base name text) frames trace memory
fourth_set names base name frames trace memory text fourth =
    with_other (with_file (with_file base names.frames frames) names.trace trace) names.memory name memory text fourth.memory
    ∙ ap (λ (files : Option Files). with_file files names.memory memory)
    (with_other (with_file base names.frames frames) names.trace name trace text fourth.trace
    ∙ ap (λ (files : Option Files). with_file files names.trace trace) (with_other base names.frames name frames text fourth.frames))

fourth_grown : (names : OutNames) (base : Option Files) (name frames trace memory text piece : List ℕ) → IsFourth names name
    → grown (three_files names (with_file base name text) frames trace memory) name piece
    ≡ three_files names (with_file base name (text ++ piece)) frames trace memory
fourth_grown names base name frames trace memory text piece fourth =
    grown-other (with_file (with_file (with_file base name text) names.frames frames) names.trace trace) name names.memory memory piece
    (λ same. fourth.memory (sym same))
    ∙ ap (λ (files : Option Files). with_file files names.memory memory)
    (grown-other (with_file (with_file base name text) names.frames frames) name names.trace trace piece (λ same. fourth.trace (sym same))
    ∙ ap (λ (files : Option Files). with_file files names.trace trace)
    (grown-other (with_file base name text) name names.frames frames piece (λ same. fourth.frames (sym same))
    ∙ ap (λ (files : Option Files). with_file files names.frames frames) (grown-with_file base name text piece)))

audio_set : (audio : Option (List ℕ)) (names : OutNames) (base : Option Files) (frames trace memory text : List ℕ) → IsFourthName names audio
    → with_audio audio (three_files names base frames trace memory) text ≡ three_files names (with_audio audio base text) frames trace memory
audio_set None names base frames trace memory text fourth = refl
audio_set (Some name) names base frames trace memory text fourth = fourth_set names base name frames trace memory text fourth

audio_grown : (audio : Option (List ℕ)) (names : OutNames) (base : Option Files) (frames trace memory text piece : List ℕ) → IsFourthName names audio
    → grown_audio audio (three_files names (with_audio audio base text) frames trace memory) piece
    ≡ three_files names (with_audio audio base (text ++ piece)) frames trace memory
audio_grown None names base frames trace memory text piece fourth = refl
audio_grown (Some name) names base frames trace memory text piece fourth = fourth_grown names base name frames trace memory text piece fourth

-- all are created
pub Begins-audio : (audio : Option (List ℕ)) (out : OutFilesValue) (base mid after : Option Files) → IsFourthName out.names audio
    → Begins out base mid → after ≡ with_audio audio mid [] → Begins out (with_audio audio base []) after
unfolding Begins
Begins-audio audio out base mid after fourth begins made frames trace given =
    let was : AreTogether out.system out base mid [] [] = begins frames trace given in
    record {
      kind = was.kind;
      frames = was.frames;
      trace = was.trace;
      held = made ∙ ap (λ (files : Option Files). with_audio audio files []) was.held
          ∙ audio_set audio out.names base was.frames was.trace [] [] fourth;
      pixels_given = was.pixels_given;
      lines_given = was.lines_given;
      place = was.place;
    }

-- ---- what is left of a run that was stopped

-- what was taken of so many clocks, where it is taken
abbrev pub IsTaken : SideValue → List ℕ → ScriptValue → Option (List ℕ) → ℕ → List ℕ → Type 0
IsTaken side image script None clocks bytes = Unit {0}
IsTaken side image script (Some name) clocks bytes = bytes ≡ audio_text side image script clocks

module _ (side : SideValue) (image : List ℕ) (script : ScriptValue) (names : OutNames) where
  -- the audio file is as before
  pub LeavesFiles-none : (audio : Option (List ℕ)) (base new : Option Files) → LeavesPrefixesOver side image script names base new
      → LeavesFiles audio side image script names base new
  LeavesFiles-none None base new leaves = leaves
  LeavesFiles-none (Some name) base new leaves = record { audio = None; others = leaves; audio_part = λ end is. tt }

  -- it holds a part
  pub LeavesFiles-some : (audio : Option (List ℕ)) (base new : Option Files) (part : List ℕ)
      → ((end : ℕ) → IsEndOver side image script end → IsPartOf (audio_text side image script end) (Some part))
      → LeavesPrefixesOver side image script names (with_audio audio base part) new → LeavesFiles audio side image script names base new
  LeavesFiles-some None base new part is leaves = leaves
  LeavesFiles-some (Some name) base new part is leaves = record { audio = Some part; others = leaves; audio_part = is }

  -- it is empty
  pub LeavesFiles-empty : (audio : Option (List ℕ)) (base new : Option Files)
      → LeavesPrefixesOver side image script names (with_audio audio base []) new → LeavesFiles audio side image script names base new
  LeavesFiles-empty audio base new leaves = LeavesFiles-some audio base new [] (λ end is. (audio_text side image script end, refl)) leaves

  created_all : (base new : Option Files) → new ≡ with_empty (in_order names) base → LeavesPrefixesOver side image script names base new
  created_all base new is = LeavesPrefixes-all side image script names base new (inl (3, is))

  -- it could not be created
  pub LeavesFiles-made : (audio : Option (List ℕ)) (base mid new : Option Files) → IsFourthName names audio
      → mid ≡ with_empty (in_order names) base → MayHaveMade audio mid new → LeavesFiles audio side image script names base new
  LeavesFiles-made audio base mid new fourth made (inl same) = LeavesFiles-none audio base new (created_all base new (same ∙ made))
  LeavesFiles-made audio base mid new fourth made (inr set) =
      LeavesFiles-empty audio base new (created_all (with_audio audio base []) new
      (set ∙ ap (λ (files : Option Files). with_audio audio files []) made ∙ audio_set audio names base [] [] [] [] fourth))

  -- a piece was appended
  HasFiles-grown : (audio : Option (List ℕ)) (base mid new : Option Files) (text piece : List ℕ) → IsFourthName names audio
      → HasFilesOver side image script names (with_audio audio base text) mid → new ≡ grown_audio audio mid piece
      → HasFilesOver side image script names (with_audio audio base (text ++ piece)) new
  HasFiles-grown audio base mid new text piece fourth has is =
      let s : State = state_over side image script has.clocks in
      record {
        clocks = has.clocks;
        end = has.end;
        run = has.run;
        shown = has.shown;
        files = is ∙ ap (λ (files : Option Files). grown_audio audio files piece) has.files
            ∙ audio_grown audio names base (frames_text script.system s.shown) (trace_text s.trace) (memory_text s.memory) text piece fourth;
      }

  part_of_end : (clocks end count : ℕ) (bytes : List ℕ) → IsEndOver side image script clocks → IsEndOver side image script end
      → bytes ≡ audio_text side image script clocks → IsPartOf (audio_text side image script end) (Some (take count bytes))
  part_of_end clocks end count bytes first second is =
      (drop count bytes, take-append-drop count bytes ∙ is ∙ ap (λ n. audio_text side image script n) (one_end side image script clocks end first second))

  -- it could not be written
  pub LeavesFiles-grown : (audio : Option (List ℕ)) (base mid new : Option Files) (clocks : ℕ) (bytes : List ℕ) → IsFourthName names audio
      → IsEndOver side image script clocks → IsTaken side image script audio clocks bytes
      → HasFilesOver side image script names (with_audio audio base []) mid → MayHaveGrown audio bytes mid new
      → LeavesFiles audio side image script names base new
  LeavesFiles-grown audio base mid new clocks bytes fourth end is has (inl same) =
      LeavesFiles-empty audio base new (subst (λ (files : Option Files). LeavesPrefixesOver side image script names (with_audio audio base []) files)
      (sym same) (LeavesPrefixes-whole side image script names (with_audio audio base []) mid has))
  LeavesFiles-grown None base mid new clocks bytes fourth end is has (inr part) =
      LeavesPrefixes-whole side image script names base new (HasFiles-grown None base mid new [] (take part.0 bytes) fourth has part.1)
  LeavesFiles-grown (Some name) base mid new clocks bytes fourth end is has (inr part) =
      LeavesFiles-some (Some name) base new (take part.0 bytes) (λ last ends. part_of_end clocks last part.0 bytes end ends is)
      (LeavesPrefixes-whole side image script names (with_file base name (take part.0 bytes)) new
      (HasFiles-grown (Some name) base mid new [] (take part.0 bytes) fourth has part.1))

  -- all is written
  pub HasAllFiles-grown : (audio : Option (List ℕ)) (base mid new : Option Files) (clocks : ℕ) (bytes : List ℕ) → IsFourthName names audio
      → IsEndOver side image script clocks → IsTaken side image script audio clocks bytes
      → HasFilesOver side image script names (with_audio audio base []) mid → new ≡ grown_audio audio mid bytes
      → HasAllFiles audio side image script names base new
  HasAllFiles-grown None base mid new clocks bytes fourth end is has grew = HasFiles-grown None base mid new [] bytes fourth has grew
  HasAllFiles-grown (Some name) base mid new clocks bytes fourth end is has grew = record {
    clocks = clocks;
    end = end;
    others = subst (λ text. HasFilesOver side image script names (with_file base name text) new) is
        (HasFiles-grown (Some name) base mid new [] bytes fourth has grew);
  }

-- the recording is on where there is a name for it
pub IsTaken-heard : {A : Type 0} (of : A → List ℕ) (audio : Option A) (kept : Recording) (fore : ForeValue) → kept.on ≡ is_some audio
    → IsHeard kept fore → IsTaken fore.run.side fore.run.image fore.run.script (option_map of audio) fore.machine.t kept.bytes.items
IsTaken-heard of None kept fore on heard = tt
IsTaken-heard of (Some name) kept fore on heard = heard.taken on

-- ---- the whole run

-- what stands where all but the audio file is written
pub record IsAllButAudio (audio : Option (List ℕ)) (base after : Option Files) (run : RunValue) (names : OutNames) (clocks : ℕ) (bytes : List ℕ) : Type 0 where
  pub has : HasFilesOver run.side run.image run.script names (with_audio audio base []) after
  pub end : IsEndOver run.side run.image run.script clocks
  pub taken : IsTaken run.side run.image run.script audio clocks bytes
  pub fourth : IsFourthName names audio

pub IsAllButAudio-run : {A : Type 0} (of : A → List ℕ) (name : Option A) (base mid now after : Option Files) (run : RunValue) (fore last : ForeValue)
    (out created given : OutFilesValue) (kept : Recording) → IsFourthName out.names (option_map of name) → IsFresh run.script.system out
    → created ≡ out → Begins created (with_audio (option_map of name) base []) mid → IsNew run fore → 1 ≤ run.script.frames
    → EndsFromStart run fore last created given mid now → last.run ≡ fore.run → given.names ≡ created.names
    → Completes given now after (memory_text last.machine.chip.words) → kept.on ≡ is_some name → IsHeard kept last
    → IsAllButAudio (option_map of name) base after run out.names last.machine.t kept.bytes.items
IsAllButAudio-run of name base mid now after run fore last out created given kept fourth fresh same begins new some ends ran names completes on heard =
    let is : last.run ≡ run = ran ∙ new.run_of in
    let written : IsWritten (with_audio (option_map of name) base []) now last given =
    ends (with_audio (option_map of name) base [])
    (begins_created (with_audio (option_map of name) base []) mid run fore out created fresh same begins new) in
    record {
      has = HasFiles-run (with_audio (option_map of name) base []) mid now after run fore last out created given fresh same begins new some ends ran
          names completes;
      end = subst (λ r. IsEndOf r last.machine.t) is written.settled.end;
      taken = subst (λ (r : RunValue). IsTaken r.side r.image r.script (option_map of name) last.machine.t kept.bytes.items) is
          (IsTaken-heard of name kept last on heard);
      fourth = fourth;
    }

-- what is written behind the last clock, by the answer for the audio file
pub WritesRest-grown : {T E : Type 0} (answer : Result T E) (audio : Option (List ℕ)) (out : OutFilesValue) (memory bytes : List ℕ)
    (before mid after : Option Files) → Completes out before mid memory → OnOk answer (after ≡ grown_audio audio mid bytes)
    → OnOk answer (WritesRest audio out memory bytes before after)
WritesRest-grown (Ok done) audio out memory bytes before mid after completes grown =
    record { mid = mid; completes = completes; grown = grown }
WritesRest-grown (Err fault) audio out memory bytes before mid after completes grown = tt

pub WritesPart-grown : {T E : Type 0} (answer : Result T E) (audio : Option (List ℕ)) (out : OutFilesValue) (memory bytes : List ℕ)
    (before mid after : Option Files) → Completes out before mid memory → OnErr answer (MayHaveGrown audio bytes mid after)
    → OnErr answer (WritesPart audio out memory bytes before after)
WritesPart-grown (Ok done) audio out memory bytes before mid after completes grown = tt
WritesPart-grown (Err fault) audio out memory bytes before mid after completes grown =
    inr (record { mid = mid; completes = completes; grown = grown })

pub HasAllFiles-rest : {A : Type 0} (of : A → List ℕ) (name : Option A) (base mid now after : Option Files) (run : RunValue) (fore last : ForeValue)
    (out created given : OutFilesValue) (kept : Recording) → IsFourthName out.names (option_map of name) → IsFresh run.script.system out
    → created ≡ out → Begins created (with_audio (option_map of name) base []) mid → IsNew run fore → 1 ≤ run.script.frames
    → EndsFromStart run fore last created given mid now → last.run ≡ fore.run → given.names ≡ created.names → kept.on ≡ is_some name
    → IsHeard kept last → WritesRest (option_map of name) given (memory_text last.machine.chip.words) kept.bytes.items now after
    → HasAllFiles (option_map of name) run.side run.image run.script out.names base after
HasAllFiles-rest of name base mid now after run fore last out created given kept fourth fresh same begins new some ends ran names on heard rest =
    let all = IsAllButAudio-run of name base mid now rest.mid run fore last out created given kept fourth fresh same begins new some ends ran names
    rest.completes on heard in
    HasAllFiles-grown run.side run.image run.script out.names (option_map of name) base rest.mid after last.machine.t kept.bytes.items
    all.fourth all.end all.taken all.has rest.grown

pub LeavesFiles-rest : {A : Type 0} (of : A → List ℕ) (name : Option A) (base mid now after : Option Files) (run : RunValue) (fore last : ForeValue)
    (out created given : OutFilesValue) (kept : Recording) → IsFourthName out.names (option_map of name) → IsFresh run.script.system out
    → created ≡ out → Begins created (with_audio (option_map of name) base []) mid → IsNew run fore → 1 ≤ run.script.frames
    → EndsFromStart run fore last created given mid now → last.run ≡ fore.run → given.names ≡ created.names → kept.on ≡ is_some name
    → IsHeard kept last → WritesPart (option_map of name) given (memory_text last.machine.chip.words) kept.bytes.items now after
    → LeavesFiles (option_map of name) run.side run.image run.script out.names base after
LeavesFiles-rest of name base mid now after run fore last out created given kept fourth fresh same begins new some ends ran names on heard (inl parts) =
    LeavesFiles-empty run.side run.image run.script out.names (option_map of name) base after
    (LeavesPrefixes-memory (with_audio (option_map of name) base []) mid now after run fore last out created given fresh same begins new ends ran names parts)
LeavesFiles-rest of name base mid now after run fore last out created given kept fourth fresh same begins new some ends ran names on heard (inr part) =
    let all = IsAllButAudio-run of name base mid now part.mid run fore last out created given kept fourth fresh same begins new some ends ran names
    part.completes on heard in
    LeavesFiles-grown run.side run.image run.script out.names (option_map of name) base part.mid after last.machine.t kept.bytes.items
    all.fourth all.end all.taken all.has part.grown
