-- What appends make of the three files.
use Rattle.std.proofs.Common.{◌≡◌, ◌≢◌, ℕ, Bool, true, false, List, [], ◌∷◌, ◌++◌, Option, Some, None, cond, refl, sym, ap, ◌∙◌}
use Rattle.std.specs.Prelude.{unwrap_or}
use Rattle.std.specs.FinMap.{get, insert}
use Rattle.std.proofs.lemmas.List.{append-nil}
use Rattle.ocs_io.specs.Place.{Files, with_file, grown}
use Rattle.ocs_io.proofs.MapLaws.{same_name, same_name-refl, same_text, get_inserted, insert_twice, insert_other}
use Rattle.out_files.specs.Answers.{appended}
use Rattle.out_files.specs.OutFiles.{OutNames}
use Rattle.out_files.specs.Together.{AreDifferent, three_files}

apart : (a b : List ℕ) → a ≢ b → same_name a b ≡ false
apart a b differ = by_test (same_name a b) refl
  where
    by_test : (test : Bool) → same_name a b ≡ test → test ≡ false
    by_test true same = absurd (differ (same_text a b same))
    by_test false other = refl

-- a file that was set, and then grown
pub grown-with_file : (files : Option Files) (name v piece : List ℕ) → grown (with_file files name v) name piece ≡ with_file files name (v ++ piece)
unfolding with_file grown
grown-with_file None name v piece = refl
grown-with_file (Some f) name v piece =
    let there : get (insert f name v) name ≡ Some v =
    get_inserted f name v name ∙ ap (λ (same : Bool). cond same (Some v) (get f name)) (same_name-refl name)
    in
    ap (λ (found : Option (List ℕ)). Some (insert (insert f name v) name (unwrap_or found [] ++ piece))) there
    ∙ ap (λ (g : Files). Some g) (insert_twice f name v (v ++ piece))

-- a file that is grown where another was set
pub grown-other : (files : Option Files) (name other v piece : List ℕ) → name ≢ other
    → grown (with_file files other v) name piece ≡ with_file (grown files name piece) other v
unfolding with_file grown
grown-other None name other v piece differ = refl
grown-other (Some f) name other v piece differ =
    let kept : get (insert f other v) name ≡ get f name =
    get_inserted f other v name ∙ ap (λ (same : Bool). cond same (Some v) (get f name)) (apart name other differ)
    in
    ap (λ (found : Option (List ℕ)). Some (insert (insert f other v) name (unwrap_or found [] ++ piece))) kept
    ∙ ap (λ (g : Files). Some g) (insert_other f other name v (unwrap_or (get f name) [] ++ piece) (apart other name (λ same. differ (sym same))))

pub grown-frames : (names : OutNames) (base : Option Files) (frames trace memory piece : List ℕ) → AreDifferent names →
    grown (three_files names base frames trace memory) names.frames piece ≡ three_files names base (frames ++ piece) trace memory
grown-frames names base frames trace memory piece different =
    grown-other (with_file (with_file base names.frames frames) names.trace trace) names.frames names.memory memory piece different.frames_memory
    ∙ ap (λ (files : Option Files). with_file files names.memory memory)
    (grown-other (with_file base names.frames frames) names.frames names.trace trace piece different.frames_trace
    ∙ ap (λ (files : Option Files). with_file files names.trace trace) (grown-with_file base names.frames frames piece))

pub grown-trace : (names : OutNames) (base : Option Files) (frames trace memory piece : List ℕ) → AreDifferent names →
    grown (three_files names base frames trace memory) names.trace piece ≡ three_files names base frames (trace ++ piece) memory
grown-trace names base frames trace memory piece different =
    grown-other (with_file (with_file base names.frames frames) names.trace trace) names.trace names.memory memory piece different.trace_memory
    ∙ ap (λ (files : Option Files). with_file files names.memory memory) (grown-with_file (with_file base names.frames frames) names.trace trace piece)

pub grown-memory : (names : OutNames) (base : Option Files) (frames trace memory piece : List ℕ) →
    grown (three_files names base frames trace memory) names.memory piece ≡ three_files names base frames trace (memory ++ piece)
grown-memory names base frames trace memory piece =
    grown-with_file (with_file (with_file base names.frames frames) names.trace trace) names.memory memory piece

-- the same, where nothing is appended of an empty piece
pub appended-frames : (names : OutNames) (base : Option Files) (frames trace memory piece : List ℕ) → AreDifferent names →
    appended (three_files names base frames trace memory) names.frames piece ≡ three_files names base (frames ++ piece) trace memory
appended-frames names base frames trace memory [] different =
    ap (λ (bytes : List ℕ). three_files names base bytes trace memory) (sym (append-nil frames))
appended-frames names base frames trace memory (byte ∷ bytes) different = grown-frames names base frames trace memory (byte ∷ bytes) different

pub appended-trace : (names : OutNames) (base : Option Files) (frames trace memory piece : List ℕ) → AreDifferent names →
    appended (three_files names base frames trace memory) names.trace piece ≡ three_files names base frames (trace ++ piece) memory
appended-trace names base frames trace memory [] different =
    ap (λ (bytes : List ℕ). three_files names base frames bytes memory) (sym (append-nil trace))
appended-trace names base frames trace memory (byte ∷ bytes) different = grown-trace names base frames trace memory (byte ∷ bytes) different
