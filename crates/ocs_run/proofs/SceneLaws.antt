-- The files of a scene's run: what they hold, and how long they are.
use Rattle.std.proofs.Common.{◌≡◌, ℕ, zero, suc, ◌+◌, ◌*◌, ◌/◌, ◌<◌, ◌≤◌, ◌%◌, ◌==◌, Bool, true, false, if◌then◌else◌, List}
use Rattle.std.proofs.Common.{[], ◌∷◌, ◌++◌, length, codes, unwrap_or, Some, arith, refl, ap, ◌∙◌, append_assoc, length-append}
use Rattle.std.proofs.lemmas.Bool.Decides.{nat_tests}
use Rattle.std.proofs.lemmas.List.{length-set}
use Rattle.std.specs.FinMap.{get, insert, empty}
use Rattle.ocs_base.specs.Image.{fits_chip}
use Rattle.ocs_base.specs.Script.{ScriptValue}
use Rattle.ocs_base.specs.Sizes.{bytes_of}
use Rattle.ocs_base.specs.Systems.{frame_bytes}
use Rattle.ocs_base.specs.declared.chip_size.ChipSize.{ChipSize}
use Rattle.ocs_base.specs.declared.chip_size.ChipSize.TheVariants.{Kib512}
use Rattle.ocs_base.specs.declared.system.System.{System}
use Rattle.ocs_base.specs.declared.system.System.TheVariants.{Pal, Ntsc}
use Rattle.ocs_io.specs.Place.{Files, with_file}
use Rattle.ocs_io.proofs.MapLaws.{get_inserted}
use Rattle.mem_versions.proofs.WordsLaws.{length-memory_of}
use Rattle.out_files.specs.Together.{three_files}
use Rattle.scene_gen.specs.Scene.{scene_image, scene_script}
use Rattle.scene_gen.proofs.ImageLaws.{fits_chip-scene}
use Rattle.serial_model.specs.Laws.{made_in}
use Rattle.serial_model.specs.Made.{memory_after}
use Rattle.serial_model.specs.MemoryText.{memory_text}
use Rattle.serial_model.specs.Outputs.{heading, heading_at, with_headings, frames_text}
use Rattle.serial_model.specs.Side.{SideValue, no_side}
use Rattle.serial_model.specs.Serial.{state_at, state_over}
use Rattle.serial_model.specs.State.{State, reset}
use Rattle.serial_model.specs.TraceText.{trace_text}
use Rattle.serial_model.specs.declared.bus.Made.{Made}
use Rattle.serial_model.specs.declared.bus.Made.TheVariants as M
use Rattle.serial_model.proofs.NextLaws.{memory_next}
use Rattle.ocs_run.specs.SceneAnswers.{HasSceneFiles, scene_names}
use Rattle.ocs_run.specs.SceneSummary.{IsSummary, summary_text}

pub four_lines : (t0 t1 t2 t3 first picture trace memory : List ℕ) → t0 ≡ first → t1 ≡ t0 ++ picture → t2 ≡ t1 ++ trace → t3 ≡ t2 ++ memory
    → t3 ≡ first ++ (picture ++ (trace ++ memory))
four_lines t0 t1 t2 t3 first picture trace memory begin e f g =
    g ∙ ap (λ t. t ++ memory) (f ∙ ap (λ t. t ++ trace) (e ∙ ap (λ t. t ++ picture) begin))
    ∙ append_assoc (first ++ picture) trace memory ∙ append_assoc first picture (trace ++ memory)

-- ---- how long the texts are

heading_fits : (system : System) (b : Bool) → length (if b then heading system else []) ≤ 15
unfolding heading
heading_fits Pal true = omega arith
heading_fits Ntsc true = omega arith
heading_fits system false = omega arith

length-with_headings : (system : System) (n : ℕ) (bytes : List ℕ) → length (with_headings system n bytes) ≤ 16 * length bytes
unfolding with_headings
length-with_headings system n [] = omega arith
length-with_headings system n (byte ∷ bytes) =
    let first : length (heading_at system n) ≤ 15 = heading_fits system (n % frame_bytes system == 0) in
    let rest : length (with_headings system (n + 1) bytes) ≤ 16 * length bytes = length-with_headings system (n + 1) bytes in
    omega (arith, first, rest, length-append (heading_at system n) (byte ∷ with_headings system (n + 1) bytes))

length-memory_after : (made : Made) (memory : List ℕ) → length (memory_after made memory) ≡ length memory
length-memory_after M.Nothing memory = refl
length-memory_after (M.Wrote reg word by) memory = refl
length-memory_after (M.Read reg by) memory = refl
length-memory_after (M.Stored at half word) memory = length-set memory _ _
length-memory_after (M.Plane plane at) memory = refl
length-memory_after (M.Sprite sprite second at) memory = refl

length-memory : (side : SideValue) (image : List ℕ) (script : ScriptValue) (n : ℕ) → length image ≤ bytes_of script.chip
    → length (state_over side image script n).memory ≡ bytes_of script.chip / 2
unfolding state_over reset
length-memory side image script zero fits = length-memory_of script.chip image fits
length-memory side image script (suc n) fits =
    ap length (memory_next script.system script.events (state_over side image script n))
    ∙ length-memory_after (made_in script.system script.events (state_over side image script n)) (state_over side image script n).memory
    ∙ length-memory side image script n fits

length-memory_text : (words : List ℕ) → length (memory_text words) ≡ 2 * length words
unfolding memory_text
length-memory_text [] = refl
length-memory_text (word ∷ words) = let rest : length (memory_text words) ≡ 2 * length words = length-memory_text words in omega (arith, rest)

image_fits : (size : ChipSize) (bytes : List ℕ) → fits_chip size bytes ≡ true → length bytes ≤ bytes_of size
image_fits size bytes good = grind (arith, nat_tests, good)

-- ---- what the files hold

three_held : (files : Files) (frames trace memory : List ℕ) → Some files ≡ three_files scene_names (Some empty) frames trace memory
    → files ≡ insert (insert (insert empty (codes "frames") frames) (codes "trace") trace) (codes "memory") memory
unfolding with_file
three_held files frames trace memory held = ap (λ f. unwrap_or f files) held

module _ (files : Files) (frames trace memory : List ℕ) (held : Some files ≡ three_files scene_names (Some empty) frames trace memory) where
  abbrev first : Files
  first = insert empty (codes "frames") frames

  abbrev second : Files
  second = insert first (codes "trace") trace

  memory_held : unwrap_or (get files (codes "memory")) [] ≡ memory
  memory_held = ap (λ f. unwrap_or (get f (codes "memory")) []) (three_held files frames trace memory held)
      ∙ ap (λ found. unwrap_or found []) (get_inserted second (codes "memory") memory (codes "memory"))

  trace_held : unwrap_or (get files (codes "trace")) [] ≡ trace
  trace_held = ap (λ f. unwrap_or (get f (codes "trace")) []) (three_held files frames trace memory held)
      ∙ ap (λ found. unwrap_or found []) (get_inserted second (codes "memory") memory (codes "trace")
      ∙ get_inserted first (codes "trace") trace (codes "trace"))

  frames_held : unwrap_or (get files (codes "frames")) [] ≡ frames
  frames_held = ap (λ f. unwrap_or (get f (codes "frames")) []) (three_held files frames trace memory held)
      ∙ ap (λ found. unwrap_or found []) (get_inserted second (codes "memory") memory (codes "frames")
      ∙ get_inserted first (codes "trace") trace (codes "frames")
      ∙ get_inserted empty (codes "frames") frames (codes "frames"))

pub frames_fit : (number : ℕ) (files : Files) (bytes : List ℕ) → HasSceneFiles number files → bytes ≡ unwrap_or (get files (codes "frames")) []
    → length bytes < 4294967296
unfolding scene_script
frames_fit number files bytes has is =
    let s : State = state_at (scene_image number) (scene_script number) has.clocks in
    let same : bytes ≡ frames_text Pal s.shown = is ∙ frames_held files _ _ _ has.files in
    let count : length bytes ≡ length (frames_text Pal s.shown) = ap length same in
    let most : length (frames_text Pal s.shown) ≤ 16 * length s.shown = length-with_headings Pal 0 s.shown in
    let shown : length s.shown ≡ 10 * frame_bytes Pal = has.shown in
    omega (arith, count, most, shown)

pub memory_fits : (number : ℕ) (files : Files) (bytes : List ℕ) → HasSceneFiles number files → bytes ≡ unwrap_or (get files (codes "memory")) []
    → length bytes < 4294967296
unfolding scene_script
memory_fits number files bytes has is =
    let s : State = state_at (scene_image number) (scene_script number) has.clocks in
    let same : bytes ≡ memory_text s.memory = is ∙ memory_held files _ _ _ has.files in
    let count : length bytes ≡ length (memory_text s.memory) = ap length same in
    let words : length s.memory ≡ 262144 =
    length-memory no_side (scene_image number) (scene_script number) has.clocks
    (image_fits Kib512 (scene_image number) (fits_chip-scene number)) in
    omega (arith, count, length-memory_text s.memory, words)

scene_is_pal : (number : ℕ) → (scene_script number).system ≡ Pal
unfolding scene_script
scene_is_pal number = refl

pub is_summary : (number : ℕ) (files : Files) (frames trace memory text : List ℕ) → HasSceneFiles number files
    → frames ≡ unwrap_or (get files (codes "frames")) [] → trace ≡ unwrap_or (get files (codes "trace")) []
    → memory ≡ unwrap_or (get files (codes "memory")) [] → text ≡ summary_text frames trace memory → IsSummary number text
is_summary number files frames trace memory text has first second third is =
    let s : State = state_at (scene_image number) (scene_script number) has.clocks in
    let f : frames ≡ frames_text Pal s.shown =
    first ∙ frames_held files _ _ _ has.files ∙ ap (λ system. frames_text system s.shown) (scene_is_pal number) in
    let t : trace ≡ trace_text s.trace = second ∙ trace_held files _ _ _ has.files in
    let m : memory ≡ memory_text s.memory = third ∙ memory_held files _ _ _ has.files in
    record {
      clocks = has.clocks;
      end = has.end;
      is = is ∙ ap (λ x. summary_text x trace memory) f ∙ ap (λ x. summary_text (frames_text Pal s.shown) x memory) t
          ∙ ap (λ x. summary_text (frames_text Pal s.shown) (trace_text s.trace) x) m;
    }
