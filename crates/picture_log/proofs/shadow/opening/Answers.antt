use Rattle.std.proofs.Common.{◌≡◌, ap, ◌∙◌, ℕ, List, [], map, Option, None, replicate, slice_index}
use Rattle.planes.specs.declared.load.Load.{Load}
use Rattle.sprites.specs.declared.runs.Start.{Start}
use Rattle.serial_model.specs.declared.picture.Denise.{Denise}
use Rattle.serial_bands.specs.declared.shadow.Shadow.{Shadow}
use Rattle.serial_bands.specs.Run.{RunValue}
use Rattle.serial_bands.specs.Shadows.{shadow_controls, filling_word, line_opening}
use Rattle.picture_log.proofs.shadow.opening.Goals as goal

-- a picture state with these lists, and else a shadow's
abbrev made : Shadow → List ℕ → List Load → List (Option Start) → List ℕ → List ℕ → Denise
made s latches loads runs words_a words_b = record (shadow_controls s) {
  latches = latches;
  loads = loads;
  runs = runs;
  words_a = words_a;
  words_b = words_b;
  held = record { 0 = slice_index s.palette 0 };
}

opened : (run : RunValue) (s : Shadow) (latches : List ℕ) (loads : List Load) (runs : List (Option Start)) (words_a words_b : List ℕ)
    → latches ≡ map (filling_word run) s.latches → loads ≡ [] → runs ≡ replicate 8 None
    → words_a ≡ map (filling_word run) s.words_a → words_b ≡ map (filling_word run) s.words_b
    → made s latches loads runs words_a words_b ≡ line_opening run s
opened run s latches loads runs words_a words_b planes none still first second =
    ap (λ l. made s l loads runs words_a words_b) planes
    ∙ ap (λ l. made s (map (filling_word run) s.latches) l runs words_a words_b) none
    ∙ ap (λ l. made s (map (filling_word run) s.latches) [] l words_a words_b) still
    ∙ ap (λ l. made s (map (filling_word run) s.latches) [] (replicate 8 None) l words_b) first
    ∙ ap (λ l. made s (map (filling_word run) s.latches) [] (replicate 8 None) (map (filling_word run) s.words_a) l) second

pub returns : goal.returns
returns c = λ run.
    opened run c.args.shadow.now c.take_words.new.words c.new.result c.new-2.result c.take_words-2.new.words c.take_words-3.new.words
    (c.take_words.ensures run) c.new.ensures c.new-2.ensures (c.take_words-2.ensures run) (c.take_words-3.ensures run)
