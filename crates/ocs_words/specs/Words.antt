-- The words of the command line: which command they are, and what it is asked.
use Rattle.std.specs.Prelude.{ℕ, Bool, false, if◌then◌else◌, List, [], ◌∷◌, codes, bytes_eq, Option, Some, None, option_map}
use Rattle.ocs_io.specs.Numbers.{dec_of}
use Rattle.run_inputs.specs.Names.{kept_within}
use Rattle.ocs_words.specs.Order.{OrderValue, order_of, band_of, workers_of}
use Rattle.ocs_words.specs.RewindOrder.{RewindOrderValue, rewind_order_of}

-- what the words of `gen` ask for
pub record SceneOrderValue : Type 0 where
  pub number : ℕ
  pub band : ℕ
  pub workers : ℕ

pub data CommandValue : Type 0 where
  -- a run of input files
  Run : OrderValue → CommandValue
  -- a scene and the summary of its run
  Gen : SceneOrderValue → CommandValue
  -- clocks of a run that are gone to
  Rewind : RewindOrderValue → CommandValue

-- the number of a scene, 0 to 4294967295
abbrev pub number_of : List ℕ → Option ℕ
number_of text = kept_within 0 4294967295 (dec_of text)

abbrev pub scene_with : Option ℕ → Option ℕ → Option ℕ → Option SceneOrderValue
scene_with None band workers = None
scene_with (Some number) None workers = None
scene_with (Some number) (Some band) None = None
scene_with (Some number) (Some band) (Some workers) = Some (record { number = number; band = band; workers = workers })

-- the words `gen N BAND WORKERS`, where the first is `gen`
abbrev pub scene_order_of : List (List ℕ) → Option SceneOrderValue
scene_order_of (command ∷ number ∷ band ∷ workers ∷ []) = scene_with (number_of number) (band_of band) (workers_of workers)
scene_order_of words = None

-- the first word is this one
abbrev pub begins_with : List ℕ → List (List ℕ) → Bool
begins_with name [] = false
begins_with name (command ∷ words) = bytes_eq command name

-- the command, by the first word; words of no command are None
abbrev pub command_of : List (List ℕ) → Option CommandValue
command_of words =
    if begins_with (codes "gen") words then option_map Gen (scene_order_of words)
    else (if begins_with (codes "rewind") words then option_map Rewind (rewind_order_of words) else option_map Run (order_of words))
