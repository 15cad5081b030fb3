-- The words of the command `rewind`.
use Rattle.std.specs.Prelude.{ℕ, ◌&&◌, nat_le, if◌then◌else◌, List, [], ◌∷◌, length, Option, Some, None}
use Rattle.ocs_io.specs.Numbers.{dec_of}
use Rattle.run_inputs.specs.Names.{are_names, kept_within}

-- what the words of `rewind` ask for
pub record RewindOrderValue : Type 0 where
  pub image : List ℕ
  pub script : List ℕ
  -- of every how many frames one begins with a checkpoint, and how many of these are kept
  pub every : ℕ
  pub keep : ℕ
  -- the clocks, in the order in which they are gone to
  pub clocks : List ℕ

-- 1 to 1000 frames
abbrev pub every_of : List ℕ → Option ℕ
every_of text = kept_within 1 1000 (dec_of text)

-- 1 to 64 checkpoints
abbrev pub keep_of : List ℕ → Option ℕ
keep_of text = kept_within 1 64 (dec_of text)

-- a clock, 0 to the most clocks of 1000 frames
abbrev pub clock_of : List ℕ → Option ℕ
clock_of text = kept_within 0 71051000 (dec_of text)

-- a clock before others
abbrev pub with_first : Option ℕ → Option (List ℕ) → Option (List ℕ)
with_first None clocks = None
with_first (Some clock) None = None
with_first (Some clock) (Some clocks) = Some (clock ∷ clocks)

-- each of the words is a clock
abbrev pub all_clocks : List (List ℕ) → Option (List ℕ)
all_clocks [] = Some []
all_clocks (text ∷ texts) = with_first (clock_of text) (all_clocks texts)

-- and they are one to sixteen
abbrev pub clocks_of : List (List ℕ) → Option (List ℕ)
clocks_of texts = if nat_le 1 (length texts) && nat_le (length texts) 16 then all_clocks texts else None

abbrev pub rewind_with : List ℕ → List ℕ → Option ℕ → Option ℕ → Option (List ℕ) → Option RewindOrderValue
rewind_with image script None keep clocks = None
rewind_with image script (Some every) None clocks = None
rewind_with image script (Some every) (Some keep) None = None
rewind_with image script (Some every) (Some keep) (Some clocks) = Some (record {
  image = image;
  script = script;
  every = every;
  keep = keep;
  clocks = clocks;
})

-- the words `rewind IMAGE SCRIPT EVERY KEEP CLOCK..`, where the first is `rewind`; the names differ and are not empty
abbrev pub rewind_order_of : List (List ℕ) → Option RewindOrderValue
rewind_order_of (command ∷ image ∷ script ∷ every ∷ keep ∷ clocks) =
    if are_names (image ∷ script ∷ []) then rewind_with image script (every_of every) (keep_of keep) (clocks_of clocks) else None
rewind_order_of words = None
