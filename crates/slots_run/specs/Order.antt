-- The words of the command line.
use Rattle.std.specs.Prelude.{ℕ, nat_lt, if◌then◌else◌, List, [], ◌∷◌, Option, Some, None}
use Rattle.ocs_io.specs.Numbers.{dec_of}
use Rattle.run_inputs.specs.Names.{are_names, kept_within}

-- what the words ask for
pub record SlotsOrderValue : Type 0 where
  pub image : List ℕ
  pub script : List ℕ
  -- the first of the frames, and the one behind the last
  pub from : ℕ
  pub to : ℕ
  pub out : List ℕ

-- the number of a frame or of the one behind the last, 0 to 1000
abbrev pub frame_of : List ℕ → Option ℕ
frame_of text = kept_within 0 1000 (dec_of text)

abbrev pub order_with : List ℕ → List ℕ → List ℕ → Option ℕ → Option ℕ → Option SlotsOrderValue
order_with image script out None to = None
order_with image script out (Some from) None = None
order_with image script out (Some from) (Some to) =
    if nat_lt from to then Some (record { image = image; script = script; from = from; to = to; out = out }) else None

-- the words `IMAGE SCRIPT FROM TO OUT`; the names differ and are not empty
abbrev pub order_of : List (List ℕ) → Option SlotsOrderValue
order_of (image ∷ script ∷ from ∷ to ∷ out ∷ []) =
    if are_names (image ∷ script ∷ out ∷ []) then order_with image script out (frame_of from) (frame_of to) else None
order_of words = None
