-- What a run sounds, as the audio file has it.
use Rattle.std.specs.Prelude.{◌≡◌, ℕ, zero, suc, ◌==◌, ◌||◌, ◌⊎◌, Bool, if◌then◌else◌, List, [], ◌++◌, take, Option, Some, None}
use Rattle.ocs_base.specs.Script.{ScriptValue}
use Rattle.ocs_base.specs.declared.beam.Beam.{Beam}
use Rattle.ocs_io.specs.Place.{Files, with_file, grown}
use Rattle.serial_model.specs.Serial.{state_over}
use Rattle.serial_model.specs.Side.{SideValue, shown_by_side}

-- the clocks of a line at whose end it is taken what a side shows
abbrev pub is_sampled : Beam → Bool
is_sampled b = (b.h == 0) || (b.h == 114)

-- what is taken of a clock with the beam at this place: what the side shows as the clock ends, as sound its left and its right byte
abbrev pub sampled : Beam → SideValue → List ℕ
sampled b side = if is_sampled b then shown_by_side side else []

-- of each of the first so many clocks, in order
unfoldable pub audio_text : SideValue → List ℕ → ScriptValue → ℕ → List ℕ
audio_text side image script zero = []
audio_text side image script (suc n) =
    audio_text side image script n
    ++ sampled (state_over side image script n).beam (state_over side image script (suc n)).side

-- the files, that of this name, where there is one, set to these bytes
abbrev pub with_audio : Option (List ℕ) → Option Files → List ℕ → Option Files
with_audio None files bytes = files
with_audio (Some name) files bytes = with_file files name bytes

-- and grown by a piece
abbrev pub grown_audio : Option (List ℕ) → Option Files → List ℕ → Option Files
grown_audio None files piece = files
grown_audio (Some name) files piece = grown files name piece

-- it may be grown
abbrev pub IsAudioGrowable : (List ℕ → Type 0) → Option (List ℕ) → Type 0
IsAudioGrowable growable None = Unit {0}
IsAudioGrowable growable (Some name) = growable name

-- it was not created for certain, or not written whole
abbrev pub MayHaveMade : Option (List ℕ) → Option Files → Option Files → Type 0
MayHaveMade audio old new = (new ≡ old) ⊎ (new ≡ with_audio audio old [])

abbrev pub MayHaveGrown : Option (List ℕ) → List ℕ → Option Files → Option Files → Type 0
MayHaveGrown audio piece old new = (new ≡ old) ⊎ ((count : ℕ) × (new ≡ grown_audio audio old (take count piece)))
