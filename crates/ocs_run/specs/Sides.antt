-- What reading the track tells, and what stands beside the chips as a run begins.
use Rattle.std.specs.Prelude.{◌≡◌, ℕ, true, false, List, Some}
use Rattle.disk_dma.specs.Disk.{disk_side, new_disk}
use Rattle.disk_dma.specs.Track.{is_track}
use Rattle.ocs_io.specs.Answers.{WhereTold}
use Rattle.ocs_io.specs.Place.{Files, Outside, Rose, file}
use Rattle.ocs_base.specs.declared.chip_size.ChipSize.{ChipSize}
use Rattle.paula_audio.specs.Paula.{paula_side, reset_paula}
use Rattle.run_inputs.specs.Inputs.{Holds}
use Rattle.ocs_words.specs.declared.fault.Fault.{Fault}
use Rattle.ocs_words.specs.declared.fault.Fault.TheVariants.{Usage, Inputs, BadTrack, UnreadTrack, Unwritten, Unsaid, OutOfMemory}
use Rattle.ocs_words.specs.Order.{ExtraValue, NoFile, AudioFile, TrackFile}
use Rattle.serial_model.specs.Side.{SideValue, no_side}

-- the file is there, and has not the form of a track
pub record HoldsNoTrack (name : List ℕ) (files : Files) : Type 0 where
  pub bytes : List ℕ
  pub there : file files name ≡ Some bytes
  pub bad : is_track bytes ≡ false

-- the place lets the track be read, where there is one
abbrev pub ReadableTrack : (List ℕ → Type 0) → ExtraValue → Type 0
ReadableTrack readable extra = (name : List ℕ) → extra ≡ TrackFile name → readable name

-- a track was read
pub record IsTrackOf (old : Outside) (name track : List ℕ) : Type 0 where
  pub holds : WhereTold old.files (Holds name track)
  pub good : is_track track ≡ true

-- why no track was read
abbrev pub IsTrackFault : Outside → Outside → List ℕ → Fault → Type 0
IsTrackFault old new name Usage = ⊥
IsTrackFault old new name (Inputs fault) = ⊥
IsTrackFault old new name BadTrack = WhereTold old.files (HoldsNoTrack name)
IsTrackFault old new name UnreadTrack = Rose old.read_faults new.read_faults
IsTrackFault old new name (Unwritten output) = ⊥
IsTrackFault old new name Unsaid = ⊥
IsTrackFault old new name OutOfMemory = Unit {0}

-- what stands beside the chips as the run begins: nothing, the four channels of sound, or the disk with the track that was read
abbrev pub IsSideOf : Outside → ChipSize → ExtraValue → SideValue → Type 0
IsSideOf old chip NoFile side = side ≡ no_side
IsSideOf old chip (AudioFile name) side = side ≡ paula_side (reset_paula chip)
IsSideOf old chip (TrackFile name) side = (track : List ℕ) × IsTrackOf old name track × (side ≡ disk_side (new_disk track chip))

-- why it was not made
abbrev pub IsSideFault : Outside → Outside → ExtraValue → Fault → Type 0
IsSideFault old new NoFile fault = ⊥
IsSideFault old new (AudioFile name) fault = ⊥
IsSideFault old new (TrackFile name) fault = IsTrackFault old new name fault
