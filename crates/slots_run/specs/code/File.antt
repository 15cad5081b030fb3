-- What a refusal to write a file leaves.
use Rattle.std.specs.Prelude.{◌≡◌, ℕ, ◌⊎◌, List, take, Option}
use Rattle.ocs_io.specs.Place.{Files, Outside, Rose, with_file, grown}
use Rattle.slots_run.specs.declared.fault.SlotsFault.{SlotsFault}
use Rattle.slots_run.specs.declared.fault.SlotsFault.TheVariants.{Usage, Inputs, Unwritten, OutOfMemory}

-- the file is as before or has a part of the text, from the first byte on, which may be empty; every other file is as before
abbrev pub MayHavePart : List ℕ → List ℕ → Option Files → Option Files → Type 0
MayHavePart name text old new = (new ≡ old) ⊎ ((count : ℕ) × (new ≡ with_file old name (take count text)))

-- it was grown by a part of a text
abbrev pub MayHaveGrown : List ℕ → List ℕ → Option Files → Option Files → Type 0
MayHaveGrown name text old new = (new ≡ old) ⊎ ((count : ℕ) × (new ≡ grown old name (take count text)))

-- why: the outside refused, or memory was wanting
abbrev pub IsWriteFault : Outside → Outside → SlotsFault → Type 0
IsWriteFault old new Usage = ⊥
IsWriteFault old new (Inputs fault) = ⊥
IsWriteFault old new Unwritten = Rose old.write_faults new.write_faults
IsWriteFault old new OutOfMemory = Unit {0}
