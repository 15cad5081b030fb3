-- What is seen of the outside, and how the calls of a place may change it.
use Rattle.std.specs.Prelude.{◌≡◌, ℕ, ◌+◌, ◌-◌, ◌^◌, ◌≤◌, List, [], ◌++◌, min, Option, option_map, unwrap_or}
use Rattle.std.specs.Ordering.{nat_cmp}
use Rattle.std.specs.Cmp.Lexicographic.{slice_cmp}
use Rattle.std.specs.FinMap.{FinMap, get, insert}

-- the files by their names, names and contents as lists of bytes
abbrev pub Files : Type 0
Files = FinMap (slice_cmp nat_cmp) (List ℕ)

pub record Outside : Type 0 where
  -- the files, where the place tells them
  pub files : Option Files
  -- all that was said, where the place tells it
  pub said : Option (List ℕ)
  -- how often a read, a create or append, and a say were refused by the outside
  pub read_faults : ℕ
  pub write_faults : ℕ
  pub say_faults : ℕ

-- the number after it, where there is one in 64 bits
abbrev pub next_number : ℕ → ℕ
next_number n = min (n + 1) (2 ^ 64 - 1)

-- a count rose: it is greater than before, or stands at the greatest number of its type
abbrev pub Rose : ℕ → ℕ → Type 0
Rose before now = next_number before ≤ now

-- the file of that name where it is there
abbrev pub file : Files → List ℕ → Option (List ℕ)
file files name = get files name

-- the files with one of them set to these bytes, the others as they are
unfoldable pub with_file : Option Files → List ℕ → List ℕ → Option Files
with_file files name bytes = option_map (λ f. insert f name bytes) files

-- the files with one of them grown by a piece, the others as they are
unfoldable pub grown : Option Files → List ℕ → List ℕ → Option Files
grown files name piece = option_map (λ f. insert f name (unwrap_or (get f name) [] ++ piece)) files

-- a said text grown by a piece
abbrev pub said_more : Option (List ℕ) → List ℕ → Option (List ℕ)
said_more said piece = option_map (λ text. text ++ piece) said

-- what a call leaves, whatever it answers, by its kind
pub record OnlyReads (old new : Outside) : Type 0 where
  pub files : new.files ≡ old.files
  pub said : new.said ≡ old.said
  pub read_faults : old.read_faults ≤ new.read_faults
  pub write_faults : new.write_faults ≡ old.write_faults
  pub say_faults : new.say_faults ≡ old.say_faults

pub record OnlyWrites (old new : Outside) : Type 0 where
  pub said : new.said ≡ old.said
  pub read_faults : new.read_faults ≡ old.read_faults
  pub write_faults : old.write_faults ≤ new.write_faults
  pub say_faults : new.say_faults ≡ old.say_faults

pub record OnlySays (old new : Outside) : Type 0 where
  pub files : new.files ≡ old.files
  pub read_faults : new.read_faults ≡ old.read_faults
  pub write_faults : new.write_faults ≡ old.write_faults
  pub say_faults : old.say_faults ≤ new.say_faults

-- names that may be read or grown stay so
pub record KeepsNames (readable growable readable_after growable_after : List ℕ → Type 0) : Type 0 where
  pub read : (name : List ℕ) → readable name → readable_after name
  pub grow : (name : List ℕ) → growable name → growable_after name
