-- A ring of states as contracts see it, and what its calls make of it.
use Rattle.std.specs.Prelude.{◌≤◌, ◌<◌, ℕ, ◌-◌, not, nat_lt, Option, None, Some, List, [], ◌∷◌, ◌++◌, length, drop, slice_get, slice_index_or}
use Rattle.std.specs.List.{filter}
use Rattle.ocs_rewind.specs.declared.entry.Entry.{Entry}

-- a state with its clock
abbrev pub EntryOf : Type 0 → Type 0
EntryOf T = Entry T

-- a ring of at most `keep` entries, the oldest first
pub record RingOf (T : Type 0) : Type 0 where
  pub entries : List (Entry T)
  pub keep : ℕ

-- their clocks rise
abbrev pub IsRising : {T : Type 0} → List (Entry T) → Type 0
IsRising {T} entries = (i j : ℕ) (d : Entry T) → i < j → j < length entries → (slice_index_or entries i d).at.0 < (slice_index_or entries j d).at.0

-- what is true of every ring
pub record IsRing {T : Type 0} (entries : List (Entry T)) (keep : ℕ) : Type 0 where
  pub rising : IsRising entries
  pub few : length entries ≤ keep
  pub some : 1 ≤ keep

-- the entries with clocks not above a clock
abbrev pub up_to : {T : Type 0} → ℕ → List (Entry T) → List (Entry T)
up_to c entries = filter (λ entry. not (nat_lt c entry.at.0)) entries

abbrev pub last_entry : {T : Type 0} → List (Entry T) → Option (Entry T)
last_entry entries = slice_get entries (length entries - 1)

-- the last entry with a clock not above a clock
abbrev pub best_of : {T : Type 0} → ℕ → List (Entry T) → Option (Entry T)
best_of c entries = last_entry (up_to c entries)

-- the ring with one more entry, its last: of more than `keep` the oldest goes
abbrev pub pushed : {T : Type 0} → Entry T → RingOf T → RingOf T
pushed entry ring =
    let all = ring.entries ++ entry ∷ [] in record ring { entries = drop (length all - ring.keep) all }

-- a clock is above that of an entry, if there is one
abbrev pub IsAbove : {T : Type 0} → ℕ → Option (Entry T) → Type 0
IsAbove c None = Unit {0}
IsAbove c (Some entry) = entry.at.0 < c
