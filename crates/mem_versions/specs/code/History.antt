-- The writes of a view, in order of place and then of happening.
use Rattle.std.specs.Prelude.{◌≡◌, ◌-◌, ◌/◌, ◌≤◌, ◌<◌, ℕ, ◌==◌, ◌&&◌, nat_lt, if◌then◌else◌, List, [], ◌∷◌, length, take, drop, filter, slice_index_or}
use Rattle.mem_versions.specs.declared.write.Write.{Write}
use Rattle.mem_versions.specs.declared.history.Part.{Part}

pub record HistoryValue : Type 0 where
  -- how many pages of 256 words the memory has
  pub pages : ℕ
  -- the writes, in order of place and then of happening
  pub writes : List Write

-- the word of the last write to a place of a clock below one, or a word where there is none
abbrev pub word_before : ℕ → ℕ → List Write → ℕ → ℕ
word_before place clock [] word = word
word_before place clock (write ∷ writes) word =
    word_before place clock writes (if (write.place == place) && nat_lt write.clock clock then write.word else word)

-- no later write has a lower place, and none of the same place a lower clock
abbrev pub IsInOrder : List Write → Type 0
IsInOrder writes = (i j : ℕ) (d : Write) → i ≤ j → j < length writes →
    ((slice_index_or writes i d).place ≤ (slice_index_or writes j d).place)
    × ((slice_index_or writes i d).place ≡ (slice_index_or writes j d).place → (slice_index_or writes i d).clock ≤ (slice_index_or writes j d).clock)

-- from one place of the list up to another stand the writes to a page
pub record IsPart (writes : List Write) (page : ℕ) (part : Part) : Type 0 where
  pub order : part.start ≤ part.end
  pub within : part.end ≤ length writes
  pub those : take (part.end - part.start) (drop part.start writes) ≡ filter (λ write. write.place / 256 == page) writes

-- where the writes to each of so many pages stand
pub record AreParts (writes : List Write) (parts : List Part) (pages : ℕ) : Type 0 where
  pub count : length parts ≡ pages
  pub each : (page : ℕ) (d : Part) → page < pages → IsPart writes page (slice_index_or parts page d)

-- the writes to a page from a place on end at another, behind which are those to higher pages
pub record IsPageEnd (writes : List Write) (page start end : ℕ) : Type 0 where
  pub some : start < end
  pub within : end ≤ length writes
  pub same : (k : ℕ) (d : Write) → start ≤ k → k < end → (slice_index_or writes k d).place / 256 ≡ page
  pub higher : (k : ℕ) (d : Write) → end ≤ k → k < length writes → page < (slice_index_or writes k d).place / 256

-- writes in order, and where those to each page stand, if there are any
pub record IsHistory (writes : List Write) (parts : List Part) (pages : ℕ) : Type 0 where
  pub order : IsInOrder writes
  pub parted : (page : ℕ) (d : Part) → page < length parts → IsPart writes page (slice_index_or parts page d)
  pub none : (page : ℕ) → length parts ≤ page → page < pages → writes ≡ []

-- the writes from a place on up to another are to one page
abbrev pub AreToOnePage : List Write → ℕ → ℕ → Type 0
AreToOnePage writes start end = (k : ℕ) (d : Write) → start ≤ k → k < end →
    (slice_index_or writes k d).place / 256 ≡ (slice_index_or writes start d).place / 256
