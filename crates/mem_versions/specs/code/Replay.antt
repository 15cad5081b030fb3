-- Words of the changed pages, as they are behind the first of a list's writes.
use Rattle.std.specs.Prelude.{◌≡◌, ◌≢◌, ◌+◌, ◌-◌, ◌*◌, ◌/◌, ◌%◌, ◌<◌, ◌≤◌, ℕ}
use Rattle.std.specs.Prelude.{zero, suc, List, [], ◌∷◌, All, length, take, slice_index, slice_index_or}
use Rattle.std.specs.List.Sorted.{IsNonDecreasingBy}
use Rattle.mem_versions.specs.declared.write.Write.{Write}
use Rattle.mem_versions.specs.MemoryAt.{words_after}

pub record ChangedValue : Type 0 where
  -- for each page of the memory 0, or 1 and which of the changed pages it is; or nothing at all
  pub places : List ℕ
  -- the changed pages
  pub numbers : List ℕ

-- how many pages are not changed
abbrev pub unset : List ℕ → ℕ
unset [] = 0
unset (zero ∷ places) = unset places + 1
unset (suc k ∷ places) = unset places

-- each changed page is known by its number
pub record AreNumbered (places numbers : List ℕ) : Type 0 where
  pub few : length places ≤ 2048
  pub count : length numbers + unset places ≡ length places
  pub low : All (λ number. number < length places) numbers
  pub known : (page : ℕ) → slice_index places page ≢ 0
      → (slice_index places page ≤ length numbers) × (slice_index numbers (slice_index places page - 1) ≡ page)

-- one page more is known
pub record MarksPage (old : List ℕ) (page : ℕ) (new : List ℕ) : Type 0 where
  pub size : length new ≡ length old
  pub here : slice_index new page ≢ 0
  pub other : (number : ℕ) → number ≢ page → slice_index new number ≡ slice_index old number

-- of the first writes each is to a changed page, or above a memory of so many words
abbrev pub AreCovered : List ℕ → List Write → ℕ → ℕ → Type 0
AreCovered places writes upto size = (k : ℕ) (d : Write) → k < upto → slice_index places ((slice_index_or writes k d).place / 256) ≡ 0
    → size ≤ (slice_index_or writes k d).place

-- where a word is looked up: in the changed page that stands at a slot, or in the base
abbrev pub word_in : List ℕ → List ℕ → ℕ → ℕ → ℕ
word_in base words zero place = slice_index base place
word_in base words (suc k) place = slice_index words (256 * k + place % 256)

-- all words that are looked up are those of a memory
abbrev pub HoldsWords : List ℕ → List ℕ → List ℕ → List ℕ → Type 0
HoldsWords base places words memory = (place : ℕ) → word_in base words (slice_index places (place / 256)) place ≡ slice_index memory place

-- the words of the first of the changed pages are those of the base
abbrev pub HoldsPages : List ℕ → List ℕ → List ℕ → ℕ → Type 0
HoldsPages base numbers words count = (index : ℕ) → index < 256 * count
    → slice_index words index ≡ slice_index base (256 * slice_index numbers (index / 256) + index % 256)

pub record ReplayedValue : Type 0 where
  pub base : List ℕ
  pub writes : List Write
  -- how many of the writes are made
  pub next : ℕ

pub record IsReplayed (base : List ℕ) (writes : List Write) (changed : ChangedValue) (words : List ℕ) (next : ℕ) : Type 0 where
  pub numbered : AreNumbered changed.places changed.numbers
  pub stamped : IsNonDecreasingBy (λ write. write.clock) writes
  pub within : next ≤ length writes
  pub pages : 256 * length changed.places ≤ length base
  pub covered : AreCovered changed.places writes (length writes) (length base)
  pub room : length words ≡ 256 * length changed.numbers
  pub now : HoldsWords base changed.places words (words_after base (take next writes))

-- at the clocks from `since` to `until`, both included, the first `next` of the writes are those that are made
pub record AreMadeBetween (since until : ℕ) (writes : List Write) (next : ℕ) : Type 0 where
  -- each of them is of a clock below `since`
  pub made : (k : ℕ) (d : Write) → k < next → (slice_index_or writes k d).clock < since
  -- no clock is behind `until` and yet below `since`
  pub order : since ≤ until + 1
  -- the write behind them, if any, is of the clock `until` or of a later one
  pub left : (d : Write) → next < length writes → until ≤ (slice_index_or writes next d).clock
