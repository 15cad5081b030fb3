-- The record that the log has of a clock.
use Rattle.std.specs.Prelude.{◌≡◌, ℕ, ◌/◌, ◌%◌, List, ◌∷◌, ◌++◌}
use Rattle.ocs_base.specs.declared.beam.Beam.{Beam}
use Rattle.serial_model.specs.declared.bus.Ask.{Ask}
use Rattle.serial_model.specs.MemoryText.{word_bytes}
use Rattle.slot_log.specs.Entry.{entry_of}
use Rattle.slot_log.specs.Purpose.{code_of}
use Rattle.slot_log.specs.declared.entry.Entry.{Entry}

-- a clock: the place of the beam, what the owner of its slot asks for, and the word that answers it
pub record SlotClock : Type 0 where
  pub beam : Beam
  pub ask : Ask
  pub answer : ℕ

abbrev pub clock_entry : SlotClock → Entry
clock_entry clock = entry_of clock.beam.h clock.answer clock.ask

-- an address has four bytes, the highest first
abbrev pub address_bytes : ℕ → List ℕ
address_bytes address = word_bytes (address / 65536) ++ word_bytes (address % 65536)

-- ten bytes: the line, the clock of the line, the code, the address and the word
abbrev pub entry_bytes : Entry → List ℕ
entry_bytes entry = code_of entry.purpose ∷ address_bytes entry.address ++ word_bytes entry.word

abbrev pub record_bytes : SlotClock → List ℕ
record_bytes clock = word_bytes clock.beam.v ++ clock.beam.h ∷ entry_bytes (clock_entry clock)

-- two clocks with the same record are at the same place of the beam, and have the same entry: the same owner and purpose, the same
-- address and the same word
pub record IsSameEntry (a b : SlotClock) : Type 0 where
  pub line : a.beam.v ≡ b.beam.v
  pub clock : a.beam.h ≡ b.beam.h
  pub purpose : (clock_entry a).purpose ≡ (clock_entry b).purpose
  pub address : (clock_entry a).address ≡ (clock_entry b).address
  pub word : (clock_entry a).word ≡ (clock_entry b).word

abbrev pub RecordsTell : Type 0
RecordsTell = (a b : SlotClock) → record_bytes a ≡ record_bytes b → IsSameEntry a b
