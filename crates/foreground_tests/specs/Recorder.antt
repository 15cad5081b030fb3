-- A side for tests: the word that was last written to a register, and the one that the side was last given.
use Rattle.std.specs.Prelude.{ℕ, ◌==◌, if◌then◌else◌, List, [], ◌∷◌}
use Rattle.ocs_base.specs.AddressOf.{addr_at}
use Rattle.ocs_base.specs.declared.chip_size.ChipSize.TheVariants.{Kib512}
use Rattle.ocs_base.specs.declared.beam.Beam.{Beam}
use Rattle.serial_model.specs.declared.bus.SideAsk.{SideAsk}
use Rattle.serial_model.specs.declared.bus.SideAsk.TheVariants.{Nothing, Disk, Audio}
use Rattle.serial_model.specs.Side.{Happening, Poked, Ticked, Given, SideValue}

-- the two words after these happenings
abbrev pub written_then : List Happening → ℕ → ℕ
written_then [] word = word
written_then (Poked reg new ∷ later) word = written_then later new
written_then (Ticked b dmacon ∷ later) word = written_then later word
written_then (Given new ∷ later) word = written_then later word

abbrev pub given_then : List Happening → ℕ → ℕ
given_then [] word = word
given_then (Poked reg new ∷ later) word = given_then later word
given_then (Ticked b dmacon ∷ later) word = given_then later word
given_then (Given new ∷ later) word = given_then later new

-- at clock 7 of each line it stores the word that was written at address 64, and at clock 13 it reads the word there
abbrev pub recorder_ask : Beam → ℕ → SideAsk
recorder_ask b written =
    if b.h == 7 then Disk (addr_at Kib512 64) written else if b.h == 13 then Audio 0 (addr_at Kib512 64) else Nothing

-- at clock 20 it requests the bits of the word that it was given
abbrev pub recorder_bits : Beam → ℕ → ℕ
recorder_bits b given = if b.h == 20 then given else 0

abbrev pub recorder : ℕ → ℕ → SideValue
recorder written given = record {
  bits = λ later b dmacon. recorder_bits b (given_then later given);
  ask = λ later b dmacon. recorder_ask b (written_then later written);
  shows = λ later. given_then later given ∷ [];
}
