-- Clocks at which the sprites need no slot.
use Rattle.std.specs.Prelude.{◌≡◌, Bool, List, None}
use Rattle.ocs_base.specs.declared.beam.Beam.{Beam}
use Rattle.serial_model.specs.declared.fetch.SpriteKind.{SpriteKind}
use Rattle.serial_model.specs.Registers.{Registers}
use Rattle.serial_model.specs.SpriteFetch.{kinds_at, sprite_ask}

-- what the sprites read on this line stays as it is at this clock, and no sprite asks for the slot, whether or not a plane has it
pub record ReadsNothing (b : Beam) (registers : Registers) (kinds : List SpriteKind) : Type 0 where
  pub stay : kinds_at b registers kinds ≡ kinds
  pub ask : (taken : Bool) → sprite_ask b.h registers kinds taken ≡ None
