-- The events of a script that are left when the beam has come to a place.
use Rattle.std.specs.Prelude.{◌≡◌, ◌≤◌, ◌+◌, ℕ, Bool, false, nat_lt, List, length, Option, None, Some, if◌then◌else◌}
use Rattle.ocs_base.specs.Limits.{AreFrom, AreInOrder, AreInLimits, time_of}
use Rattle.ocs_base.specs.declared.beam.Beam.{Beam}
use Rattle.ocs_base.specs.declared.script.At.{At}
use Rattle.ocs_base.specs.declared.script.Act.{Act}
use Rattle.ocs_base.specs.declared.script.Act.TheVariants.{Poke, Peek, Joy, Fire, Key}
use Rattle.ocs_base.specs.declared.system.System.{System}
use Rattle.serial_model.specs.Beam.{IsOnScreen, place_of}
use Rattle.serial_model.specs.Events.{due_events, is_due, touches_of}
use Rattle.serial_model.specs.Registers.{is_picture_register}

-- none of them is before the place, they are in order and in the limits of some run, and at the place and each later one as
-- many are due as of the whole script
pub record IsLeft (place : ℕ) (script left : List At) : Type 0 where
  pub system : System
  pub frames : ℕ
  pub from : AreFrom place left
  pub order : AreInOrder left
  pub limits : AreInLimits system frames left
  pub same : (b : Beam) → IsOnScreen b → place ≤ place_of b → due_events b script ≡ due_events b left

-- the same, of an earlier place
pub record IsLeftEarlier (place : ℕ) (script left : List At) : Type 0 where
  pub earlier : ℕ
  pub order : earlier ≤ place
  pub events : IsLeft earlier script left

-- whether an act writes to one of Denise's registers
abbrev pub is_set : Act → Bool
is_set (Poke reg word) = is_picture_register reg.offset
is_set (Peek reg) = false
is_set (Joy port word) = false
is_set (Fire port down) = false
is_set (Key code) = false

-- of the event at some place of a script, if there is one: whether it is before a place, whether it is due, and how many writes to Denise's registers it is
abbrev pub before_if : ℕ → Option At → Bool
before_if place None = false
before_if place (Some e) = nat_lt (time_of e) place

abbrev pub due_if : Beam → Option At → Bool
due_if b None = false
due_if b (Some e) = is_due b e

abbrev pub sets_if : Option At → ℕ
sets_if None = 0
sets_if (Some e) = if is_set e.act then 1 else 0

-- what is left of a script has been come to by counting, from what is before a place on, the writes that are due there
pub record IsCounted (b : Beam) (script left : List At) (sets : ℕ) : Type 0 where
  pub system : System
  pub frames : ℕ
  pub from : AreFrom (place_of b) left
  pub order : AreInOrder left
  pub limits : AreInLimits system frames left
  pub same : (later : Beam) → IsOnScreen later → place_of b + 1 ≤ place_of later → due_events later script ≡ due_events later left
  pub count : length (touches_of (due_events b script)) ≡ sets + length (touches_of (due_events b left))
