-- Times of events, and the scripts that a run takes: in the limits of the grammar and in order.
use Rattle.std.specs.Prelude.{ℕ, ◌+◌, ◌*◌, ◌<◌, ◌≤◌, false, List, [], ◌∷◌}
use Rattle.ocs_base.specs.Script.{ScriptValue}
use Rattle.ocs_base.specs.declared.script.At.{At}
use Rattle.ocs_base.specs.declared.script.Act.{Act}
use Rattle.ocs_base.specs.declared.script.Act.TheVariants.{Poke, Peek, Joy, Fire, Key}
use Rattle.ocs_base.specs.declared.system.System.{System}
use Rattle.ocs_base.specs.Systems.{lines}

-- places in the order of the beam, as one number: 313 lines a frame and 228 clocks a line leave room for each; PAL uses 227 of
-- them in each line, NTSC all in every other
abbrev pub order_of : ℕ → ℕ → ℕ → ℕ
order_of frame v h = (frame * 313 + v) * 228 + h

-- when an event happens
abbrev pub time_of : At → ℕ
time_of e = order_of e.frame e.v e.h

-- ports are 0 and 1
abbrev pub HasPort : Act → Type 0
HasPort (Poke reg word) = Unit {0}
HasPort (Peek reg) = Unit {0}
HasPort (Joy port word) = port ≤ 1
HasPort (Fire port down) = port ≤ 1
HasPort (Key code) = Unit {0}

-- an event of a run of so many frames: in a line that short fields have too, and at a clock that each line has
pub record IsInLimits (system : System) (frames : ℕ) (e : At) : Type 0 where
  pub frame : e.frame < frames
  pub line : e.v < lines system false
  pub clock : e.h ≤ 226
  pub port : HasPort e.act

abbrev pub AreInLimits : System → ℕ → List At → Type 0
AreInLimits system frames [] = Unit {0}
AreInLimits system frames (e ∷ events) = IsInLimits system frames e × AreInLimits system frames events

-- none of the events is before this time
abbrev pub AreFrom : ℕ → List At → Type 0
AreFrom time [] = Unit {0}
AreFrom time (e ∷ events) = (time ≤ time_of e) × AreFrom time events

-- times that do not fall
abbrev pub AreInOrder : List At → Type 0
AreInOrder [] = Unit {0}
AreInOrder (e ∷ events) = AreFrom (time_of e) events × AreInOrder events

-- a script that a run takes
pub record IsRunnable (script : ScriptValue) : Type 0 where
  pub least : 1 ≤ script.frames
  pub most : script.frames ≤ 1000
  pub limits : AreInLimits script.system script.frames script.events
  pub order : AreInOrder script.events
