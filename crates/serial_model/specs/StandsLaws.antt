-- Laws of kept picture states: what changes the one and the other alike, and shows the same of both.
use Rattle.std.specs.Prelude.{◌≡◌, ◌≤◌, ℕ, ◌+◌, ◌*◌, false, List, Option}
use Rattle.ocs_base.specs.declared.beam.Beam.{Beam}
use Rattle.ocs_base.specs.declared.system.System.{System}
use Rattle.serial_model.specs.declared.picture.Denise.{Denise}
use Rattle.serial_model.specs.declared.picture.Touch.{Touch}
use Rattle.serial_model.specs.Beam.{is_line_start}
use Rattle.serial_model.specs.Picture.{clear_line, set_picture, step_of, after_step, touch_if_any, touch_in_order}
use Rattle.serial_model.specs.StandsFor.{StandsFor}

-- each stands for itself, for what it stands for also from later positions on, and for all that what it stands for does
abbrev pub StandsForItself : Type 0
StandsForItself = (from : ℕ) (p : Denise) → StandsFor from p p

abbrev pub StandsLater : Type 0
StandsLater = (from to : ℕ) (kept p : Denise) → from ≤ to → StandsFor from kept p → StandsFor to kept p

abbrev pub StandsOn : Type 0
StandsOn = (from : ℕ) (kept middle p : Denise) → StandsFor from kept middle → StandsFor from middle p → StandsFor from kept p

-- a write of a register, a touch, and touches in their order
abbrev pub StandsWritten : Type 0
StandsWritten = (from h offset word : ℕ) (kept p : Denise) → StandsFor from kept p →
    StandsFor from (set_picture h offset word kept) (set_picture h offset word p)

abbrev pub StandsTouched : Type 0
StandsTouched = (from h : ℕ) (words : ℕ → ℕ) (touch : Option Touch) (kept p : Denise) → StandsFor from kept p →
    StandsFor from (touch_if_any h words touch kept) (touch_if_any h words touch p)

abbrev pub StandsTouchedInOrder : Type 0
StandsTouchedInOrder = (from h : ℕ) (words : ℕ → ℕ) (touches : List Touch) (kept p : Denise) → StandsFor from kept p →
    StandsFor from (touch_in_order h words touches kept) (touch_in_order h words touches p)

-- the first step of a clock: at a line's start from wherever the one stood for the other, else from the clock's positions on
abbrev pub StandsCleared : Type 0
StandsCleared = (from : ℕ) (b : Beam) (kept p : Denise) → StandsFor from kept p → (is_line_start b ≡ false → from ≤ 4 * b.h) →
    StandsFor (4 * b.h) (clear_line b kept) (clear_line b p)

-- the picture step of a clock is the same of both, and after it the one stands for the other from the next positions on
abbrev pub StandsShown : Type 0
StandsShown = (system : System) (v h : ℕ) (kept p : Denise) → StandsFor (4 * h) kept p → step_of system v h kept ≡ step_of system v h p

abbrev pub StandsAfter : Type 0
StandsAfter = (system : System) (v h : ℕ) (kept p : Denise) → StandsFor (4 * h) kept p →
    StandsFor (4 * h + 4) (after_step (step_of system v h kept) kept) (after_step (step_of system v h p) p)
