-- What a change of a kept picture state keeps.
use Rattle.std.specs.Prelude.{◌≤◌, ℕ}
use Rattle.serial_model.specs.declared.picture.Denise.{Denise}
use Rattle.serial_model.specs.StandsFor.{StandsFor}

-- From `least` on, what stood for a picture state before stands after it for the state that the change makes of that one.
abbrev pub Keeps : ℕ → (Denise → Denise) → Denise → Denise → Type 0
Keeps least change old new = (from : ℕ) (p : Denise) → least ≤ from → StandsFor from old p → StandsFor from new (change p)
