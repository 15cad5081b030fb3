-- A picture state that a run can have: its colours have twelve bits, and it keeps what runs of eight sprites.
use Rattle.std.specs.Prelude.{◌≡◌, ◌≤◌, length}
use Rattle.std.specs.List.{All}
use Rattle.serial_model.specs.declared.picture.Denise.{Denise}

pub record IsSound (p : Denise) : Type 0 where
  pub palette : All (λ word. word ≤ 4095) p.palette
  pub held : p.held.0 ≤ 4095
  pub eight : length p.runs ≡ 8
