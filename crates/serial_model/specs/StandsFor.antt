-- What a kept picture state stands for.
use Rattle.std.specs.Prelude.{◌≡◌, ℕ, List, []}
use Rattle.planes.specs.declared.load.Load.{Load}
use Rattle.planes.specs.PlaneBit.{ShowsSame}
use Rattle.serial_model.specs.declared.picture.Denise.{Denise}

abbrev pub with_loads : List Load → Denise → Denise
with_loads loads p = record p { loads = loads }

-- From a position of the line on one picture state stands for another: at each position from there on its loads show the
-- same bit of each plane, and all else is equal.
pub record StandsFor (from : ℕ) (kept p : Denise) : Type 0 where
  pub loads : ShowsSame from kept.loads p.loads
  pub rest : with_loads [] kept ≡ with_loads [] p
