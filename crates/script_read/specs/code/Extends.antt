-- Bytes with more behind them.
use Rattle.std.specs.Prelude.{◌≡◌, ℕ, List, ◌++◌}

pub record Extends (old new : List ℕ) : Type 0 where
  pub part : List ℕ
  pub is : new ≡ old ++ part
