use Rattle.std.proofs.Common.{ℕ, List, replicate, ap}
use Rattle.painter.proofs.inks.Inks.backdrop.Goals as goal

pub returns : goal.returns
returns c = ap (λ (l : List ℕ). replicate 4 l) c.bytes.ensures
