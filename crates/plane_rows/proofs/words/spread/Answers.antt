use Rattle.std.proofs.Math.Nat.{div-div-eq-div-mul}
use Rattle.plane_rows.specs.code.Words.{spread_bits}
use Rattle.plane_rows.proofs.words.spread.Goals as goal

pub returns-else-hires : goal.returns-else-hires
unfolding spread_bits
returns-else-hires c =
    rw (
      c.if-hires.false,
      c.upper_twice.ensures,
      c.bytes_twice.ensures,
      c.upper_twice-else-hires.ensures,
      c.bytes_twice-else-hires.ensures,
    ) (simp div-div-eq-div-mul)
