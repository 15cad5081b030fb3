use Rattle.std.proofs.Math.Nat.{div-div-eq-div-mul}
use Rattle.plane_rows.specs.code.Words.{spread_bits}
use Rattle.plane_rows.proofs.words.spread_once.Goals as goal

pub returns-then-c-eq0 : goal.returns-then-c-eq0
unfolding spread_bits
returns-then-c-eq0 c =
    rw (c.if-c-eq0.true, c.two_once.ensures, c.two_once-then-c-eq0.ensures) (simp div-div-eq-div-mul)

pub returns-else-c-eq0 : goal.returns-else-c-eq0
unfolding spread_bits
returns-else-c-eq0 c =
    rw (c.bytes_once.ensures, c.bytes_once-else-c-eq0.ensures) (simp div-div-eq-div-mul)
