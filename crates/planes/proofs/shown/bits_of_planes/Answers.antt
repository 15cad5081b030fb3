-- Six bits, of which those of the lowest planes are left.
use Rattle.std.proofs.Common.{arith, ◌<◌, ◌^◌, ℕ, List, sym, subst}
use Rattle.planes.specs.declared.load.Load.{Load}
use Rattle.planes.specs.PlaneBit.{plane_bit, all_bits}
use Rattle.planes.proofs.Searching.{plane_bit-lt, bits_below_count, cut, whole}
use Rattle.planes.proofs.shown.bits_of_planes.Goals as goal

pub overflow_mul-all : goal.overflow_mul-all
overflow_mul-all c =
    let x : ℕ = c.args.x in
    let loads : List Load = c.args.loads.now in
    omega (
      arith,
      plane_bit-lt 1 x loads,
      plane_bit-lt 2 x loads,
      plane_bit-lt 3 x loads,
      plane_bit-lt 4 x loads,
      plane_bit-lt 5 x loads,
      plane_bit-lt 6 x loads,
    )

pub overflow_add-all : goal.overflow_add-all
overflow_add-all c =
    let x : ℕ = c.args.x in
    let loads : List Load = c.args.loads.now in
    omega (
      arith,
      plane_bit-lt 1 x loads,
      plane_bit-lt 2 x loads,
      plane_bit-lt 3 x loads,
      plane_bit-lt 4 x loads,
      plane_bit-lt 5 x loads,
      plane_bit-lt 6 x loads,
    )

pub returns-then-count-lt6-clause-value : goal.returns-then-count-lt6-clause-value
unfolding all_bits
returns-then-count-lt6-clause-value c =
    let x : ℕ = c.args.x in
    let loads : List Load = c.args.loads.now in
    let bit : ℕ → ℕ = λ p. plane_bit p x loads in
    rw (c.odd_bits.ensures, c.even_bits.ensures)
    (cut (bit 1) (bit 2) (bit 3) (bit 4) (bit 5) (bit 6) c.args.count
    (plane_bit-lt 1 x loads) (plane_bit-lt 2 x loads) (plane_bit-lt 3 x loads)
    (plane_bit-lt 4 x loads) (plane_bit-lt 5 x loads) (plane_bit-lt 6 x loads) c.if-count-lt6.true)

pub returns-else-count-lt6-clause-value : goal.returns-else-count-lt6-clause-value
unfolding all_bits
returns-else-count-lt6-clause-value c =
    let x : ℕ = c.args.x in
    let loads : List Load = c.args.loads.now in
    let bit : ℕ → ℕ = λ p. plane_bit p x loads in
    rw (c.odd_bits.ensures, c.even_bits.ensures)
    (whole (bit 1) (bit 2) (bit 3) (bit 4) (bit 5) (bit 6) c.args.count c.if-count-lt6.false)

pub returns-then-count-lt6-clause-few : goal.returns-then-count-lt6-clause-few
returns-then-count-lt6-clause-few c =
    subst (λ (n : ℕ). n < 2 ^ c.args.count) (sym (returns-then-count-lt6-clause-value c))
    (bits_below_count c.args.x c.args.count c.args.loads.now)

pub returns-else-count-lt6-clause-few : goal.returns-else-count-lt6-clause-few
returns-else-count-lt6-clause-few c =
    subst (λ (n : ℕ). n < 2 ^ c.args.count) (sym (returns-else-count-lt6-clause-value c))
    (bits_below_count c.args.x c.args.count c.args.loads.now)
