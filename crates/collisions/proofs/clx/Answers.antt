-- The four parts of the bits, one above the other.
use Rattle.collisions.specs.Collision.{collision_bits, playfield_matches, is_present}
use Rattle.collisions.proofs.Gathering.{gathered}
use Rattle.collisions.proofs.clx.Goals as goal

pub returns : goal.returns
unfolding collision_bits
returns c =
    let con = c.args.con in
    let bits = c.args.bits in
    let values = c.args.values.now in
    rw (
      c.with_pairs.ensures,
      c.with_pairs-2.ensures,
      c.among_pairs.ensures,
      c.playfields-one.ensures.one,
      c.playfields-one.ensures.two,
      c.is_pair_there-a.ensures,
      c.is_pair_there-b.ensures,
      c.is_pair_there-c.ensures,
      c.is_pair_there-d.ensures,
    )
    (gathered (playfield_matches con bits 1) (playfield_matches con bits 2)
    (is_present con values 0) (is_present con values 1) (is_present con values 2) (is_present con values 3))
