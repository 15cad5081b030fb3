-- The mask of the planes that speak against a match has a bit of each playfield's three planes.
use Rattle.collisions.proofs.Matching.{one_matches, two_matches}
use Rattle.collisions.proofs.playfields.Goals as goal

pub returns-clause-one : goal.returns-clause-one
returns-clause-one c = one_matches c.args.con c.args.bits

pub returns-clause-two : goal.returns-clause-two
returns-clause-two c = two_matches c.args.con c.args.bits
