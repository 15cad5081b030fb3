use Rattle.std.proofs.Common.{refl}
use Rattle.blitter_area.specs.Pointing.{lane_a, lane_b, lane_c, lane_d}
use Rattle.blitter_area.proofs.Moves.{lane_moves, has_moved}
use Rattle.blitter_area.proofs.channel.Pointers.step.Goals as goal

pub invariant_of-self-clause-a_is : goal.invariant_of-self-clause-a_is
invariant_of-self-clause-a_is c = lane_moves _ _ _ _ _ c.args.bytes.now.a c.args.self.now.a_is c.requires.a

pub invariant_of-self-clause-b_is : goal.invariant_of-self-clause-b_is
invariant_of-self-clause-b_is c = lane_moves _ _ _ _ _ c.args.bytes.now.b c.args.self.now.b_is c.requires.b

pub invariant_of-self-clause-c_is : goal.invariant_of-self-clause-c_is
invariant_of-self-clause-c_is c = lane_moves _ _ _ _ _ c.args.bytes.now.c c.args.self.now.c_is c.requires.c

pub invariant_of-self-clause-d_is : goal.invariant_of-self-clause-d_is
invariant_of-self-clause-d_is c = lane_moves _ _ _ _ _ c.args.bytes.now.d c.args.self.now.d_is c.requires.d

pub returns : goal.returns
returns c =
    let p = c.args.self.now in
    record {
      of_a = has_moved (lane_a p) _ p.masks.a c.args.bytes.now.a p.a_is.mask_is refl refl refl refl;
      of_b = has_moved (lane_b p) _ p.masks.b c.args.bytes.now.b p.b_is.mask_is refl refl refl refl;
      of_c = has_moved (lane_c p) _ p.masks.c c.args.bytes.now.c p.c_is.mask_is refl refl refl refl;
      of_d = has_moved (lane_d p) _ p.masks.d c.args.bytes.now.d p.d_is.mask_is refl refl refl refl;
    }
