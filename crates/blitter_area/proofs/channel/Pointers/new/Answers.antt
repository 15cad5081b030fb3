use Rattle.std.proofs.Common.{rules, FitsSigned}
use Rattle.std.specs.Int.{w16}
use Rattle.std.proofs.lemmas.Int.{to_z-of_z}
use Rattle.blit_words.specs.declared.blit.WordAsk.TheVariants.{A, B, C, D}
use Rattle.blitter_area.specs.Pointing.{lane_of}
use Rattle.blitter_area.proofs.Moves.{at_first}
use Rattle.blitter_area.proofs.channel.Pointers.new.Goals as goal

pub invariant_of-result-clause-a_is : goal.invariant_of-result-clause-a_is
invariant_of-result-clause-a_is c =
    let x = c.new-a.result in
    record { even = x.at.even; below = x.at.below; mask_is = x.mask_is; forward_inside = x.forward_inside; over_inside = x.over_inside }

pub invariant_of-result-clause-b_is : goal.invariant_of-result-clause-b_is
invariant_of-result-clause-b_is c =
    let x = c.new-b.result in
    record { even = x.at.even; below = x.at.below; mask_is = x.mask_is; forward_inside = x.forward_inside; over_inside = x.over_inside }

pub invariant_of-result-clause-c_is : goal.invariant_of-result-clause-c_is
invariant_of-result-clause-c_is c =
    let x = c.new-c.result in
    record { even = x.at.even; below = x.at.below; mask_is = x.mask_is; forward_inside = x.forward_inside; over_inside = x.over_inside }

pub invariant_of-result-clause-d_is : goal.invariant_of-result-clause-d_is
invariant_of-result-clause-d_is c =
    let x = c.new-d.result in
    record { even = x.at.even; below = x.at.below; mask_is = x.mask_is; forward_inside = x.forward_inside; over_inside = x.over_inside }

pub returns : goal.returns
returns c =
    let s = c.args.start.now in
    let a : FitsSigned w16 s.amod = search rules in
    let b : FitsSigned w16 s.bmod = search rules in
    let c' : FitsSigned w16 s.cmod = search rules in
    let d : FitsSigned w16 s.dmod = search rules in
    let of_a = at_first s A (lane_of c.new-a.result) _ _ _ c.new-a.ensures c.is_set.ensures (to_z-of_z w16 _ a) c.is_set-down.ensures in
    let of_b = at_first s B (lane_of c.new-b.result) _ _ _ c.new-b.ensures c.is_set-2.ensures (to_z-of_z w16 _ b) c.is_set-down.ensures in
    let of_c = at_first s C (lane_of c.new-c.result) _ _ _ c.new-c.ensures c.is_set-3.ensures (to_z-of_z w16 _ c') c.is_set-down.ensures in
    let of_d = at_first s D (lane_of c.new-d.result) _ _ _ c.new-d.ensures c.is_set-4.ensures (to_z-of_z w16 _ d) c.is_set-down.ensures in
    record {
      of_a = record { address = of_a.address; size = of_a.size; forward = of_a.forward; over = of_a.over };
      of_b = record { address = of_b.address; size = of_b.size; forward = of_b.forward; over = of_b.over };
      of_c = record { address = of_c.address; size = of_c.size; forward = of_c.forward; over = of_c.over };
      of_d = record { address = of_d.address; size = of_d.size; forward = of_d.forward; over = of_d.over };
    }
