use Rattle.std.proofs.Common.{◌≡◌, ◌==◌, ◌*◌, List, true, false, subst, sym, ◌∙◌, arith}
use Rattle.std.proofs.lemmas.Bool.Decides.{nat_tests}
use Rattle.planes.specs.PlaneBit.{ShowsSame}
use Rattle.planes.specs.declared.load.Load.{Load}
use Rattle.planes.proofs.Standing.{ShowsSame-refl}
use Rattle.band_draw.proofs.Painting.{same_later, none_left}
use Rattle.band_draw.proofs.band_painter.BandPainter.clear_line.Goals as goal

pub returns-then-beam-eq0-clause-cleared : goal.returns-then-beam-eq0-clause-cleared
returns-then-beam-eq0-clause-cleared c from p is order =
    let start : (c.args.beam.now.h == 0) ≡ true = grind (arith, nat_tests) in
    record {
      painter = c.clear_line.ensures p is.painter;
      loads = λ keeps.
          subst (λ (l : List Load). ShowsSame (4 * c.args.beam.now.h) c.clear.new.self l)
          (c.clear.ensures ∙ sym (none_left c.args.beam.now p start)) (ShowsSame-refl (4 * c.args.beam.now.h) c.clear.new.self);
    }

pub returns-else-beam-eq0-clause-cleared : goal.returns-else-beam-eq0-clause-cleared
returns-else-beam-eq0-clause-cleared c from p is order =
    let on : (c.args.beam.now.h == 0) ≡ false = grind (arith, nat_tests) in
    record {
      painter = c.clear_line.ensures p is.painter;
      loads = λ keeps. same_later from c.args.beam.now c.args.self.now.loads p on (is.loads keeps) order;
    }
