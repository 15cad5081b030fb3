use Rattle.std.proofs.Common.{◌≢◌, ℕ, Bool, true, false, List, subst, sym, arith}
use Rattle.planes.specs.PlaneBit.{ShowsSame}
use Rattle.planes.specs.declared.load.Load.{Load}
use Rattle.serial_model.specs.Picture.{sprite_data}
use Rattle.band_draw.proofs.Painting.{loads_kept}
use Rattle.band_draw.proofs.band_painter.BandPainter.fill_sprite.Goals as goal

not_first : (sprite : ℕ) (second : Bool) → sprite_data sprite second ≢ 0x110
not_first sprite true = λ e. omega (arith, e)
not_first sprite false = λ e. omega (arith, e)

pub returns-clause-paints : goal.returns-clause-paints
returns-clause-paints c h from p later is = record {
  painter = c.fill_sprite.ensures h p is.painter;
  loads = λ keeps.
      subst (λ (l : List Load). ShowsSame from c.args.self.now.loads l)
      (sym (loads_kept h (sprite_data c.args.sprite c.args.second) c.args.word p (not_first c.args.sprite c.args.second))) (is.loads keeps);
}
