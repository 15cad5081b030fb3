use Rattle.std.proofs.Common.{◌≡◌, ◌*◌, ◌∷◌, [], ◌++◌, ℕ, List, subst, sym, ◌∙◌}
use Rattle.planes.specs.PlaneBit.{ShowsSame, load_of}
use Rattle.planes.specs.declared.load.Load.{Load}
use Rattle.painter.specs.declared.painter.Painter.{Painter}
use Rattle.painter.specs.Painter.{IsPainterOf}
use Rattle.priority_ham.specs.PlaneCount.{is_hires}
use Rattle.serial_model.specs.declared.picture.Denise.{Denise}
use Rattle.serial_model.specs.Picture.{set_picture}
use Rattle.band_draw.proofs.Painting.{loads_kept, load_added}
use Rattle.band_draw.proofs.band_painter.BandPainter.set.Goals as goal

pub returns-then-offset-eq272-clause-paints : goal.returns-then-offset-eq272-clause-paints
returns-then-offset-eq272-clause-paints c from p later is =
    let painted = c.set_at.ensures p is.painter in
    let h : ℕ = c.args.h in
    let word : ℕ = c.args.word in
    let q : ℕ → Denise = λ offset. set_picture h offset word p in
    let first : c.args.offset ≡ 0x110 = c.if-offset-eq272.true in
    let after : List Load = c.keep_load.new.self.loads in
    record {
      painter = subst (λ (painter : Painter). IsPainterOf painter (q c.args.offset)) (sym c.keep_load.ensures.painter) painted;
      loads = λ keeps.
          let kept = sym c.keep_load.ensures.keeps ∙ keeps in
          subst (λ (offset : ℕ). ShowsSame from after (q offset).loads) (sym first)
          (load_added h from word c.args.self.now.loads after p later (is.loads kept)
          (subst (λ (offset : ℕ).
          ShowsSame (4 * h) after (c.args.self.now.loads ++ load_of h (q offset).latches (q offset).con1 (is_hires (q offset).con0) ∷ [])) first
          (c.keep_load.ensures.loads (q c.args.offset) painted kept)));
    }

pub returns-else-offset-eq272-clause-paints : goal.returns-else-offset-eq272-clause-paints
returns-else-offset-eq272-clause-paints c from p later is = record {
  painter = c.set_at.ensures p is.painter;
  loads = λ keeps.
      subst (λ (l : List Load). ShowsSame from c.args.self.now.loads l)
      (sym (loads_kept c.args.h c.args.offset c.args.word p c.if-offset-eq272.false)) (is.loads keeps);
}
