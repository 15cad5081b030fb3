use Rattle.std.proofs.Common.{◌≡◌, ◌+◌, ◌-◌, ◌*◌, ℕ, subst}
use Rattle.serial_model.specs.Picture.{set_picture}
use Rattle.band_draw.specs.BandPainter.{Paints}
use Rattle.band_draw.specs.declared.band_painter.BandPainter.{BandPainter}
use Rattle.band_draw.proofs.progress.Progress.fetch.Goals as goal

-- the word that is found is that of the memory then
word_found : (h offset found word : ℕ) (old new : BandPainter) → found ≡ word → Paints (4 * h) (set_picture h offset found) old new
    → Paints (4 * h) (set_picture h offset word) old new
word_found h offset found word old new same paints = subst (λ (n : ℕ). Paints (4 * h) (set_picture h offset n) old new) same paints

pub returns-then-fetch-ge2-clause-paints : goal.returns-then-fetch-ge2-clause-paints
returns-then-fetch-ge2-clause-paints c =
    let h : ℕ = c.args.self.now.beam.h + (c.args.fetch.now.at.0 - c.args.self.now.clock) in
    word_found h (0x10e + 2 * c.args.fetch.now.plane) c.word-word.result _ _ _ c.word-word.ensures.word (c.latch.ensures.paints h)
