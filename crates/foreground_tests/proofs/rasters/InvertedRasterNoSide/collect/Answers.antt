-- What is right without a tint, its bytes turned over, is right under the tint 255.
use Rattle.std.proofs.Common.{◌≡◌, ℕ, List, [], ◌∷◌, map, ap, ◌∙◌}
use Rattle.serial_model.specs.declared.side.NoSide.{NoSide}
use Rattle.serial_model.specs.Side.{no_side}
use Rattle.serial_bands.specs.BandShown.{tinted_bytes}
use Rattle.serial_bands.proofs.Counts.{no_tint}
use Rattle.band_log.specs.declared.job.Drawn.{Drawn}
use Rattle.band_log.specs.Raster.{Outstanding, IsRightForFirst}
use Rattle.band_draw.specs.Direct.{outstanding_of}
use Rattle.foreground_tests.proofs.rasters.InvertedRasterNoSide.collect.Goals as goal

turned_over : (bands : List Outstanding) (drawn : Drawn NoSide) (room : List ℕ) → room ≡ tinted_bytes 255 drawn.job.room
    → IsRightForFirst (λ side. no_side) 0 bands drawn → IsRightForFirst (λ side. no_side) 255 bands (record drawn { job = record drawn.job { room = room } })
turned_over [] drawn room same right = right
turned_over (band ∷ bands) drawn room same right = record {
  owner = right.owner;
  numbered = right.numbered;
  shown = record {
    band = right.shown.band;
    bytes = same ∙ ap (λ bytes. tinted_bytes 255 bytes) (right.shown.bytes ∙ no_tint _);
    bits = right.shown.bits;
    stands = right.shown.stands;
  };
}

pub returns-clause-right : goal.returns-clause-right
returns-clause-right c =
    turned_over (map (outstanding_of (λ side. no_side)) c.args.self.now.direct.bands) c.collect-drawn.result c.invert.new.room c.invert.ensures
    c.collect-drawn.ensures.right
