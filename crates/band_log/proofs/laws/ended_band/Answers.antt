-- The view covers the band, since the memory was cut at its first clock and the view is cut at its end.
use Rattle.std.proofs.Common.{refl, arith}
use Rattle.band_log.proofs.laws.ended_band.Goals as goal

pub returns : goal.returns
returns g c = λ job chip band begins cut view. record {
  owner = refl;
  numbered = refl;
  covered = λ k least most. (omega (arith, view.from, cut), omega (arith, view.to));
  parts = c.open_band.ensures.closes _ _ _ _ _ _ _ _ _ _ band begins view;
}
