-- What a hand has drawn is right for the band that it claimed.
use Rattle.std.proofs.Common.{◌≡◌, ℕ, List, IsSomeAnd, subst, sym}
use Rattle.std.specs.Arc.{arc_value}
use Rattle.band_board.specs.declared.view.View.{View}
use Rattle.band_board.specs.View.{after_claim}
use Rattle.band_board.specs.Answers.{after_looks}
use Rattle.band_board.specs.Steps.{RightFor}
use Rattle.band_log.specs.declared.job.Drawn.{Drawn}
use Rattle.band_log.specs.declared.job.Job.{Job}
use Rattle.band_log.specs.Right.{IsRightDrawn}
use Rattle.crew.specs.Bands.{IsRightBand, IsDrawnBand}
use Rattle.serial_bands.specs.Run.{RunOf, run_over}
use Rattle.serial_model.specs.Side.{SideValue}

module _ {S : Type 0} (seen : S → SideValue) where
  drawn_right : (run : RunOf S) (n : ℕ) (job : Job S) (drawn : Drawn S) → IsRightBand seen run n job
      → IsRightDrawn seen (run_over seen (arc_value job.run)) job.number drawn → IsDrawnBand seen run n drawn
  drawn_right run n job drawn right is =
      subst (λ r. IsRightDrawn seen r n drawn) right.1.owner
      (subst (λ m. IsRightDrawn seen (run_over seen (arc_value job.run)) m drawn) right.1.numbered is)

  pub deliverable : (old claimed : View (RunOf S)) (looks : List (ℕ × ℕ)) (n : ℕ) (job : Job S) (drawn : Drawn S)
      → RightFor (IsRightBand seen) old.run n job → claimed ≡ after_claim (after_looks old looks) n
      → IsRightDrawn seen (run_over seen (arc_value job.run)) job.number drawn
      → IsSomeAnd claimed.claim (λ m. RightFor (IsDrawnBand seen) claimed.run m drawn)
  deliverable old claimed looks n job drawn right claims is =
      subst (λ (v : View (RunOf S)). IsSomeAnd v.claim (λ m. RightFor (IsDrawnBand seen) v.run m drawn)) (sym claims)
      (right.0, right.1, drawn_right right.0 n job drawn right.2 is)
