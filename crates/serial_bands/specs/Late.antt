-- What may be done to a picture state before picture steps in place of behind them: the words that planes fetch.
use Rattle.std.specs.Prelude.{◌≡◌, ◌≤◌, ℕ, suc, ◌+◌}
use Rattle.ocs_base.specs.declared.system.System.{System}
use Rattle.serial_model.specs.declared.picture.Denise.{Denise}
use Rattle.serial_model.specs.Picture.{set_picture, plane_latch}
use Rattle.serial_model.specs.Spans.{after_shows, shown_bytes, shown_clx}

-- What is done to a picture state is late for so many picture steps from clock h on: it may be done before them in place of
-- behind them.
pub record IsLate (system : System) (v h n : ℕ) (change : Denise → Denise) (p : Denise) : Type 0 where
  pub state : change (after_shows system v h n p) ≡ after_shows system v h n (change p)
  pub bytes : shown_bytes system v h n p ≡ shown_bytes system v h n (change p)
  pub clx : shown_clx system v h n p ≡ shown_clx system v h n (change p)

-- the word of a plane that is fetched at the last of these clocks
abbrev pub FetchesAreLate : Type 0
FetchesAreLate = (system : System) (v h n plane word : ℕ) (p : Denise) → plane ≤ 6 →
    IsLate system v h (suc n) (set_picture (h + n) (plane_latch plane) word) p
