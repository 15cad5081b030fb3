-- How many pixel bytes a band shows.
use Rattle.std.proofs.Common.{◌≡◌, ◌≤◌, ◌<◌, ℕ, ◌+◌, ◌-◌}
use Rattle.std.proofs.Common.{length, ap, ◌∙◌, sym, arith, length-append}
use Rattle.mem_versions.specs.Chip.{ChipValue}
use Rattle.ocs_base.specs.declared.beam.Beam.{Beam}
use Rattle.serial_model.proofs.EndLaws.{shown_count}
use Rattle.serial_bands.specs.Run.{RunValue, state_of, beam_at}
use Rattle.serial_bands.specs.BandShown.{bytes_from}
use Rattle.serial_bands.proofs.Ranges.{shown_in_range}
use Rattle.picture_log.specs.declared.log.Log.{Log}
use Rattle.picture_log.specs.Log.{size_to, IsEnding}
use Rattle.picture_log.specs.ShownCount.{shown_before}

-- at the start of a clock
pub shown_at : (run : RunValue) (c : ℕ) → length (state_of run c).shown ≡ shown_before run.script.system (beam_at run c)
shown_at run c = shown_count run.side run.image run.script c

pub shown_here : (run : RunValue) (c : ℕ) (b : Beam) → beam_at run c ≡ b → length (state_of run c).shown ≡ shown_before run.script.system b
shown_here run c b is = shown_at run c ∙ ap (λ x. shown_before run.script.system x) is

-- a range of clocks shows the difference
pub shown_sum : (run : RunValue) (from to : ℕ) → from ≤ to
    → length (state_of run to).shown ≡ length (state_of run from).shown + size_to run from to
shown_sum run from to order =
    let whole : from + (to - from) ≡ to = omega (arith, order) in
    ap (λ n. length (state_of run n).shown) (sym whole)
    ∙ ap length (shown_in_range run from (to - from)) ∙ length-append (state_of run from).shown (bytes_from run from (to - from))

-- so what a band shows is what the run has shown at its end less what it had shown at its begin
pub band_size : (run : RunValue) (from to shown : ℕ) (b : Beam) → from ≤ to → b ≡ beam_at run from → shown ≡ length (state_of run to).shown
    → shown ≡ shown_before run.script.system b + size_to run from to
band_size run from to shown b order place is =
    is ∙ shown_sum run from to order ∙ ap (λ n. n + size_to run from to) (shown_here run from b (sym place))

pub ended_size : (run : RunValue) (to shown : ℕ) (log : Log) (chip : ChipValue) → IsEnding run to log chip
    → shown ≡ length (state_of run to).shown → shown ≡ shown_before run.script.system log.band.beam + size_to run log.band.from to
ended_size run to shown log chip ending is =
    let order : log.band.from ≤ to = (let less : log.band.from < to = ending.kept.order in omega (arith, less)) in
    band_size run log.band.from to shown log.band.beam order ending.kept.place is
