-- Bands: the ranges of picture steps into which a run is cut. They are numbered from 0.
use Rattle.std.specs.Prelude.{◌≡◌, ◌<◌, ℕ, zero, suc, ◌+◌, ◌%◌, Bool, true, false, ◌==◌, ◌&&◌, ◌||◌, if◌then◌else◌, List, [], ◌∷◌}
use Rattle.ocs_base.specs.declared.beam.Beam.{Beam}
use Rattle.ocs_base.specs.declared.script.At.{At}
use Rattle.serial_model.specs.Beam.{is_line_start, is_field_start}
use Rattle.serial_model.specs.Events.{made_by_act}
use Rattle.serial_model.specs.Made.{is_clx_read}
use Rattle.serial_bands.specs.Run.{RunValue, beam_at}
use Rattle.serial_bands.specs.Clock.{made_at, due_at}

-- a place at which a band begins: a field's start, and that of each line whose number is a multiple of the height
abbrev pub is_band_place : ℕ → Beam → Bool
is_band_place height b = is_field_start b || (is_line_start b && (b.v % height == 0))

-- whether events read CLXDAT
unfoldable pub has_clx_read : List At → Bool
has_clx_read [] = false
has_clx_read (e ∷ events) = is_clx_read (made_by_act e.act) || has_clx_read events

-- whether the access of the clock before read it
abbrev pub has_read_before : RunValue → ℕ → Bool
has_read_before run zero = false
has_read_before run (suc c) = is_clx_read (made_at run c)

-- whether CLXDAT is read between the picture step of the clock before and that of this clock: by the processor in the clock
-- before, or by the script in this one
unfoldable pub has_read_at : RunValue → ℕ → Bool
has_read_at run c = has_clx_read (due_at run c) || has_read_before run c

-- whether a band begins with the picture step of this clock
unfoldable pub begins : RunValue → ℕ → Bool
begins run c = is_band_place run.height (beam_at run c) || has_read_at run c

-- how many bands begin before this clock
unfoldable pub begun : RunValue → ℕ → ℕ
begun run zero = 0
begun run (suc c) = begun run c + (if begins run c then 1 else 0)

-- Band n has the picture steps from `from` up to, not including, `to`: it begins there, no band begins within, and the next
-- begins, or the run ends, at `to`, where a field starts. So no range is empty, and of several reads in one clock
-- the first alone begins a band.
pub record IsBand (run : RunValue) (n from to : ℕ) : Type 0 where
  pub order : from < to
  pub number : begun run from ≡ n
  pub begin : begins run from ≡ true
  pub inner : (c : ℕ) → from < c → c < to → begins run c ≡ false
  pub end : begins run to ≡ true
  pub running : (c : ℕ) → c < to → (beam_at run c).frame < run.script.frames

-- so many bands, from number n on, have the picture steps from `from` up to `to`
abbrev pub AreBands : RunValue → ℕ → ℕ → ℕ → ℕ → Type 0
AreBands run n zero from to = from ≡ to
AreBands run n (suc count) from to = (middle : ℕ) × IsBand run n from middle × AreBands run (n + 1) count middle to
