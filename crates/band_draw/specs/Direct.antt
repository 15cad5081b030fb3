-- What a raster that draws its bands itself keeps.
use Rattle.std.specs.Prelude.{◌≤◌, ◌<◌, ◌^◌, ℕ, List, None, map, vec_capacity}
use Rattle.std.specs.List.{All}
use Rattle.std.proofs.Common.{lit<}
use Rattle.std.specs.Global.{Vec}
use Rattle.std.specs.Arc.{arc_value}
use Rattle.serial_model.specs.Side.{SideValue}
use Rattle.serial_bands.specs.Run.{RunOf, run_over}
use Rattle.band_log.specs.declared.job.Job.{Job}
use Rattle.band_log.specs.Right.{IsRightJob}
use Rattle.band_log.specs.Raster.{RasterValue, Outstanding}

-- the band that a job is of: its run, with a side as a value of some type, and its number
pub record BandOf (S : Type 0) : Type 0 where
  pub run : RunOf S
  pub number : ℕ

abbrev pub band_of : {S : Type 0} → Job S → BandOf S
band_of job = record { run = arc_value job.run; number = job.number }

-- and as a raster has it, with what the side does
abbrev pub outstanding_of : {S : Type 0} → (S → SideValue) → BandOf S → Outstanding
outstanding_of seen band = record { run = run_over seen band.run; number = band.number }

-- the bands that are outstanding, and the number of the next
pub record DirectValue (S : Type 0) : Type 0 where
  pub bands : List (BandOf S)
  pub next : ℕ

-- it is bound to no run, and its mark and its tint are 0
abbrev pub seen_of : {S : Type 0} → (S → SideValue) → DirectValue S → RasterValue
seen_of seen d = record {
  outstanding = map (outstanding_of seen) d.bands;
  next = d.next;
  bound = None;
  mark = 0;
  tint = 0;
}

-- each job is right for its own run and number
abbrev pub AreRight : {S : Type 0} → (S → SideValue) → List (Job S) → Type 0
AreRight seen jobs = All (λ job. IsRightJob seen (run_over seen (arc_value job.run)) job.number job) jobs

-- there are places for 16
pub record HasPlaces {S : Type 0} (seen : S → SideValue) (jobs : Vec (Job S)) : Type 0 where
  pub places : 16 ≤ vec_capacity jobs
  pub right : AreRight seen jobs.items

-- and so its tint is a byte
pub zero_is_byte : {S : Type 0} (seen : S → SideValue) (d : DirectValue S) → (seen_of seen d).tint < 2 ^ 8
zero_is_byte seen d = lit< {m = 0} {n = 256} tt
