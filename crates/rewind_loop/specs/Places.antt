-- Going to clocks of a run, by clocks alone: which checkpoints are kept, and from where each clock is reached.
use Rattle.std.specs.Prelude.{ℕ, zero, suc, ◌+◌, ◌-◌, ◌%◌, min, Bool, false, ◌==◌, ◌&&◌, not, nat_lt, nat_le, if◌then◌else◌}
use Rattle.std.specs.Prelude.{Option, None, Some, List, [], ◌∷◌, ◌++◌, length, drop, slice_get}
use Rattle.std.specs.List.{filter}
use Rattle.ocs_base.specs.declared.beam.Beam.{Beam}
use Rattle.serial_model.specs.Beam.{is_field_start}
use Rattle.serial_model.specs.State.{State}

-- a place of the beam that begins a frame whose number is a multiple of a number
abbrev pub is_due : ℕ → Beam → Bool
is_due every b = is_field_start b && (b.frame % every == 0)

-- the clocks at which a checkpoint is due, by the states in which they begin
abbrev pub due_in : (ℕ → State) → ℕ → ℕ → Bool
due_in states every c = is_due every (states c).beam

-- the present clock, and the checkpoints' clocks, the oldest first
pub record Place : Type 0 where
  pub now : ℕ
  pub ring : List ℕ

-- at first: clock 0 with an empty ring
abbrev pub first_place : Place
first_place = record { now = 0; ring = [] }

abbrev pub is_that : ℕ → Option ℕ → Bool
is_that c None = false
is_that c (Some d) = d == c

abbrev pub last_of : List ℕ → Option ℕ
last_of ring = slice_get ring (length ring - 1)

-- one checkpoint more, of which `keep` are kept
abbrev pub with_clock : ℕ → ℕ → List ℕ → List ℕ
with_clock keep c ring = let all = ring ++ c ∷ [] in drop (length all - keep) all

-- the ring once a clock is the present one: where one is due and the last is not of this clock, it is pushed
abbrev pub visited : (ℕ → Bool) → ℕ → ℕ → List ℕ → List ℕ
visited due keep c ring = if due c && not (is_that c (last_of ring)) then with_clock keep c ring else ring

-- and once so many clocks, from one on, were the present one
abbrev pub visited_from : (ℕ → Bool) → ℕ → ℕ → ℕ → List ℕ → List ℕ
visited_from due keep from zero ring = ring
visited_from due keep from (suc count) ring = visited due keep (from + count) (visited_from due keep from count ring)

-- the checkpoints' clocks that are not above one
abbrev pub clocks_to : ℕ → List ℕ → List ℕ
clocks_to c ring = filter (λ d. not (nat_lt c d)) ring

-- Going to a clock begins at the present clock where that is not above it; else at the best of the ring, which is cut; else at clock 0, at reset,
-- with an empty ring.
abbrev pub back_to : ℕ → List ℕ → Option ℕ → Place
back_to c ring None = first_place
back_to c ring (Some best) = record { now = best; ring = clocks_to c ring }

abbrev pub reached_from : ℕ → Place → Place
reached_from c p = if nat_le p.now c then p else back_to c p.ring (last_of (clocks_to c p.ring))

-- from there the machine runs to the clock, or to its last state
abbrev pub run_to : (ℕ → Bool) → ℕ → ℕ → ℕ → Place → Place
run_to due keep end c p =
    let to = min c end in record { now = to; ring = visited_from due keep p.now (to - p.now + 1) p.ring }

abbrev pub gone_to : (ℕ → Bool) → ℕ → ℕ → ℕ → Place → Place
gone_to due keep end c p = run_to due keep end c (reached_from c p)

-- a clock that was gone to, and from where
pub record Arrival : Type 0 where
  pub at : ℕ
  pub from : ℕ

abbrev pub arrival_at : ℕ → ℕ → Place → Arrival
arrival_at end c p = record { at = min c end; from = (reached_from c p).now }

-- those of clocks in the order in which they are asked for
abbrev pub arrivals : (ℕ → Bool) → ℕ → ℕ → List ℕ → Place → List Arrival
arrivals due keep end [] p = []
arrivals due keep end (c ∷ clocks) p = arrival_at end c p ∷ arrivals due keep end clocks (gone_to due keep end c p)
