-- Clocks at which no plane is fetched.
use Rattle.std.proofs.Common.{◌≡◌, ◌<◌, ◌≤◌, ℕ, zero, suc, ◌+◌, ◌-◌, Bool, true, false, not, ◌&&◌, ◌||◌, if◌then◌else◌}
use Rattle.std.proofs.Common.{Option, Some, None, arith, refl, ap, ◌∙◌}
use Rattle.std.proofs.lemmas.Bool.Decides.{nat_tests}
use Rattle.ocs_base.specs.declared.beam.Beam.{Beam}
use Rattle.serial_model.specs.PlaneFetch.{begins_unit, begins_next, begins_first, is_running, is_in_unit, last_unit_at}
use Rattle.serial_model.specs.PlaneFetch.{fetched_plane, fetches_plane, slot_plane, high_resolution}
use Rattle.serial_model.specs.Registers.{Registers}
use Rattle.quiet_clocks.specs.Plan.{unit_on}
use Rattle.serial_model.specs.Beam.{later_beam}
use Rattle.quiet_clocks.proofs.IdleClocks.{none_begins, unit_stays}
use Rattle.bitplane_dma.specs.Quiet.{FetchesNothing}

-- a unit fetches none where the slot's plane is not fetched
not_fetched : (within fetches : Bool) (plane : ℕ) → fetches ≡ false → (if within && fetches then Some plane else None) ≡ None
not_fetched true fetches plane none = ap (λ f. if f then Some plane else None) none
not_fetched false fetches plane none = refl

none_fetched : (h : ℕ) (registers : Registers) (last : Option ℕ) → ((plane : ℕ) → fetches_plane registers plane ≡ false)
    → fetched_plane h registers last ≡ None
none_fetched h registers None none = refl
none_fetched h registers (Some start) none =
    not_fetched (is_in_unit h start) (fetches_plane registers (slot_plane (high_resolution registers) (h - start)))
    (slot_plane (high_resolution registers) (h - start)) (none (slot_plane (high_resolution registers) (h - start)))

pub quiet_off : (k : ℕ) (b : Beam) (registers : Registers) (last : Option ℕ) → ((plane : ℕ) → fetches_plane registers plane ≡ false)
    → FetchesNothing k b registers last
quiet_off k b registers last none = none_fetched (b.h + k) registers (unit_on (suc k) b registers last) none

-- while a unit runs none begins
pub running : (b : Beam) (registers : Registers) (last : Option ℕ) → is_running b.h last ≡ true → begins_unit b registers last ≡ false
running b registers last runs = ap (λ is. not is && (begins_next b.h registers last || begins_first b registers)) runs

-- the unit of this clock goes on to its end
goes_on : (k start : ℕ) (b : Beam) (registers : Registers) (last : Option ℕ) → 0 < b.h → start ≤ b.h → b.h + k < start + 8
    → unit_on 1 b registers last ≡ Some start → unit_on (suc k) b registers last ≡ Some start
unfolding unit_on
goes_on zero start b registers last inner low high is = is
goes_on (suc k) start b registers last inner low high is =
    let runs : is_running (b.h + suc k) (Some start) ≡ true = grind (arith, nat_tests, low, high) in
    ap (λ unit. last_unit_at (later_beam (suc k) b) registers unit) (goes_on k start b registers last inner low (omega (arith, high)) is)
    ∙ none_begins (later_beam (suc k) b) registers (Some start) (omega (arith, inner)) (running (later_beam (suc k) b) registers (Some start) runs)

now_is : (b : Beam) → later_beam 0 b ≡ b
now_is b =
    let e : b.h + 0 ≡ b.h = omega arith in
    ap (λ h. record b { h = h }) e

pub unit_of_one : (b : Beam) (registers : Registers) (last : Option ℕ) → unit_on 1 b registers last ≡ last_unit_at b registers last
unfolding unit_on
unit_of_one b registers last = ap (λ (now : Beam). last_unit_at now registers last) (now_is b)

pub quiet_in_unit : (k start : ℕ) (b : Beam) (registers : Registers) (last : Option ℕ) → last_unit_at b registers last ≡ Some start → 0 < b.h
    → start ≤ b.h → b.h - start + k < 8
    → fetches_plane registers (slot_plane (high_resolution registers) (b.h - start + k)) ≡ false → FetchesNothing k b registers last
quiet_in_unit k start b registers last is inner low high none =
    let slot : b.h + k - start ≡ b.h - start + k = omega (arith, low) in
    let below : b.h + k < start + 8 = omega (arith, low, high) in
    ap (λ unit. fetched_plane (b.h + k) registers unit) (goes_on k start b registers last inner low below (unit_of_one b registers last ∙ is))
    ∙ not_fetched (is_in_unit (b.h + k) start) (fetches_plane registers (slot_plane (high_resolution registers) (b.h + k - start)))
    (slot_plane (high_resolution registers) (b.h + k - start))
    (ap (λ at. fetches_plane registers (slot_plane (high_resolution registers) at)) slot ∙ none)

-- no unit runs
pub rests : (h : ℕ) (registers : Registers) (last : Option ℕ) → is_running h last ≡ false → fetched_plane h registers last ≡ None
rests h registers None none = refl
rests h registers (Some start) none =
    let plane : ℕ = slot_plane (high_resolution registers) (h - start) in
    ap (λ within. if within && fetches_plane registers plane then Some plane else None) none

pub quiet_between : (k n : ℕ) (b : Beam) (registers : Registers) (last : Option ℕ) → 0 < b.h
    → ((j : ℕ) → j < n → begins_unit (later_beam j b) registers last ≡ false) → ((j : ℕ) → j < n → is_running (b.h + j) last ≡ false) → k < n
    → FetchesNothing k b registers last
quiet_between k n b registers last inner none runs below =
    ap (λ unit. fetched_plane (b.h + k) registers unit)
    (unit_stays (suc k) b registers last inner (λ j less. none j (omega (arith, below, less))))
    ∙ rests (b.h + k) registers last (runs k below)
