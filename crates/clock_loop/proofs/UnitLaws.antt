-- The fetches of the clocks of a unit, one behind the other, and of units one behind the other.
use Rattle.std.proofs.Common.{◌≡◌, ◌≤◌, ◌<◌, ℕ, zero, suc, ◌+◌, true, false, not, ◌-◌, ◌&&◌, ◌||◌, if◌then◌else◌}
use Rattle.std.proofs.Common.{Option, Some, None, arith, refl, ap, ◌∙◌, sym}
use Rattle.std.proofs.lemmas.Bool.Decides.{nat_tests}
use Rattle.ocs_base.specs.declared.beam.Beam.{Beam}
use Rattle.serial_model.specs.PlaneFetch.{begins_next, begins_first, is_running, last_unit_at, fetched_plane, fetches_plane, slot_plane, high_resolution}
use Rattle.serial_model.specs.PlaneFetch.{ask_for_plane, plane_ask, move_planes, move_if_fetched}
use Rattle.serial_model.specs.Registers.{Registers}
use Rattle.std.specs.Option.{option_map}
use Rattle.bitplane_dma.specs.Quiet.{IsUnitAt}
use Rattle.serial_model.specs.Beam.{later_beam}
use Rattle.quiet_clocks.specs.FetchClocks.{Fetching, fetching_after, fetching_on, ask_of_fetching}
use Rattle.quiet_clocks.proofs.IdleClocks.{none_begins}
use Rattle.chip_set.specs.Chips.{WorkingChips}
use Rattle.chip_set.specs.Quiet.{fetching_in, with_fetching}
use Rattle.picture_log.specs.declared.log.Log.{Log}
use Rattle.machine.specs.declared.machine.Machine.{Machine}
use Rattle.clock_loop.specs.code.Fetches.{with_fetch, with_fetches, clocks_of_planes}

-- ---- the clocks of a unit

-- a unit goes on to its end
goes_on : (b : Beam) (registers : Registers) (start : ℕ) → 0 < b.h → start ≤ b.h → b.h < start + 8 → last_unit_at b registers (Some start) ≡ Some start
goes_on b registers start inner low high =
    let runs : is_running b.h (Some start) ≡ true = grind (arith, nat_tests, low, high) in
    none_begins b registers (Some start) inner (ap (λ is. not is && (begins_next b.h registers (Some start) || begins_first b registers)) runs)

-- the unit of the k-th clock from here
abbrev unit_at : ℕ → Beam → Fetching → Option ℕ
unit_at k b f = last_unit_at (later_beam k b) (fetching_on k b f).registers (fetching_on k b f).last

unit_stays_at : (k start : ℕ) (b : Beam) (f : Fetching) → 0 < b.h → start ≤ b.h → b.h + k < start + 8 → (fetching_on k b f).last ≡ Some start
    → unit_at k b f ≡ Some start
unit_stays_at k start b f inner low high is =
    ap (λ last. last_unit_at (later_beam k b) (fetching_on k b f).registers last) is
    ∙ goes_on (later_beam k b) (fetching_on k b f).registers start (omega (arith, inner)) (omega (arith, low)) high

last_of : (k start : ℕ) (b : Beam) (old mid : WorkingChips) → mid ≡ with_fetching (fetching_on k b (fetching_in old)) old → mid.last ≡ Some start
    → (fetching_on k b (fetching_in old)).last ≡ Some start
last_of k start b old mid is unit = sym (ap (λ (c : WorkingChips). c.last) is) ∙ unit

pub slot_fetched : (k start : ℕ) (b : Beam) (old mid new : WorkingChips) → 0 < b.h → start ≤ b.h → b.h + k < start + 8
    → mid ≡ with_fetching (fetching_on k b (fetching_in old)) old → mid.last ≡ Some start
    → new ≡ record mid { registers = move_planes (b.h + k) (Some start) mid.registers }
    → new ≡ with_fetching (fetching_on (k + 1) b (fetching_in old)) old
unfolding fetching_on
slot_fetched k start b old mid new inner low high is unit moves =
    let f : Fetching = fetching_in old in
    let more : suc k ≡ k + 1 = omega arith in
    let last : (fetching_on k b f).last ≡ Some start = last_of k start b old mid is unit in
    moves
    ∙ ap (λ (c : WorkingChips). record c { registers = move_planes (b.h + k) (Some start) c.registers }) is
    ∙ ap (λ unit. record old { registers = move_planes (b.h + k) (Some start) (fetching_on k b f).registers; last = unit }) last
    ∙ sym (ap (λ unit. record old { registers = move_planes (b.h + k) unit (fetching_on k b f).registers; last = unit })
    (unit_stays_at k start b f inner low high last))
    ∙ ap (λ n. with_fetching (fetching_on n b f) old) more

pub slot_noted : (k start t : ℕ) (b : Beam) (old mid : WorkingChips) (log before noted : Log) → 0 < b.h → start ≤ b.h → b.h + k < start + 8
    → mid ≡ with_fetching (fetching_on k b (fetching_in old)) old → mid.last ≡ Some start → before ≡ with_fetches k b t (fetching_in old) log
    → noted ≡ with_fetch (t + k) (plane_ask (b.h + k) mid.registers (Some start)) before
    → noted ≡ with_fetches (k + 1) b t (fetching_in old) log
unfolding with_fetches
slot_noted k start t b old mid log before noted inner low high is unit was notes =
    let f : Fetching = fetching_in old in
    let more : suc k ≡ k + 1 = omega arith in
    let last : (fetching_on k b f).last ≡ Some start = last_of k start b old mid is unit in
    notes
    ∙ ap (λ (c : WorkingChips). with_fetch (t + k) (plane_ask (b.h + k) c.registers (Some start)) before) is
    ∙ ap (λ l. with_fetch (t + k) (plane_ask (b.h + k) (fetching_on k b f).registers (Some start)) l) was
    ∙ sym (ap (λ unit. with_fetch (t + k) (plane_ask (b.h + k) (fetching_on k b f).registers unit) (with_fetches k b t f log))
    (unit_stays_at k start b f inner low high last))
    ∙ ap (λ n. with_fetches n b t f log) more

-- ---- a unit that has begun with the first of some clocks may as well have begun before

abbrev with_unit : Option ℕ → Fetching → Fetching
with_unit last f = record f { last = last }

now_is : (b : Beam) → later_beam 0 b ≡ b
now_is b =
    let e : b.h + 0 ≡ b.h = omega arith in
    ap (λ h. record b { h = h }) e

first_of : (start : ℕ) (b : Beam) (f : Fetching) → 0 < b.h → start ≤ b.h → b.h < start + 8 → last_unit_at b f.registers f.last ≡ Some start
    → last_unit_at (later_beam 0 b) f.registers (Some start) ≡ last_unit_at (later_beam 0 b) f.registers f.last
first_of start b f inner low high is =
    goes_on (later_beam 0 b) f.registers start (omega (arith, inner)) (omega (arith, low)) (omega (arith, high))
    ∙ sym (ap (λ (at : Beam). last_unit_at at f.registers f.last) (now_is b) ∙ is)

fetched_after : ℕ → Registers → Option ℕ → Fetching
fetched_after h registers unit = record { registers = move_planes h unit registers; last = unit }

begun_before : (n start : ℕ) (b : Beam) (f : Fetching) → 0 < b.h → start ≤ b.h → b.h < start + 8 → last_unit_at b f.registers f.last ≡ Some start
    → fetching_on (suc n) b (with_unit (Some start) f) ≡ fetching_on (suc n) b f
unfolding fetching_on fetched_after
begun_before zero start b f inner low high is = ap (λ unit. fetched_after (b.h + 0) f.registers unit) (first_of start b f inner low high is)
begun_before (suc n) start b f inner low high is =
    ap (λ (g : Fetching). fetching_after (later_beam (suc n) b) g) (begun_before n start b f inner low high is)

noted_before : (n start t : ℕ) (b : Beam) (f : Fetching) (log : Log) → 0 < b.h → start ≤ b.h → b.h < start + 8
    → last_unit_at b f.registers f.last ≡ Some start
    → with_fetches (suc n) b t (with_unit (Some start) f) log ≡ with_fetches (suc n) b t f log
unfolding with_fetches fetching_on
noted_before zero start t b f log inner low high is =
    ap (λ unit. with_fetch (t + 0) (plane_ask (b.h + 0) f.registers unit) log) (first_of start b f inner low high is)
noted_before (suc n) start t b f log inner low high is =
    let g : Fetching = with_unit (Some start) f in
    ap (λ (x : Fetching). with_fetch (t + suc n) (ask_of_fetching (later_beam (suc n) b) x) (with_fetches (suc n) b t g log))
    (begun_before n start b f inner low high is)
    ∙ ap (λ l. with_fetch (t + suc n) (ask_of_fetching (later_beam (suc n) b) (fetching_on (suc n) b f)) l)
    (noted_before n start t b f log inner low high is)

-- the unit of the first clock
unit_is : (start h : ℕ) (b : Beam) (old mid : WorkingChips) → mid ≡ record old { last = last_unit_at b old.registers old.last }
    → IsUnitAt start h mid.last → last_unit_at b old.registers old.last ≡ Some start
unit_is start h b old mid begins unit = sym (ap (λ (c : WorkingChips). c.last) begins) ∙ unit.began

pub unit_fetched : {S : Type 0} (n start : ℕ) (m : Machine S) (mid new : WorkingChips) → 0 < m.beam.h → 0 < n
    → mid ≡ record m.chips { last = last_unit_at m.beam m.chips.registers m.chips.last } → IsUnitAt start m.beam.h mid.last
    → new ≡ with_fetching (fetching_on n m.beam (fetching_in mid)) mid
    → record m { t = m.t + n; beam = record m.beam { h = m.beam.h + n }; chips = new } ≡ clocks_of_planes n m
unit_fetched zero start m mid new inner some begins unit moves = absurd (omega (arith, some))
unit_fetched (suc n) start m mid new inner some begins unit moves =
    let f : Fetching = fetching_in m.chips in
    let is : last_unit_at m.beam m.chips.registers m.chips.last ≡ Some start = unit_is start m.beam.h m.beam m.chips mid begins unit in
    ap (λ (c : WorkingChips). record m { t = m.t + suc n; beam = record m.beam { h = m.beam.h + suc n }; chips = c }) (
    moves
    ∙ ap (λ (c : WorkingChips). with_fetching (fetching_on (suc n) m.beam (fetching_in c)) c) begins
    ∙ ap (λ last. with_fetching (fetching_on (suc n) m.beam (with_unit last f)) m.chips) is
    ∙ ap (λ (g : Fetching). with_fetching g m.chips) (begun_before n start m.beam f inner unit.low unit.high is))

pub unit_noted : {S : Type 0} (n start : ℕ) (m : Machine S) (mid : WorkingChips) (log new : Log) → 0 < m.beam.h → 0 < n
    → mid ≡ record m.chips { last = last_unit_at m.beam m.chips.registers m.chips.last } → IsUnitAt start m.beam.h mid.last
    → new ≡ with_fetches n m.beam m.t (fetching_in mid) log → new ≡ with_fetches n m.beam m.t (fetching_in m.chips) log
unit_noted zero start m mid log new inner some begins unit notes = absurd (omega (arith, some))
unit_noted (suc n) start m mid log new inner some begins unit notes =
    let f : Fetching = fetching_in m.chips in
    let is : last_unit_at m.beam m.chips.registers m.chips.last ≡ Some start = unit_is start m.beam.h m.beam m.chips mid begins unit in
    notes
    ∙ ap (λ (c : WorkingChips). with_fetches (suc n) m.beam m.t (fetching_in c) log) begins
    ∙ ap (λ last. with_fetches (suc n) m.beam m.t (with_unit last f) log) is
    ∙ noted_before n start m.t m.beam f log inner unit.low unit.high is

-- ---- a clock at which no unit runs

rests : (h : ℕ) (registers : Registers) (last : Option ℕ) → is_running h last ≡ false → fetched_plane h registers last ≡ None
rests h registers None none = refl
rests h registers (Some start) none =
    let plane : ℕ = slot_plane (high_resolution registers) (h - start) in
    ap (λ within. if within && fetches_plane registers plane then Some plane else None) none

rests_now : (m : Beam) (registers : Registers) (last : Option ℕ) → is_running m.h (last_unit_at m registers last) ≡ false
    → fetched_plane (m.h + 0) registers (last_unit_at (later_beam 0 m) registers last) ≡ None
rests_now m registers last none =
    ap (λ (b : Beam). fetched_plane b.h registers (last_unit_at b registers last)) (now_is m)
    ∙ rests m.h registers (last_unit_at m registers last) none

runs_not : (b : Beam) (old mid : WorkingChips) → mid ≡ record old { last = last_unit_at b old.registers old.last }
    → is_running b.h mid.last ≡ false → is_running b.h (last_unit_at b old.registers old.last) ≡ false
runs_not b old mid begins none = sym (ap (λ (c : WorkingChips). is_running b.h c.last) begins) ∙ none

pub nothing_fetched : {S : Type 0} (m : Machine S) (mid : WorkingChips)
    → mid ≡ record m.chips { last = last_unit_at m.beam m.chips.registers m.chips.last } → is_running m.beam.h mid.last ≡ false
    → record m { t = m.t + 1; beam = record m.beam { h = m.beam.h + 1 }; chips = mid } ≡ clocks_of_planes 1 m
unfolding fetching_on
nothing_fetched m mid begins none =
    let registers : Registers = m.chips.registers in
    let unit : Option ℕ = last_unit_at (later_beam 0 m.beam) registers m.chips.last in
    ap (λ (c : WorkingChips). record m { t = m.t + 1; beam = record m.beam { h = m.beam.h + 1 }; chips = c }) (
    begins
    ∙ sym (ap (λ (b : Beam). record m.chips { last = last_unit_at b registers m.chips.last }) (now_is m.beam))
    ∙ sym (ap (λ found. record m.chips { registers = move_if_fetched (m.beam.h + 0) unit found registers; last = unit })
    (rests_now m.beam registers m.chips.last (runs_not m.beam m.chips mid begins none))))

pub nothing_noted : {S : Type 0} (m : Machine S) (mid : WorkingChips) (log : Log)
    → mid ≡ record m.chips { last = last_unit_at m.beam m.chips.registers m.chips.last } → is_running m.beam.h mid.last ≡ false
    → log ≡ with_fetches 1 m.beam m.t (fetching_in m.chips) log
unfolding with_fetches fetching_on
nothing_noted m mid log begins none =
    let registers : Registers = m.chips.registers in
    sym (ap (λ found. with_fetch (m.t + 0) (option_map (λ plane. ask_for_plane registers plane) found) log)
    (rests_now m.beam registers m.chips.last (runs_not m.beam m.chips mid begins none)))

-- ---- units one behind the other

later_still : (m n : ℕ) (b : Beam) → later_beam n (later_beam m b) ≡ later_beam (m + n) b
later_still m n b =
    let e : b.h + m + n ≡ b.h + (m + n) = omega arith in
    ap (λ h. record b { h = h }) e

on_then : (m n : ℕ) (b : Beam) (f : Fetching) → fetching_on n (later_beam m b) (fetching_on m b f) ≡ fetching_on (m + n) b f
unfolding fetching_on
on_then m zero b f =
    let e : m ≡ m + 0 = omega arith in
    ap (λ k. fetching_on k b f) e
on_then m (suc n) b f =
    let e : suc (m + n) ≡ m + suc n = omega arith in
    ap (λ (g : Fetching). fetching_after (later_beam n (later_beam m b)) g) (on_then m n b f)
    ∙ ap (λ (at : Beam). fetching_after at (fetching_on (m + n) b f)) (later_still m n b)
    ∙ ap (λ k. fetching_on k b f) e

noted_then : (m n t : ℕ) (b : Beam) (f : Fetching) (log : Log)
    → with_fetches n (later_beam m b) (t + m) (fetching_on m b f) (with_fetches m b t f log) ≡ with_fetches (m + n) b t f log
unfolding with_fetches
noted_then m zero t b f log =
    let e : m ≡ m + 0 = omega arith in
    ap (λ k. with_fetches k b t f log) e
noted_then m (suc n) t b f log =
    let e : suc (m + n) ≡ m + suc n = omega arith in
    let c : t + m + n ≡ t + (m + n) = omega arith in
    let first : Fetching = fetching_on m b f in
    ap (λ l. with_fetch (t + m + n) (ask_of_fetching (later_beam n (later_beam m b)) (fetching_on n (later_beam m b) first)) l) (noted_then m n t b f log)
    ∙ ap (λ (g : Fetching). with_fetch (t + m + n) (ask_of_fetching (later_beam n (later_beam m b)) g) (with_fetches (m + n) b t f log)) (on_then m n b f)
    ∙ ap (λ (at : Beam). with_fetch (t + m + n) (ask_of_fetching at (fetching_on (m + n) b f)) (with_fetches (m + n) b t f log)) (later_still m n b)
    ∙ ap (λ now. with_fetch now (ask_of_fetching (later_beam (m + n) b) (fetching_on (m + n) b f)) (with_fetches (m + n) b t f log)) c
    ∙ ap (λ k. with_fetches k b t f log) e

pub units_then : {S : Type 0} (m n : ℕ) (old mid new : Machine S) → mid ≡ clocks_of_planes m old → new ≡ clocks_of_planes n mid
    → new ≡ clocks_of_planes (m + n) old
units_then m n old mid new was is =
    let f : Fetching = fetching_in old.chips in
    let t : old.t + m + n ≡ old.t + (m + n) = omega arith in
    is
    ∙ ap (λ now. clocks_of_planes n now) was
    ∙ ap (λ (g : Fetching). record old { t = old.t + m + n; beam = later_beam n (later_beam m old.beam); chips = with_fetching g old.chips })
    (on_then m n old.beam f)
    ∙ ap (λ (b : Beam). record old { t = old.t + m + n; beam = b; chips = with_fetching (fetching_on (m + n) old.beam f) old.chips })
    (later_still m n old.beam)
    ∙ ap (λ now. record old { t = now; beam = later_beam (m + n) old.beam; chips = with_fetching (fetching_on (m + n) old.beam f) old.chips }) t

pub units_noted : {S : Type 0} (m n : ℕ) (old mid : Machine S) (log before noted : Log) → mid ≡ clocks_of_planes m old
    → before ≡ with_fetches m old.beam old.t (fetching_in old.chips) log
    → noted ≡ with_fetches n mid.beam mid.t (fetching_in mid.chips) before
    → noted ≡ with_fetches (m + n) old.beam old.t (fetching_in old.chips) log
units_noted m n old mid log before noted is was notes =
    let f : Fetching = fetching_in old.chips in
    notes
    ∙ ap (λ now. with_fetches n now.beam now.t (fetching_in now.chips) before) is
    ∙ ap (λ l. with_fetches n (later_beam m old.beam) (old.t + m) (fetching_on m old.beam f) l) was
    ∙ noted_then m n old.t old.beam f log
