-- Where the last unit began, with what a clock adds.
use Rattle.std.proofs.Common.{◌≡◌, ◌≢◌, ◌<◌, ◌≤◌, ℕ, ◌+◌, ◌-◌, ◌%◌, nat_lt, Bool, true, false, not, ◌&&◌, ◌||◌, if◌then◌else◌}
use Rattle.std.proofs.Common.{Option, Some, None, arith, refl, ap, ◌∙◌, sym, subst}
use Rattle.std.proofs.lemmas.Bool.Decides.{nat_tests}
use Rattle.ocs_base.specs.declared.beam.Beam.{Beam}
use Rattle.serial_model.specs.PlaneFetch.{begins_unit, is_running, last_unit_at, fetched_plane, plane_ask, ask_for_plane}
use Rattle.serial_model.specs.PlaneFetch.{move_planes, move_if_fetched, IsUnitStart, IsLastUnit}
use Rattle.serial_model.specs.Registers.{Registers}
use Rattle.std.specs.Option.{option_map}
use Rattle.serial_model.proofs.FetchLaws.{last_unit_at-else, begins_unit-is}
use Rattle.quiet_clocks.proofs.IdleClocks.{none_begins}
use Rattle.bitplane_dma.specs.Rules.{rules_of, begins_by, follows_by, is_first}
use Rattle.bitplane_dma.specs.declared.rules.FetchRules.{FetchRules}
use Rattle.bitplane_dma.proofs.Quiet.{running, rests}
use Rattle.bitplane_dma.proofs.RuleLaws.{begins_as}

-- ---- before clock 18 (hexadecimal)

none_early : (b : Beam) (registers : Registers) (last : Option ℕ) → b.h < 24 → IsLastUnit last → begins_unit b registers last ≡ false
none_early b registers None early at = grind (arith, nat_tests, early)
none_early b registers (Some start) early at = grind (arith, nat_tests, early, at.low)

pub last_early : (b : Beam) (registers : Registers) (last : Option ℕ) → b.h ≢ 0 → b.h < 24 → IsLastUnit last → last_unit_at b registers last ≡ last
last_early b registers last off early at = none_begins b registers last (omega arith) (none_early b registers last early at)

rests_early : (h : ℕ) (last : Option ℕ) → h < 24 → IsLastUnit last → is_running h last ≡ false
rests_early h None early at = refl
rests_early h (Some start) early at = grind (arith, nat_tests, early, at.low)

none_fetched : (h : ℕ) (registers : Registers) (last : Option ℕ) → h < 24 → IsLastUnit last → fetched_plane h registers last ≡ None
none_fetched h registers last early at = rests h registers last (rests_early h last early at)

pub asks_none_early : (h : ℕ) (registers : Registers) (last : Option ℕ) → h < 24 → IsLastUnit last → None ≡ plane_ask h registers last
asks_none_early h registers last early at =
    sym (ap (λ (f : Option ℕ). option_map (λ plane. ask_for_plane registers plane) f) (none_fetched h registers last early at))

pub stays_early : (h : ℕ) (registers : Registers) (last : Option ℕ) → h < 24 → IsLastUnit last → registers ≡ move_planes h last registers
stays_early h registers last early at =
    sym (ap (λ (f : Option ℕ). move_if_fetched h last f registers) (none_fetched h registers last early at))

-- ---- while it runs

pub last_runs : (b : Beam) (registers : Registers) (last : Option ℕ) → 0 < b.h → is_running b.h last ≡ true → last ≡ last_unit_at b registers last
last_runs b registers last inner runs = sym (none_begins b registers last inner (running b registers last runs))

-- ---- by what decides the fetches of the line

begins_is : (begins : Bool) (b : Beam) (registers : Registers) (rules : FetchRules) (last : Option ℕ) → rules ≡ rules_of b.v registers
    → begins_by rules b.h last ≡ begins → begins_unit b registers last ≡ begins
begins_is begins b registers rules last same is =
    sym (begins_as b registers last) ∙ ap (λ (r : FetchRules). begins_by r b.h last) (sym same) ∙ is

pub last_begun : (b : Beam) (registers : Registers) (rules : FetchRules) (last : Option ℕ) → 0 < b.h → rules ≡ rules_of b.v registers
    → begins_by rules b.h last ≡ true → Some b.h ≡ last_unit_at b registers last
last_begun b registers rules last inner same is =
    sym (last_unit_at-else b registers last (λ zero. absurd (omega (arith, inner, zero)))
    ∙ ap (λ begins. if begins then Some b.h else last) (begins_is true b registers rules last same is))

pub last_stays : (b : Beam) (registers : Registers) (rules : FetchRules) (last : Option ℕ) → 0 < b.h → rules ≡ rules_of b.v registers
    → begins_by rules b.h last ≡ false → last ≡ last_unit_at b registers last
last_stays b registers rules last inner same is = sym (none_begins b registers last inner (begins_is false b registers rules last same is))

pub start_begun : (b : Beam) (registers : Registers) (rules : FetchRules) (last : Option ℕ) → IsLastUnit last → rules ≡ rules_of b.v registers
    → begins_by rules b.h last ≡ true → IsUnitStart b.h
start_begun b registers rules last at same is = begins_unit-is b registers last at (begins_is true b registers rules last same is)

-- ---- by the slot at which the last unit is, in 16 bits

abbrev pub slot_at : ℕ → ℕ → ℕ
slot_at h start = (h + (65536 - start)) % 65536

pub runs_in_slot : (h start : ℕ) → h < 65536 → IsUnitStart start → slot_at h start < 8 → is_running h (Some start) ≡ true
runs_in_slot h start fits at low =
    let from : start ≤ h = omega (arith, at.high) in
    let below : h < start + 8 = omega (arith, at.high) in
    grind (arith, nat_tests, from, below)

rests_behind : (h start : ℕ) → h < 65536 → IsUnitStart start → 8 ≤ slot_at h start → is_running h (Some start) ≡ false
rests_behind h start fits at behind =
    let apart : start ≤ h → start + 8 ≤ h = λ low. omega (arith, at.high, low) in
    grind (arith, nat_tests, apart)

pub begun_in_slot : (rules : FetchRules) (h start : ℕ) → h < 65536 → IsUnitStart start → slot_at h start ≡ 8 → nat_lt start rules.end ≡ true
    → begins_by rules h (Some start) ≡ true
begun_in_slot rules h start fits at is next =
    let behind : h ≡ start + 8 = omega (arith, at.high) in
    grind (arith, nat_tests, behind, next)

-- behind a unit that has no next one only the line's first may begin
first_behind : (rules : FetchRules) (h start : ℕ) → h < 65536 → IsUnitStart start → 8 ≤ slot_at h start
    → (slot_at h start ≡ 8 → nat_lt start rules.end ≡ false) → begins_by rules h (Some start) ≡ is_first h rules.first
first_behind rules h start fits at behind ends =
    let rest : is_running h (Some start) ≡ false = rests_behind h start fits at behind in
    let slot : h ≡ start + 8 → slot_at h start ≡ 8 = λ is. omega (arith, at.high, is) in
    let none : follows_by rules h (Some start) ≡ false = grind (arith, nat_tests, slot, ends) in
    ap (λ runs. not runs && (follows_by rules h (Some start) || is_first h rules.first)) rest
    ∙ ap (λ follows. follows || is_first h rules.first) none

pub first_behind_some : (rules : FetchRules) (h start : ℕ) (last : Option ℕ) → h < 65536 → IsLastUnit last → last ≡ Some start → 8 ≤ slot_at h start
    → (slot_at h start ≡ 8 → nat_lt start rules.end ≡ false) → begins_by rules h last ≡ is_first h rules.first
first_behind_some rules h start last fits at is behind ends =
    ap (λ (unit : Option ℕ). begins_by rules h unit) is ∙ first_behind rules h start fits (subst IsLastUnit is at) behind ends

pub first_behind_none : (rules : FetchRules) (h : ℕ) (last : Option ℕ) → last ≡ None → begins_by rules h last ≡ is_first h rules.first
first_behind_none rules h last is = ap (λ (unit : Option ℕ). begins_by rules h unit) is
