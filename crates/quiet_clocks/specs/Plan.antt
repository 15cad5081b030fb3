-- The plan of a line: at which of its clocks from the beam's place on which plane is fetched, as the registers are now.
use Rattle.std.specs.Prelude.{◌≡◌, ◌≢◌, ◌<◌, ℕ, zero, suc, ◌+◌, ◌-◌, ◌/◌, Bool, not, ◌&&◌, if◌then◌else◌, List, get_or, Option, Some, None}
use Rattle.std.specs.Option.{option_map}
use Rattle.ocs_base.specs.declared.beam.Beam.{Beam}
use Rattle.priority_ham.specs.PlaneCount.{planes_of}
use Rattle.serial_model.specs.declared.fetch.SpriteKind.{SpriteKind}
use Rattle.serial_model.specs.Bus.{plane_wish, units_now}
use Rattle.serial_model.specs.PlaneFetch.{fetch_start, fetch_end, plane_dma, has_next, is_last_fetch, high_resolution, fetched_plane, last_unit}
use Rattle.serial_model.specs.PlaneFetch.{last_unit_at, ask_for_plane, plane_pointer, move_pointer, modulo_bytes, modulo_word, move_planes, IsLastUnit}
use Rattle.serial_model.specs.Registers.{Registers, kept_word, words_after}
use Rattle.serial_model.specs.SpriteFetch.{move_sprites}
use Rattle.serial_model.specs.State.{Chips}
use Rattle.serial_model.specs.Window.{is_window_line}
use Rattle.quiet_clocks.specs.QuietClocks.{later_units}
use Rattle.serial_model.specs.Beam.{later_beam}

-- a fetch: its plane, and whether the plane's modulo is added to its pointer
pub record Fetch : Type 0 where
  pub plane : ℕ
  pub modulo : Bool

abbrev pub fetch_of : Bool → ℕ → Fetch
fetch_of modulo plane = record { plane = plane; modulo = modulo }

-- the fetch of clock h of a line, where the line's last unit began, by this clock, at `last`
abbrev pub fetch_at : ℕ → Registers → Option ℕ → Option Fetch
fetch_at h registers None = None
fetch_at h registers (Some start) =
    option_map (fetch_of (is_last_fetch (high_resolution registers) (h - start) && not (has_next registers start)))
    (fetched_plane h registers (Some start))

-- where the line's last unit began, so many clocks on
unfoldable pub unit_on : ℕ → Beam → Registers → Option ℕ → Option ℕ
unit_on zero b registers last = last
unit_on (suc k) b registers last = last_unit_at (later_beam k b) registers (unit_on k b registers last)

-- a plan has for each clock of the line its fetch, where there is one, and where the last unit by that clock began
pub record Plan : Type 0 where
  pub fetches : List (Option Fetch)
  pub units : List (Option ℕ)

abbrev pub planned_fetch : Plan → ℕ → Option Fetch
planned_fetch plan h = get_or plan.fetches h None

abbrev pub planned_unit : Plan → ℕ → Option ℕ
planned_unit plan h = get_or plan.units h None

pub record IsPlanned (plan : Plan) (h : ℕ) (registers : Registers) (last : Option ℕ) : Type 0 where
  pub fetch : planned_fetch plan h ≡ fetch_at h registers last
  pub unit : planned_unit plan h ≡ last

-- it is right from a place of the beam on, at whose begin the line's last unit began at `last`, to the line's last clock, which is
-- clock 227 at the latest, while the registers stay as they are
abbrev pub IsPlan : Plan → Beam → Registers → Option ℕ → Type 0
IsPlan plan b registers last = (k : ℕ) → b.h + k < 228 → IsPlanned plan (b.h + k) registers (unit_on (suc k) b registers last)

-- a plan is a plan a clock later
abbrev pub PlanNext : Type 0
PlanNext = (plan : Plan) (b : Beam) (registers : Registers) (last : Option ℕ) → IsPlan plan b registers last →
    IsPlan plan (later_beam 1 b) registers (last_unit_at b registers last)

-- two states of the registers in which line v has the same fetches: what the plan is made by is the same
pub record SameFetches (v : ℕ) (moved registers : Registers) : Type 0 where
  pub start : fetch_start moved ≡ fetch_start registers
  pub end : fetch_end moved ≡ fetch_end registers
  pub dma : plane_dma moved ≡ plane_dma registers
  pub high : high_resolution moved ≡ high_resolution registers
  pub planes : planes_of (kept_word moved 0x100) ≡ planes_of (kept_word registers 0x100)
  pub window :
      is_window_line v (kept_word moved 0x8e) (kept_word moved 0x90)
      ≡ is_window_line v (kept_word registers 0x8e) (kept_word registers 0x90)

-- a plan stays one where these stay the same
abbrev pub PlanKept : Type 0
PlanKept = (plan : Plan) (b : Beam) (moved registers : Registers) (last : Option ℕ) → SameFetches b.v moved registers →
    IsPlan plan b registers last → IsPlan plan b moved last

-- none of DIWSTRT, DIWSTOP, DDFSTRT, DDFSTOP, DMACON and BPLCON0
pub record IsNoFetchRegister (offset : ℕ) : Type 0 where
  pub diwstrt : offset / 2 ≢ 0x47
  pub diwstop : offset / 2 ≢ 0x48
  pub ddfstrt : offset / 2 ≢ 0x49
  pub ddfstop : offset / 2 ≢ 0x4a
  pub dmacon : offset / 2 ≢ 0x4b
  pub bplcon0 : offset / 2 ≢ 0x80

-- a write to another register keeps the fetches
abbrev pub WriteKeepsFetches : Type 0
WriteKeepsFetches = (v : ℕ) (busy : Bool) (registers : Registers) (offset word : ℕ) → IsNoFetchRegister offset →
    SameFetches v (words_after busy registers offset word) registers

-- so does a fetch of a plane
abbrev pub FetchKeepsFetches : Type 0
FetchKeepsFetches = (v h : ℕ) (last : Option ℕ) (registers : Registers) → IsLastUnit last →
    SameFetches v (move_planes h last registers) registers

-- and one of a sprite
abbrev pub SpriteKeepsFetches : Type 0
SpriteKeepsFetches = (v h : ℕ) (kinds : List SpriteKind) (taken : Bool) (registers : Registers) →
    SameFetches v (move_sprites h kinds taken registers) registers

-- what a planned fetch does to the registers
abbrev pub move_fetch : Option Fetch → Registers → Registers
move_fetch None registers = registers
move_fetch (Some fetch) registers =
    move_pointer (plane_pointer fetch.plane) (if fetch.modulo then modulo_bytes (modulo_word registers fetch.plane) else 0) registers

-- what a plan says of the clock at its place: the ask of the planes, the last unit, and what the fetch does to the registers
pub record SaysClock (plan : Plan) (b : Beam) (c : Chips) : Type 0 where
  pub wish : plane_wish b c ≡ option_map (λ (fetch : Fetch). ask_for_plane c.registers fetch.plane) (planned_fetch plan b.h)
  pub unit : last_unit (units_now b c) ≡ planned_unit plan b.h
  pub moves : move_planes b.h (last_unit (units_now b c)) c.registers ≡ move_fetch (planned_fetch plan b.h) c.registers

abbrev pub PlanSays : Type 0
PlanSays = (plan : Plan) (b : Beam) (c : Chips) → b.h < 228 → IsPlan plan b c.registers (last_unit c.units) → SaysClock plan b c

-- what it says of a clock further on, while the registers stay: no plane asks where no fetch is planned, and the last unit
pub record SaysLater (plan : Plan) (b : Beam) (c : Chips) (k : ℕ) : Type 0 where
  pub wish : planned_fetch plan (b.h + k) ≡ None →
      plane_wish (later_beam k b) (record c { units = later_units k b c.registers c.units }) ≡ None
  pub unit : last_unit (later_units (suc k) b c.registers c.units) ≡ planned_unit plan (b.h + k)

abbrev pub PlanSpan : Type 0
PlanSpan = (plan : Plan) (b : Beam) (c : Chips) → IsPlan plan b c.registers (last_unit c.units) → (k : ℕ) → b.h + k < 228 → SaysLater plan b c k
