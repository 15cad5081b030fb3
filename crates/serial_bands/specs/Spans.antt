-- Clocks of a line one behind the other, at which nothing touches the picture but fetches of bitplanes, drawn at once.
use Rattle.std.specs.Prelude.{◌≡◌, ◌<◌, ◌≤◌, ℕ, zero, suc, ◌+◌, ◌-◌, List, [], ◌∷◌, ◌++◌, bit_or, Option, Some, None}
use Rattle.ocs_base.specs.declared.addr.Addr.{Addr}
use Rattle.ocs_base.specs.declared.beam.Clock.{Clock}
use Rattle.serial_model.specs.declared.picture.Denise.{Denise}
use Rattle.serial_model.specs.declared.picture.Touch.{Touch}
use Rattle.serial_model.specs.declared.picture.Touch.TheVariants as T
use Rattle.serial_model.specs.Spans.{after_shows, shown_bytes, shown_clx}
use Rattle.serial_bands.specs.declared.event.Event.{Event}
use Rattle.serial_bands.specs.declared.event.Event.TheVariants as E
use Rattle.serial_bands.specs.Run.{RunValue, beam_at}
use Rattle.serial_bands.specs.Clock.{sets_at, bus_touch_at}
use Rattle.serial_bands.specs.RightJob.{events_from}
use Rattle.serial_bands.specs.DrawnTo.{IsDrawnTo, with_access}

-- no touch, or the fetch of a bitplane
abbrev pub IsPlaneIfAny : Option Touch → Type 0
IsPlaneIfAny None = Unit {0}
IsPlaneIfAny (Some (T.Set reg word)) = ⊥
IsPlaneIfAny (Some (T.Plane plane at)) = plane ≤ 6
IsPlaneIfAny (Some (T.Sprite sprite second at)) = ⊥

-- at a clock nothing touches the picture but the fetch of a bitplane
pub record IsQuiet (run : RunValue) (c : ℕ) : Type 0 where
  pub script : sets_at run c ≡ []
  pub access : IsPlaneIfAny (bus_touch_at run c)

-- from clock c up to, not including, clock m
abbrev pub AreQuiet : RunValue → ℕ → ℕ → Type 0
AreQuiet run c m = (k : ℕ) → c ≤ k → k < m → IsQuiet run k

-- a picture state with the words that are fetched at so many clocks
abbrev pub fetched : RunValue → ℕ → ℕ → Denise → Denise
fetched run c zero p = p
fetched run c (suc n) p = with_access run (c + n) (fetched run c n p)

-- the beam stays on the line for so many clocks
abbrev pub IsOnLine : RunValue → ℕ → ℕ → Type 0
IsOnLine run c n = (k : ℕ) → k ≤ n → ((beam_at run (c + k)).v ≡ (beam_at run c).v) × ((beam_at run (c + k)).h ≡ (beam_at run c).h + k)

-- Such clocks are drawn by their picture steps one behind the other, from a picture state to which all their fetches have come
-- before.
abbrev pub DrawingGoesOnQuietly : Type 0
DrawingGoesOnQuietly = (run : RunValue) (from to c n : ℕ) (kept : Denise) (events : List Event) (bytes : List ℕ) (clx : ℕ) →
    IsDrawnTo run from to c kept events bytes clx → c + n < to → AreQuiet run c (c + n) → IsOnLine run c n →
    (let b = beam_at run c in let system = run.script.system in let p = fetched run c n kept in
    IsDrawnTo run from to (c + n) (after_shows system b.v b.h n p) (events_from run (c + n) (to - (c + n) - 1))
    (bytes ++ shown_bytes system b.v b.h n p) (bit_or clx (shown_clx system b.v b.h n p)))

-- how the first of the events that are left speaks of the clocks: it touches none before this one
abbrev pub IsBehind : ℕ → List Event → Type 0
IsBehind c [] = Unit {0}
IsBehind c (E.Set at reg word ∷ events) = c + 1 ≤ at.0
IsBehind c (E.Plane at plane addr ∷ events) = c ≤ at.0
IsBehind c (E.Sprite at sprite second addr ∷ events) = c ≤ at.0

-- nothing touches the picture: at a clock, and from clock c up to, not including, clock m
pub record IsUntouched (run : RunValue) (c : ℕ) : Type 0 where
  pub script : sets_at run c ≡ []
  pub access : bus_touch_at run c ≡ None

abbrev pub AreUntouched : RunValue → ℕ → ℕ → Type 0
AreUntouched run c m = (k : ℕ) → c ≤ k → k < m → IsUntouched run k

-- so up to that one nothing happens, and the same events are left there
abbrev pub UntouchedBeforeFirst : Type 0
UntouchedBeforeFirst = (run : RunValue) (to c n : ℕ) (events : List Event) → events ≡ events_from run c (to - c - 1) →
    IsBehind (c + n) events → c + n < to → AreUntouched run c (c + n) × (events ≡ events_from run (c + n) (to - (c + n) - 1))

-- and where the first is the fetch of a bitplane, it is not before the clock, nothing touches the picture before it, and nothing
-- else at its clock, and behind it are the events that are left at the next clock
pub record IsFetchNext (run : RunValue) (to c at : ℕ) (fetch : Touch) (others : List Event) : Type 0 where
  pub order : c ≤ at
  pub before : AreUntouched run c at
  pub script : sets_at run at ≡ []
  pub access : bus_touch_at run at ≡ Some fetch
  pub rest : others ≡ events_from run (at + 1) (to - (at + 1) - 1)

abbrev pub FetchIsNext : Type 0
FetchIsNext = (run : RunValue) (to c : ℕ) (at : Clock) (plane : ℕ) (addr : Addr) (others : List Event) →
    E.Plane at plane addr ∷ others ≡ events_from run c (to - c - 1) → at.0 + 1 < to →
    IsFetchNext run to c at.0 (T.Plane plane addr) others
