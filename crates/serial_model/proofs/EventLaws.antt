-- The events that are left when the beam has come to a place.
use Rattle.std.proofs.Common.{◌≡◌, ◌≢◌, ℕ, ◌+◌, ◌<◌, ◌≤◌, Bool, true, false, List, [], ◌∷◌, arith, refl}
use Rattle.std.proofs.lemmas.Bool.Decides.{nat_tests}
use Rattle.ocs_base.specs.Limits.{AreFrom, AreInLimits, time_of}
use Rattle.ocs_base.specs.declared.beam.Beam.{Beam}
use Rattle.ocs_base.specs.declared.script.At.{At}
use Rattle.ocs_base.specs.Systems.{lines}
use Rattle.ocs_base.specs.declared.system.System.{System}
use Rattle.ocs_base.specs.declared.system.System.TheVariants.{Pal, Ntsc}
use Rattle.serial_model.specs.Beam.{place_of, next_place, IsOnScreen}
use Rattle.serial_model.specs.Events.{IsQueue, is_due, due_events}

-- an event is due exactly where its time is the beam's place
due_time : (b : Beam) (e : At) → e.v ≤ 311 → e.h ≤ 226 → b.v < 313 → b.h < 228 → is_due b e ≡ true → time_of e ≡ place_of b
due_time b e v h bv bh is = grind (arith, nat_tests)

time_due : (b : Beam) (e : At) → e.v ≤ 311 → e.h ≤ 226 → b.v < 313 → b.h < 228 → time_of e ≡ place_of b → is_due b e ≡ true
time_due b e v h bv bh is = grind (arith, nat_tests)

not_due : (b : Beam) (e : At) → e.v ≤ 311 → e.h ≤ 226 → b.v < 313 → b.h < 228 → time_of e ≢ place_of b → is_due b e ≡ false
not_due b e v h bv bh other = grind (arith, nat_tests)

not_yet : (b : Beam) (e : At) → e.v ≤ 311 → e.h ≤ 226 → b.v < 313 → b.h < 228 → place_of b ≤ time_of e → is_due b e ≡ false → place_of b + 1 ≤ time_of e
not_yet b e v h bv bh from not = grind (arith, nat_tests)

line_below : (b : Beam) → IsOnScreen b → b.v < 313
line_below b on = grind (arith, nat_tests, on.line)

-- the lines of a short field are fewer than 312 in each system
event_line : (system : System) (e : At) → e.v < lines system false → e.v ≤ 311
event_line Pal e below = omega (arith, below)
event_line Ntsc e below = omega (arith, below)

-- an event that is due: it is the first of those that are due, and no later place has it
pub due_events-more : (b : Beam) (e : At) (events : List At) → is_due b e ≡ true → due_events b (e ∷ events) ≡ e ∷ due_events b events
unfolding due_events
due_events-more b e events is = grind (arith, nat_tests)

pub due_events-later : (system : System) (frames place : ℕ) (b next : Beam) (e : At) (events : List At) → IsQueue system frames place (e ∷ events)
    → IsOnScreen b → IsOnScreen next → is_due b e ≡ true → place_of b < place_of next → due_events next (e ∷ events) ≡ due_events next events
unfolding due_events
due_events-later system frames place b next e events q on on_next is later =
    let line : e.v ≤ 311 = event_line system e q.limits.0.line in
    let same : time_of e ≡ place_of b = due_time b e line q.limits.0.clock (line_below b on) on.clock is in
    let not : is_due next e ≡ false = not_due next e line q.limits.0.clock (line_below next on_next) on_next.clock (omega arith) in
    grind (arith, nat_tests)

-- an event that is not due at a place that it is not before: none of these is due, and all are later
pub due_events-none : (system : System) (frames : ℕ) (b : Beam) (events : List At) → AreFrom (place_of b + 1) events → AreInLimits system frames events
    → IsOnScreen b → due_events b events ≡ []
unfolding due_events
due_events-none system frames b [] from limits on = refl
due_events-none system frames b (e ∷ events) from limits on =
    let line : e.v ≤ 311 = event_line system e limits.0.line in
    let not : is_due b e ≡ false = not_due b e line limits.0.clock (line_below b on) on.clock (omega (arith, from.0)) in
    let rest : due_events b events ≡ [] = due_events-none system frames b events from.1 limits.1 on in
    grind (arith, nat_tests)

pub AreFrom-le : (low high : ℕ) (events : List At) → low ≤ high → AreFrom high events → AreFrom low events
AreFrom-le low high [] le from = tt
AreFrom-le low high (e ∷ events) le from = (omega (arith, from.0), AreFrom-le low high events le from.1)

pub IsQueue-more : (system : System) (frames place : ℕ) (e : At) (events : List At) → IsQueue system frames place (e ∷ events)
    → IsQueue system frames place events
IsQueue-more system frames place e events q = record { from = q.from.1; order = q.order.1; limits = q.limits.1 }

pub IsQueue-end : (system : System) (frames : ℕ) (b : Beam) (e : At) (events : List At) → IsQueue system frames (place_of b) (e ∷ events) → IsOnScreen b
    → is_due b e ≡ false → IsQueue system frames (place_of b + 1) (e ∷ events)
IsQueue-end system frames b e events q on not =
    let line : e.v ≤ 311 = event_line system e q.limits.0.line in
    let later : place_of b + 1 ≤ time_of e = not_yet b e line q.limits.0.clock (line_below b on) on.clock q.from.0 not in
    record { from = (later, AreFrom-le _ _ events later q.order.0); order = q.order; limits = q.limits }

pub IsQueue-empty : (system : System) (frames place : ℕ) → IsQueue system frames place []
IsQueue-empty system frames place = record { from = tt; order = tt; limits = tt }

next_time : (system : System) (lace : Bool) (b : Beam) (e : At) → IsOnScreen b → e.v < lines system false → e.h ≤ 226 → place_of b + 1 ≤ time_of e
    → place_of (next_place system lace b) ≤ time_of e
next_time Pal lace b e on v h from = grind (arith, nat_tests, on.line, on.clock)
next_time Ntsc lace b e on v h from = grind (arith, nat_tests, on.line, on.clock)

-- what is after a place is not before the next place: no event stands in the line that a short field lacks
pub AreFrom-next : (system : System) (frames : ℕ) (lace : Bool) (b : Beam) (events : List At) → IsOnScreen b → AreInLimits system frames events
    → AreFrom (place_of b + 1) events → AreFrom (place_of (next_place system lace b)) events
AreFrom-next system frames lace b [] on limits from = tt
AreFrom-next system frames lace b (e ∷ events) on limits from =
    (next_time system lace b e on limits.0.line limits.0.clock from.0, AreFrom-next system frames lace b events on limits.1 from.1)
