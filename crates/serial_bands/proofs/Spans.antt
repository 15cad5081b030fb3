-- Clocks at which nothing touches the picture but fetches of bitplanes.
use Rattle.std.proofs.Common.{◌≡◌, ◌<◌, ◌≤◌, ℕ, zero, suc, ◌+◌, ◌-◌, ◌*◌, Bool, true, false, ◌==◌, nat_lt, List, [], ◌∷◌, ◌++◌, map, Option, Some, None}
use Rattle.std.proofs.Common.{refl, ap, ◌∙◌, sym, subst, arith, bit_or, replicate, slice_index, append_assoc, append-nil}
use Rattle.std.specs.Bool.{if◌then◌else◌}
use Rattle.std.proofs.lemmas.Bool.Decides.{nat_tests}
use Rattle.ocs_base.specs.declared.addr.Addr.{Addr}
use Rattle.ocs_base.specs.declared.beam.Beam.{Beam}
use Rattle.ocs_base.specs.declared.beam.Clock.{Clock}
use Rattle.ocs_base.specs.declared.system.System.{System}
use Rattle.serial_model.specs.declared.picture.Denise.{Denise}
use Rattle.serial_model.specs.declared.picture.Touch.{Touch}
use Rattle.serial_model.specs.declared.picture.Touch.TheVariants as T
use Rattle.serial_model.specs.Made.{word_of}
use Rattle.serial_model.specs.Picture.{PictureStep, clear_line, set_picture, plane_latch, step_of, after_step, touch_if_any, touch_in_order}
use Rattle.serial_model.specs.Spans.{after_shows, shown_bytes, shown_clx}
use Rattle.serial_model.specs.StandsFor.{StandsFor}
use Rattle.serial_bands.specs.declared.event.Event.{Event}
use Rattle.serial_bands.specs.declared.event.Event.TheVariants as E
use Rattle.serial_bands.specs.Run.{RunValue, beam_at, run_memory}
use Rattle.serial_bands.specs.Clock.{opening_at, sets_at, bus_touch_at}
use Rattle.serial_bands.specs.BandShown.{bytes_from, clx_from}
use Rattle.serial_bands.specs.RightJob.{event_at, bus_events, script_events, events_from}
use Rattle.serial_bands.specs.EventReading.{touch_of_event}
use Rattle.serial_bands.specs.ReplayLaws.{with_script, step_of_kept, after_kept}
use Rattle.serial_bands.specs.DrawnTo.{IsDrawnTo, with_access}
use Rattle.serial_bands.specs.Late.{IsLate}
use Rattle.serial_bands.specs.Spans.{IsPlaneIfAny, IsQuiet, AreQuiet, IsUntouched, AreUntouched, fetched, IsOnLine}
use Rattle.serial_bands.specs.Spans.{DrawingGoesOnQuietly, IsBehind, UntouchedBeforeFirst}
use Rattle.serial_bands.specs.Spans.{FetchIsNext}
use Rattle.serial_bands.proofs.Ors.{or_assoc, or_none}
use Rattle.serial_bands.proofs.Late.{fetches_are_late}
use Rattle.serial_bands.proofs.Drawing.{drawing_goes_on}
use Rattle.serial_bands.proofs.Reading.{AreSets, are_sets, IsFrontFrom, front_of}

-- the touch of an access is late where it is no other than a fetch of a bitplane
access_late : (system : System) (v h n : ℕ) (words : ℕ → ℕ) (touch : Option Touch) (p : Denise) → IsPlaneIfAny touch
    → IsLate system v h (suc n) (touch_if_any (h + n) words touch) p
access_late system v h n words None p few = record { state = refl; bytes = refl; clx = refl }
access_late system v h n words (Some (T.Set reg word)) p few = absurd few
access_late system v h n words (Some (T.Plane plane at)) p few =
    let late : IsLate system v h (suc n) (set_picture (h + n) (plane_latch plane) (words at.value)) p =
    fetches_are_late system v h n plane (words at.value) p few in
    record { state = late.state; bytes = late.bytes; clx = late.clx }
access_late system v h n words (Some (T.Sprite sprite second at)) p few = absurd few

clock_late : (run : RunValue) (c n : ℕ) (p : Denise) → (beam_at run (c + n)).h ≡ (beam_at run c).h + n
    → IsPlaneIfAny (bus_touch_at run (c + n))
    → IsLate run.script.system (beam_at run c).v (beam_at run c).h (suc n) (with_access run (c + n)) p
clock_late run c n p place few =
    let words : ℕ → ℕ = word_of (run_memory run (c + n)) in
    let late : IsLate run.script.system (beam_at run c).v (beam_at run c).h (suc n)
    (touch_if_any (beam_at run (c + n)).h words (bus_touch_at run (c + n))) p =
    subst (λ h. IsLate run.script.system (beam_at run c).v (beam_at run c).h (suc n) (touch_if_any h words (bus_touch_at run (c + n))) p) (sym place)
    (access_late run.script.system (beam_at run c).v (beam_at run c).h n words (bus_touch_at run (c + n)) p few) in
    record { state = late.state; bytes = late.bytes; clx = late.clx }

-- where the script touches nothing
no_script : (h : ℕ) (words : ℕ → ℕ) (touches : List Touch) (p : Denise) → touches ≡ [] → touch_in_order h words touches p ≡ p
unfolding touch_in_order
no_script h words touches p none = ap (λ l. touch_in_order h words l p) none

step_here : (run : RunValue) (c n : ℕ) (kept : Denise) → sets_at run (c + n) ≡ []
    → ((beam_at run (c + n)).v ≡ (beam_at run c).v) × ((beam_at run (c + n)).h ≡ (beam_at run c).h + n)
    → step_of_kept run (c + n) kept ≡ step_of run.script.system (beam_at run c).v ((beam_at run c).h + n) kept
step_here run c n kept none place =
    let b : Beam = beam_at run (c + n) in
    ap (λ p. step_of run.script.system b.v b.h p) (no_script b.h (word_of (run_memory run (c + n))) (sets_at run (c + n)) kept none)
    ∙ ap (λ v. step_of run.script.system v b.h kept) place.0
    ∙ ap (λ h. step_of run.script.system (beam_at run c).v h kept) place.1

after_here : (run : RunValue) (c n : ℕ) (kept : Denise) → sets_at run (c + n) ≡ []
    → ((beam_at run (c + n)).v ≡ (beam_at run c).v) × ((beam_at run (c + n)).h ≡ (beam_at run c).h + n)
    → after_kept run (c + n) kept ≡ after_step (step_of run.script.system (beam_at run c).v ((beam_at run c).h + n) kept) kept
after_here run c n kept none place =
    let b : Beam = beam_at run (c + n) in
    ap (λ step. after_step step (with_script run (c + n) kept)) (step_here run c n kept none place)
    ∙ ap (λ p. after_step (step_of run.script.system (beam_at run c).v ((beam_at run c).h + n) kept) p)
    (no_script b.h (word_of (run_memory run (c + n))) (sets_at run (c + n)) kept none)

-- no line starts behind its first clock
no_start : (b : Beam) (h : ℕ) (p : Denise) → b.h ≡ suc h → clear_line b p ≡ p
unfolding clear_line
no_start b h p place =
    let none : (b.h == 0) ≡ false = grind (arith, nat_tests) in
    ap (λ (t : Bool). if t then record p { loads = []; runs = replicate 8 None; held = record { 0 = slice_index p.palette 0 } } else p) none

-- one clock more
abbrev line_of : RunValue → ℕ → ℕ
line_of run c = (beam_at run c).v

abbrev clock_in : RunValue → ℕ → ℕ
clock_in run c = (beam_at run c).h

kept_more : (run : RunValue) (c n : ℕ) (kept : Denise) → IsQuiet run (c + n) → IsOnLine run c (suc n)
    → clear_line (beam_at run (c + n + 1)) (with_access run (c + n)
    (after_kept run (c + n) (after_shows run.script.system (line_of run c) (clock_in run c) n (fetched run c n kept))))
    ≡ after_shows run.script.system (line_of run c) (clock_in run c) (suc n) (fetched run c (suc n) kept)
unfolding after_shows
kept_more run c n kept quiet line =
    let system : System = run.script.system in
    let v : ℕ = line_of run c in
    let h : ℕ = clock_in run c in
    let shown : Denise = after_shows system v h n (fetched run c n kept) in
    let next : c + suc n ≡ c + n + 1 = omega arith in
    let count : h + suc n ≡ suc (h + n) = omega arith in
    let place : (beam_at run (c + n + 1)).h ≡ suc (h + n) =
    ap (λ k. (beam_at run k).h) (sym next) ∙ (line (suc n) (omega arith)).1 ∙ count in
    no_start (beam_at run (c + n + 1)) (h + n) (with_access run (c + n) (after_kept run (c + n) shown)) place
    ∙ ap (λ p. with_access run (c + n) p) (after_here run c n shown quiet.script (line n (omega arith)))
    ∙ (clock_late run c n (fetched run c n kept) (line n (omega arith)).1 quiet.access).state

bytes_more : (run : RunValue) (c n : ℕ) (kept : Denise) (bytes : List ℕ) → IsQuiet run (c + n) → IsOnLine run c (suc n)
    → bytes ++ shown_bytes run.script.system (line_of run c) (clock_in run c) (suc n) (fetched run c (suc n) kept)
    ≡ bytes ++ shown_bytes run.script.system (line_of run c) (clock_in run c) n (fetched run c n kept)
    ++ (step_of_kept run (c + n) (after_shows run.script.system (line_of run c) (clock_in run c) n (fetched run c n kept))).bytes
unfolding shown_bytes
bytes_more run c n kept bytes quiet line =
    let system : System = run.script.system in
    let v : ℕ = line_of run c in
    let h : ℕ = clock_in run c in
    let p : Denise = fetched run c n kept in
    let shown : Denise = after_shows system v h n p in
    ap (λ l. bytes ++ l) (sym (clock_late run c n p (line n (omega arith)).1 quiet.access).bytes)
    ∙ sym (append_assoc bytes (shown_bytes system v h n p) (step_of system v (h + n) shown).bytes)
    ∙ ap (λ (step : PictureStep). bytes ++ shown_bytes system v h n p ++ step.bytes)
    (sym (step_here run c n shown quiet.script (line n (omega arith))))

clx_more : (run : RunValue) (c n : ℕ) (kept : Denise) (clx : ℕ) → IsQuiet run (c + n) → IsOnLine run c (suc n)
    → bit_or clx (shown_clx run.script.system (line_of run c) (clock_in run c) (suc n) (fetched run c (suc n) kept))
    ≡ bit_or (bit_or clx (shown_clx run.script.system (line_of run c) (clock_in run c) n (fetched run c n kept)))
    (step_of_kept run (c + n) (after_shows run.script.system (line_of run c) (clock_in run c) n (fetched run c n kept))).clx
unfolding shown_clx
clx_more run c n kept clx quiet line =
    let system : System = run.script.system in
    let v : ℕ = line_of run c in
    let h : ℕ = clock_in run c in
    let p : Denise = fetched run c n kept in
    let shown : Denise = after_shows system v h n p in
    ap (λ x. bit_or clx x) (sym (clock_late run c n p (line n (omega arith)).1 quiet.access).clx)
    ∙ sym (or_assoc clx (shown_clx system v h n p) (step_of system v (h + n) shown).clx)
    ∙ ap (λ (step : PictureStep). bit_or (bit_or clx (shown_clx system v h n p)) step.clx)
    (sym (step_here run c n shown quiet.script (line n (omega arith))))

-- the same drawing, named otherwise
drawn_as : (run : RunValue) (from to c m : ℕ) (kept p : Denise) (events : List Event) (bytes others : List ℕ) (clx more : ℕ)
    → IsDrawnTo run from to c kept events bytes clx → m ≡ c → kept ≡ p → others ≡ bytes → more ≡ clx
    → IsDrawnTo run from to m p (events_from run m (to - m - 1)) others more
drawn_as run from to c m kept p events bytes others clx more drawn here same shown gathered = record {
  least = omega (arith, drawn.least, here);
  most = omega (arith, drawn.most, here);
  stands =
      subst (λ q. StandsFor (4 * (beam_at run m).h) q (opening_at run m)) same
      (subst (λ k. StandsFor (4 * (beam_at run k).h) kept (opening_at run k)) (sym here) drawn.stands);
  log = refl;
  shown = shown ∙ drawn.shown ∙ ap (λ k. bytes_from run from (k - from)) (sym here);
  gathered = gathered ∙ drawn.gathered ∙ ap (λ k. clx_from run from (k - from)) (sym here);
}

fewer_quiet : (run : RunValue) (c m e : ℕ) → m ≤ e → AreQuiet run c e → AreQuiet run c m
fewer_quiet run c m e order quiet k least most = quiet k least (omega (arith, order, most))

fewer_on_line : (run : RunValue) (c n : ℕ) → IsOnLine run c (suc n) → IsOnLine run c n
fewer_on_line run c n line k few = line k (omega (arith, few))

no_clock : (c : ℕ) → c + 0 ≡ c
no_clock c = omega arith

one_clock : (c n : ℕ) → c + suc n ≡ c + n + 1
one_clock c n = omega arith

none_shown : (system : System) (v h : ℕ) (p : Denise)
    → (after_shows system v h 0 p ≡ p) × (shown_bytes system v h 0 p ≡ []) × (shown_clx system v h 0 p ≡ 0)
unfolding after_shows shown_bytes shown_clx
none_shown system v h p = (refl, refl, refl)

pub drawing_goes_on_quietly : DrawingGoesOnQuietly
drawing_goes_on_quietly run from to c zero kept events bytes clx drawn more quiet line =
    let none = none_shown run.script.system (line_of run c) (clock_in run c) kept in
    drawn_as run from to c (c + 0) kept _ events bytes _ clx _ drawn (no_clock c) (sym none.0)
    (ap (λ l. bytes ++ l) none.1 ∙ append-nil bytes) (ap (λ x. bit_or clx x) none.2 ∙ or_none clx)
drawing_goes_on_quietly run from to c (suc n) kept events bytes clx drawn more quiet line =
    let here : IsQuiet run (c + n) = quiet (c + n) (omega arith) (omega arith) in
    let before = drawing_goes_on_quietly run from to c n kept events bytes clx drawn (omega (arith, more))
    (fewer_quiet run c (c + n) (c + suc n) (omega arith) quiet) (fewer_on_line run c n line) in
    let after = drawing_goes_on run from to (c + n) _ _ _ _ before (omega (arith, more)) in
    drawn_as run from to (c + n + 1) (c + suc n) _ _ _ _ _ _ _ after (one_clock c n) (kept_more run c n kept here line)
    (bytes_more run c n kept bytes here line) (clx_more run c n kept clx here line)

-- ranges one behind the other
either : (R : ℕ → Type 0) (m k : ℕ) (b : Bool) → nat_lt k m ≡ b → (k < m → R k) → (m ≤ k → R k) → R k
either R m k true is one two = one (grind (arith, nat_tests))
either R m k false is one two = two (grind (arith, nat_tests))

pub quiet_joined : (run : RunValue) (c m e : ℕ) → AreQuiet run c m → AreQuiet run m e → AreQuiet run c e
quiet_joined run c m e one two k least most =
    either (λ k. IsQuiet run k) m k (nat_lt k m) refl (λ before. one k least before) (λ behind. two k behind most)

pub untouched_joined : (run : RunValue) (c m e : ℕ) → AreUntouched run c m → AreUntouched run m e → AreUntouched run c e
untouched_joined run c m e one two k least most =
    either (λ k. IsUntouched run k) m k (nat_lt k m) refl (λ before. one k least before) (λ behind. two k behind most)

pub quiet_once : (run : RunValue) (c : ℕ) → IsQuiet run c → AreQuiet run c (c + 1)
quiet_once run c quiet k least most =
    let here : c ≡ k = omega (arith, least, most) in
    subst (λ k. IsQuiet run k) here quiet

pub untouched_once : (run : RunValue) (c : ℕ) → IsUntouched run c → AreUntouched run c (c + 1)
untouched_once run c untouched k least most =
    let here : c ≡ k = omega (arith, least, most) in
    subst (λ k. IsUntouched run k) here untouched

pub quiet_nowhere : (run : RunValue) (c m : ℕ) → m ≤ c → AreQuiet run c m
quiet_nowhere run c m order k least most = absurd (omega (arith, least, most, order))

untouched_nowhere : (run : RunValue) (c m : ℕ) → m ≤ c → AreUntouched run c m
untouched_nowhere run c m order k least most = absurd (omega (arith, least, most, order))

no_touch : (touch : Option Touch) → touch ≡ None → IsPlaneIfAny touch
no_touch touch is = subst (λ t. IsPlaneIfAny t) (sym is) tt

pub untouched_quiet : (run : RunValue) (c m : ℕ) → AreUntouched run c m → AreQuiet run c m
untouched_quiet run c m untouched k least most =
    let here : IsUntouched run k = untouched k least most in
    record { script = here.script; access = no_touch (bus_touch_at run k) here.access }

-- where nothing touches the picture, nothing is fetched
untouched_same : (run : RunValue) (k : ℕ) (p : Denise) → bus_touch_at run k ≡ None → with_access run k p ≡ p
untouched_same run k p none = ap (λ t. touch_if_any (beam_at run k).h (word_of (run_memory run k)) t p) none

further : (c n : ℕ) → n + 0 ≡ n
further c n = omega arith

one_further : (n k : ℕ) → n + suc k ≡ suc (n + k)
one_further n k = omega arith

fetched_further : (run : RunValue) (c n k : ℕ) (p : Denise) → AreUntouched run (c + n) (c + n + k) → fetched run c (n + k) p ≡ fetched run c n p
fetched_further run c n zero p untouched = ap (λ m. fetched run c m p) (further c n)
fetched_further run c n (suc k) p untouched =
    ap (λ m. fetched run c m p) (one_further n k)
    ∙ untouched_same run (c + (n + k)) (fetched run c (n + k) p) (untouched (c + (n + k)) (omega arith) (omega arith)).access
    ∙ fetched_further run c n k p (λ j least most. untouched j least (omega (arith, most)))

pub fetched_same : (run : RunValue) (c m e : ℕ) (p : Denise) → c ≤ m → m ≤ e → AreUntouched run m e
    → fetched run c (e - c) p ≡ fetched run c (m - c) p
fetched_same run c m e p least order untouched =
    let count : e - c ≡ m - c + (e - m) = omega (arith, least, order) in
    let first : m ≡ c + (m - c) = omega (arith, least) in
    let last : e ≡ c + (m - c) + (e - m) = omega (arith, least, order) in
    ap (λ n. fetched run c n p) count
    ∙ fetched_further run c (m - c) (e - m) p
    (subst (λ k. AreUntouched run (c + (m - c)) k) last (subst (λ k. AreUntouched run k e) first untouched))

pub fetched_once : (run : RunValue) (c at : ℕ) (p : Denise) → c ≤ at → fetched run c (at + 1 - c) p ≡ with_access run at (fetched run c (at - c) p)
fetched_once run c at p least =
    let count : at + 1 - c ≡ suc (at - c) = omega (arith, least) in
    let there : c + (at - c) ≡ at = omega (arith, least) in
    ap (λ n. fetched run c n p) count ∙ ap (λ k. with_access run k (fetched run c (at - c) p)) there

-- the first of the events that are left
none_here : (c : ℕ) (touches : List Touch) (touch : Option Touch) (events : List Event)
    → IsBehind (c + 1) (map (event_at c) touches ++ (bus_events c touch ++ events)) → (touches ≡ []) × (touch ≡ None)
none_here c [] None events behind = (refl, refl)
none_here c [] (Some (T.Set reg word)) events behind = absurd (omega (arith, behind))
none_here c [] (Some (T.Plane plane at)) events behind = absurd (omega (arith, behind))
none_here c [] (Some (T.Sprite sprite second at)) events behind = absurd (omega (arith, behind))
none_here c (T.Set reg word ∷ touches) touch events behind = absurd (omega (arith, behind))
none_here c (T.Plane plane at ∷ touches) touch events behind = absurd (omega (arith, behind))
none_here c (T.Sprite sprite second at ∷ touches) touch events behind = absurd (omega (arith, behind))

behind_earlier : (c m : ℕ) (events : List Event) → c ≤ m → IsBehind m events → IsBehind c events
behind_earlier c m [] order behind = tt
behind_earlier c m (E.Set at reg word ∷ events) order behind = omega (arith, order, behind)
behind_earlier c m (E.Plane at plane addr ∷ events) order behind = omega (arith, order, behind)
behind_earlier c m (E.Sprite at sprite second addr ∷ events) order behind = omega (arith, order, behind)

-- what is left where so many clocks follow
left_more : (run : RunValue) (to c : ℕ) → c + 1 < to
    → events_from run c (to - c - 1) ≡ script_events run c ++ (bus_events c (bus_touch_at run c) ++ events_from run (c + 1) (to - (c + 1) - 1))
unfolding events_from
left_more run to c more =
    let count : to - c - 1 ≡ suc (to - (c + 1) - 1) = omega (arith, more) in
    ap (λ k. events_from run c k) count

untouched_here : (run : RunValue) (to c : ℕ) (events : List Event) → events ≡ events_from run c (to - c - 1) → c + 1 < to → IsBehind (c + 1) events
    → IsUntouched run c × (events ≡ events_from run (c + 1) (to - (c + 1) - 1))
untouched_here run to c events log more behind =
    let rest : List Event = events_from run (c + 1) (to - (c + 1) - 1) in
    let all : events ≡ map (event_at c) (sets_at run c) ++ (bus_events c (bus_touch_at run c) ++ rest) = log ∙ left_more run to c more in
    let none = none_here c (sets_at run c) (bus_touch_at run c) rest (subst (λ l. IsBehind (c + 1) l) all behind) in (
      record { script = none.0; access = none.1 },
      all ∙ ap (λ touches. map (event_at c) touches ++ (bus_events c (bus_touch_at run c) ++ rest)) none.0
          ∙ ap (λ touch. bus_events c touch ++ rest) none.1,
    )

pub untouched_before_first : UntouchedBeforeFirst
untouched_before_first run to c zero events log behind more =
    (untouched_nowhere run c (c + 0) (omega arith), log ∙ ap (λ k. events_from run k (to - k - 1)) (sym (no_clock c)))
untouched_before_first run to c (suc n) events log behind more =
    let here = untouched_here run to c events log (omega (arith, more)) (behind_earlier (c + 1) (c + suc n) events (omega arith) behind) in
    let next : c + 1 + n ≡ c + suc n = omega arith in
    let rest = untouched_before_first run to (c + 1) n events here.1 (subst (λ k. IsBehind k events) (sym next) behind) (omega (arith, more)) in (
      untouched_joined run c (c + 1) (c + suc n) (untouched_once run c here.0) (subst (λ k. AreUntouched run (c + 1) k) next rest.0),
      rest.1 ∙ ap (λ k. events_from run k (to - k - 1)) next,
    )

-- where it is the fetch of a bitplane
first_touch : List Event → Option Touch
first_touch [] = None
first_touch (e ∷ events) = Some (touch_of_event e)

others_of : List Event → List Event
others_of [] = []
others_of (e ∷ events) = events

fetch_front : (m : ℕ) (at : Clock) (plane : ℕ) (addr : Addr) (others events : List Event) → E.Plane at plane addr ∷ others ≡ events
    → IsFrontFrom m m events → m ≤ at.0
fetch_front m at plane addr others events is front = subst (λ l. IsFrontFrom m m l) (sym is) front

fetch_here : (c : ℕ) (touches : List Touch) (touch : Option Touch) (at : Clock) (plane : ℕ) (addr : Addr) (others events : List Event)
    → at.0 ≡ c → AreSets touches → IsFrontFrom (c + 1) (c + 1) events
    → E.Plane at plane addr ∷ others ≡ map (event_at c) touches ++ (bus_events c touch ++ events)
    → (touches ≡ []) × (touch ≡ Some (T.Plane plane addr)) × (others ≡ events)
unfolding first_touch others_of
fetch_here c [] None at plane addr others events here sets front is =
    absurd (omega (arith, here, fetch_front (c + 1) at plane addr others events is front))
fetch_here c [] (Some (T.Set reg word)) at plane addr others events here sets front is =
    let first : Some (T.Plane plane addr) ≡ Some (T.Set reg word) = ap (λ l. first_touch l) is in cc
fetch_here c [] (Some (T.Plane other from)) at plane addr others events here sets front is =
    (refl, sym (ap (λ l. first_touch l) is), ap (λ l. others_of l) is)
fetch_here c [] (Some (T.Sprite sprite second from)) at plane addr others events here sets front is =
    let first : Some (T.Plane plane addr) ≡ Some (T.Sprite sprite second from) = ap (λ l. first_touch l) is in cc
fetch_here c (T.Set reg word ∷ touches) touch at plane addr others events here sets front is =
    let first : Some (T.Plane plane addr) ≡ Some (T.Set reg word) = ap (λ l. first_touch l) is in cc
fetch_here c (T.Plane other from ∷ touches) touch at plane addr others events here sets front is = absurd sets.0
fetch_here c (T.Sprite sprite second from ∷ touches) touch at plane addr others events here sets front is = absurd sets.0

pub fetch_is_next : FetchIsNext
fetch_is_next run to c at plane addr others log more =
    let events : List Event = E.Plane at plane addr ∷ others in
    let order : c ≤ at.0 = fetch_front c at plane addr others _ log (front_of run c (to - c - 1)) in
    let there : c + (at.0 - c) ≡ at.0 = omega (arith, order) in
    let behind : c + (at.0 - c) ≤ at.0 = omega (arith, order) in
    let before = untouched_before_first run to c (at.0 - c) events log behind (omega (arith, order, more)) in
    let left : events ≡ events_from run at.0 (to - at.0 - 1) = before.1 ∙ ap (λ k. events_from run k (to - k - 1)) there in
    let rest : List Event = events_from run (at.0 + 1) (to - (at.0 + 1) - 1) in
    let here = fetch_here at.0 (sets_at run at.0) (bus_touch_at run at.0) at plane addr others rest refl (are_sets _)
    (front_of run (at.0 + 1) (to - (at.0 + 1) - 1)) (left ∙ left_more run to at.0 more) in
    record {
      order = order;
      before = subst (λ k. AreUntouched run c k) there before.0;
      script = here.0;
      access = here.1;
      rest = here.2;
    }
