-- The script of a scene, event by event.
use Rattle.std.proofs.Common.{◌≡◌, ℕ, ◌+◌, ◌*◌, ◌%◌, ◌≤◌, Bool, true, false, ◌&&◌, cond, nat_lt, nat_le, List}
use Rattle.std.proofs.Common.{[], ◌∷◌, ◌++◌, length, flat_map, refl, sym, ap, ◌∙◌, arith, append_assoc, eq-eqb}
use borrow.Author.Tests.{ltb-true, leb-true}
use Rattle.std.specs.List.{range_with_len}
use Rattle.ocs_base.specs.Limits.{time_of, HasPort, AreInLimits, AreFrom, AreInOrder, IsRunnable}
use Rattle.ocs_base.specs.Script.{ScriptValue}
use Rattle.ocs_base.specs.declared.chip_size.ChipSize.TheVariants.{Kib512}
use Rattle.ocs_base.specs.declared.script.Act.{Act}
use Rattle.ocs_base.specs.declared.script.Act.TheVariants.{Poke, Peek, Joy, Fire, Key}
use Rattle.ocs_base.specs.declared.script.At.{At}
use Rattle.ocs_base.specs.declared.system.System.TheVariants.{Pal}
use Rattle.scene_gen.specs.Scene.{event, poke, peek, pokes_at, first_pokes, blit_pokes, frame_pokes, frame_events, scene_script}
use Rattle.scene_gen.proofs.Growth.{parts_more}

-- ---- what a frame appends

pub more_events : (before between after : ScriptValue) (some others : List At) → between ≡ record before { events = before.events ++ some }
    → after ≡ record between { events = between.events ++ others } → after ≡ record before { events = before.events ++ (some ++ others) }
more_events before between after some others first second =
    second ∙ ap (λ (s : ScriptValue). record s { events = s.events ++ others }) first
    ∙ ap (λ (e : List At). record before { events = e }) (append_assoc before.events some others)

pub frame_pokes-first : (n frame : ℕ) → frame ≡ 0 → frame_pokes n frame ≡ pokes_at frame 0 first_pokes
frame_pokes-first n frame e =
    ap (λ t. cond t (pokes_at frame 0 first_pokes) (pokes_at frame 100 (blit_pokes n frame))) (eq-eqb frame 0 e)

pub frame_events-is : (n frame colour : ℕ) (before poked peeked after : ScriptValue) (p q : Act)
    → p ≡ peek 0x00e → q ≡ poke 0x180 colour → colour ≡ (273 * frame + n) % 4096
    → poked ≡ record before { events = before.events ++ frame_pokes n frame }
    → peeked ≡ record poked { events = poked.events ++ event frame 150 0 p ∷ [] }
    → after ≡ record peeked { events = peeked.events ++ event frame 200 (100 + frame) q ∷ [] }
    → after ≡ record before { events = before.events ++ frame_events n frame }
unfolding frame_events
frame_events-is n frame colour before poked peeked after p q is_peek is_poke is_colour first second third =
    let two : Act → Act → List At = λ a b. event frame 150 0 a ∷ event frame 200 (100 + frame) b ∷ [] in
    let all : Act → Act → ScriptValue = λ a b. record before { events = before.events ++ (frame_pokes n frame ++ two a b) } in
    more_events before poked after (frame_pokes n frame) (two p q) first
    (more_events poked peeked after (event frame 150 0 p ∷ []) (event frame 200 (100 + frame) q ∷ []) second third)
    ∙ ap (λ a. all a q) is_peek ∙ ap (λ b. all (peek 0x00e) b) (is_poke ∙ ap (poke 0x180) is_colour)

abbrev pub script_of : ℕ → ℕ → ScriptValue
script_of n frames = record { cpu = true; frames = 10; chip = Kib512; system = Pal; events = flat_map (frame_events n) (range_with_len 0 frames) }

pub next_frame : (n frame : ℕ) (before after : ScriptValue) → before ≡ script_of n frame
    → after ≡ record before { events = before.events ++ frame_events n frame } → after ≡ script_of n (frame + 1)
next_frame n frame before after so_far step =
    step ∙ ap (λ (s : ScriptValue). record s { events = s.events ++ frame_events n frame }) so_far
    ∙ ap (λ (e : List At). record { cpu = true; frames = 10; chip = Kib512; system = Pal; events = e })
    (sym (parts_more (frame_events n) 0 frame frame (omega arith)))

-- ---- limits and order

-- pokes and peeks alone
is_access : Act → Bool
is_access (Poke reg word) = true
is_access (Peek reg) = true
is_access (Joy port word) = false
is_access (Fire port down) = false
is_access (Key code) = false

-- the events are in the limits of so many frames, and none is before this time or the one before it
follow : ℕ → ℕ → List At → Bool
follow frames time [] = true
follow frames time (e ∷ events) =
    nat_lt e.frame frames && (nat_lt e.v 312 && (nat_le e.h 226 && (is_access e.act && (nat_le time (time_of e) && follow frames (time_of e) events))))

both : (a b : Bool) → (a && b) ≡ true → (a ≡ true) × (b ≡ true)
both true b e = (refl, e)
both false b e = absurd (cc e)

HasPort-access : (act : Act) → is_access act ≡ true → HasPort act
unfolding is_access
HasPort-access (Poke reg word) e = tt
HasPort-access (Peek reg) e = tt
HasPort-access (Joy port word) e = absurd (cc e)
HasPort-access (Fire port down) e = absurd (cc e)
HasPort-access (Key code) e = absurd (cc e)

AreFrom-lower : (low high : ℕ) (events : List At) → low ≤ high → AreFrom high events → AreFrom low events
AreFrom-lower low high [] le from = tt
AreFrom-lower low high (e ∷ events) le from = (omega (arith, from.0), AreFrom-lower low high events le from.1)

record Follow (frames time : ℕ) (events : List At) : Type 0 where
  limits : AreInLimits Pal frames events
  from : AreFrom time events
  order : AreInOrder events

Follow-test : (frames time : ℕ) (events : List At) → follow frames time events ≡ true → Follow frames time events
unfolding follow
Follow-test frames time [] e = record { limits = tt; from = tt; order = tt }
Follow-test frames time (at ∷ events) e =
    let in_frames = both (nat_lt at.frame frames) _ e in
    let in_lines = both (nat_lt at.v 312) _ in_frames.1 in
    let in_clocks = both (nat_le at.h 226) _ in_lines.1 in
    let accesses = both (is_access at.act) _ in_clocks.1 in
    let later = both (nat_le time (time_of at)) (follow frames (time_of at) events) accesses.1 in
    let rest = Follow-test frames (time_of at) events later.1 in
    let not_before : time ≤ time_of at = leb-true time (time_of at) later.0 in
    record {
      limits = (
        record {
          frame = ltb-true at.frame frames in_frames.0;
          line = ltb-true at.v 312 in_lines.0;
          clock = leb-true at.h 226 in_clocks.0;
          port = HasPort-access at.act accesses.0;
        },
        rest.limits,
      );
      from = (not_before, AreFrom-lower time (time_of at) events not_before rest.from);
      order = (rest.from, rest.order);
    }

-- times do not depend on the number
follow-scene : (n : ℕ) → follow 10 0 (scene_script n).events ≡ true
unfolding follow is_access scene_script frame_events
follow-scene n = refl

pub IsRunnable-scene : (n : ℕ) → IsRunnable (scene_script n)
unfolding scene_script
IsRunnable-scene n =
    let follows = Follow-test 10 0 (scene_script n).events (follow-scene n) in
    record { least = omega arith; most = omega arith; limits = follows.limits; order = follows.order }

pub length-events : (n : ℕ) → length (scene_script n).events ≡ 105
unfolding scene_script frame_events
length-events n = refl
