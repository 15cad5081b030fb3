-- The script's events of a clock, one after another, over plain values.
use Rattle.std.proofs.Common.{◌≡◌, ℕ, ◌+◌, ◌-◌, ◌≤◌, Bool, true, false, ◌||◌, if◌then◌else◌, List, [], ◌∷◌, ◌++◌}
use Rattle.std.proofs.Common.{length, drop, length-drop, Option, Some, None, arith, refl, ap, subst, ◌∙◌, sym}
use Rattle.std.proofs.lemmas.List.{drop-drop}
use Rattle.ocs_base.specs.declared.beam.Beam.{Beam}
use Rattle.ocs_base.specs.declared.script.Act.{Act}
use Rattle.ocs_base.specs.declared.script.At.{At}
use Rattle.ocs_base.specs.declared.system.System.{System}
use Rattle.ocs_base.specs.declared.system.System.TheVariants.{Pal}
use Rattle.out_files.specs.OutFiles.{OutFilesValue}
use Rattle.serial_model.specs.declared.picture.Touch.{Touch}
use Rattle.serial_model.specs.Beam.{IsOnScreen, place_of}
use Rattle.serial_model.specs.Events.{IsQueue, is_due, due_events, do_event, do_events, made_by_act, touches_of, add_touch}
use Rattle.serial_model.specs.Made.{is_clx_read, clx_after, touch_of}
use Rattle.serial_model.specs.State.{State}
use Rattle.serial_model.proofs.EventLaws.{due_events-more, due_events-later, due_events-none, IsQueue-more, IsQueue-end, IsQueue-empty}
use Rattle.serial_bands.specs.Bands.{has_clx_read}
use Rattle.out_files.specs.Gives.{GivesLines}
use Rattle.machine.specs.Machine.{MachineValue, Start, Stands, KeepsPlace, IsSamePlace, MakesEvent}
use Rattle.foreground.specs.Script.{IsLeft, HasLater, MakesEvents, IsMachine, IsRest, with_touch_if_any}
use Rattle.picture_log.specs.Log.{with_script_touches}
use Rattle.picture_log.specs.declared.log.Log.{Log}
use Rattle.out_files.proofs.GivesLaws.{gives_nothing, gives_then}
use Rattle.machine.proofs.ToldLaws.{told_none}

-- the place of the beam stays
pub KeepsPlace-none : (m : MachineValue) → KeepsPlace m m
KeepsPlace-none m = record { t = refl; beam = refl; chip = refl }

pub KeepsPlace-more : (a b c : MachineValue) → KeepsPlace a b → KeepsPlace b c → KeepsPlace a c
KeepsPlace-more a b c first second = record {
  t = second.t ∙ first.t;
  beam = second.beam ∙ ap (λ (x : Beam). record x { lof = c.beam.lof }) first.beam;
  chip = second.chip ∙ first.chip;
}

-- so far the events before those that are left have happened: whatever makes the rest from here makes all from the start
pub record HasDone (events left : List At) (old now : MachineValue) (was out : OutFilesValue) (log after : Log) (clx cleared : ℕ) : Type 0 where
  pub place : KeepsPlace old now
  pub rest : (end : MachineValue) (given : OutFilesValue) →
      MakesEvents cleared (due_events old.beam left) now out end given → MakesEvents clx (due_events old.beam events) old was end given
  pub noted : with_script_touches old.t (touches_of (due_events old.beam left)) after
      ≡ with_script_touches old.t (touches_of (due_events old.beam events)) log
  pub later : HasLater old.beam events left

pub HasDone-start : (events : List At) (m : MachineValue) (out : OutFilesValue) (log : Log) (clx : ℕ) → HasDone events events m m out out log log clx clx
HasDone-start events m out log clx = record {
  place = KeepsPlace-none m;
  rest = λ end given makes. makes;
  noted = refl;
  later = λ later on after. refl;
}

-- the collision bits behind an event
clx_of_event : (act : Act) (s : State) → (do_event act s).clx ≡ clx_after (made_by_act act) s.clx
clx_of_event act s = refl

-- an event and those behind it
events_of_two : (clx cleared : ℕ) (e : At) (events : List At) (old now end : MachineValue) (was out given : OutFilesValue)
    → (is_clx_read (made_by_act e.act) ≡ true → cleared ≡ 0) → (is_clx_read (made_by_act e.act) ≡ false → cleared ≡ clx)
    → MakesEvent clx e.act old was now out → MakesEvents cleared events now out end given → MakesEvents clx (e ∷ events) old was end given
unfolding do_events has_clx_read
events_of_two clx cleared e events old now end was out given reads keeps first rest start s bits stands =
    let makes : Stands start now out (do_event e.act s) =
    first start s (λ is. bits (ap (λ b. b || has_clx_read events) is)) stands in
    rest start (do_event e.act s) (λ is. after (is_clx_read (made_by_act e.act)) refl is) makes
  where
    after : (b : Bool) → is_clx_read (made_by_act e.act) ≡ b → has_clx_read events ≡ true → (do_event e.act s).clx ≡ cleared
    after true is more = ap (λ b. if b then 0 else s.clx) is ∙ sym (reads is)
    after false is more = ap (λ b. if b then 0 else s.clx) is ∙ bits (ap (λ b. b || has_clx_read events) is ∙ more) ∙ sym (keeps is)

-- its touch comes first
touches_more : (t : ℕ) (e : At) (events : List At) (log : Log)
    → with_script_touches t (touches_of events) (with_touch_if_any t (touch_of (made_by_act e.act)) log)
    ≡ with_script_touches t (touches_of (e ∷ events)) log
unfolding touches_of with_script_touches
touches_more t e events log = added (touch_of (made_by_act e.act))
  where
    added : (touch : Option Touch) → with_script_touches t (touches_of events) (with_touch_if_any t touch log)
        ≡ with_script_touches t (add_touch touch (touches_of events)) log
    added None = refl
    added (Some touch) = refl

HasDone-more : (system : System) (frames : ℕ) (events left : List At) (e : At) (old now new : MachineValue) (was out given : OutFilesValue)
    (log after noted : Log)
    (clx cleared bits : ℕ) → IsOnScreen old.beam → IsQueue system frames (place_of old.beam) (e ∷ left) → is_due now.beam e ≡ true
    → HasDone events (e ∷ left) old now was out log after clx cleared
    → (is_clx_read (made_by_act e.act) ≡ true → bits ≡ 0) → (is_clx_read (made_by_act e.act) ≡ false → bits ≡ cleared)
    → MakesEvent cleared e.act now out new given → KeepsPlace now new
    → noted ≡ with_touch_if_any now.t (touch_of (made_by_act e.act)) after
    → HasDone events left old new was given log noted clx bits
HasDone-more system frames events left e old now new was out given log after noted clx cleared bits on queue is so reads keeps makes kept notes =
    let due_now : is_due old.beam e ≡ true = sym (ap (λ b. is_due b e) so.place.beam) ∙ is in
    let first : due_events old.beam (e ∷ left) ≡ e ∷ due_events old.beam left = due_events-more old.beam e left due_now in
    record {
      place = KeepsPlace-more old now new so.place kept;
      rest = λ end last rest. so.rest end last (subst (λ es. MakesEvents cleared es now out end last) (sym first)
          (events_of_two cleared bits e (due_events old.beam left) now new end out given last reads keeps makes rest));
      noted = ap (λ l. with_script_touches old.t (touches_of (due_events old.beam left)) l)
          (notes ∙ ap (λ t. with_touch_if_any t (touch_of (made_by_act e.act)) after) so.place.t)
          ∙ touches_more old.t e (due_events old.beam left) after
          ∙ ap (λ es. with_script_touches old.t (touches_of es) after) (sym first) ∙ so.noted;
      later = λ later screen behind.
          so.later later screen behind ∙ due_events-later system frames (place_of old.beam) old.beam later e left queue on screen due_now behind;
    }

-- one turn: the first that is left is due and happens
pub turn : (events left others : List At) (e : At) (old now new : MachineValue) (was out given : OutFilesValue) (log after noted : Log)
    (clx cleared bits : ℕ) → IsOnScreen old.beam
    → HasDone events left old now was out log after clx cleared × IsLeft (place_of old.beam) left → left ≡ e ∷ others → is_due now.beam e ≡ true
    → (is_clx_read (made_by_act e.act) ≡ true → bits ≡ 0) → (is_clx_read (made_by_act e.act) ≡ false → bits ≡ cleared)
    → MakesEvent cleared e.act now out new given → KeepsPlace now new
    → noted ≡ with_touch_if_any now.t (touch_of (made_by_act e.act)) after
    → HasDone events others old new was given log noted clx bits × IsLeft (place_of old.beam) others
turn events left others e old now new was out given log after noted clx cleared bits on so is due_now reads keeps makes kept notes =
    let here : HasDone events (e ∷ others) old now was out log after clx cleared =
    subst (λ es. HasDone events es old now was out log after clx cleared) is so.0 in
    let queue : IsLeft (place_of old.beam) (e ∷ others) = subst (λ es. IsLeft (place_of old.beam) es) is so.1 in (
      HasDone-more queue.system queue.frames events others e old now new was out given log after noted clx cleared bits on queue.queue due_now here reads keeps
          makes kept notes,
      record { system = queue.system; frames = queue.frames; queue = IsQueue-more queue.system queue.frames (place_of old.beam) e others queue.queue },
    )

-- none of those that are left is due: the events of the clock have happened
pub MakesEvents-all : (events left : List At) (old now : MachineValue) (was out : OutFilesValue) (log after : Log) (clx cleared : ℕ)
    → HasDone events left old now was out log after clx cleared → due_events old.beam left ≡ []
    → MakesEvents clx (due_events old.beam events) old was now out
unfolding do_events
MakesEvents-all events left old now was out log after clx cleared so none =
    so.rest now out (subst (λ es. MakesEvents cleared es now out now out) (sym none) (λ start s bits stands. stands))

pub noted-all : (events left : List At) (old now : MachineValue) (was out : OutFilesValue) (log after : Log) (clx cleared : ℕ)
    → HasDone events left old now was out log after clx cleared → due_events old.beam left ≡ []
    → after ≡ with_script_touches old.t (touches_of (due_events old.beam events)) log
unfolding touches_of with_script_touches
noted-all events left old now was out log after clx cleared so none =
    ap (λ es. with_script_touches old.t (touches_of es) after) (sym none) ∙ so.noted

-- the end: the first that is left is not due, or none is left
pub record IsOver (b : Beam) (left : List At) : Type 0 where
  pub none : due_events b left ≡ []
  pub rest : IsLeft (place_of b + 1) left

pub IsOver-later : (left others : List At) (e : At) (b now : Beam) → IsOnScreen b → IsLeft (place_of b) left → left ≡ e ∷ others → IsSamePlace b now
    → is_due now e ≡ false → IsOver b left
IsOver-later left others e b now on so is same not =
    let queue : IsLeft (place_of b) (e ∷ others) = subst (λ es. IsLeft (place_of b) es) is so in
    let here : is_due b e ≡ false = sym (ap (λ x. is_due x e) same) ∙ not in
    let end : IsQueue queue.system queue.frames (place_of b + 1) (e ∷ others) = IsQueue-end queue.system queue.frames b e others queue.queue on here in
    subst (λ es. IsOver b es) (sym is) (record {
      none = due_events-none queue.system queue.frames b (e ∷ others) end.from end.limits on;
      rest = record { system = queue.system; frames = queue.frames; queue = end };
    })

pub IsOver-empty : (left : List At) (b : Beam) → length left ≡ 0 → IsOver b left
unfolding due_events
IsOver-empty [] b is = record { none = refl; rest = record { system = Pal; frames = 0; queue = IsQueue-empty Pal 0 (place_of b + 1) } }
IsOver-empty (e ∷ left) b is = absurd (omega arith)

-- lines of the trace alone were given
pub lines_none : (out : OutFilesValue) → GivesLines out out
lines_none out = ([], gives_nothing out)

pub lines_then : (old between new : OutFilesValue) → GivesLines old between → GivesLines between new → GivesLines old new
lines_then old between new first second = (first.0 ++ second.0, gives_then old between new [] [] first.0 second.0 first.1 second.1)

pub lines_same : (old new : OutFilesValue) → new ≡ old → GivesLines old new
lines_same old new same = subst (λ (o : OutFilesValue). GivesLines old o) (sym same) (lines_none old)

-- an event of a machine that stands for some state
event_stands : (clx : ℕ) (act : Act) (old new : MachineValue) (out given : OutFilesValue) → (machine : IsMachine old) → MakesEvent clx act old out new given →
    Stands (record { out = out; trace = machine.0.trace }) new given (do_event act (record machine.0 { clx = clx }))
event_stands clx act old new out given machine makes =
    let s : State = record machine.0 { clx = clx } in
    let start : Start = record { out = out; trace = machine.0.trace } in
    makes start s (λ is. refl) (record {
      machine = record { t = machine.1.t; beam = machine.1.beam; memory = machine.1.memory; chips = machine.1.chips; side = machine.1.side };
      told = told_none out s;
    })

pub lines_of_event : (clx : ℕ) (act : Act) (old new : MachineValue) (out given : OutFilesValue) → IsMachine old → MakesEvent clx act old out new given →
    GivesLines out given
lines_of_event clx act old new out given machine makes =
    let stands = event_stands clx act old new out given machine makes in (stands.told.lines, stands.told.text)

pub machine_of_event : (clx : ℕ) (act : Act) (old new : MachineValue) (out given : OutFilesValue) → IsMachine old → MakesEvent clx act old out new given →
    IsMachine new
machine_of_event clx act old new out given machine makes =
    let stands = event_stands clx act old new out given machine makes in (do_event act (record machine.0 { clx = clx }), stands.machine)

-- whether the events of a clock read CLXDAT, one after another
pub record IsSearched (b : Beam) (events left : List At) : Type 0 where
  pub same : has_clx_read (due_events b events) ≡ has_clx_read (due_events b left)
  pub rest : IsLeft (place_of b) left

first_of_rest : (b : Beam) (left others : List At) (e : At) → left ≡ e ∷ others → is_due b e ≡ true →
    has_clx_read (due_events b left) ≡ (is_clx_read (made_by_act e.act) || has_clx_read (due_events b others))
unfolding has_clx_read
first_of_rest b left others e is due =
    ap (λ es. has_clx_read (due_events b es)) is ∙ ap has_clx_read (due_events-more b e others due)

pub searched_more : (b : Beam) (events left others : List At) (e : At) → IsSearched b events left → left ≡ e ∷ others → is_due b e ≡ true →
    is_clx_read (made_by_act e.act) ≡ false → IsSearched b events others
searched_more b events left others e so is due not =
    let queue : IsLeft (place_of b) (e ∷ others) = subst (λ es. IsLeft (place_of b) es) is so.rest in
    record {
      same = so.same ∙ first_of_rest b left others e is due ∙ ap (λ found. found || has_clx_read (due_events b others)) not;
      rest = record { system = queue.system; frames = queue.frames; queue = IsQueue-more queue.system queue.frames (place_of b) e others queue.queue };
    }

pub search_found : (b : Beam) (events left others : List At) (e : At) → IsSearched b events left → left ≡ e ∷ others → is_due b e ≡ true →
    is_clx_read (made_by_act e.act) ≡ true → true ≡ has_clx_read (due_events b events)
search_found b events left others e so is due found =
    sym (so.same ∙ first_of_rest b left others e is due ∙ ap (λ x. x || has_clx_read (due_events b others)) found)

pub search_over : (b : Beam) (events left : List At) → IsSearched b events left → IsOver b left → false ≡ has_clx_read (due_events b events)
unfolding has_clx_read
search_over b events left so over = sym (so.same ∙ ap has_clx_read over.none)

-- what is left of events is the last of them
pub rest_all : (events : List At) → IsRest events events
rest_all events = record {
  within = omega arith;
  same = (let none : length events - length events ≡ 0 = omega arith in sym (ap (λ k. drop k events) none));
}

pub rest_more : (events left others : List At) (e : At) → IsRest events left → left ≡ e ∷ others → IsRest events others
rest_more events left others e rest is =
    let size : length left ≡ length others + 1 = omega (arith, ap length is) in
    let one : others ≡ drop 1 left = sym (ap (λ l. drop 1 l) is) in
    let count : length events - length left + 1 ≡ length events - length others = omega (arith, size, rest.within) in
    record {
      within = omega (arith, size, rest.within);
      same = one ∙ ap (λ l. drop 1 l) rest.same ∙ drop-drop 1 (length events - length left) events ∙ ap (λ k. drop k events) count;
    }

-- so the place of what is left is told by its length
pub rest_of_drop : (next : ℕ) (events left : List At) → next ≤ length events → IsRest (drop next events) left
    → left ≡ drop (length events - length left) events
rest_of_drop next events left within rest =
    let size : length (drop next events) ≡ length events - next = length-drop next events in
    let count : next + (length (drop next events) - length left) ≡ length events - length left = omega (arith, size, rest.within, within) in
    rest.same ∙ drop-drop (length (drop next events) - length left) next events ∙ ap (λ k. drop k events) count
