-- The log where a band begins: at reset, with a line, and where CLXDAT was read.
use Rattle.std.proofs.Common.{◌≡◌, ◌≤◌, ◌<◌, inl, ℕ, suc, ◌+◌, ◌-◌, ◌*◌, ◌/◌, ◌%◌, Bool, true, false, ◌==◌, nat_le, if◌then◌else◌, List, [], ◌∷◌}
use Rattle.std.proofs.Common.{◌++◌, length, map, Option, Some, None, replicate, slice_index, slice_set, refl, ap, ◌∙◌, sym, subst, arith, true≢false}
use Rattle.std.proofs.lemmas.Bool.Decides.{nat_tests}
use Rattle.std.proofs.lemmas.List.{length-map}
use Rattle.std.specs.Arc.{arc_value}
use Rattle.mem_versions.specs.Chip.{ChipValue, memory_from, after_reads}
use Rattle.mem_versions.specs.MemView.{ViewValue, IsViewOf, word_then}
use Rattle.ocs_base.specs.declared.addr.Addr.{Addr}
use Rattle.ocs_base.specs.declared.beam.Beam.{Beam}
use Rattle.ocs_base.specs.declared.script.At.{At}
use Rattle.ocs_base.specs.Systems.{last_clock}
use Rattle.ocs_base.specs.declared.system.System.{System}
use Rattle.serial_model.specs.declared.picture.Denise.{Denise}
use Rattle.serial_model.specs.declared.picture.Touch.{Touch}
use Rattle.serial_model.specs.declared.picture.Touch.TheVariants as T
use Rattle.serial_model.specs.Beam.{first_place, is_line_start}
use Rattle.serial_model.specs.Made.{word_of}
use Rattle.serial_model.specs.Picture.{reset_picture, clear_line, set_picture, touch_if_any, add_load, is_latch, is_sprite, is_colour, set_sprite}
use Rattle.serial_model.specs.Serial.{state_over}
use Rattle.serial_model.specs.State.{State, reset}
use Rattle.serial_model.specs.Tick.{tick}
use Rattle.serial_model.proofs.NextLaws.{beam_next}
use Rattle.serial_bands.specs.declared.event.Event.{Event}
use Rattle.serial_bands.specs.declared.event.Event.TheVariants as E
use Rattle.serial_bands.specs.declared.shadow.Filling.TheVariants as F
use Rattle.serial_bands.specs.declared.shadow.Shadow.{Shadow}
use Rattle.serial_model.specs.Side.{SideValue}
use Rattle.serial_bands.specs.Run.{RunValue, run_over, state_of, beam_at, run_memory}
use Rattle.serial_bands.specs.Clock.{opening_at, closing_at, bus_touch_at, write_alone}
use Rattle.serial_bands.specs.Bands.{begins, begun}
use Rattle.serial_bands.specs.BusReads.{filled_register, is_fetch, is_fetched, fetched_count}
use Rattle.serial_bands.specs.ReplayLaws.{with_write}
use Rattle.serial_bands.specs.RightJob.{bus_events, HasMemory}
use Rattle.serial_bands.specs.Shadows.{IsShadowOf, shadow_of, found_shadow, line_opening}
use Rattle.serial_bands.specs.Fetches.{fetches_in, IsLeftBy}
use Rattle.serial_bands.specs.OpenBand.{IsOpen}
use Rattle.serial_model.specs.StandsFor.{StandsFor}
use Rattle.serial_bands.proofs.BandOrder.{first_begins}
use Rattle.serial_bands.proofs.Fetches.{left_of_picture, left_of_found, fetches_are_latched}
use Rattle.serial_bands.proofs.FetchRanges.{range_of_picture, range_of_found, shadow_found_in}
use Rattle.serial_bands.proofs.Opening.{band_closes}
use Rattle.serial_bands.proofs.Replay.{opening_of_kept}
use Rattle.serial_bands.proofs.Shading.{first_shadow, line_opens, shadow_of_picture, shadow_of_kept, shadow_cleared}
use Rattle.serial_model.proofs.Standing.{stands_for_itself, stands_on, stands_cleared}
use Rattle.serial_bands.proofs.Storing.{view_has_memory}
use Rattle.serial_model.specs.Keeps.{Keeps}
use Rattle.band_log.specs.declared.job.Job.{Job}
use Rattle.picture_log.specs.Closing.{IsClockBefore, IsClosing}
use Rattle.picture_log.specs.declared.band.OpenBand.{OpenBand}
use Rattle.picture_log.specs.declared.log.Log.{Log}
use Rattle.picture_log.specs.Log.{size_to, waiting_list, IsLogOf, IsEnding, IsCut, IsJobOf, with_write_at}
use Rattle.picture_log.proofs.Logging.{growing_of}

-- at reset
abbrev pub first_log : Denise → Shadow → List Event → Log
first_log opening shadow events = record {
  band = record { number = 0; from = 0; beam = first_place; opening = opening; events = events };
  waiting = None;
  shadow = shadow;
}

starts_at_reset : (run : RunValue) → IsLogOf run 0 (first_log reset_picture (shadow_of reset_picture) []) (memory_from run.script.chip run.image)
unfolding begun opening_at state_over reset reset_picture
starts_at_reset run = record {
  band = inl (
    record {
      from = refl;
      number = refl;
      begin = first_begins run;
      stands = stands_for_itself 0 (opening_at run 0);
      events = refl;
      base = refl;
      writes = refl;
    },
    refl,
  );
  least = omega arith;
  last = refl;
  shadow = first_shadow run;
  range = range_of_picture 0 0 reset_picture;
  left = left_of_picture reset_picture refl refl refl;
}

pub starts_first : (run : RunValue) (chip : ChipValue) (opening : Denise) (shadow : Shadow) (events : List Event)
    → chip ≡ memory_from run.script.chip run.image → opening ≡ reset_picture → shadow ≡ shadow_of opening → events ≡ []
    → IsLogOf run 0 (first_log opening shadow events) chip
starts_first run chip opening shadow events memory picture still none =
    subst (λ ch. IsLogOf run 0 (first_log opening shadow events) ch) (sym memory)
    (subst (λ l. IsLogOf run 0 l (memory_from run.script.chip run.image))
    (sym (ap (λ s. first_log opening s events) (still ∙ ap shadow_of picture)
    ∙ ap (λ p. first_log p (shadow_of reset_picture) events) picture
    ∙ ap (λ l. first_log reset_picture (shadow_of reset_picture) l) none))
    (starts_at_reset run))

-- a band's job
pub ended_job : (run : RunValue) (to : ℕ) (log : Log) (chip : ChipValue) {S : Type 0} (side_of : S → SideValue) (job : Job S) (band : OpenBand) → IsEnding run
    to log chip
    → band ≡ log.band → run_over side_of (arc_value job.run) ≡ run → job.number ≡ band.number → job.from.0 ≡ band.from → job.to.0 ≡ to
    → job.beam ≡ band.beam → job.picture ≡ band.opening → job.events ≡ band.events → IsViewOf chip to job.view
    → length job.room ≡ size_to run log.band.from to → IsJobOf side_of run log.band to job
ended_job run to log chip side_of job band is same owner number from end beam opening events view room =
    let n : ℕ = log.band.number in
    let start : job.from.0 ≡ log.band.from = from ∙ ap (λ (b : OpenBand). b.from) same in
    let kept : IsOpen run n job.from.0 job.to.0 job.beam job.picture job.events (length job.room) chip =
    subst (λ f. IsOpen run n f job.to.0 job.beam job.picture job.events (length job.room) chip) (sym start)
    (subst (λ t. IsOpen run n log.band.from t job.beam job.picture job.events (length job.room) chip) (sym end)
    (subst (λ b. IsOpen run n log.band.from to b job.picture job.events (length job.room) chip)
    (sym (beam ∙ ap (λ (b : OpenBand). b.beam) same))
    (subst (λ p. IsOpen run n log.band.from to log.band.beam p job.events (length job.room) chip)
    (sym (opening ∙ ap (λ (b : OpenBand). b.opening) same))
    (subst (λ l. IsOpen run n log.band.from to log.band.beam log.band.opening l (length job.room) chip)
    (sym (events ∙ ap (λ (b : OpenBand). b.events) same))
    (subst (λ s. IsOpen run n log.band.from to log.band.beam log.band.opening log.band.events s chip) (sym room) is.kept))))) in
    record {
      right = record {
        owner = owner;
        numbered = number ∙ ap (λ (b : OpenBand). b.number) same;
        covered = λ k least most. (omega (arith, view.from, is.last, start), omega (arith, view.to, end));
        parts = band_closes run n job.from.0 job.to.0 job.beam job.picture job.events (length job.room) chip job.view kept
            (subst (λ t. begins run t ≡ true) (sym end) is.begin) (subst (λ t. IsViewOf chip t job.view) (sym end) view);
      };
      from = start;
      end = end;
    }

-- no word of a shadow is a fetch once its words are found
none_fetched : fetched_count [] ≡ 0
unfolding is_fetched
none_fetched = refl

pub all_found : (word_found : ℕ → Addr → ℕ) (events : List Event) (s : Shadow) → IsLeftBy events s → fetches_in (found_shadow word_found s) ≡ 0
all_found word_found events s left =
    let few : fetches_in (found_shadow word_found s) ≤ fetched_count [] =
    fetches_are_latched [] (found_shadow word_found s) (left_of_found word_found events s left) in
    omega (arith, few, none_fetched)

-- a band that begins with a line
cleared_twice : (b : Bool) (p : Denise)
    → (let q : Denise = (if b then record p { loads = []; runs = replicate 8 None; held = record { 0 = slice_index p.palette 0 } } else p) in
    (if b then record q { loads = []; runs = replicate 8 None; held = record { 0 = slice_index q.palette 0 } } else q) ≡ q)
cleared_twice true p = refl
cleared_twice false p = refl

opening_is_cleared : (run : RunValue) (c : ℕ) → clear_line (beam_at run c) (opening_at run c) ≡ opening_at run c
unfolding opening_at clear_line
opening_is_cleared run c = cleared_twice (is_line_start (beam_at run c)) (state_of run c).picture

abbrev pub with_opening : Denise → Shadow → Log → Log
with_opening opening shadow log = record log { band = record log.band { opening = opening }; waiting = None; shadow = shadow }

pub line_begins : (run : RunValue) (to : ℕ) (log cut : Log) (chip after : ChipValue) (reads : ℕ) (view : ViewValue) (opening : Denise)
    → IsLogOf run to log chip → log.band.from < to → is_line_start (beam_at run to) ≡ true → IsCut run to cut after
    → IsViewOf chip to view → opening ≡ line_opening run (found_shadow (word_then view) log.shadow)
    → IsLogOf run to (with_opening opening (found_shadow (word_then view) log.shadow) cut) (after_reads after reads)
line_begins run to log cut chip after reads view opening is before start has seen made =
    let from : ℕ = log.band.from in
    let found : Shadow = found_shadow (word_then view) log.shadow in
    let growing = growing_of run to log chip is before in
    let memory : HasMemory run from to (word_then view) =
    view_has_memory run from to chip view (omega (arith, before)) growing.kept.base growing.kept.writes seen in
    let shadow : IsShadowOf run found (opening_at run to) =
    shadow_found_in run from to (word_then view) log.shadow (opening_at run to) memory is.range is.shadow in
    let same : opening ≡ opening_at run to = made ∙ sym (line_opens run to found start shadow) in
    let b : Beam = beam_at run to in
    let cleared : clear_line b opening ≡ opening_at run to = ap (λ p. clear_line b p) same ∙ opening_is_cleared run to in
    record {
      band = inl (
        record {
          from = has.from;
          number = has.number;
          begin = has.begin;
          stands = subst (λ p. StandsFor (4 * b.h) p (opening_at run to)) (sym cleared) (stands_for_itself (4 * b.h) (opening_at run to));
          events = has.events;
          base = has.base;
          writes = has.writes;
        },
        refl,
      );
      least = (let here : cut.band.from ≡ to = has.from in omega (arith, here));
      last = has.last ∙ sym has.from;
      shadow = shadow;
      range = range_of_found cut.band.from to (word_then view) log.shadow;
      left = subst (λ (l : List Event). IsLeftBy (l ++ []) found) (sym has.events)
          (left_of_found (word_then view) (log.band.events ++ waiting_list log.waiting) log.shadow is.left);
    }

-- a band that begins where CLXDAT was read: the write that waited is made
abbrev pub IsWritten : Option Event → ℕ → Denise → Denise → Type 0
IsWritten waiting h closing opening = Keeps (4 * h) (with_write_at h waiting) closing opening

word_in : Event → ℕ
word_in (E.Set at reg word) = word
word_in (E.Plane at plane addr) = 0
word_in (E.Sprite at sprite second addr) = 0

first_of : {A : Type 0} (f : Event → A) → A → List Event → A
first_of f other [] = other
first_of f other (event ∷ events) = f event

no_event : (event : Event) → [] ≡ event ∷ [] → ⊥
unfolding first_of
no_event event e = true≢false (ap (first_of (λ x. false) true) e)

same_write : (waiting : Option Event) (k h : ℕ) (words : ℕ → ℕ) (touch : Option Touch) (p : Denise)
    → waiting_list waiting ≡ bus_events k (write_alone touch) → with_write_at h waiting p ≡ touch_if_any h words (write_alone touch) p
unfolding first_of word_in
same_write None k h words None p waits = refl
same_write None k h words (Some (T.Set reg word)) p waits = absurd (no_event _ waits)
same_write None k h words (Some (T.Plane plane at)) p waits = refl
same_write None k h words (Some (T.Sprite sprite second at)) p waits = refl
same_write (Some (E.Set at reg word)) k h words None p waits = absurd (no_event _ (sym waits))
same_write (Some (E.Set at reg word)) k h words (Some (T.Set other value)) p waits =
    ap (λ o. set_picture h o word p) (ap (first_of filled_register 0) waits)
    ∙ ap (λ w. set_picture h other.offset w p) (ap (first_of word_in 0) waits)
same_write (Some (E.Set at reg word)) k h words (Some (T.Plane plane addr)) p waits = absurd (no_event _ (sym waits))
same_write (Some (E.Set at reg word)) k h words (Some (T.Sprite sprite second addr)) p waits = absurd (no_event _ (sym waits))
same_write (Some (E.Plane at plane addr)) k h words None p waits = refl
same_write (Some (E.Plane at plane addr)) k h words (Some (T.Set reg word)) p waits =
    absurd (true≢false (ap (first_of is_fetch false) waits))
same_write (Some (E.Plane at plane addr)) k h words (Some (T.Plane other by)) p waits = refl
same_write (Some (E.Plane at plane addr)) k h words (Some (T.Sprite sprite second by)) p waits = refl
same_write (Some (E.Sprite at sprite second addr)) k h words None p waits = refl
same_write (Some (E.Sprite at sprite second addr)) k h words (Some (T.Set reg word)) p waits =
    absurd (true≢false (ap (first_of is_fetch false) waits))
same_write (Some (E.Sprite at sprite second addr)) k h words (Some (T.Plane other by)) p waits = refl
same_write (Some (E.Sprite at sprite second addr)) k h words (Some (T.Sprite other last by)) p waits = refl

written : (waiting : Option Event) (k h : ℕ) (words : ℕ → ℕ) (touch : Option Touch) (closing opening : Denise)
    → waiting_list waiting ≡ bus_events k (write_alone touch) → IsWritten waiting h closing opening
    → StandsFor (4 * h) opening (touch_if_any h words (write_alone touch) closing)
written waiting k h words touch closing opening waits is =
    subst (λ p. StandsFor (4 * h) opening p) (same_write waiting k h words touch closing waits)
    (is (4 * h) closing (omega arith) (stands_for_itself (4 * h) closing))

-- the next clock's positions follow those of this one, where no line starts with it
clock_of_tick : (system : System) (events : List At) (s : State)
    → (tick system events s).beam.h ≡ (if nat_le (last_clock system s.beam.v) s.beam.h then 0 else s.beam.h + 1)
clock_of_tick system events s = ap (λ (b : Beam). b.h) (beam_next system events s)

next_clock : (run : RunValue) (c : ℕ) → (let b = beam_at run c in
    (beam_at run (suc c)).h ≡ (if nat_le (last_clock run.script.system b.v) b.h then 0 else b.h + 1))
unfolding state_over
next_clock run c = clock_of_tick run.script.system run.script.events (state_of run c)

next_positions : (last h next : ℕ) → next ≡ (if nat_le last h then 0 else h + 1) → (next == 0) ≡ false → 4 * h ≤ 4 * next
next_positions last h next is inner = grind (arith, nat_tests, is, inner)

-- what a line's start leaves of a picture state does not tell at which clock a write before it was made
abbrev cleared : Denise → Denise
cleared p = record p { loads = []; runs = replicate 8 None; held = record { 0 = slice_index p.palette 0 } }

under : (b : Bool) (x one two : Denise) → cleared one ≡ cleared two → cleared (if b then x else one) ≡ cleared (if b then x else two)
under true x one two same = refl
under false x one two same = same

under_six : (a b c d e f : Bool) (u v w x y z one two : Denise) → cleared one ≡ cleared two
    → cleared (if a then u else if b then v else if c then w else if d then x else if e then y else if f then z else one)
    ≡ cleared (if a then u else if b then v else if c then w else if d then x else if e then y else if f then z else two)
under_six a b c d e f u v w x y z one two same =
    under a u (if b then v else if c then w else if d then x else if e then y else if f then z else one)
    (if b then v else if c then w else if d then x else if e then y else if f then z else two)
    (under b v (if c then w else if d then x else if e then y else if f then z else one)
    (if c then w else if d then x else if e then y else if f then z else two)
    (under c w (if d then x else if e then y else if f then z else one) (if d then x else if e then y else if f then z else two)
    (under d x (if e then y else if f then z else one) (if e then y else if f then z else two)
    (under e y (if f then z else one) (if f then z else two) (under f z one two same)))))

loaded_or : (b : Bool) (h k : ℕ) (p other : Denise) → cleared (if b then add_load h p else other) ≡ cleared (if b then add_load k p else other)
loaded_or true h k p other = refl
loaded_or false h k p other = refl

-- what a write to a register behind BPL1DAT's makes
abbrev written_behind : ℕ → ℕ → Denise → Denise
written_behind offset word p =
    if is_latch offset then record p { latches = slice_set p.latches ((offset - 0x110) / 2) word }
    else if is_sprite offset then set_sprite ((offset - 0x140) / 8) ((offset - 0x140) % 8) word p
    else if is_colour offset then record p { palette = slice_set p.palette ((offset - 0x180) / 2) (word % 4096) }
    else p

write_cleared : (h k offset word : ℕ) (p : Denise) → cleared (set_picture h offset word p) ≡ cleared (set_picture k offset word p)
unfolding set_picture
write_cleared h k offset word p =
    let held : Denise = record p { latches = slice_set p.latches 0 word } in
    under_six (offset == 0x08e) (offset == 0x090) (offset == 0x098) (offset == 0x100) (offset == 0x102) (offset == 0x104)
    (record p { diwstrt = word }) (record p { diwstop = word }) (record p { clxcon = word })
    (record p { con0 = word }) (record p { con1 = word }) (record p { con2 = word })
    (if offset == 0x110 then add_load h held else written_behind offset word p)
    (if offset == 0x110 then add_load k held else written_behind offset word p)
    (loaded_or (offset == 0x110) h k held (written_behind offset word p))

touch_cleared : (h k : ℕ) (words : ℕ → ℕ) (touch : Option Touch) (p : Denise)
    → cleared (touch_if_any h words (write_alone touch) p) ≡ cleared (touch_if_any k words (write_alone touch) p)
touch_cleared h k words None p = refl
touch_cleared h k words (Some (T.Set reg word)) p = write_cleared h k reg.offset word p
touch_cleared h k words (Some (T.Plane plane at)) p = refl
touch_cleared h k words (Some (T.Sprite sprite second at)) p = refl

at_line_start : (b : Beam) (p : Denise) → is_line_start b ≡ true → clear_line b p ≡ cleared p
unfolding clear_line
at_line_start b p start = ap (λ (t : Bool). if t then cleared p else p) start

line_forgets : (b : Beam) (h k : ℕ) (words : ℕ → ℕ) (touch : Option Touch) (p : Denise) → is_line_start b ≡ true
    → clear_line b (touch_if_any h words (write_alone touch) p) ≡ clear_line b (touch_if_any k words (write_alone touch) p)
line_forgets b h k words touch p start =
    at_line_start b _ start ∙ touch_cleared h k words touch p ∙ sym (at_line_start b _ start)

-- so the write that waits may be made at any clock where a line starts, and else is made at that of the access
write_opens : (run : RunValue) (c h : ℕ) (waiting : Option Event) (closing opening : Denise)
    → waiting_list waiting ≡ bus_events c (write_alone (bus_touch_at run c)) → IsClockBefore run (suc c) h → IsWritten waiting h closing opening
    → (start : Bool) → is_line_start (beam_at run (suc c)) ≡ start
    → StandsFor (4 * (beam_at run (suc c)).h) (clear_line (beam_at run (suc c)) opening) (clear_line (beam_at run (suc c)) (with_write run c closing))
write_opens run c h waiting closing opening waits place is true start =
    let next : Beam = beam_at run (suc c) in
    let words : ℕ → ℕ = word_of (run_memory run c) in
    let touch : Option Touch = bus_touch_at run c in
    subst (λ p. StandsFor (4 * next.h) (clear_line next opening) p) (line_forgets next h (beam_at run c).h words touch closing start)
    (stands_cleared (4 * h) next opening (touch_if_any h words (write_alone touch) closing) (written waiting c h words touch closing opening waits is)
    (λ inner. absurd (true≢false (sym start ∙ inner))))
write_opens run c h waiting closing opening waits place is false inner =
    let b : Beam = beam_at run c in
    let next : Beam = beam_at run (suc c) in
    let one : suc c - 1 ≡ c = omega arith in
    let here : h ≡ b.h = place inner ∙ ap (λ k. (beam_at run k).h) one in
    let made : StandsFor (4 * b.h) opening (with_write run c closing) =
    written waiting c b.h (word_of (run_memory run c)) (bus_touch_at run c) closing opening waits
    (subst (λ x. IsWritten waiting x closing opening) here is) in
    stands_cleared (4 * b.h) next opening (with_write run c closing) made
    (λ more. next_positions (last_clock run.script.system b.v) b.h next.h (next_clock run c) more)

opens_next : (run : RunValue) (c h : ℕ) (waiting : Option Event) (closing opening : Denise)
    → waiting_list waiting ≡ bus_events c (write_alone (bus_touch_at run c)) → IsClockBefore run (suc c) h → IsWritten waiting h closing opening
    → StandsFor (4 * (beam_at run c).h + 4) closing (closing_at run c)
    → StandsFor (4 * (beam_at run (suc c)).h) (clear_line (beam_at run (suc c)) opening) (opening_at run (suc c))
opens_next run c h waiting closing opening waits place is stands =
    let next : Beam = beam_at run (suc c) in
    stands_on (4 * next.h) (clear_line next opening) (clear_line next (with_write run c closing)) (opening_at run (suc c))
    (write_opens run c h waiting closing opening waits place is (is_line_start next) refl)
    (opening_of_kept run c closing stands)

same_size : (words : List ℕ) (count : ℕ) → length (map (λ word. F.Word word) words) ≡ count → length words ≡ count
same_size words count is = sym (length-map words (λ word. F.Word word)) ∙ is

pub log_opens : (run : RunValue) (to h : ℕ) (log : Log) (chip : ChipValue) (closing opening : Denise)
    → IsCut run to log chip → IsClosing run to closing → IsClockBefore run to h → IsWritten log.waiting h closing opening
    → length (shadow_of opening).latches ≡ 6 → length (shadow_of opening).words_a ≡ 8 → length (shadow_of opening).words_b ≡ 8
    → IsLogOf run to (with_opening opening (shadow_of opening) log) chip
log_opens run to h log chip closing opening has stands place is planes first second =
    let c : ℕ = to - 1 in
    let here : suc c ≡ to = (let later : 0 < to = has.later in omega (arith, later)) in
    let b : Beam = beam_at run to in
    let opens : StandsFor (4 * b.h) (clear_line b opening) (opening_at run to) =
    subst (λ k. StandsFor (4 * (beam_at run k).h) (clear_line (beam_at run k) opening) (opening_at run k)) here
    (opens_next run c h log.waiting closing opening has.waits (subst (λ k. IsClockBefore run k h) (sym here) place) is stands) in
    record {
      band = inl (
        record {
          from = has.from;
          number = has.number;
          begin = has.begin;
          stands = opens;
          events = has.events;
          base = has.base;
          writes = has.writes;
        },
        refl,
      );
      least = (let start : log.band.from ≡ to = has.from in omega (arith, start));
      last = has.last ∙ sym has.from;
      shadow = shadow_of_kept run (4 * b.h) (shadow_of opening) (clear_line b opening) (opening_at run to) opens
          (shadow_cleared run b (shadow_of opening) opening (shadow_of_picture run opening));
      range = range_of_picture log.band.from to opening;
      left = subst (λ (l : List Event). IsLeftBy (l ++ []) (shadow_of opening)) (sym has.events)
          (left_of_picture opening (same_size opening.latches 6 planes) (same_size opening.words_a 8 first)
          (same_size opening.words_b 8 second));
    }
