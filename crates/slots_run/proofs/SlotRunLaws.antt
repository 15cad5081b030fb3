-- Where a run stands whose slots are looked at, and what its calls make of that.
use Rattle.std.proofs.Common.{◌≡◌, ℕ, ◌+◌, ◌-◌, ◌*◌, ◌^◌, ◌<◌, ◌≤◌, false, ◌==◌, List, [], ◌++◌, None}
use Rattle.std.proofs.Common.{map, flat_map}
use Rattle.std.proofs.Common.{refl, ap, sym, subst, ◌∙◌, inl, inr, arith}
use Rattle.std.proofs.lemmas.Bool.{cases_eq, cases_lt}
use Rattle.std.proofs.lemmas.Bool.Decides.{nat_tests}
use Rattle.std.proofs.lemmas.List.{flat_map_more}
use Rattle.std.proofs.lemmas.List.FromFn.{map-range_with_len_more}
use Rattle.std.specs.List.{range_with_len}
use Rattle.ocs_base.specs.Systems.{last_clock}
use Rattle.ocs_base.specs.declared.beam.Beam.{Beam}
use Rattle.band_log.specs.Raster.{RasterValue, Takes}
use Rattle.mem_versions.specs.Chip.{ChipValue, after_reads}
use Rattle.out_files.specs.OutFiles.{OutFilesValue}
use Rattle.serial_model.specs.Serial.{state_over}
use Rattle.serial_model.specs.State.{reset}
use Rattle.serial_model.specs.declared.side.NoSide.{NoSide}
use Rattle.serial_bands.specs.Run.{RunValue, beam_at}
use Rattle.picture_log.specs.declared.log.Log.{Log}
use Rattle.picture_log.specs.Log.{IsBandOf}
use Rattle.foreground.specs.Fore.{ForeOf, ForeValue, IsNew, IsUnderway, is_done}
use Rattle.clock_loop.specs.RunTo.{HasRunOn, RunsOn, HasCome}
use Rattle.slot_log.specs.Record.{SlotClock, record_bytes}
use Rattle.slots_run.specs.Log.{slot_clock, log_text}
use Rattle.slots_run.specs.code.SlotRun.{fore_of, raster_of, run_in, frame_in, Stands, GoesOn, Comes}
use Rattle.slots_run.specs.declared.slot_run.SlotRun.{SlotRun}
use Rattle.slots_run.proofs.ClockLaws.{frames_to_line, next_frame, few_places}

-- ---- at its reset

pub stands_new : (run : RunValue) (fore : ForeValue) (raster : RasterValue) → IsNew run fore
    → raster ≡ record { outstanding = []; next = 0; bound = None; mark = 0; tint = 0 } → IsUnderway fore 0 raster
stands_new run fore raster new is =
    new.fits raster (ap (λ (r : RasterValue). r.outstanding) is) (ap (λ (r : RasterValue). r.next) is)
    (subst (λ (r : RasterValue). Takes r.bound run) (sym is) tt)

-- there its frame is 0
pub frame_at_reset : (r : SlotRun) → Stands r → r.fore.machine.t ≡ 0 → frame_in r ≡ 0
unfolding state_over reset
frame_at_reset r is zero =
    ap (λ (b : Beam). b.frame) (sym is.stands.at.machine.beam) ∙ ap (λ n. (beam_at (run_in r) n).frame) zero

-- ---- once a word of its memory was read

read_band : (run : RunValue) (c n : ℕ) (log : Log) (chip : ChipValue) → IsBandOf run c log chip → IsBandOf run c log (after_reads chip n)
read_band run c n log chip (inl begins) =
    let is = begins.0 in
    inl (
      record {
        from = is.from;
        number = is.number;
        begin = is.begin;
        stands = is.stands;
        events = is.events;
        base = is.base;
        writes = is.writes;
      },
      begins.1,
    )
read_band run c n log chip (inr grows) =
    let is = grows.kept in
    inr (record {
      kept = record {
        order = is.order;
        number = is.number;
        begin = is.begin;
        inner = is.inner;
        running = is.running;
        place = is.place;
        stands = is.stands;
        log = is.log;
        size = is.size;
        base = is.base;
        writes = is.writes;
      };
      waits = grows.waits;
    })

read_underway : (fore : ForeValue) (first n : ℕ) (seen : RasterValue) → IsUnderway fore first seen
    → IsUnderway (record fore { machine = record fore.machine { chip = after_reads fore.machine.chip n } }) first seen
read_underway fore first n seen is =
    let at = is.at in
    record {
      good = is.good;
      at = record {
        machine = record {
          t = at.machine.t;
          beam = at.machine.beam;
          memory = at.machine.memory;
          chips = at.machine.chips;
          side = at.machine.side;
        };
        logged = record {
          band = read_band fore.run fore.machine.t n fore.log fore.machine.chip at.logged.band;
          least = at.logged.least;
          last = at.logged.last;
          shadow = at.logged.shadow;
          range = at.logged.range;
          left = at.logged.left;
        };
        fits = at.fits;
        gathered = at.gathered;
        cut = at.cut;
        time = at.time;
      };
      running = is.running;
      frame = is.frame;
      screen = is.screen;
      count = is.count;
      script = is.script;
    }

pub stands_read : (old : SlotRun) (fore : ForeOf NoSide) (n : ℕ) → Stands old
    → fore ≡ record old.fore { machine = record old.fore.machine { chip = after_reads old.fore.machine.chip n } }
    → Stands (record old { fore = fore })
stands_read old fore n is same =
    subst (λ (f : ForeOf NoSide). Stands (record old { fore = f })) (sym same)
    (record { first = is.first; stands = read_underway (fore_of old.fore) is.first n (raster_of old.raster) is.stands; fresh = is.fresh })

-- ---- a clock before a frame

module _ (fore : ForeValue) (first frame : ℕ) (raster : RasterValue) (is : IsUnderway fore first raster) (before : fore.machine.beam.frame < frame) where
  pub few_clocks : fore.machine.t < frame * 71364
  few_clocks =
      let low : _ = few_places fore.machine.beam frame is.screen before in
      omega (arith, low, is.count)

  pub not_done : frame ≤ fore.run.script.frames → is_done fore ≡ false
  not_done most = other fore.machine.beam.frame fore.run.script.frames before most
    where
      other : (f frames : ℕ) → f < frame → frame ≤ frames → (f == frames) ≡ false
      other f frames low high = grind (arith, nat_tests, low, high)

  pub room_for_line : frame ≤ fore.run.script.frames → fore.machine.t + 228 < 2 ^ 64
  room_for_line most = omega (arith, few_clocks, most, is.good.script.most)

-- ---- clocks that it goes on

-- some, where it has not ended
same_clock : (old new : ForeValue) (first until : ℕ) (seen after : RasterValue) → IsUnderway old first seen → IsUnderway new until after
    → new.run ≡ old.run → new.machine.t ≡ old.machine.t → is_done new ≡ is_done old
same_clock old new first until seen after was is run t =
    let beam : new.machine.beam ≡ old.machine.beam =
    sym is.at.machine.beam ∙ ap (λ r. beam_at r new.machine.t) run ∙ ap (λ c. beam_at old.run c) t ∙ was.at.machine.beam in
    ap (λ (b : Beam). b.frame == new.run.script.frames) beam ∙ ap (λ (r : RunValue). old.machine.beam.frame == r.script.frames) run

pub later_clock : (old new : ForeValue) (first limit : ℕ) (seen after : RasterValue) (out given : OutFilesValue) → IsUnderway old first seen
    → is_done old ≡ false → RunsOn old new seen after out given → HasCome limit old new → old.machine.t < limit → new.run ≡ old.run
    → old.machine.t < new.machine.t
later_clock old new first limit seen after out given was not runs come before run =
    elim (cases_eq new.machine.t old.machine.t) [
      | inl e ↦ absurd (stays e)
      | inr other ↦ (let o : new.machine.t ≡ old.machine.t → ⊥ = other in omega (arith, come.on))
    ]
  where
    stays : new.machine.t ≡ old.machine.t → ⊥
    stays t =
        let so : HasRunOn old new first seen after out given = runs first was in
        let all = come.all (same_clock old new first so.until seen after was so.stands run t ∙ not) in
        omega (arith, all, t, before)

module _ (old new : SlotRun) (was : Stands old) (now : Stands new) (same : run_in new ≡ run_in old) where
  here : beam_at (run_in old) old.fore.machine.t ≡ old.fore.machine.beam
  here = was.stands.at.machine.beam

  there : beam_at (run_in old) new.fore.machine.t ≡ new.fore.machine.beam
  there = ap (λ (r : RunValue). beam_at r new.fore.machine.t) (sym same) ∙ now.stands.at.machine.beam

  pub goes_on : old.fore.machine.t < new.fore.machine.t
      → ((k : ℕ) → old.fore.machine.t ≤ k → k < new.fore.machine.t → (beam_at (run_in old) k).frame ≤ (beam_at (run_in old) old.fore.machine.t).frame)
      → GoesOn old new
  goes_on later passed =
      let frames : (k : ℕ) → old.fore.machine.t ≤ k → k < new.fore.machine.t → (beam_at (run_in old) k).frame ≤ frame_in old =
      λ k low high. subst (λ (b : Beam). (beam_at (run_in old) k).frame ≤ b.frame) here (passed k low high) in
      record {
        stands = now;
        run = same;
        later = later;
        frames = frames;
        next = subst (λ (b : Beam). b.frame ≤ frame_in old + 1) there
            (next_frame (run_in old) old.fore.machine.t new.fore.machine.t (frame_in old) later frames);
      }

  -- up to the next line
  pub goes_to_line : (limit : ℕ) (out given : OutFilesValue) → frame_in old < (run_in old).script.frames
      → (let b = old.fore.machine.beam in limit ≡ old.fore.machine.t + (last_clock (run_in old).script.system b.v - b.h) + 1)
      → RunsOn (fore_of old.fore) (fore_of new.fore) (raster_of old.raster) (raster_of new.raster) out given
      → HasCome limit (fore_of old.fore) (fore_of new.fore) → GoesOn old new
  goes_to_line limit out given running is runs come =
      let not : is_done (fore_of old.fore) ≡ false =
      not_done (fore_of old.fore) was.first (run_in old).script.frames (raster_of old.raster) was.stands running (omega arith) in
      let next : (let b = beam_at (run_in old) old.fore.machine.t in
      limit ≡ old.fore.machine.t + (last_clock (run_in old).script.system b.v - b.h) + 1) =
      subst (λ (b : Beam). limit ≡ old.fore.machine.t + (last_clock (run_in old).script.system b.v - b.h) + 1) (sym here) is in
      let before : old.fore.machine.t < limit = omega (arith, is) in
      let most : new.fore.machine.t ≤ limit = omega (arith, come.most, before) in
      goes_on
      (later_clock (fore_of old.fore) (fore_of new.fore) was.first limit (raster_of old.raster) (raster_of new.raster) out given was.stands not runs come
      before same)
      (λ k low high. frames_to_line (run_in old) old.fore.machine.t limit k next low (omega (arith, high, most)))

  -- one clock
  pub goes_one : new.fore.machine.t ≡ old.fore.machine.t + 1 → GoesOn old new
  goes_one count =
      goes_on (omega (arith, count)) (λ k low high.
      (let first : k ≡ old.fore.machine.t = omega (arith, low, high, count) in
      let e : (beam_at (run_in old) k).frame ≡ (beam_at (run_in old) old.fore.machine.t).frame = ap (λ n. (beam_at (run_in old) n).frame) first in
      omega (arith, e)))

-- ---- up to the first clock of a frame

pub record Going (frame : ℕ) (old now : SlotRun) : Type 0 where
  pub stands : Stands now
  pub run : run_in now ≡ run_in old
  pub on : old.fore.machine.t ≤ now.fore.machine.t
  pub most : frame_in now ≤ frame
  pub before : (k : ℕ) → old.fore.machine.t ≤ k → k < now.fore.machine.t → (beam_at (run_in old) k).frame < frame

pub going_first : (frame : ℕ) (old : SlotRun) → Stands old → frame_in old ≤ frame → Going frame old old
going_first frame old stands most = record {
  stands = stands;
  run = refl;
  on = omega arith;
  most = most;
  before = λ k low high. absurd (omega (arith, low, high));
}

module _ (frame : ℕ) (old now : SlotRun) (going : Going frame old now) where
  pub going_next : (new : SlotRun) → frame_in now < frame → GoesOn now new → Going frame old new
  going_next new low goes = record {
    stands = goes.stands;
    run = goes.run ∙ going.run;
    on = omega (arith, going.on, goes.later);
    most = omega (arith, goes.next, low);
    before = λ k from to. elim (cases_lt k now.fore.machine.t) [
      | inl less ↦ going.before k from less
      | inr more ↦ passed k more to
    ];
  }
    where
      passed : (k : ℕ) → now.fore.machine.t ≤ k → k < new.fore.machine.t → (beam_at (run_in old) k).frame < frame
      passed k more to =
          let most : (beam_at (run_in now) k).frame ≤ frame_in now = goes.frames k more to in
          let same : (beam_at (run_in now) k).frame ≡ (beam_at (run_in old) k).frame = ap (λ (r : RunValue). (beam_at r k).frame) going.run in
          omega (arith, most, same, low)

  pub going_end : (frame_in now < frame → ⊥) → Comes frame old now
  going_end not_before = record {
    stands = going.stands;
    run = going.run;
    on = going.on;
    there = let most : frame_in now ≤ frame = going.most in omega (arith, most, not_before);
    before = going.before;
  }

  -- what is left of the clocks
  pub fewer : (new : SlotRun) → frame_in now < frame → GoesOn now new
      → frame * 71364 - new.fore.machine.t < frame * 71364 - now.fore.machine.t
  fewer new low goes =
      let few = few_clocks (fore_of now.fore) going.stands.first frame (raster_of now.raster) going.stands.stands low in
      omega (arith, few, goes.later)

-- ---- the log of the clocks so far, and one more

pub noted_more : (run now_run : RunValue) (first t later : ℕ) (base text new : List ℕ) → now_run ≡ run → first ≤ t → later ≡ t + 1
    → text ≡ base ++ log_text run.image run.script first (t - first)
    → new ≡ text ++ record_bytes (slot_clock now_run.image now_run.script t)
    → new ≡ base ++ log_text run.image run.script first (later - first)
noted_more run now_run first t later base text new same on next is noted =
    let clock : ℕ → SlotClock = slot_clock run.image run.script in
    let past : List SlotClock = map clock (range_with_len first (t - first)) in
    let there : first + (t - first) ≡ t = omega (arith, on) in
    let more : (t - first) + 1 ≡ later - first = omega (arith, next, on) in
    noted
    ∙ ap (λ (r : RunValue). text ++ record_bytes (slot_clock r.image r.script t)) same
    ∙ ap (λ bytes. bytes ++ record_bytes (clock t)) is
    ∙ flat_map_more record_bytes base past (clock t)
    ∙ ap (λ clocks. base ++ flat_map record_bytes clocks) (sym (map-range_with_len_more clock first (t - first) t there))
    ∙ ap (λ n. base ++ log_text run.image run.script first n) more
