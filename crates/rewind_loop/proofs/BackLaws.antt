-- A run that goes back to a checkpoint, or to reset.
use Rattle.std.proofs.Common.{◌≡◌, ℕ, ◌-◌, ◌<◌, ◌≤◌, not, nat_lt, List, [], length, All, Option, Some, None, ◌⊎◌, inl, inr, slice_index_or}
use Rattle.std.proofs.Common.{refl, sym, ap, ◌∙◌, arith, subst}
use Rattle.std.specs.Arc.{arc_value}
use Rattle.std.specs.Option.{option_map}
use Rattle.std.proofs.lemmas.List.{nil_from_length}
use Rattle.std.proofs.lemmas.List.Elements.{All-filter}
use Rattle.std.proofs.lemmas.Option.{slice_get_cases, none-some}
use Rattle.ocs_rewind.specs.Ring.{RingOf, EntryOf, last_entry, best_of, up_to}
use Rattle.serial_model.specs.Side.{no_side}
use Rattle.serial_model.specs.declared.side.NoSide.{NoSide}
use Rattle.serial_bands.specs.Run.{RunValue}
use Rattle.band_log.specs.Raster.{RasterValue, Takes}
use Rattle.foreground.specs.Checkpoint.{fore_from}
use Rattle.foreground.specs.Fore.{ForeOf, ForeValue, IsUnderway, IsNew}
use Rattle.foreground.proofs.CheckpointLaws.{checkpoint_goes_on}
use Rattle.rewind_loop.specs.Places.{Place, last_of, clocks_to, back_to, reached_from}
use Rattle.rewind_loop.specs.Present.{Checkpoint, clock_of, IsEntryOf, AreAt, IsPresent, run_of, run_in, fore_of, raster_of}
use Rattle.rewind_loop.specs.code.Steps.{GoesBack, starting_with}
use Rattle.rewind_loop.specs.declared.rewind.Rewind.{Rewind}
use Rattle.rewind_loop.proofs.ClockLaws.{last_clock, clocks_up_to, last_holds}
use Rattle.rewind_loop.proofs.PlaceLaws.{reached_here, reached_back}
use Rattle.rewind_loop.proofs.PresentLaws.{present_first}

no_last : (entries : List (EntryOf Checkpoint)) → last_entry entries ≡ None → entries ≡ []
no_last entries none = by_cases (slice_get_cases entries (length entries - 1)).1
  where
    by_cases : ((x : EntryOf Checkpoint) × (length entries - 1 < length entries) × (last_entry entries ≡ Some x)
        × (slice_index_or entries (length entries - 1) x ≡ x)) ⊎ ((length entries ≤ length entries - 1) × (last_entry entries ≡ None)) → entries ≡ []
    by_cases (inl is) = absurd (none-some is.0 (sym none ∙ is.2))
    by_cases (inr past) = nil_from_length entries (omega (arith, past.0))

module _ (run : RunValue) (keep : ℕ) (p : Place) (fore : ForeValue) (raster : RasterValue) (ring : RingOf Checkpoint)
    (is : AreAt run keep p fore raster ring) (clock : ℕ) where
  -- where the clock is not above the present one, it is where it was
  pub stays_here : fore.machine.t ≤ clock → AreAt run keep (reached_from clock p) fore raster ring
  stays_here low =
      let now : p.now ≤ clock = subst (λ t. t ≤ clock) is.here low in
      subst (λ (q : Place). AreAt run keep q fore raster ring) (sym (reached_here clock p now)) is

  -- the best checkpoint is one of the run
  pub best_kept : (entry : EntryOf Checkpoint) → best_of clock ring.entries ≡ Some entry → IsEntryOf run entry
  best_kept entry best =
      last_holds (IsEntryOf run) (up_to clock ring.entries) entry
      (All-filter (λ e. not (nat_lt clock e.at.0)) (IsEntryOf run) ring.entries is.kept.each) best

  -- the clock of the best entry
  best_clock : (best : Option (EntryOf Checkpoint)) → best_of clock ring.entries ≡ best → last_of (clocks_to clock p.ring) ≡ option_map clock_of best
  best_clock best found =
      ap (λ clocks. last_of (clocks_to clock clocks)) (sym is.kept.clocks_are)
      ∙ ap last_of (sym (clocks_up_to clock ring.entries))
      ∙ last_clock (up_to clock ring.entries)
      ∙ ap (option_map clock_of) found

  turns_back : (best : Option (EntryOf Checkpoint)) → clock < fore.machine.t → best_of clock ring.entries ≡ best
      → reached_from clock p ≡ back_to clock p.ring (option_map clock_of best)
  turns_back best high found =
      let above : clock < p.now = subst (λ t. clock < t) is.here high in
      reached_back clock p above ∙ ap (back_to clock p.ring) (best_clock best found)

  -- to a checkpoint
  pub back_to_best : (entry : EntryOf Checkpoint) (new : ForeValue) (after : RasterValue) → clock < fore.machine.t
      → best_of clock ring.entries ≡ Some entry → All (λ (e : EntryOf Checkpoint). e.at.0 ≤ entry.at.0) (up_to clock ring.entries)
      → new ≡ fore_from (λ side. no_side) entry.state
      → after ≡ record { outstanding = []; next = entry.state.number; bound = None; mark = 0; tint = 0 }
      → AreAt run keep (reached_from clock p) new after (record ring { entries = up_to clock ring.entries })
  back_to_best entry new after high best latest made begun =
      let k : IsEntryOf run entry = best_kept entry best in
      let place : Place = record { now = entry.at.0; ring = clocks_to clock p.ring } in
      let stands : IsUnderway (fore_from (λ side. no_side) entry.state) entry.at.0 after =
      checkpoint_goes_on (λ side. no_side) run entry.at.0 entry.state after k (ap (λ (r : RasterValue). r.outstanding) begun) (ap (λ (r : RasterValue). r.next) begun)
      (subst (λ (r : RasterValue). Takes r.bound run) (sym begun) tt) in
      subst (λ (q : Place). AreAt run keep q new after (record ring { entries = up_to clock ring.entries })) (sym (turns_back (Some entry) high best))
      (subst (λ (f : ForeValue). AreAt run keep place f after (record ring { entries = up_to clock ring.entries })) (sym made) (record {
        first = entry.at.0;
        stands = stands;
        run_is = k.run_of;
        fresh = refl;
        here = k.clock;
        kept = record {
          clocks_are = clocks_up_to clock ring.entries ∙ ap (clocks_to clock) is.kept.clocks_are;
          room = is.kept.room;
          each = All-filter (λ e. not (nat_lt clock e.at.0)) (IsEntryOf run) ring.entries is.kept.each;
        };
        below = latest;
      }))

  -- and to reset
  pub back_to_first : (new : ForeValue) (after : RasterValue) → clock < fore.machine.t → best_of clock ring.entries ≡ None → IsNew run new
      → after ≡ record { outstanding = []; next = 0; bound = None; mark = 0; tint = 0 }
      → AreAt run keep (reached_from clock p) new after (record ring { entries = up_to clock ring.entries })
  back_to_first new after high best made begun =
      let empty : record ring { entries = up_to clock ring.entries } ≡ record { entries = []; keep = keep } =
      ap (λ entries. record ring { entries = entries }) (no_last (up_to clock ring.entries) best)
      ∙ ap (λ n. let r : RingOf Checkpoint = record { entries = []; keep = n } in r) is.kept.room in
      subst (λ (q : Place). AreAt run keep q new after (record ring { entries = up_to clock ring.entries })) (sym (turns_back None high best))
      (present_first run keep new after (record ring { entries = up_to clock ring.entries }) made begun empty)

-- a run that goes on with such a foreground and raster, once its ring is cut
pub went_back : (old mid : Rewind) (clock band : ℕ) (fore : ForeOf NoSide) (ring : RingOf Checkpoint) → mid.run ≡ old.run → mid.ring ≡ old.ring
    → mid.fore ≡ fore → raster_of mid.raster ≡ starting_with band → ring ≡ record mid.ring { entries = up_to clock mid.ring.entries }
    → GoesBack clock old fore band → (keep : ℕ) (p : Place) → IsPresent keep p old
    → AreAt (run_in mid) keep (reached_from clock p) (fore_of mid.fore) (raster_of mid.raster) ring
went_back old mid clock band fore ring run same_ring same_fore begun cut goes keep p is =
    let q : Place = reached_from clock p in
    let cut_is : ring ≡ record old.ring { entries = up_to clock old.ring.entries } =
    cut ∙ ap (λ (r : RingOf Checkpoint). record r { entries = up_to clock r.entries }) same_ring in
    subst (λ r. AreAt r keep q (fore_of mid.fore) (raster_of mid.raster) ring) (sym (ap (λ r. run_of (arc_value r)) run))
    (subst (λ f. AreAt (run_in old) keep q (fore_of f) (raster_of mid.raster) ring) (sym same_fore)
    (subst (AreAt (run_in old) keep q (fore_of fore) (raster_of mid.raster)) (sym cut_is) (goes keep p is (raster_of mid.raster) begun)))
