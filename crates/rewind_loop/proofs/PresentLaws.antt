-- A run at a place: what its calls leave of it.
use Rattle.std.proofs.Common.{◌≡◌, ℕ, ◌-◌, ◌≤◌, true, false, ◌==◌, List, [], ◌∷◌, ◌++◌, length, map, Some, None}
use Rattle.std.proofs.Common.{refl, sym, ap, ◌∙◌, arith, subst}
use Rattle.std.specs.Option.{option_map}
use Rattle.std.proofs.lemmas.List.Elements.{All-nil, All-push, All-drop}
use Rattle.ocs_rewind.specs.Ring.{RingOf, EntryOf, last_entry, best_of, pushed, IsAbove}
use Rattle.out_files.specs.OutFiles.{OutFilesValue}
use Rattle.serial_model.specs.Side.{no_side}
use Rattle.serial_bands.specs.Run.{RunValue, state_of, beam_at}
use Rattle.band_log.specs.Raster.{RasterValue, Takes}
use Rattle.foreground.specs.Checkpoint.{IsCheckpointOf}
use Rattle.foreground.specs.Fore.{ForeValue, IsNew}
use Rattle.foreground.specs.Save.{HasSaved, Saves, IsSaved}
use Rattle.rewind_loop.specs.Places.{Place, first_place, is_due, due_in, is_that, last_of, with_clock, visited}
use Rattle.rewind_loop.specs.Present.{Checkpoint, clock_of, IsEntryOf, AreAt}
use Rattle.rewind_loop.proofs.ClockLaws.{last_clock, pushed_clocks, up_to_all, above_last, visited_none, visited_again, visited_first}

module _ (run : RunValue) (keep : ℕ) (p : Place) (fore : ForeValue) (raster : RasterValue) (ring : RingOf Checkpoint)
    (is : AreAt run keep p fore raster ring) where
  -- whether a checkpoint is due is read off the beam
  pub due_here : (every : ℕ) → due_in (state_of run) every p.now ≡ is_due every fore.machine.beam
  due_here every =
      ap (λ (r : RunValue). is_due every (beam_at r p.now)) (sym is.run_is)
      ∙ ap (λ c. is_due every (beam_at fore.run c)) (sym is.here)
      ∙ ap (is_due every) is.stands.at.machine.beam

  -- the best entry for the present clock is the last one
  pub best_last : (t : ℕ) → t ≡ fore.machine.t → option_map clock_of (best_of t ring.entries) ≡ last_of p.ring
  best_last t now =
      ap (λ c. option_map clock_of (best_of c ring.entries)) (now ∙ is.here)
      ∙ ap (λ entries. option_map clock_of (last_entry entries)) (up_to_all p.now ring.entries is.below)
      ∙ sym (last_clock ring.entries) ∙ ap last_of is.kept.clocks_are

  pub kept_some : (t u : ℕ) (entry : EntryOf Checkpoint) → t ≡ fore.machine.t → u ≡ fore.machine.t → best_of t ring.entries ≡ Some entry
      → (entry.at.0 == u) ≡ is_that p.now (last_of p.ring)
  kept_some t u entry now again best =
      ap (λ c. entry.at.0 == c) (again ∙ is.here)
      ∙ ap (is_that p.now) (sym (ap (option_map clock_of) best) ∙ best_last t now)

  pub kept_none : (t : ℕ) → t ≡ fore.machine.t → best_of t ring.entries ≡ None → false ≡ is_that p.now (last_of p.ring)
  kept_none t now best = ap (is_that p.now) (sym (ap (option_map clock_of) best) ∙ best_last t now)

  -- the visits that push nothing
  same_ring : (clocks : List ℕ) → clocks ≡ p.ring → AreAt run keep (record p { ring = clocks }) fore raster ring
  same_ring clocks same = subst (λ (r : List ℕ). AreAt run keep (record p { ring = r }) fore raster ring) (sym same) is

  pub present_none : (every : ℕ) → is_due every fore.machine.beam ≡ false
      → AreAt run keep (record p { ring = visited (due_in (state_of run) every) keep p.now p.ring }) fore raster ring
  present_none every none = same_ring _ (visited_none (due_in (state_of run) every) keep p.now p.ring (due_here every ∙ none))

  pub present_again : (every : ℕ) → is_that p.now (last_of p.ring) ≡ true
      → AreAt run keep (record p { ring = visited (due_in (state_of run) every) keep p.now p.ring }) fore raster ring
  present_again every again = same_ring _ (visited_again (due_in (state_of run) every) keep p.now p.ring again)

  -- and the one that pushes
  pub push_allowed : (t : ℕ) → t ≡ fore.machine.t → is_that p.now (last_of p.ring) ≡ false → IsAbove t (last_entry ring.entries)
  push_allowed t now other =
      subst (λ c. IsAbove c (last_entry ring.entries)) (sym (now ∙ is.here))
      (above_last p.now ring.entries (last_entry ring.entries) is.below refl
      (ap (is_that p.now) (sym (last_clock ring.entries) ∙ ap last_of is.kept.clocks_are) ∙ other))

  pub present_pushed : (every t : ℕ) (new : ForeValue) (after : RasterValue) (k : Checkpoint) (out given : OutFilesValue)
      → is_due every fore.machine.beam ≡ true → is_that p.now (last_of p.ring) ≡ false → Saves fore new raster after out given
      → IsSaved (λ side. no_side) fore raster k → t ≡ fore.machine.t
      → AreAt run keep (record p { ring = visited (due_in (state_of run) every) keep p.now p.ring }) new after
      (pushed (record { at = record { 0 = t }; state = k }) ring)
  present_pushed every t new after k out given due other saves saved now =
      let entry : EntryOf Checkpoint = record { at = record { 0 = t }; state = k } in
      let all : List (EntryOf Checkpoint) = ring.entries ++ entry ∷ [] in
      let has : HasSaved fore new is.first raster after out given = saves is.first is.stands in
      let here : IsCheckpointOf (λ side. no_side) run t k =
      subst (λ (r : RunValue). IsCheckpointOf (λ side. no_side) r t k) is.run_is
      (subst (λ (c : ℕ). IsCheckpointOf (λ side. no_side) fore.run c k) (sym now) (saved is.first is.stands)) in
      let clock : t ≡ p.now = now ∙ is.here in
      let clocks : map clock_of (pushed entry ring).entries ≡ visited (due_in (state_of run) every) keep p.now p.ring =
      pushed_clocks ring entry
      ∙ ap (λ n. with_clock n t (map clock_of ring.entries)) is.kept.room
      ∙ ap (λ c. with_clock keep c (map clock_of ring.entries)) clock
      ∙ ap (with_clock keep p.now) is.kept.clocks_are
      ∙ sym (visited_first (due_in (state_of run) every) keep p.now p.ring (due_here every ∙ due) other) in
      record {
        first = fore.machine.t;
        stands = has.stands;
        run_is = ap (λ (f : ForeValue). f.run) has.same ∙ is.run_is;
        fresh = ap (λ (f : ForeValue). f.spent) has.same ∙ is.fresh;
        here = ap (λ (f : ForeValue). f.machine.t) has.same ∙ is.here;
        kept = record {
          clocks_are = clocks;
          room = is.kept.room;
          each = All-drop (IsEntryOf run) (length all - ring.keep) all (All-push (IsEntryOf run) ring.entries entry is.kept.each here);
        };
        below = All-drop (λ e. clock_of e ≤ p.now) (length all - ring.keep) all
            (All-push (λ e. clock_of e ≤ p.now) ring.entries entry is.below (omega (arith, clock)));
      }

-- at reset it stands at the first place
pub present_first : (run : RunValue) (keep : ℕ) (fore : ForeValue) (raster : RasterValue) (ring : RingOf Checkpoint) → IsNew run fore
    → raster ≡ record { outstanding = []; next = 0; bound = None; mark = 0; tint = 0 } → ring ≡ record { entries = []; keep = keep }
    → AreAt run keep first_place fore raster ring
present_first run keep fore raster ring new is empty = subst (AreAt run keep first_place fore raster) (sym empty) (record {
  first = 0;
  stands =
      new.fits raster (ap (λ (r : RasterValue). r.outstanding) is) (ap (λ (r : RasterValue). r.next) is)
      (subst (λ (r : RasterValue). Takes r.bound run) (sym is) tt);
  run_is = new.run_of;
  fresh = new.fresh;
  here = new.clock;
  kept = record { clocks_are = refl; room = refl; each = All-nil (IsEntryOf run) };
  below = All-nil (λ (e : EntryOf Checkpoint). clock_of e ≤ 0);
})
