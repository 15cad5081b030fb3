-- Clocks of a line: no frame begins between them.
use Rattle.std.proofs.Common.{◌≡◌, ℕ, ◌+◌, ◌-◌, ◌<◌, ◌≤◌, ◌^◌, min, max, Bool, true, false, ◌==◌, ◌&&◌, nat_lt, ◌%◌}
use Rattle.std.proofs.Common.{refl, sym, ap, ◌∙◌, arith}
use Rattle.std.proofs.lemmas.Bool.Decides.{nat_tests}
use Rattle.std.proofs.lemmas.List.Elements.{All-weaker}
use Rattle.ocs_base.specs.Systems.{last_clock}
use Rattle.ocs_base.specs.declared.beam.Beam.{Beam}
use Rattle.ocs_rewind.specs.Ring.{RingOf, EntryOf}
use Rattle.out_files.specs.OutFiles.{OutFilesValue}
use Rattle.serial_bands.specs.Run.{RunValue, state_of, beam_at}
use Rattle.serial_bands.proofs.LineClocks.{IsLater, clocks_on, least_last}
use Rattle.band_log.specs.Raster.{RasterValue}
use Rattle.foreground.specs.Fore.{ForeValue, IsUnderway, is_done}
use Rattle.clock_loop.specs.RunTo.{RunsOn, HasRunOn, HasCome}
use Rattle.rewind_loop.specs.Places.{Place, is_due, due_in}
use Rattle.rewind_loop.specs.Present.{Checkpoint, clock_of, AreAt}
use Rattle.rewind_loop.specs.code.Steps.{line_limit}

-- ---- the clocks of a line

and_no : (a c : Bool) → ((a && false) && c) ≡ false
and_no true c = refl
and_no false c = refl

-- no checkpoint is due within a line
none_due : (every : ℕ) (b : Beam) → 0 < b.h → is_due every b ≡ false
none_due every b inner =
    ap (λ z. ((b.v == 0) && z) && (b.frame % every == 0)) (is_no b.h inner) ∙ and_no (b.v == 0) (b.frame % every == 0)
  where
    is_no : (h : ℕ) → 0 < h → (h == 0) ≡ false
    is_no h inner = grind (arith, nat_tests)

pub none_in_line : (run : RunValue) (every t c : ℕ) → c ≤ line_limit t (beam_at run t).h → (k : ℕ) → t < k → k < c → due_in (state_of run) every k ≡ false
none_in_line run every t c most k low high =
    let h : ℕ = (beam_at run t).h in
    let least : 226 ≤ last_clock run.script.system (beam_at run t).v = least_last run.script.system (beam_at run t).v in
    let within : (k - t) + h ≤ 226 = few h t c k most low high in
    let later : IsLater (beam_at run t) (beam_at run k) (k - t) = clocks_on run t (k - t) k (omega (arith, low)) (omega (arith, within, least)) in
    none_due every (beam_at run k) (omega (arith, later.clock, low))
  where
    few : (h t c k : ℕ) → c ≤ line_limit t h → t < k → k < c → (k - t) + h ≤ 226
    few h t c k most low high = omega (arith, most, low, high)

-- ---- clocks that a foreground goes on

true_is_false : true ≡ false → ⊥
true_is_false e = cc

same_clock : (old new : ForeValue) (first until : ℕ) (seen after : RasterValue) → IsUnderway old first seen → IsUnderway new until after
    → new.run ≡ old.run → new.machine.t ≡ old.machine.t → is_done new ≡ is_done old
same_clock old new first until seen after was is run t =
    let beam : new.machine.beam ≡ old.machine.beam =
    sym is.at.machine.beam ∙ ap (λ r. beam_at r new.machine.t) run ∙ ap (λ c. beam_at old.run c) t ∙ was.at.machine.beam in
    ap (λ (b : Beam). b.frame == new.run.script.frames) beam ∙ ap (λ (r : RunValue). old.machine.beam.frame == r.script.frames) run

later_by : (rises : Bool) (a b : ℕ) → nat_lt a b ≡ rises → a ≤ b → (b ≡ a → ⊥) → a < b
later_by true a b is le not_same = grind (arith, nat_tests)
later_by false a b is le not_same = absurd (not_same (grind (arith, nat_tests)))

rise_by : (done : Bool) (old new : ForeValue) (limit : ℕ) → HasCome limit old new → old.machine.t < limit → is_done new ≡ done
    → (new.machine.t ≡ old.machine.t → is_done new ≡ false) → old.machine.t < new.machine.t
rise_by false old new limit come before is same = omega (arith, come.all is, before)
rise_by true old new limit come before is same =
    later_by _ old.machine.t new.machine.t refl come.on (λ t. absurd (true_is_false (sym is ∙ same t)))

-- they are some, where it has not ended
pub later_clock : (old new : ForeValue) (first limit : ℕ) (seen after : RasterValue) (out given : OutFilesValue) → IsUnderway old first seen
    → is_done old ≡ false → RunsOn old new seen after out given → HasCome limit old new → old.machine.t < limit → new.run ≡ old.run
    → old.machine.t < new.machine.t
later_clock old new first limit seen after out given was not runs come before run =
    let so : HasRunOn old new first seen after out given = runs first was in
    rise_by _ old new limit come before refl (λ t. same_clock old new first so.until seen after was so.stands run t ∙ not)

-- where it has come to is a place too
pub ran_on : (run : RunValue) (keep : ℕ) (p : Place) (fore new : ForeValue) (raster after : RasterValue) (ring : RingOf Checkpoint)
    (out given : OutFilesValue) → AreAt run keep p fore raster ring → RunsOn fore new raster after out given → fore.machine.t ≤ new.machine.t
    → new.run ≡ fore.run → new.spent ≡ false → AreAt run keep (record p { now = new.machine.t }) new after ring
ran_on run keep p fore new raster after ring out given is runs on same fresh =
    let has : HasRunOn fore new is.first raster after out given = runs is.first is.stands in
    let here : fore.machine.t ≡ p.now = is.here in
    record {
      first = has.until;
      stands = has.stands;
      run_is = same ∙ is.run_is;
      fresh = fresh;
      here = refl;
      kept = is.kept;
      below = All-weaker (λ (e : EntryOf Checkpoint). clock_of e ≤ p.now) (λ e. clock_of e ≤ new.machine.t)
          (λ e low. omega (arith, low, here, on)) ring.entries is.below;
    }

-- a limit within the line and not above a clock is above the present one
pub above_here : (t h clock limit : ℕ) → limit ≡ min clock (line_limit t h) → t < clock → clock < 2 ^ 64 → t < limit
above_here t h clock limit is low fits = omega (arith, is, low, fits)

pub come_below : (old new : ForeValue) (h clock limit : ℕ) → HasCome limit old new → limit ≡ min clock (line_limit old.machine.t h)
    → old.machine.t < limit → (new.machine.t ≤ clock) × (new.machine.t ≤ line_limit old.machine.t h)
come_below old new h clock limit come is low =
    let most : new.machine.t ≤ max old.machine.t limit = come.most in
    (omega (arith, most, is, low), omega (arith, most, is, low))
