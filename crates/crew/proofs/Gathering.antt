-- What a crew does with its outstanding bands: it is seen as a raster through the view of its front. `seen` tells what a side does.
use Rattle.std.proofs.Common.{◌≡◌, ◌≢◌, ℕ, zero, suc, ◌+◌, ◌-◌, ◌<◌, ◌≤◌, List, [], ◌∷◌, ◌++◌, length, drop, Option, Some, None, option_map, false}
use Rattle.std.proofs.Common.{sym, ap, ◌∙◌, refl, subst, arith}
use Rattle.atomic_table.specs.Seated.{TableId}
use Rattle.std.proofs.lemmas.Option.{none-some}
use Rattle.serial_model.specs.Side.{SideValue}
use Rattle.serial_bands.specs.Run.{RunOf, RunValue, run_over, IsGoodRun}
use Rattle.band_log.specs.declared.job.Drawn.{Drawn}
use Rattle.band_log.specs.Raster.{Outstanding, Takes, with_submitted, without_first, IsRightForFirst}
use Rattle.band_board.specs.declared.view.View.{View}
use Rattle.band_board.specs.declared.front.Collected.{Collected}
use Rattle.band_board.specs.declared.front.Collected.TheVariants.{Got, NotYet}
use Rattle.band_board.specs.View.{after_watch, after_offer, after_collection}
use Rattle.band_board.specs.Steps.{RightFor}
use Rattle.band_board.specs.declared.board.Board.{Board}
use Rattle.band_board.specs.declared.front.Front.{Front}
use Rattle.band_board.specs.declared.hand.Hand.{Hand}
use Rattle.band_board.specs.declared.work.Work.{Ghosts}
use Rattle.band_board.specs.Answers.{front_view, IsFrontOf, CollectsFirst}
use Rattle.band_log.specs.declared.job.Job.{Job}
use Rattle.band_log.specs.Right.{IsRightJob}
use Rattle.ocs_base.specs.Limits.{IsRunnable}
use Rattle.ocs_base.specs.Script.{ScriptValue}
use Rattle.crew.specs.Bands.{IsRightBand, IsDrawnBand}
use Rattle.crew.specs.Parts.{run_bands, bands_of, outstanding_of, seen_of, IsCrew, IsSteady, GathersFirst}

length-run_bands : (run : RunValue) (from n : ℕ) → length (run_bands run from n) ≡ n
length-run_bands run from zero = refl
length-run_bands run from (suc n) = ap suc (length-run_bands run (suc from) n)

run_bands-more : (run : RunValue) (from n : ℕ) → run_bands run from (suc n) ≡ run_bands run from n ++ record { run = run; number = from + n } ∷ []
run_bands-more run from zero = ap (λ m. record { run = run; number = m } ∷ []) (omega arith)
run_bands-more run from (suc n) =
    let shifted : ◌≡◌ {A = ℕ} (suc from + n) (from + suc n) = omega arith in
    ap (λ bands. record { run = run; number = from } ∷ bands)
    (run_bands-more run (suc from) n ∙ ap (λ m. run_bands run (suc from) n ++ record { run = run; number = m } ∷ []) shifted)

-- how many bands are outstanding
length-bands_of : (run : Option RunValue) (from n : ℕ) → run ≢ None → length (bands_of run from n) ≡ n
length-bands_of None from n is = absurd (is refl)
length-bands_of (Some run) from n is = length-run_bands run from n

-- there is one where they are counted
some_outstanding : (run : Option RunValue) (c p : ℕ) → run ≢ None → 0 < length (bands_of run c (p - c)) → c < p
some_outstanding run c p is some = let count = length-bands_of run c (p - c) is in omega arith

-- a crew that takes bands of a run is bound to it
takes_bound : (run : Option RunValue) (q : RunValue) → run ≢ None → Takes run q → run ≡ Some q
takes_bound None q is takes = absurd (is refl)
takes_bound (Some run) q is takes = ap (λ (r : RunValue). Some r) takes

bands_of-more : (run : Option RunValue) (q : RunValue) (c p : ℕ) → run ≡ Some q → c ≤ p
    → bands_of run c ((p + 1) - c) ≡ bands_of run c (p - c) ++ record { run = q; number = p } ∷ []
bands_of-more run q c p is behind =
    let count : ◌≡◌ {A = ℕ} ((p + 1) - c) (suc (p - c)) = omega arith in
    let last : ◌≡◌ {A = ℕ} (c + (p - c)) p = omega arith in
    subst (λ (o : Option RunValue). bands_of o c ((p + 1) - c) ≡ bands_of o c (p - c) ++ record { run = q; number = p } ∷ []) (sym is)
    (ap (λ m. run_bands q c m) count ∙ run_bands-more q c (p - c) ∙ ap (λ m. run_bands q c (p - c) ++ record { run = q; number = m } ∷ []) last)

bands_of-first : (run : Option RunValue) (c p : ℕ) → run ≢ None → c < p → bands_of run (c + 1) (p - (c + 1)) ≡ drop 1 (bands_of run c (p - c))
bands_of-first None c p is some = absurd (is refl)
bands_of-first (Some run) c p is some =
    let count : ◌≡◌ {A = ℕ} (p - c) (suc (p - (c + 1))) = omega arith in
    let next : ◌≡◌ {A = ℕ} (c + 1) (suc c) = omega arith in
    ap (λ m. run_bands run m (p - (c + 1))) next ∙ sym (ap (λ m. drop 1 (run_bands run c m)) count)

module _ {S : Type 0} (seen : S → SideValue) where
  -- where there is a run, there is one with what its side does
  some_over : (run : Option (RunOf S)) → run ≢ None → option_map (run_over seen) run ≢ None
  some_over None is = absurd (is refl)
  some_over (Some run) is = λ none. none-some _ (sym none)

  -- how many bands a front has outstanding
  pub length-outstanding : (v : View (RunOf S)) → v.run ≢ None → length (outstanding_of seen v) ≡ v.published - v.collected
  length-outstanding v is =
      length-bands_of (option_map (run_over seen) v.run) v.collected (v.published - v.collected) (some_over v.run is)

  -- a front that has offered a band of its run is seen as a raster to which it was submitted
  pub seen-offer : (z : TableId) (v w : View (RunOf S)) (q : RunValue) (n : ℕ) → v.run ≢ None → Takes (option_map (run_over seen) v.run) q
      → v.collected ≤ v.published → n ≡ v.published → w ≡ after_offer v → seen_of seen z w ≡ with_submitted q n (seen_of seen z v)
  seen-offer z v w q n is takes behind next same =
      let run = option_map (run_over seen) v.run in
      let bound = takes_bound run q (some_over v.run is) takes in
      ap (seen_of seen z) same
      ∙ ap (λ (bands : List Outstanding). record (seen_of seen z v) { outstanding = bands; next = v.published + 1 })
      (bands_of-more run q v.collected v.published bound behind)
      ∙ ap (λ m. with_submitted q m (seen_of seen z v)) (sym next)

  -- one that has collected a band is seen as one from which the first was taken away
  pub seen-gather : (z : TableId) (v w : View (RunOf S)) (drawn : Drawn S) → v.run ≢ None → 0 < length (outstanding_of seen v)
      → GathersFirst seen v w drawn → seen_of seen z w ≡ without_first (seen_of seen z v)
  seen-gather z v w drawn is some gathered =
      let run = option_map (run_over seen) v.run in
      let over = some_over v.run is in
      ap (seen_of seen z) gathered.view
      ∙ ap (λ (bands : List Outstanding). record (seen_of seen z v) { outstanding = bands })
      (bands_of-first run v.collected v.published over (some_outstanding run v.collected v.published over some))

  -- and what it got is right for that first band
  pub right-gather : (v w : View (RunOf S)) (drawn : Drawn S) → v.run ≢ None → 0 < length (outstanding_of seen v)
      → GathersFirst seen v w drawn → IsRightForFirst seen 0 (outstanding_of seen v) drawn
  right-gather v w drawn is some gathered =
      let right = gathered.right in
      let left = some_outstanding (option_map (run_over seen) v.run) v.collected v.published (some_over v.run is) some in
      let count : ◌≡◌ {A = ℕ} (v.published - v.collected) (suc (v.published - (v.collected + 1))) = omega arith in
      subst
      (λ (o : Option (RunOf S)). IsRightForFirst seen 0 (bands_of (option_map (run_over seen) o) v.collected (v.published - v.collected)) drawn)
      (sym right.1)
      (subst (λ m. IsRightForFirst seen 0 (run_bands (run_over seen right.0) v.collected m) drawn) (sym count) right.2)

  -- a job that is right for a run which a front takes is right for the front's own run
  pub right_for : (run : Option (RunOf S)) (read r : RunOf S) (n : ℕ) (job : Job S) → run ≢ None
      → Takes (option_map (run_over seen) run) (run_over seen r) → read ≡ r → IsGoodRun read → IsRightJob seen (run_over seen r) n job
      → RightFor (IsRightBand seen) run n job
  right_for None read r n job is takes same good right = absurd (is refl)
  right_for (Some q) read r n job is takes same good right = (
    q,
    refl,
    (
      subst (λ (s : ScriptValue). IsRunnable s) (ap (λ (v : RunOf S). v.script) same ∙ sym (ap (λ (v : RunValue). v.script) takes)) good.script,
      subst (λ (v : RunValue). IsRightJob seen v n job) (sym takes) right,
    ),
  )

  -- a crew that has offered a band has one more outstanding
  pub crew_offers : {W J D : Type 0} {kind : Ghosts W (RunOf S) J D} (board : Board W (RunOf S) J D) (old new : Front W (RunOf S) J D kind)
      (hand : Hand W (RunOf S) J D kind) (waiting : ℕ) → IsCrew board old hand waiting → IsFrontOf board new
      → front_view new ≡ after_offer (front_view old) → length (outstanding_of seen (front_view old)) < 16 → IsCrew board new hand (waiting + 1)
  crew_offers {W} {J} {D} {kind} board old new hand waiting is front_of offers few =
      let behind = is.behind in
      let count = length-outstanding (front_view old) is.run_is in
      let collected = ap (λ (v : View (RunOf S)). v.collected) offers in
      let published = ap (λ (v : View (RunOf S)). v.published) offers in
      record {
        front_of = front_of;
        free = is.free;
        run_is = subst (λ (v : View (RunOf S)). v.run ≢ None) (sym offers) is.run_is;
        joined = ap (λ (v : View (RunOf S)). v.joined) offers ∙ is.joined;
        behind = omega arith;
        few = omega arith;
      }

  -- a front that has looked and then collects its first band gathers it
  pub gathers_first : (first old new : View (RunOf S)) (number : ℕ) (drawn : Drawn S) (word : ℕ) → IsSteady first old → number ≡ old.collected
      → RightFor (IsDrawnBand seen) old.run number drawn → new ≡ after_collection (after_watch old word) → GathersFirst seen first new drawn
  gathers_first first old new number drawn word steady at right same =
      let looks = (after_watch old word).looks in
      let was : number ≡ first.collected = at ∙ ap (λ (v : View (RunOf S)). v.collected) steady in
      record {
        view = subst (λ (w : View (RunOf S)). w ≡ record first { looks = w.looks; noted = w.noted; collected = first.collected + 1 })
            (sym same) (ap (λ (v : View (RunOf S)). record v { looks = looks; noted = false; collected = v.collected + 1 }) steady);
        right = subst (λ (r : Option (RunOf S)). RightFor (IsDrawnBand seen) r first.collected drawn) (ap (λ (v : View (RunOf S)). v.run) steady)
            (subst (λ n. RightFor (IsDrawnBand seen) old.run n drawn) was right);
      }

  -- one that collects nothing has looked
  pub steady_unless : {W J : Type 0} (first old new : View (RunOf S)) (got : Collected W (RunOf S) J (Drawn S)) → IsSteady first old
      → ((n : ℕ) (drawn : Drawn S) → got ≡ Got n drawn → ⊥) → CollectsFirst (IsDrawnBand seen) old new got → IsSteady first new
  steady_unless first old new (Got n drawn) steady never collects = absurd (never n drawn refl)
  steady_unless first old new (NotYet word) steady never collects =
      let looks = (after_watch old word).looks in
      let noted = (after_watch old word).noted in
      subst (λ (w : View (RunOf S)). IsSteady first w) (sym collects.1)
      (ap (λ (v : View (RunOf S)). record v { looks = looks; noted = noted }) steady)

  -- and has as many outstanding
  pub still_some : (first old : View (RunOf S)) → IsSteady first old → first.collected < first.published → old.collected < old.published
  still_some first old steady some = subst (λ (v : View (RunOf S)). v.collected < v.published) (sym steady) some
