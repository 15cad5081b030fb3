-- A run that goes on, and what is told of it.
use Rattle.std.proofs.Common.{◌≡◌, ℕ, ◌+◌, ◌-◌, ◌<◌, ◌≤◌, min, Bool, true, false, ◌==◌, ◌⊎◌, inl, inr, List, [], ◌∷◌, ◌++◌, map, length, drop, get_or}
use Rattle.std.proofs.Common.{refl, sym, ap, ◌∙◌, arith, subst}
use Rattle.std.proofs.lemmas.Bool.{cases_lt}
use Rattle.std.proofs.lemmas.Bool.Decides.{nat_tests}
use Rattle.std.proofs.lemmas.List.{append-nil, append_assoc, drop_more, drop_all}
use Rattle.ocs_base.specs.declared.beam.Beam.{Beam}
use Rattle.serial_bands.specs.Run.{RunValue, IsEndOf, state_of, beam_at}
use Rattle.band_log.specs.Raster.{RasterValue}
use Rattle.foreground.specs.Fore.{ForeValue, IsUnderway, is_done}
use Rattle.rewind_loop.specs.Places.{Place, due_in, arrival_at, arrivals, gone_to, visited, visited_from, run_to}
use Rattle.rewind_loop.specs.Present.{IsPresent, run_in, states_in, run_of, fore_of, raster_of}
use Rattle.rewind_loop.specs.Told.{told_of}
use Rattle.rewind_loop.specs.declared.arrived.Arrived.{Arrived}
use Rattle.rewind_loop.specs.declared.rewind.Rewind.{Rewind}
use Rattle.rewind_loop.specs.code.Steps.{GoesOn}
use Rattle.rewind_loop.proofs.PlaceLaws.{first_visit, later_visit}
use Rattle.std.specs.Arc.{arc_value}

-- ---- the end of a run

pub within : (end : ℕ) (fore : ForeValue) (first : ℕ) (raster : RasterValue) → IsEndOf fore.run end → IsUnderway fore first raster → fore.machine.t ≤ end
within end fore first raster ends stands = by_order (cases_lt end fore.machine.t)
  where
    by_order : (end < fore.machine.t) ⊎ (fore.machine.t ≤ end) → fore.machine.t ≤ end
    by_order (inl less) =
        let running : (beam_at fore.run end).frame < fore.run.script.frames = stands.running end less in
        absurd (omega (arith, running, ends.ended))
    by_order (inr le) = le

is_same : (a b : ℕ) → (a == b) ≡ true → a ≡ b
is_same a b here = grind (arith, nat_tests)

pub at_end : (end : ℕ) (fore : ForeValue) (first : ℕ) (raster : RasterValue) → IsEndOf fore.run end → IsUnderway fore first raster → is_done fore ≡ true
    → fore.machine.t ≡ end
at_end end fore first raster ends stands done = by_order (cases_lt fore.machine.t end)
  where
    by_order : (fore.machine.t < end) ⊎ (end ≤ fore.machine.t) → fore.machine.t ≡ end
    by_order (inl less) =
        let running : (beam_at fore.run fore.machine.t).frame < fore.run.script.frames = ends.running fore.machine.t less in
        let ended : (beam_at fore.run fore.machine.t).frame ≡ fore.run.script.frames =
        ap (λ (b : Beam). b.frame) stands.at.machine.beam ∙ is_same fore.machine.beam.frame fore.run.script.frames done in
        absurd (omega (arith, running, ended))
    by_order (inr le) = let low : fore.machine.t ≤ end = within end fore first raster ends stands in omega (arith, le, low)

-- ---- many clocks

-- what a visit leaves of a run
abbrev pub Visits : Rewind → Rewind → Type 0
Visits old new =
    (keep : ℕ) (p : Place) → IsPresent keep p old → IsPresent keep (record p { ring = visited (due_in (states_in old) old.every) keep p.now p.ring }) new

-- the clocks from where it was up to the present one were visited, which is not above a clock
pub record Ran (old new : Rewind) (clock : ℕ) : Type 0 where
  pub run : new.run ≡ old.run
  pub every : new.every ≡ old.every
  pub some : (keep : ℕ) × (p : Place) × IsPresent keep p old
  pub low : new.fore.machine.t ≤ clock
  pub on : old.fore.machine.t ≤ new.fore.machine.t
  pub ran : (keep : ℕ) (p : Place) → IsPresent keep p old → IsPresent keep
      (record {
        now = new.fore.machine.t;
        ring = visited_from (due_in (states_in old) old.every) keep p.now (new.fore.machine.t - p.now + 1) p.ring;
      }) new

pub same_run : (old new : Rewind) → new.run ≡ old.run → run_in new ≡ run_in old
same_run old new same = ap (λ run. run_of (arc_value run)) same

pub same_due : (old new : Rewind) → new.run ≡ old.run → new.every ≡ old.every → due_in (states_in new) new.every ≡ due_in (states_in old) old.every
same_due old new same every = ap (λ run. due_in (state_of run) new.every) (same_run old new same) ∙ ap (λ n. due_in (states_in old) n) every

pub ran_first : (old new : Rewind) (clock : ℕ) → new.run ≡ old.run → new.every ≡ old.every
    → (keep : ℕ) × (p : Place) × IsPresent keep p old × (p.now ≤ clock) → Visits old new → Ran old new clock
ran_first old new clock run every at visits =
    let due : ℕ → Bool = due_in (states_in old) old.every in
    let first : new.fore.machine.t ≡ at.1.now = (visits at.0 at.1 at.2).here in
    let before : old.fore.machine.t ≡ at.1.now = at.2.here in
    record {
      run = run;
      every = every;
      some = (at.0, at.1, at.2);
      low = omega (arith, first, at.3);
      on = omega (arith, first, before);
      ran = λ keep p is.
          (let now : new.fore.machine.t ≡ p.now = (visits keep p is).here in
          let same : record p { ring = visited due keep p.now p.ring }
          ≡ record { now = new.fore.machine.t; ring = visited_from due keep p.now (new.fore.machine.t - p.now + 1) p.ring } =
          ap (λ t. let q : Place = record { now = t; ring = visited due keep p.now p.ring } in q) (sym now)
          ∙ ap (λ ring. let q : Place = record { now = new.fore.machine.t; ring = ring } in q)
          (sym (first_visit due keep p.now new.fore.machine.t p.ring now)) in
          subst (λ (q : Place). IsPresent keep q new) same (visits keep p is));
    }

-- where it stands then
pub ran_at : (old new : Rewind) (clock : ℕ) → Ran old new clock → (keep : ℕ) × (p : Place) × IsPresent keep p new
ran_at old new clock ran = (ran.some.0, _, ran.ran ran.some.0 ran.some.1 ran.some.2)

pub gone_at : (old mid new : Rewind) (clock : ℕ) → Ran old mid clock → GoesOn clock mid new → (keep : ℕ) × (p : Place) × IsPresent keep p new
gone_at old mid new clock ran goes =
    let at : (keep : ℕ) × (p : Place) × IsPresent keep p mid = ran_at old mid clock ran in
    (at.0, record at.1 { now = new.fore.machine.t }, goes.comes at.0 at.1 at.2)

-- the visit stays where the clocks came to
pub ran_there : (old mid step new : Rewind) (clock : ℕ) → Ran old mid clock → GoesOn clock mid step → Visits step new
    → new.fore.machine.t ≡ step.fore.machine.t
ran_there old mid step new clock ran goes visits =
    let p : Place = ran.some.1 in
    let here : Place = record {
      now = mid.fore.machine.t;
      ring = visited_from (due_in (states_in old) old.every) ran.some.0 p.now (mid.fore.machine.t - p.now + 1) p.ring;
    } in
    (visits ran.some.0 (record here { now = step.fore.machine.t }) (goes.comes ran.some.0 here (ran.ran ran.some.0 p ran.some.2))).here

pub ran_next : (old mid step new : Rewind) (clock : ℕ) → Ran old mid clock → step.run ≡ mid.run → step.every ≡ mid.every
    → GoesOn clock mid step → new.run ≡ step.run → new.every ≡ step.every → Visits step new → Ran old new clock
ran_next old mid step new clock ran run1 every1 goes run2 every2 visits =
    let due : ℕ → Bool = due_in (states_in old) old.every in
    let t : ℕ = mid.fore.machine.t in
    let later : ℕ = step.fore.machine.t in
    let there : new.fore.machine.t ≡ later = ran_there old mid step new clock ran goes visits in
    let same_mid : due_in (states_in mid) mid.every ≡ due = same_due old mid ran.run ran.every in
    let same_step : due_in (states_in step) step.every ≡ due = same_due old step (run1 ∙ ran.run) (every1 ∙ ran.every) in
    record {
      run = run2 ∙ run1 ∙ ran.run;
      every = every2 ∙ every1 ∙ ran.every;
      some = ran.some;
      low = omega (arith, there, goes.most);
      on = omega (arith, there, goes.later, ran.on);
      ran = λ keep p is.
          (let before : List ℕ = visited_from due keep p.now (t - p.now + 1) p.ring in
          let here : old.fore.machine.t ≡ p.now = is.here in
          let on : p.now ≤ t = omega (arith, here, ran.on) in
          let none : (k : ℕ) → t < k → k < later → due k ≡ false =
          (λ k low high. ap (λ (d : ℕ → Bool). d k) (sym same_mid) ∙ goes.none k low high) in
          let visit : IsPresent keep (record { now = later; ring = visited (due_in (states_in step) step.every) keep later before }) new =
          visits keep (record { now = later; ring = before }) (goes.comes keep (record { now = t; ring = before }) (ran.ran keep p is)) in
          let same : record { now = later; ring = visited (due_in (states_in step) step.every) keep later before }
          ≡ record { now = new.fore.machine.t; ring = visited_from due keep p.now (new.fore.machine.t - p.now + 1) p.ring } =
          ap (λ d. let q : Place = record { now = later; ring = visited d keep later before } in q) same_step
          ∙ ap (λ ring. let q : Place = record { now = later; ring = ring } in q)
          (sym (later_visit due keep p.now t later p.ring on goes.later none))
          ∙ ap (λ n. let q : Place = record { now = n; ring = visited_from due keep p.now (n - p.now + 1) p.ring } in q) (sym there) in
          subst (λ (q : Place). IsPresent keep q new) same visit);
    }

arrived : (t clock end : ℕ) → t ≤ clock → t ≤ end → (clock ≤ t) ⊎ (t ≡ end) → t ≡ min clock end
arrived t clock end low within (inl far) = omega arith
arrived t clock end low within (inr last) = omega arith

-- and once it has come to the clock or to the run's end
pub ran_end : (old new : Rewind) (clock end keep : ℕ) (p : Place) → Ran old new clock → IsPresent keep p old → IsEndOf (run_in old) end
    → (clock ≤ new.fore.machine.t) ⊎ (is_done (fore_of new.fore) ≡ true)
    → IsPresent keep (run_to (due_in (states_in old) old.every) keep end clock p) new
ran_end old new clock end keep p ran is ends stops =
    let due : ℕ → Bool = due_in (states_in old) old.every in
    let t : ℕ = new.fore.machine.t in
    let there = ran.ran keep p is in
    let fore : ForeValue = fore_of new.fore in
    let last : IsEndOf fore.run end = subst (λ (r : RunValue). IsEndOf r end) (sym (there.run_is ∙ same_run old new ran.run)) ends in
    let low : t ≤ end = within end fore there.first (raster_of new.raster) last there.stands in
    let there_now : t ≡ min clock end = arrived t clock end ran.low low (stopped last there.first there.stands stops) in
    subst (λ n. IsPresent keep (record { now = n; ring = visited_from due keep p.now (n - p.now + 1) p.ring }) new) there_now there
  where
    stopped : IsEndOf (fore_of new.fore).run end → (first : ℕ) → IsUnderway (fore_of new.fore) first (raster_of new.raster)
        → (clock ≤ new.fore.machine.t) ⊎ (is_done (fore_of new.fore) ≡ true) → (clock ≤ new.fore.machine.t) ⊎ (new.fore.machine.t ≡ end)
    stopped last first stands (inl far) = inl far
    stopped last first stands (inr done) = inr (at_end end (fore_of new.fore) first (raster_of new.raster) last stands done)

-- ---- clocks in the order in which they are asked for

-- what was told of the first of them, and where the run then stands
pub record Gone (old now : Rewind) (clocks : List ℕ) (index : ℕ) (told : List Arrived) : Type 0 where
  pub run : now.run ≡ old.run
  pub every : now.every ≡ old.every
  pub at : (keep : ℕ) × (p : Place) × IsPresent keep p now
  pub all : (keep end : ℕ) (p : Place) → IsPresent keep p old → IsEndOf (run_in old) end → (q : Place) × IsPresent keep q now
      × (told ++ map (told_of (states_in old)) (arrivals (due_in (states_in old) old.every) keep end (drop index clocks) q)
      ≡ map (told_of (states_in old)) (arrivals (due_in (states_in old) old.every) keep end clocks p))

pub gone_first : (old : Rewind) (clocks : List ℕ) (told : List Arrived) → told ≡ [] → (keep : ℕ) × (p : Place) × IsPresent keep p old
    → Gone old old clocks 0 told
gone_first old clocks told none at = record {
  run = refl;
  every = refl;
  at = at;
  all = λ keep end p is ends.
      (p, is, ap (λ list. list ++ map (told_of (states_in old)) (arrivals (due_in (states_in old) old.every) keep end clocks p)) none);
}

-- what a call that goes to a clock leaves and tells
abbrev pub Goes : Rewind → Rewind → ℕ → Type 0
Goes old new clock =
    (keep end : ℕ) (p : Place) → IsPresent keep p old → IsEndOf (run_in old) end
    → IsPresent keep (gone_to (due_in (states_in old) old.every) keep end clock p) new

abbrev pub Tells : Rewind → ℕ → Arrived → Type 0
Tells old clock arrived =
    (keep end : ℕ) (p : Place) → IsPresent keep p old → IsEndOf (run_in old) end → arrived ≡ told_of (states_in old) (arrival_at end clock p)

told_more : (old : Rewind) (keep end clock index : ℕ) (clocks : List ℕ) (told : List Arrived) (q : Place) (arrived : Arrived) → index < length clocks
    → clock ≡ get_or clocks index 0 → arrived ≡ told_of (states_in old) (arrival_at end clock q)
    → (told ++ arrived ∷ []) ++ map (told_of (states_in old)) (arrivals (due_in (states_in old) old.every) keep end (drop (index + 1) clocks)
    (gone_to (due_in (states_in old) old.every) keep end clock q))
    ≡ told ++ map (told_of (states_in old)) (arrivals (due_in (states_in old) old.every) keep end (drop index clocks) q)
told_more old keep end clock index clocks told q arrived inside here is =
    let due : ℕ → Bool = due_in (states_in old) old.every in
    let rest : List ℕ = drop (index + 1) clocks in
    let next : drop index clocks ≡ clock ∷ rest = drop_more clocks index 0 inside ∙ ap (λ c. c ∷ rest) (sym here) in
    let later : List Arrived = map (told_of (states_in old)) (arrivals due keep end rest (gone_to due keep end clock q)) in
    append_assoc told (arrived ∷ []) later
    ∙ ap (λ a. told ++ (a ∷ later)) is
    ∙ ap (λ list. told ++ map (told_of (states_in old)) (arrivals due keep end list q)) (sym next)

pub gone_next : (old mid new : Rewind) (clocks : List ℕ) (index clock : ℕ) (told more : List Arrived) (arrived : Arrived) → Gone old mid clocks index told
    → index < length clocks → clock ≡ get_or clocks index 0 → new.run ≡ mid.run → new.every ≡ mid.every → (keep : ℕ) × (p : Place) × IsPresent keep p new
    → Goes mid new clock → Tells mid clock arrived → more ≡ told ++ arrived ∷ [] → Gone old new clocks (index + 1) more
gone_next old mid new clocks index clock told more arrived gone inside here run every at goes tells grown = record {
  run = run ∙ gone.run;
  every = every ∙ gone.every;
  at = at;
  all = λ keep end p is ends. on keep end p (gone.all keep end p is ends) ends;
}
  where
    on : (keep end : ℕ) (p : Place) → (q : Place) × IsPresent keep q mid
        × (told ++ map (told_of (states_in old)) (arrivals (due_in (states_in old) old.every) keep end (drop index clocks) q)
        ≡ map (told_of (states_in old)) (arrivals (due_in (states_in old) old.every) keep end clocks p))
        → IsEndOf (run_in old) end → (q : Place) × IsPresent keep q new
        × (more ++ map (told_of (states_in old)) (arrivals (due_in (states_in old) old.every) keep end (drop (index + 1) clocks) q)
        ≡ map (told_of (states_in old)) (arrivals (due_in (states_in old) old.every) keep end clocks p))
    on keep end p before ends =
        let due : ℕ → Bool = due_in (states_in old) old.every in
        let q : Place = before.0 in
        let same : run_in mid ≡ run_in old = same_run old mid gone.run in
        let last : IsEndOf (run_in mid) end = subst (λ (r : RunValue). IsEndOf r end) (sym same) ends in
        let is : arrived ≡ told_of (states_in old) (arrival_at end clock q) =
        tells keep end q before.1 last ∙ ap (λ (r : RunValue). told_of (state_of r) (arrival_at end clock q)) same in (
          gone_to due keep end clock q,
          subst (λ d. IsPresent keep (gone_to d keep end clock q) new) (same_due old mid gone.run gone.every) (goes keep end q before.1 last),
          ap (λ list. list ++ map (told_of (states_in old)) (arrivals due keep end (drop (index + 1) clocks) (gone_to due keep end clock q))) grown
              ∙ told_more old keep end clock index clocks told q arrived inside here is
              ∙ before.2,
        )

pub gone_all : (old now : Rewind) (clocks : List ℕ) (index keep end : ℕ) (p : Place) (told : List Arrived) → Gone old now clocks index told
    → length clocks ≤ index → IsPresent keep p old → IsEndOf (run_in old) end
    → told ≡ map (told_of (states_in old)) (arrivals (due_in (states_in old) old.every) keep end clocks p)
gone_all old now clocks index keep end p told gone past is ends =
    let all = gone.all keep end p is ends in
    sym (append-nil told)
    ∙ ap (λ list. told ++ map (told_of (states_in old)) (arrivals (due_in (states_in old) old.every) keep end list all.0)) (sym (drop_all index clocks past))
    ∙ all.2
