use Rattle.std.proofs.Common.{◌≡◌, ◌≤◌, ◌<◌, ◌+◌, ◌-◌, ◌*◌, ℕ, slice_get, Some, IfSome, arith, subst, sym, refl, ap, ◌∙◌}
use Rattle.ocs_base.specs.Script.{ScriptValue}
use Rattle.ocs_base.specs.Systems.{last_clock}
use Rattle.mem_versions.specs.MemView.{Covers, word_then}
use Rattle.serial_model.specs.Picture.{set_picture, plane_latch}
use Rattle.serial_bands.specs.Run.{run_over}
use Rattle.serial_bands.specs.declared.event.Event.TheVariants as E
use Rattle.band_draw.specs.BandPainter.{Paints}
use Rattle.band_draw.specs.declared.ahead.Fetch.{Fetch}
use Rattle.band_draw.specs.declared.progress.Progress.{Progress}
use Rattle.band_draw.proofs.Fetching.{none_fetched, one_fetched, fetched_until, fetch_order, next_left}
use Rattle.band_draw.proofs.progress.Progress.fetch_ahead.Goals as goal

pub loop-fetch-init : goal.loop-fetch-init
loop-fetch-init g c = record {
  fetched = none_fetched (run_over g.S.Side.seen c.args.run.now) c.args.events.now c.args.self.now c.requires.placed;
  most = omega arith;
  view = refl;
}

pub fetch-requires-clause-order : goal.fetch-requires-clause-order
fetch-requires-clause-order g c =
    let run = run_over g.S.Side.seen c.args.run.now in
    let so = c.loop-fetch.invariant.fetched in
    let f : Fetch = c.in-Some.fetch in
    let now : Progress = record c.loop-fetch.self { next = c.loop-fetch.next } in
    let there : slice_get c.args.events.now c.loop-fetch.next ≡ Some (E.Plane f.at f.plane f.addr) =
    subst (λ r. IfSome r (λ (k : Fetch). slice_get c.args.events.now c.loop-fetch.next ≡ Some (E.Plane k.at k.plane k.addr))) c.in-Some.is
    c.fetch_before.ensures.found in
    let before : f.at.0 < c.args.self.now.clock + c.most_clocks.result =
    subst (λ r. IfSome r (λ (k : Fetch). k.at.0 < c.args.self.now.clock + c.most_clocks.result)) c.in-Some.is c.fetch_before.ensures.before in
    omega (
      arith,
      ap (λ (p : Progress). p.clock) so.same,
      fetch_order run c.args.events.now c.args.self.now now c.loop-fetch.reached f.at f.plane f.addr so there
          (omega (arith, before, c.most_clocks.ensures.band)),
    )

pub fetch-requires-clause-covered : goal.fetch-requires-clause-covered
fetch-requires-clause-covered g c =
    let run = run_over g.S.Side.seen c.args.run.now in
    let so = c.loop-fetch.invariant.fetched in
    let f : Fetch = c.in-Some.fetch in
    let now : Progress = record c.loop-fetch.self { next = c.loop-fetch.next } in
    let there : slice_get c.args.events.now c.loop-fetch.next ≡ Some (E.Plane f.at f.plane f.addr) =
    subst (λ r. IfSome r (λ (k : Fetch). slice_get c.args.events.now c.loop-fetch.next ≡ Some (E.Plane k.at k.plane k.addr))) c.in-Some.is
    c.fetch_before.ensures.found in
    let before : f.at.0 < c.args.self.now.clock + c.most_clocks.result =
    subst (λ r. IfSome r (λ (k : Fetch). k.at.0 < c.args.self.now.clock + c.most_clocks.result)) c.in-Some.is c.fetch_before.ensures.before in
    let order =
    fetch_order run c.args.events.now c.args.self.now now c.loop-fetch.reached f.at f.plane f.addr so there
    (omega (arith, before, c.most_clocks.ensures.band)) in
    subst (λ v. Covers v f.at.0) (sym c.loop-fetch.invariant.view)
    (c.requires.source.covered f.at.0 (omega (arith, order, c.requires.placed.least)) (omega (arith, before, c.most_clocks.ensures.band)))

pub loop-fetch-smaller : goal.loop-fetch-smaller
loop-fetch-smaller g c =
    let f : Fetch = c.in-Some.fetch in
    let now : Progress = record c.loop-fetch.self { next = c.loop-fetch.next } in
    let there : slice_get c.args.events.now c.loop-fetch.next ≡ Some (E.Plane f.at f.plane f.addr) =
    subst (λ r. IfSome r (λ (k : Fetch). slice_get c.args.events.now c.loop-fetch.next ≡ Some (E.Plane k.at k.plane k.addr))) c.in-Some.is
    c.fetch_before.ensures.found in
    next_left c.args.events.now c.loop-fetch.next (c.loop-fetch.next + 1) (E.Plane f.at f.plane f.addr) there refl

pub loop-fetch-preserved : goal.loop-fetch-preserved
loop-fetch-preserved g c =
    let run = run_over g.S.Side.seen c.args.run.now in
    let old : Progress = c.args.self.now in
    let count : ℕ = c.most_clocks.result in
    let f : Fetch = c.in-Some.fetch in
    let now : Progress = record c.loop-fetch.self { next = c.loop-fetch.next } in
    let there : slice_get c.args.events.now c.loop-fetch.next ≡ Some (E.Plane f.at f.plane f.addr) =
    subst (λ r. IfSome r (λ (k : Fetch). slice_get c.args.events.now c.loop-fetch.next ≡ Some (E.Plane k.at k.plane k.addr))) c.in-Some.is
    c.fetch_before.ensures.found in
    let before : f.at.0 < old.clock + count =
    subst (λ r. IfSome r (λ (k : Fetch). k.at.0 < old.clock + count)) c.in-Some.is c.fetch_before.ensures.before in
    let few = subst (λ r. IfSome r (λ (k : Fetch). k.plane ≤ 6)) c.in-Some.is c.fetch_before.ensures.few in
    let system : c.system.result ≡ c.args.run.now.script.system =
    c.system.ensures ∙ ap (λ (s : ScriptValue). s.system) c.script.ensures.value in
    let line : 0 < count → old.beam.h + count ≤ last_clock c.args.run.now.script.system old.beam.v =
    subst (λ s. 0 < count → old.beam.h + count ≤ last_clock s old.beam.v) system c.most_clocks.ensures.line in
    let h : ℕ = c.loop-fetch.self.beam.h + (f.at.0 - c.loop-fetch.self.clock) in
    let paints : Paints (4 * h) (set_picture h (plane_latch f.plane) (word_then c.args.view.now f.at.0 f.addr)) c.loop-fetch.self.painter
    c.fetch.new.self.painter =
    subst (λ v. Paints (4 * h) (set_picture h (plane_latch f.plane) (word_then v f.at.0 f.addr)) c.loop-fetch.self.painter
    c.fetch.new.self.painter) c.loop-fetch.invariant.view c.fetch.ensures.paints in
    record {
      fetched =
          one_fetched run c.args.view.now c.args.events.now old now (record c.fetch.new.self { next = c.loop-fetch.next + 1 })
          c.loop-fetch.reached f.at f.plane f.addr
          c.requires.source c.requires.placed c.loop-fetch.invariant.fetched there (omega (arith, before, c.most_clocks.ensures.band))
          (λ some. omega (arith, before, line (omega (arith, before, some)))) few paints c.fetch.ensures.keeps refl
          (ap (λ (p : Progress). record p { next = c.loop-fetch.next + 1 }) c.fetch.ensures.same);
      most = omega (arith, before);
      view = c.fetch.ensures.view ∙ c.loop-fetch.invariant.view;
    }

pub returns-clause-fetched : goal.returns-clause-fetched
returns-clause-fetched g c =
    fetched_until (run_over g.S.Side.seen c.args.run.now) c.args.events.now c.args.self.now
    (record c.loop-fetch.self { next = c.loop-fetch.next }) c.loop-fetch.reached
    c.untouched_until.result c.loop-fetch.invariant.fetched c.untouched_until.ensures.least
    (omega (arith, c.untouched_until.ensures.most, c.most_clocks.ensures.band)) c.untouched_until.ensures.behind
