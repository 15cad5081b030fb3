-- A page that is written to for the first time is numbered; the other writes are passed over.
use Rattle.std.proofs.Common.{◌≡◌, ◌+◌, ◌*◌, ◌/◌, ◌<◌, ◌≤◌, ℕ, [], List, length, get_or, replicate, subst, sym, ap, ◌∙◌, arith, rules}
use Rattle.std.proofs.lemmas.List.{length-replicate}
use Rattle.mem_versions.specs.declared.write.Write.{Write}
use Rattle.mem_versions.specs.code.Replay.{ChangedValue, AreNumbered, AreCovered}
use Rattle.mem_versions.proofs.ReplayLaws.{AreNumbered-none, AreCovered-kept, AreCovered-marked}
use Rattle.mem_versions.proofs.changed.Changed.new.Goals as goal
use Rattle.mem_versions.proofs.changed.Changed.new.Goals.{then-page-last+then-page-pages+then-slot-eq0+in_ok-number, then-page-last+else-page-pages}
use Rattle.mem_versions.proofs.changed.Changed.new.Goals.{else-page-pages-via-then-page-pages+else-slot-eq0, else-page-pages-via-else-page-pages}
use Rattle.mem_versions.proofs.changed.Changed.new.Goals.{else-page-last}

pub invariant_of-changed : goal.invariant_of-changed
invariant_of-changed c =
    let places = c.in_ok-places.places.items in
    let none : places ≡ replicate c.args.pages 0 = search rules in
    let nothing : [] ≡ c.new-numbers.result.items = sym c.new-numbers.ensures.items in
    subst (λ (ns : List ℕ). AreNumbered places ns) nothing (AreNumbered-none places c.args.pages c.requires none)

pub loop-write-init : goal.loop-write-init
loop-write-init c =
    let places = c.in_ok-places.places.items in
    let none : places ≡ replicate c.args.pages 0 = search rules in
    let nothing : [] ≡ c.new-numbers.result.items = sym c.new-numbers.ensures.items in
    record {
      size = ap length none ∙ length-replicate {A = ℕ} c.args.pages 0;
      numbered = subst (λ (ns : List ℕ). AreNumbered places ns) nothing (AreNumbered-none places c.args.pages c.requires none);
      covered = λ k d within. absurd (omega arith);
      known = λ none. omega arith;
    }

pub loop-write-preserved : goal.loop-write-preserved
loop-write-preserved c =
    let writes = c.args.writes.now in
    let i = c.loop-write.write-index in
    let pages = c.args.pages in
    let before = c.loop-write.invariant in
    let places = c.loop-write.changed.places in
    let e : Write = record { clock = 0; place = 0; word = 0 } in
    let inside : i < length writes = omega (arith, c.loop-write-test.true) in
    let Q : ChangedValue → ℕ → Type 0 = λ now last. record {
      size : length now.places ≡ pages;
      numbered : AreNumbered now.places now.numbers;
      covered : AreCovered now.places writes (i + 1) (256 * pages);
      known : get_or now.places last 0 ≡ 0 → pages ≤ last;
    } in
    elim c.if-page-last.branch [
      | then-page-last+then-page-pages+then-slot-eq0+in_ok-number w ↦
          let marked = w.in_ok-number.ensures.marked in
          subst (λ (now : ChangedValue). Q now c.if-page-last.last) (sym w.changed-is)
          (subst (Q w.number.new.self) (sym w.last-is) (record {
            size = marked.size ∙ before.size;
            numbered = w.in_ok-number.ensures.numbered;
            covered = AreCovered-kept w.number.new.self.places writes i (256 * pages) e
                (AreCovered-marked places w.number.new.self.places writes i (256 * pages) _ before.covered marked) inside
                (λ none. absurd (marked.here none));
            known = λ none. absurd (marked.here none);
          }))
      | then-page-last+else-page-pages w ↦
          let known : get_or places ((get_or writes i e).place / 256) 0 ≡ 0 → pages ≤ (get_or writes i e).place / 256 =
          elim w.else-page-pages.branch [
            | else-page-pages-via-then-page-pages+else-slot-eq0 v ↦ λ none. absurd (v.if-slot-eq0.false (v.slot.ensures ∙ none))
            | else-page-pages-via-else-page-pages v ↦ λ none. omega (arith, v.if-page-pages.false)
          ] in
          subst (λ (now : ChangedValue). Q now c.if-page-last.last) (sym w.changed-is)
          (subst (Q c.loop-write.changed) (sym w.last-is) (record {
            size = before.size;
            numbered = before.numbered;
            covered = AreCovered-kept places writes i (256 * pages) e before.covered inside (λ none. omega (arith, known none));
            known = known;
          }))
      | else-page-last w ↦
          let same : (get_or writes i e).place / 256 ≡ c.loop-write.last = w.if-page-last.false in
          subst (λ (now : ChangedValue). Q now c.if-page-last.last) (sym w.changed-is)
          (subst (Q c.loop-write.changed) (sym w.last-is) (record {
            size = before.size;
            numbered = before.numbered;
            covered = AreCovered-kept places writes i (256 * pages) e before.covered inside
                (λ none. omega (arith, same, before.known (sym (ap (λ (n : ℕ). get_or places n 0) same) ∙ none)));
            known = before.known;
          }))
    ]
