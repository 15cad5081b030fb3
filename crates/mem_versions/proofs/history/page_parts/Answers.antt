-- The walk goes from page to page.
use Rattle.std.proofs.Common.{◌≡◌, ◌-◌, ◌/◌, ℕ, List, [], ◌++◌, length, take, replicate, get_or, ap, ◌∙◌, arith}
use Rattle.std.proofs.Math.Seq.{take-nil}
use Rattle.mem_versions.specs.declared.write.Write.{Write}
use Rattle.mem_versions.specs.declared.history.Part.{Part}
use Rattle.mem_versions.proofs.OrderLaws.{AreWalked-none, AreWalked-page}
use Rattle.mem_versions.proofs.history.page_parts.Goals as goal

pub loop-start-init : goal.loop-start-init
loop-start-init c =
    let pages = c.args.pages in
    let none : Part = record { start = 0; end = 0 } in
    let empty = c.in_ok-parts.parts.items in
    let filled : c.resize.new.self.items ≡ take pages empty ++ replicate (pages - length empty) none =
    c.in_ok-resize.ensures.items ∙ ap (λ (n : ℕ). take pages empty ++ replicate (pages - n) none) c.in_ok-parts.parts.ok.0
    in
    let all : pages - 0 ≡ pages = omega arith in
    AreWalked-none c.args.writes.now c.resize.new.self.items pages
    (filled ∙ ap (λ (ps : List Part). take pages ps ++ replicate (pages - length ps) none) c.in_ok-parts.ensures.items
    ∙ ap (λ (k : ℕ). take pages [] ++ replicate k none) all
    ∙ ap (λ (ps : List Part). ps ++ replicate pages none) (take-nil {A = Part} pages))

pub loop-start-preserved-then-page-pages : goal.loop-start-preserved-then-page-pages
loop-start-preserved-then-page-pages c =
    let writes = c.args.writes.now in
    let first : Write = get_or writes c.loop-start.start (record { clock = 0; place = 0; word = 0 }) in
    AreWalked-page writes c.loop-start.parts.items c.args.pages (first.place / 256) c.loop-start.start c.page_end-end.result c.loop-start.invariant
    c.page_end-end.ensures c.if-page-pages.true

pub returns : goal.returns
returns c =
    record {
      count = c.loop-start.invariant.count;
      each = λ page d within. c.loop-start.invariant.each page d within (λ k e from inside. absurd (omega (arith, c.loop-start-test.false)));
    }
