-- A page that is written to is replaced, or is none of the memory, and the other writes to it are passed over.
use Rattle.std.proofs.Common.{◌≡◌, ◌+◌, ◌-◌, ◌*◌, ◌/◌, ◌<◌, ◌≤◌, ℕ, List, length, take, drop, get_or, refl, subst, sym, ap, ◌∙◌, arith}
use Rattle.mem_versions.specs.declared.write.Write.{Write}
use Rattle.mem_versions.proofs.ChangedLaws.{AreChanged, AreChanged-above, AreChanged-page, AreChanged-next, AreChanged-all}
use Rattle.mem_versions.proofs.chip.changed_pages.Goals as goal
use Rattle.mem_versions.proofs.chip.changed_pages.Goals.{then-page-count+in_ok-set_page, else-page-count}

pub loop-next-preserved : goal.loop-next-preserved
loop-next-preserved c =
    let base = c.args.base.now in
    let words = c.args.words.now in
    let writes = c.args.history.now.writes in
    let i = c.loop-next.next in
    let end = c.next_page-next.result in
    let after = c.loop-next.after in
    let count = c.count-count.result in
    let d : Write = record { clock = 0; place = 0; word = 0 } in
    let page : ℕ = (get_or c.writes-in-loop-next.result.now i d).place / 256 in
    let to : (get_or writes i d).place / 256 ≡ page =
    ap (λ (ws : List Write). (get_or ws i d).place / 256) (sym c.writes-in-loop-next.ensures) in
    let before = c.loop-next.invariant in
    let within : i < length writes = omega (arith, c.loop-next-test.true, ap length c.writes.ensures) in
    let whole : length words ≡ 256 * count = c.requires.size ∙ sym (ap length c.in_ok-after.ensures) ∙ c.count-count.ensures.size in
    let room : 256 * page + 256 - 256 * page ≡ 256 = omega arith in
    let part = take (256 * page + 256 - 256 * page) (drop (256 * page) words) in
    let is = c.next_page-next.ensures in
    let P : List ℕ → Type 0 = λ ws. AreChanged base words ws writes count end in
    elim c.if-page-count.branch [
      | then-page-count+in_ok-set_page w ↦
          let next = w.set_page.new.self in
          let changed = AreChanged-page base words after next part writes count i page d before within to w.in_ok-set_page.ensures.ok
          (ap (λ (k : ℕ). take k (drop (256 * page) words)) room) in
          subst P (sym w.after-is) (AreChanged-next base words next writes page i end count d changed is.later is.within is.same to whole)
      | else-page-count w ↦
          let above : count ≤ (get_or writes i d).place / 256 = omega (arith, w.if-page-count.false, to) in
          let changed = AreChanged-above base words after writes count i count d before within whole above in
          subst P (sym w.after-is)
          (AreChanged-next base words after writes ((get_or writes i d).place / 256) i end count d changed is.later is.within is.same refl whole)
    ]

pub returns : goal.returns
returns c =
    AreChanged-all c.args.base.now c.args.words.now c.loop-next.after c.args.history.now.writes c.count-count.result c.loop-next.next c.loop-next.invariant
    (omega (arith, c.loop-next-test.false, ap length c.writes.ensures)) c.requires.unchanged
