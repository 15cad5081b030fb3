-- One page more.
use Rattle.std.proofs.Common.{◌≡◌, ◌+◌, ◌-◌, ◌*◌, ℕ, take, drop, get_or, refl, ap, arith}
use Rattle.mem_versions.proofs.ReplayLaws.{AreCopied-page, AreCopied-all}
use Rattle.mem_versions.proofs.replay.copied_pages.Goals as goal

pub loop-number-preserved : goal.loop-number-preserved
loop-number-preserved c =
    let words = c.args.words.now in
    let numbers = c.args.numbers.now in
    let i = c.loop-number.number-index in
    let page : ℕ = get_or numbers i 0 in
    let room : 256 * page + 256 - 256 * page ≡ 256 = omega arith in
    let part = take (256 * page + 256 - 256 * page) (drop (256 * page) words) in
    AreCopied-page c.args.base.now words c.loop-number.after c.set_page.new.self part numbers i page c.loop-number.invariant
    (omega (arith, c.loop-number-test.true)) refl c.in_ok-set_page.ensures.ok (ap (λ (k : ℕ). take k (drop (256 * page) words)) room)

pub returns : goal.returns
returns c =
    AreCopied-all c.args.base.now c.args.words.now c.loop-number.after c.args.numbers.now c.loop-number.number-index c.loop-number.invariant
    (omega (arith, c.loop-number-test.false)) c.requires.unchanged
