use Rattle.std.proofs.Common.{◌≡◌, ◌+◌, ◌*◌, ◌∙◌, ℕ, false, nat_eq, sym, ap, arith}
use Rattle.std.proofs.lemmas.Bool.Decides.{nat_tests}
use Rattle.sprite_rows.specs.PairFront.{pixel_of_byte}
use Rattle.sprite_rows.proofs.FrontByBytes.{some_pixel}
use Rattle.painter.specs.Inks.{counted_bits}
use Rattle.painter.proofs.Covering.{front_of_pair}
use Rattle.painter.proofs.Overlays.{counted_same, covered_some, covered_none}
use Rattle.painter.proofs.painter.Painter.put_alone.Goals as goal

pub returns-then-byte-eq0 : goal.returns-then-byte-eq0
returns-then-byte-eq0 c p stands =
    let steady = c.args.steady.now in
    let lone = c.args.steady.now.lone in
    let attached = c.args.steady.now.attached in
    covered_none c.args.column c.args.at p c.args.into.now
    (front_of_pair c.args.column lone attached c.pair_byte-byte.result c.args.self.now p stands (omega (arith, c.requires.room))
    (omega (arith, c.requires.alone)) c.requires.none c.requires.attached c.pair_byte-byte.ensures.value
    ∙ ap (λ (n : ℕ). pixel_of_byte lone n attached) c.if-byte-eq0.true)

pub returns-then-steady : goal.returns-then-steady
returns-then-steady c p stands =
    let column = c.args.column in
    let lone = c.args.steady.now.lone in
    let attached = c.args.steady.now.attached in
    let con0 : ℕ = c.args.self.now.inks.con0 in
    let shown : nat_eq c.pair_byte-byte.result 0 ≡ false = grind (arith, nat_tests) in
    covered_some column c.args.at (counted_bits con0 c.bits-first.result) (counted_bits con0 c.bits-first.result) c.args.self.now p c.pair_pixel-sprite.result
    c.args.into.now c.cover.new.into c.cover-then-steady.new.into stands
    (counted_same (2 * column) c.bits-first.result c.args.self.now p stands (omega (arith, c.requires.room)) c.bits-first.ensures.value)
    (counted_same (2 * column + 1) c.bits-first.result c.args.self.now p stands (omega (arith, c.requires.room))
    (c.bits-first.ensures.value ∙ c.requires.pair c.if-steady.true))
    (front_of_pair column lone attached c.pair_byte-byte.result c.args.self.now p stands (omega (arith, c.requires.room))
    (omega (arith, c.requires.alone)) c.requires.none c.requires.attached c.pair_byte-byte.ensures.value
    ∙ sym (some_pixel lone c.pair_byte-byte.result attached c.pair_pixel-sprite.result shown
    c.pair_pixel-sprite.ensures.pair c.pair_pixel-sprite.ensures.colour))
    c.cover.ensures c.cover-then-steady.ensures

pub returns : goal.returns
returns c p stands =
    let column = c.args.column in
    let lone = c.args.steady.now.lone in
    let attached = c.args.steady.now.attached in
    let con0 : ℕ = c.args.self.now.inks.con0 in
    let shown : nat_eq c.pair_byte-byte.result 0 ≡ false = grind (arith, nat_tests) in
    covered_some column c.args.at (counted_bits con0 c.bits-first.result) (counted_bits con0 c.bits-second.result) c.args.self.now p c.pair_pixel-sprite.result
    c.args.into.now c.cover.new.into c.cover-2.new.into stands
    (counted_same (2 * column) c.bits-first.result c.args.self.now p stands (omega (arith, c.requires.room)) c.bits-first.ensures.value)
    (counted_same (2 * column + 1) c.bits-second.result c.args.self.now p stands (omega (arith, c.requires.room)) c.bits-second.ensures.value)
    (front_of_pair column lone attached c.pair_byte-byte.result c.args.self.now p stands (omega (arith, c.requires.room))
    (omega (arith, c.requires.alone)) c.requires.none c.requires.attached c.pair_byte-byte.ensures.value
    ∙ sym (some_pixel lone c.pair_byte-byte.result attached c.pair_pixel-sprite.result shown
    c.pair_pixel-sprite.ensures.pair c.pair_pixel-sprite.ensures.colour))
    c.cover.ensures c.cover-2.ensures
