use Rattle.std.proofs.Common.{◌≡◌, ◌+◌, ◌∙◌, ℕ, List, ap, arith}
use Rattle.serial_model.specs.Picture.{colour_bytes}
use Rattle.plane_rows.specs.declared.line.Line.{Line}
use Rattle.painter.specs.Inks.{InkRegisters, ink, ink_number, two_pixels}
use Rattle.plane_rows.specs.Line.{row_bits}
use Rattle.painter.specs.code.Pixels.{ink_at}
use Rattle.painter.proofs.Wide.{singles_put}
use Rattle.painter.proofs.pixels.put_singles.Goals as goal

-- the ink that the bits of a position name
named : (inks : InkRegisters) (line : Line) (x bits : ℕ) (two : List ℕ)
    → two ≡ two_pixels (colour_bytes (ink inks.palette (ink_number inks.con0 inks.con2 bits))) → bits ≡ row_bits line x
    → two ≡ two_pixels (colour_bytes (ink_at inks line x))
unfolding ink_at
named inks line x bits two is at = is ∙ ap (λ (n : ℕ). two_pixels (colour_bytes (ink inks.palette (ink_number inks.con0 inks.con2 n)))) at

pub named_twice-requires : goal.named_twice-requires
named_twice-requires c =
    omega (arith, c.four_bits-bits.ensures.first, c.args.line.now.odd.few c.args.x, c.args.line.now.even.few c.args.x)

pub named_twice-requires-2 : goal.named_twice-requires-2
named_twice-requires-2 c =
    omega (arith, c.four_bits-bits.ensures.second, c.args.line.now.odd.few (c.args.x + 1), c.args.line.now.even.few (c.args.x + 1))

pub named_twice-requires-3 : goal.named_twice-requires-3
named_twice-requires-3 c =
    omega (arith, c.four_bits-bits.ensures.third, c.args.line.now.odd.few (c.args.x + 2), c.args.line.now.even.few (c.args.x + 2))

pub named_twice-requires-4 : goal.named_twice-requires-4
named_twice-requires-4 c =
    omega (arith, c.four_bits-bits.ensures.fourth, c.args.line.now.odd.few (c.args.x + 3), c.args.line.now.even.few (c.args.x + 3))

pub returns-clause-bytes : goal.returns-clause-bytes
returns-clause-bytes c =
    let inks = c.args.inks.now in
    let line = c.args.line.now in
    let x = c.args.x in
    singles_put c.args.at (ink_at inks line x) (ink_at inks line (x + 1)) (ink_at inks line (x + 2)) (ink_at inks line (x + 3))
    c.args.room.now c.put_eight.new.room c.put_eight-2.new.room c.put_eight-3.new.room c.put_eight-4.new.room
    c.named_twice.result c.named_twice-2.result c.named_twice-3.result c.named_twice-4.result
    (named inks line x _ _ c.named_twice.ensures c.four_bits-bits.ensures.first)
    (named inks line (x + 1) _ _ c.named_twice-2.ensures c.four_bits-bits.ensures.second)
    (named inks line (x + 2) _ _ c.named_twice-3.ensures c.four_bits-bits.ensures.third)
    (named inks line (x + 3) _ _ c.named_twice-4.ensures c.four_bits-bits.ensures.fourth)
    c.put_eight.ensures.three c.put_eight-2.ensures.three c.put_eight-3.ensures.three c.put_eight-4.ensures.three
