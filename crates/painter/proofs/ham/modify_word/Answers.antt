use Rattle.std.proofs.Common.{◌∙◌, ◌+◌, ◌≤◌, ℕ, ap, arith, bit_and}
use Rattle.painter.specs.Inks.{ink}
use Rattle.painter.proofs.HeldWords.{word_read, word_named, word_modified}
use Rattle.painter.proofs.ham.modify_word.Goals as goal

pub returns-then-bits-lt16 : goal.returns-then-bits-lt16
returns-then-bits-lt16 c colour is =
    let palette = c.args.inks.now.palette in
    c.from_le_bytes.ensures
    ∙ word_read (ink c.args.inks.now.palette c.args.bits) c.two_pixels.result c.two_pixels.ensures
    ∙ word_named c.args.bits colour palette c.if-bits-lt16.true

pub returns : goal.returns
returns c colour is =
    let least : 16 ≤ c.args.bits = omega (arith, c.if-bits-lt16.false) in
    ap (λ (n : ℕ). bit_and n c.kept_by_bits.result + c.new_by_bits.result) is
    ∙ rw (c.kept_by_bits.ensures, c.new_by_bits.ensures) (word_modified c.args.bits colour c.args.inks.now.palette least c.requires)
