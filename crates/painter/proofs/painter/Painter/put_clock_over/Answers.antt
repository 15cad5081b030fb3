use Rattle.std.proofs.Common.{◌∙◌, ◌+◌, ◌*◌, ℕ, slice_index, ap}
use Rattle.serial_model.specs.Picture.{colour_bytes}
use Rattle.painter.specs.Inks.{two_pixels}
use Rattle.painter.specs.code.PairOver.{colour_over}
use Rattle.painter.proofs.Wide.{pairs_put}
use Rattle.painter.proofs.painter.Painter.put_clock_over.Goals as goal

pub returns-clause-bytes : goal.returns-clause-bytes
returns-clause-bytes c =
    let inks = c.args.self.now.inks in
    let line = c.args.self.now.line in
    let pair = c.args.steady.now.lone in
    let attached = c.args.steady.now.attached in
    let row = c.args.row.now in
    let column = c.args.column in
    pairs_put c.args.at (colour_over inks line pair attached (slice_index row column) (2 * column))
    (colour_over inks line pair attached (slice_index row (column + 1)) (2 * (column + 1)))
    c.args.room.now c.put_eight.new.room c.put_eight-2.new.room c.two_pixels.result c.two_pixels-2.result
    (c.two_pixels.ensures ∙ ap (λ (n : ℕ). two_pixels (colour_bytes n)) c.ink_over-first.ensures.value)
    (c.two_pixels-2.ensures ∙ ap (λ (n : ℕ). two_pixels (colour_bytes n)) c.ink_over-second.ensures.value)
    c.put_eight.ensures.six c.put_eight-2.ensures.six
