-- Within a frame the pixels of a clock are appended as they are.
use Rattle.std.proofs.Common.{◌≡◌, ◌+◌, ◌<◌, ◌++◌, length, ap, sym, ◌∙◌, arith}
use Rattle.ocs_base.specs.Systems.{frame_bytes}
use Rattle.out_files.proofs.PixelsLaws.{within_frame}
use Rattle.out_files.proofs.pixels.put_pixels.Goals as goal

pub returns-then-given-frame-clause-text : goal.returns-then-given-frame-clause-text
returns-then-given-frame-clause-text c =
    let count : length c.args.piece.now ≡ 12 = c.if-piece-eq-CLOCK_BYTES.true in
    let some : 0 < length c.args.piece.now = omega (arith, count) in
    let whole : c.frame_bytes-frame.result ≡ frame_bytes c.args.system = c.frame_bytes-frame.ensures in
    let inside : c.args.given + length c.args.piece.now < frame_bytes c.args.system = omega (arith, count, whole, c.if-given-frame.true) in
    c.in_ok-extend_from_slice.ensures.items
    ∙ ap (λ bytes. c.args.text.now.items ++ bytes) (sym (within_frame c.args.system c.args.given c.args.piece.now c.if-given-gt0.true some inside))
