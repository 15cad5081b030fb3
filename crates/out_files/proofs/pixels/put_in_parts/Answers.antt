-- A turn gives the part of the piece that the present frame takes.
use Rattle.std.proofs.Common.{◌≡◌, ◌+◌, ◌-◌, ◌%◌, ◌<◌, ◌≤◌, ◌++◌, length, take, drop, ap, sym, ◌∙◌, subst, arith, append_assoc, length-append, length-drop, min}
use Rattle.std.proofs.lemmas.List.{take_rest}
use Rattle.ocs_base.specs.Systems.{frame_bytes}
use Rattle.serial_model.specs.Outputs.{with_headings, heading_at}
use Rattle.out_files.proofs.PixelsLaws.{pixels-turn, pixels-end, place-turn, place_less, kept-grown, some_left, none_left}
use Rattle.out_files.proofs.pixels.put_in_parts.Goals as goal

pub loop-rest-preserved : goal.loop-rest-preserved
loop-rest-preserved c =
    let system = c.args.system in
    let rest = c.loop-rest.rest.now in
    let text = c.loop-rest.text.items in
    let n = c.loop-rest.given in
    let count = c.min-count.result in
    let now = c.put_part.new.text.items in
    let left : 0 < length rest = some_left (length rest) c.loop-rest-test.ensures in
    let whole : c.frame_bytes-whole.result ≡ frame_bytes system = c.frame_bytes-whole.ensures in
    let after : (n + count) % c.frame_bytes-whole.result ≡ (n + count) % frame_bytes system = ap (λ k. (n + count) % k) whole in
    let least : count ≡ min (length rest) (frame_bytes system - n) = c.min-count.ensures ∙ ap (λ k. min (length rest) (k - n)) whole in
    let inside : n < frame_bytes system = c.loop-rest.invariant.within in
    let some : 0 < count = omega (arith, left, least, inside) in
    let shorter : count ≤ length rest = omega (arith, least) in
    let fits : n + count ≤ frame_bytes system = omega (arith, least, inside) in
    let grown : now ≡ text ++ heading_at system n ++ take count rest = c.in_ok-put_part.ensures.text in
    let grows : now ≡ text ++ (heading_at system n ++ take count rest) = grown ∙ append_assoc text (heading_at system n) (take count rest) in
    let remains : take (length rest - count) (drop count rest) ≡ drop count rest = take_rest rest count in
    let size : length (take (length rest - count) (drop count rest)) ≡ length rest - count = ap length remains ∙ length-drop count rest in
    record {
      within = subst (λ k. k < frame_bytes system) (sym after) (place_less system (n + count));
      text =
          ap (λ k. now ++ with_headings system k (take (length rest - count) (drop count rest))) after
          ∙ pixels-turn system (c.args.text.now.items ++ with_headings system c.args.given c.args.piece.now) text rest now
          (take (length rest - count) (drop count rest)) n count some shorter fits grown remains c.loop-rest.invariant.text;
      count =
          ap (λ k. (k + length (take (length rest - count) (drop count rest))) % frame_bytes system) after
          ∙ ap (λ k. ((n + count) % frame_bytes system + k) % frame_bytes system) size
          ∙ place-turn system n count (length rest) (c.args.given + length c.args.piece.now) shorter c.loop-rest.invariant.count;
      kept = kept-grown c.args.text.now.items text (heading_at system n ++ take count rest) now grows c.loop-rest.invariant.longer c.loop-rest.invariant.kept;
      longer =
          (let more : length now ≡ length text + length (heading_at system n ++ take count rest) = ap length grows
          ∙ length-append text (heading_at system n ++ take count rest) in
          let longer : length c.args.text.now.items ≤ length text = c.loop-rest.invariant.longer in
          omega (arith, more, longer));
    }

pub returns-clause-text : goal.returns-clause-text
returns-clause-text c =
    pixels-end c.args.system (c.args.text.now.items ++ with_headings c.args.system c.args.given c.args.piece.now) c.loop-rest.text.items
    c.loop-rest.rest.now c.loop-rest.given
    (none_left (length c.loop-rest.rest.now) c.loop-rest-test.ensures) c.loop-rest.invariant.text
