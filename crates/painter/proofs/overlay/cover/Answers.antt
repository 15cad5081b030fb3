use Rattle.std.proofs.Common.{◌≡◌, ◌∙◌, [], slice_index_or, slice_set, true, false, sym, ap, arith}
use Rattle.serial_model.specs.Picture.{colour_bytes}
use Rattle.std.proofs.lemmas.List.{set-get_or}
use Rattle.priority_ham.specs.PixelColour.{hides}
use Rattle.painter.specs.Inks.{counted_bits}
use Rattle.painter.proofs.Colours.{ink_low}
use Rattle.painter.proofs.Overlays.{hidden_is, shown_is}
use Rattle.painter.proofs.overlay.cover.Goals as goal

pub returns-then-not-hides : goal.returns-then-not-hides
returns-then-not-hides c =
    let inks = c.args.inks.now in
    let before = slice_index_or c.args.into.now c.args.at [] in
    let seen : hides c.args.inks.now.con0 c.args.inks.now.con2 (counted_bits c.args.inks.now.con0 c.args.bits) c.args.sprite.pair ≡ false =
    sym c.hides.ensures ∙ c.if-not-hides.true in
    ap (slice_set c.args.into.now c.args.at)
    (c.bytes.ensures
    ∙ ap colour_bytes (ink_low inks.palette c.args.sprite.colour (omega arith))
    ∙ sym (shown_is inks.con0 inks.con2 (counted_bits inks.con0 c.args.bits) c.args.sprite before inks.palette seen))

pub returns-else-not-hides : goal.returns-else-not-hides
returns-else-not-hides c =
    let inks = c.args.inks.now in
    let before = slice_index_or c.args.into.now c.args.at [] in
    let unseen : hides c.args.inks.now.con0 c.args.inks.now.con2 (counted_bits c.args.inks.now.con0 c.args.bits) c.args.sprite.pair ≡ true =
    sym c.hides.ensures ∙ c.if-not-hides.false in
    sym (ap (slice_set c.args.into.now c.args.at)
    (hidden_is inks.con0 inks.con2 (counted_bits inks.con0 c.args.bits) c.args.sprite before inks.palette unseen)
    ∙ set-get_or c.args.into.now c.args.at [])
