use Rattle.std.proofs.Common.{◌≡◌, ◌+◌, ◌∙◌, ℕ, List, slice_set, ap}
use Rattle.serial_model.specs.Picture.{colour_bytes}
use Rattle.painter.specs.Inks.{ink, ink_number}
use Rattle.painter.specs.code.Pixels.{ink_at}
use Rattle.painter.proofs.pixels.show_inks.Goals as goal

pub returns : goal.returns
unfolding ink_at
returns c =
    let inks = c.args.inks.now in
    let first : c.bytes-first.result ≡ colour_bytes (ink_at c.args.inks.now c.args.line.now c.args.x) =
    c.bytes-first.ensures
    ∙ ap (λ (n : ℕ). colour_bytes (ink inks.palette n)) (c.name.ensures.value ∙ ap (ink_number inks.con0 inks.con2) c.bits.ensures.value) in
    let second : c.bytes-second.result ≡ colour_bytes (ink_at c.args.inks.now c.args.line.now (c.args.x + 1)) =
    c.bytes-second.ensures
    ∙ ap (λ (n : ℕ). colour_bytes (ink inks.palette n)) (c.name-2.ensures.value ∙ ap (ink_number inks.con0 inks.con2) c.bits-2.ensures.value) in
    rw (first, second)

pub returns-then-paired : goal.returns-then-paired
unfolding ink_at
returns-then-paired c =
    let inks = c.args.inks.now in
    let first : c.bytes-first.result ≡ colour_bytes (ink_at c.args.inks.now c.args.line.now c.args.x) =
    c.bytes-first.ensures
    ∙ ap (λ (n : ℕ). colour_bytes (ink inks.palette n)) (c.name.ensures.value ∙ ap (ink_number inks.con0 inks.con2) c.bits.ensures.value) in
    let second : c.bytes-first.result ≡ colour_bytes (ink_at c.args.inks.now c.args.line.now (c.args.x + 1)) =
    first ∙ ap (λ (n : ℕ). colour_bytes (ink inks.palette (ink_number inks.con0 inks.con2 n))) (c.requires.pair c.if-paired.true) in
    first_second c.args.into.now c.args.at _ _ _ first second
  where
    first_second : (into : List (List ℕ)) (at : ℕ) (bytes first second : List ℕ) → bytes ≡ first → bytes ≡ second →
        slice_set (slice_set into at bytes) (at + 1) bytes ≡ slice_set (slice_set into at first) (at + 1) second
    first_second into at bytes first second one two =
        ap (λ (l : List ℕ). slice_set (slice_set into at l) (at + 1) bytes) one ∙ ap (λ (l : List ℕ). slice_set (slice_set into at first) (at + 1) l) two
