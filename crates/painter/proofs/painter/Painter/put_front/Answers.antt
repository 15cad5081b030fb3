use Rattle.std.proofs.Common.{◌≡◌, ◌+◌, ◌*◌, ◌∙◌, ℕ, List, Option, sym, ap, arith}
use Rattle.sprites.specs.SpriteFront.{front_pixel}
use Rattle.serial_model.specs.Picture.{attached_pairs, sprite_values}
use Rattle.sprites.specs.declared.runs.Start.{Start}
use Rattle.painter.specs.Inks.{counted_bits}
use Rattle.painter.proofs.Overlays.{attached_same, counted_same, covered_some, covered_none}
use Rattle.painter.proofs.painter.Painter.put_front.Goals as goal

pub returns-in-Some : goal.returns-in-Some
returns-in-Some c p stands =
    let column = c.args.column in
    let seen : c.front_pixel.result ≡ front_pixel (sprite_values c.args.column p.runs) (attached_pairs p) =
    c.front_pixel.ensures.value
    ∙ ap (λ (runs : List (Option Start)). front_pixel (sprite_values column runs) c.args.attached) (sym stands.runs)
    ∙ ap (front_pixel (sprite_values column p.runs)) (c.requires.attached ∙ attached_same c.args.self.now p stands) in
    let con0 : ℕ = c.args.self.now.inks.con0 in
    covered_some column c.args.at (counted_bits con0 c.bits-first.result) (counted_bits con0 c.bits-second.result) c.args.self.now p c.in-Some.sprite
    c.args.into.now c.cover.new.into c.cover-in-Some.new.into stands
    (counted_same (2 * column) c.bits-first.result c.args.self.now p stands (omega (arith, c.requires.room)) c.bits-first.ensures.value)
    (counted_same (2 * column + 1) c.bits-second.result c.args.self.now p stands (omega (arith, c.requires.room)) c.bits-second.ensures.value)
    (sym seen ∙ c.in-Some.is) c.cover.ensures c.cover-in-Some.ensures

pub returns-in_default : goal.returns-in_default
returns-in_default c p stands =
    let column = c.args.column in
    let seen : c.front_pixel.result ≡ front_pixel (sprite_values c.args.column p.runs) (attached_pairs p) =
    c.front_pixel.ensures.value
    ∙ ap (λ (runs : List (Option Start)). front_pixel (sprite_values column runs) c.args.attached) (sym stands.runs)
    ∙ ap (front_pixel (sprite_values column p.runs)) (c.requires.attached ∙ attached_same c.args.self.now p stands) in
    covered_none column c.args.at p c.args.into.now (sym seen ∙ c.in_default.is)
