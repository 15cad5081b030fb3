use Rattle.std.proofs.Common.{◌≡◌, ◌∙◌, ℕ, bit_or, sym, ap, refl}
use Rattle.serial_model.specs.Picture.{sprite_values}
use Rattle.collisions.specs.Collision.{collision_bits}
use Rattle.painter.proofs.Ors.{or_assoc, or_twice}
use Rattle.painter.proofs.Covering.{column_collides}
use Rattle.painter.proofs.painter.Painter.collide.Goals as goal

pub returns-then-second-first : goal.returns-then-second-first
returns-then-second-first c p stands =
    or_assoc c.args.clx.now c.collisions.result c.collisions-then-second-first.result
    ∙ ap (bit_or c.args.clx.now) (rw (c.collisions.ensures, c.collisions-then-second-first.ensures) refl
    ∙ column_collides c.args.column c.planes_at-first.result c.planes_at-second.result c.args.self.now p stands
    (c.planes_at-first.ensures p stands) (c.planes_at-second.ensures p stands))

pub returns-else-second-first : goal.returns-else-second-first
returns-else-second-first c p stands =
    let con = c.args.self.now.clxcon in
    let values = sprite_values c.args.column c.args.self.now.sprites.runs in
    let same : c.planes_at-second.result ≡ c.planes_at-first.result = c.if-second-first.false in
    ap (bit_or c.args.clx.now)
    (c.collisions.ensures
    ∙ sym (or_twice (collision_bits con c.planes_at-first.result values))
    ∙ ap (λ (bits : ℕ). bit_or (collision_bits con c.planes_at-first.result values) (collision_bits con bits values)) (sym same)
    ∙ column_collides c.args.column c.planes_at-first.result c.planes_at-second.result c.args.self.now p stands
    (c.planes_at-first.ensures p stands) (c.planes_at-second.ensures p stands))
