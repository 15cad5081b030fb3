use Rattle.std.proofs.Common.{arith, rules, ◌<◌, ◌&&◌, ◌==◌, ℕ, ap, refl}
use Rattle.blitter_line.proofs.Walking.{ended, height_most}
use Rattle.blitter_line.proofs.line.LineBlit.end_point.Goals as goal

pub overflow_add-self : goal.overflow_add-self
overflow_add-self c =
    let low : c.args.self.now.start.size < 65536 = search rules in
    let most = height_most c.args.self.now.start low in
    let count = c.requires in
    omega (arith, most, count)

pub returns : goal.returns
returns c = λ s ws h. ended c.args.self.now _ s ws h (record {
  start = refl;
  source = refl;
  place = refl;
  count = refl;
  zero = ap (λ (n : ℕ). c.args.self.now.zero && n == 0) c.word.ensures;
  point = c.go_on.ensures.value;
})
