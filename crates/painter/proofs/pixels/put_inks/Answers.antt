use Rattle.std.proofs.Common.{◌≡◌, ◌∙◌, ◌+◌, ◌-◌, ◌*◌, ◌++◌, ℕ, List, take, subst, refl, ap, arith}
use Rattle.painter.specs.SpanParts.{bytes_of_clocks, ink_pixels}
use Rattle.painter.proofs.Clocks.{one_put}
use Rattle.painter.proofs.Pairs.{later_pairs}
use Rattle.painter.proofs.pixels.put_inks.Goals as goal
use Rattle.painter.proofs.pixels.put_inks.Goals.{then-paired, else-paired}

pub ink_clock-last-requires-clause-pairs : goal.ink_clock-last-requires-clause-pairs
ink_clock-last-requires-clause-pairs c paired =
    later_pairs c.args.line.now c.args.x (c.args.count - 1) (c.is_paired_from-paired.ensures paired)

pub returns-clause-bytes : goal.returns-clause-bytes
returns-clause-bytes c =
    let shown : ℕ → List (List ℕ) = λ k. ink_pixels c.args.inks.now c.args.line.now (c.args.x + 4 * k) in
    let before : ℕ = c.args.count - 1 in
    let all : before + 1 ≡ c.args.count = omega (arith, c.requires.some) in
    let put : take (c.args.at + 12 * before) c.if-paired.room ≡ take c.args.at c.args.room.now ++ bytes_of_clocks shown before =
    elim c.if-paired.branch [
      | then-paired w ↦ ap (λ (l : List ℕ). take (c.args.at + 12 * before) l) w.room-is ∙ w.put_clocks.ensures.bytes
      | else-paired w ↦ ap (λ (l : List ℕ). take (c.args.at + 12 * before) l) w.room-is ∙ w.put_clocks-else-paired.ensures.bytes
    ] in
    subst (λ (n : ℕ). take (c.args.at + 12 * n) c.put.new.room ≡ take c.args.at c.args.room.now ++ bytes_of_clocks shown n) all
    (one_put c.args.at before (c.args.at + 12 * before) shown (take c.args.at c.args.room.now) c.if-paired.room c.put.new.room
    c.ink_clock-last.result refl put c.put.ensures.bytes c.ink_clock-last.ensures)
