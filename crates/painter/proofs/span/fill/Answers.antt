use Rattle.std.proofs.Common.{◌≡◌, ◌∙◌, ◌+◌, ◌*◌, ◌/◌, ◌%◌, ◌++◌, ℕ, List, take, sym, ap, arith, append_assoc}
use Rattle.painter.specs.SpanParts.{bytes_of_clocks}
use Rattle.painter.proofs.Fills.{same_clocks}
use Rattle.painter.proofs.span.fill.Goals as goal

pub fill_each-requires : goal.fill_each-requires
fill_each-requires c = omega (arith, c.requires, c.fill_blocks.ensures.size)

pub returns-clause-bytes : goal.returns-clause-bytes
returns-clause-bytes c =
    let count : ℕ = c.args.count in
    let pixels = c.args.pixels.now in
    let all : 4 * (count / 4) + count % 4 ≡ count = omega arith in
    let place : c.args.at + 48 * (count / 4) + 12 * (count % 4) ≡ c.args.at + 12 * count = omega arith in
    ap (λ (n : ℕ). take n c.fill_each.new.room) (sym place)
    ∙ c.fill_each.ensures.bytes
    ∙ ap (λ (l : List ℕ). l ++ bytes_of_clocks (λ (k : ℕ). pixels) (count % 4)) c.fill_blocks.ensures.bytes
    ∙ append_assoc (take c.args.at c.args.room.now) (bytes_of_clocks (λ (k : ℕ). pixels) (4 * (count / 4)))
    (bytes_of_clocks (λ (k : ℕ). pixels) (count % 4))
    ∙ ap (λ (l : List ℕ). take c.args.at c.args.room.now ++ l) (sym (same_clocks pixels (4 * (count / 4)) (count % 4)))
    ∙ ap (λ (n : ℕ). take c.args.at c.args.room.now ++ bytes_of_clocks (λ (k : ℕ). pixels) n) all
