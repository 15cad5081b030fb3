use Rattle.std.proofs.Common.{◌∙◌, ◌++◌, ℕ, List, take, slice_index, sym, ap}
use Rattle.painter.specs.Inks.{backdrop}
use Rattle.painter.specs.SpanParts.{bytes_of_clocks}
use Rattle.painter.proofs.painter.Painter.show_backdrops.Goals as goal

pub returns-then-count-eq4-clause-shown : goal.returns-then-count-eq4-clause-shown
returns-then-count-eq4-clause-shown c visible =
    c.put_block.ensures.bytes (slice_index c.args.self.now.inks.palette 0) c.backdrop_twice.ensures
    ∙ ap (λ (n : ℕ). take c.args.at c.args.room.now ++ bytes_of_clocks (λ (k : ℕ). backdrop c.args.self.now.inks.palette) n)
    (sym c.if-count-eq4.true)

pub returns-clause-shown : goal.returns-clause-shown
returns-clause-shown c visible =
    c.fill.ensures.bytes
    ∙ ap (λ (l : List (List ℕ)). take c.args.at c.args.room.now ++ bytes_of_clocks (λ (k : ℕ). l) c.args.count) c.backdrop.ensures
