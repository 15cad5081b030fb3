use Rattle.std.proofs.Common.{◌≡◌, ◌∙◌, ◌+◌, ◌-◌, ◌*◌, ◌++◌, ℕ, List, take, subst, refl, ap, arith}
use Rattle.painter.specs.code.Held.{IsHeld}
use Rattle.painter.specs.code.Pixels.{modified_along, all_modified}
use Rattle.painter.specs.SpanParts.{bytes_of_clocks}
use Rattle.painter.proofs.Clocks.{one_put}
use Rattle.painter.proofs.Modifying.{clock_more, one_clock}
use Rattle.painter.proofs.pixels.put_modified.Goals as goal

pub put_held_clocks-between-requires-clause-pairs : goal.put_held_clocks-between-requires-clause-pairs
put_held_clocks-between-requires-clause-pairs c = c.is_paired_from.ensures c.if-not-is_paired_from.false

pub returns-clause-held : goal.returns-clause-held
returns-clause-held c colour is =
    let before : ℕ = c.args.count - 1 in
    let all : before + 1 ≡ c.args.count = omega (arith, c.requires.some) in
    let inks = c.args.painter.now.inks in
    let line = c.args.painter.now.line in
    subst (IsHeld c.put_modified_each-2.result)
    (clock_more inks line c.args.x colour before ∙ ap (λ (n : ℕ). modified_along inks line c.args.x colour (4 * n)) all)
    (c.put_modified_each-2.ensures.held (modified_along c.args.painter.now.inks c.args.painter.now.line c.args.x colour (4 * (c.args.count - 1)))
    (c.put_held_clocks-between.ensures.held colour is))

pub returns-clause-bytes : goal.returns-clause-bytes
returns-clause-bytes c colour is =
    let before : ℕ = c.args.count - 1 in
    let all : before + 1 ≡ c.args.count = omega (arith, c.requires.some) in
    let inks = c.args.painter.now.inks in
    let line = c.args.painter.now.line in
    let held : ℕ = modified_along c.args.painter.now.inks c.args.painter.now.line c.args.x colour (4 * (c.args.count - 1)) in
    subst (λ (n : ℕ). take (c.args.at + 12 * n) c.put_modified_each-2.new.room
    ≡ take c.args.at c.args.room.now ++ bytes_of_clocks (all_modified c.args.painter.now.inks c.args.painter.now.line c.args.x colour) n) all
    (one_put c.args.at before (c.args.at + 12 * before) (all_modified inks line c.args.x colour) (take c.args.at c.args.room.now)
    c.put_held_clocks-between.new.room c.put_modified_each-2.new.room _ refl (c.put_held_clocks-between.ensures.bytes colour is)
    (c.put_modified_each-2.ensures.bytes held (c.put_held_clocks-between.ensures.held colour is)
    ∙ ap (λ (l : List ℕ). take (c.args.at + 12 * before) c.put_held_clocks-between.new.room ++ l)
    (one_clock inks line (c.args.x + 4 * before) held))
    refl)
