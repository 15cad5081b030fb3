use Rattle.std.proofs.Common.{Bool, if◌then◌else◌, subst, sym}
use Rattle.serial_model.specs.Tick.{start_field}
use Rattle.chip_set.specs.Chips.{WorkingChips, IsChipsOf}
use Rattle.chip_set.proofs.PartLaws.{field_started, line_started, nothing_starts}
use Rattle.chip_set.proofs.chips.Chips.start.Goals as goal
use Rattle.chip_set.proofs.chips.Chips.start.Goals.{then-at_field_start, else-at_field_start}

pub returns-then-not-at_line_start : goal.returns-then-not-at_line_start
returns-then-not-at_line_start c x is =
    nothing_starts c.args.beam.now c.at_line_start.result c.args.self.now x c.at_line_start.ensures c.if-not-at_line_start.true is

pub returns : goal.returns
returns c x is =
    let mid = c.if-at_field_start.self in
    let field = c.at_field_start.result in
    let begun : IsChipsOf mid (if field then start_field x else x) =
    elim c.if-at_field_start.branch [
      | then-at_field_start w ↦ subst (λ (on : Bool). IsChipsOf mid (if on then start_field x else x)) (sym w.if-at_field_start.true)
          (field_started _ w.restart.new.self mid w.request.new.self w.count_tod.new.self x w.self.view_is w.request.ensures w.count_tod.ensures w.self-is
          (w.restart.ensures x is))
      | else-at_field_start w ↦ subst (λ (on : Bool). IsChipsOf mid (if on then start_field x else x)) (sym w.if-at_field_start.false)
          (subst (λ (now : WorkingChips). IsChipsOf now x) (sym w.self-is) is)
    ] in
    line_started c.args.beam.now c.at_line_start.result field _ mid c.count_tod-2.new.self x c.self-2.view_is c.at_line_start.ensures
    c.if-not-at_line_start.false c.at_field_start.ensures c.count_tod-2.ensures begun
