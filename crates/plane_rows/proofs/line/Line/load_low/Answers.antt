use Rattle.plane_rows.proofs.line.Line.load_low.Goals as goal

pub returns-then-ends_with : goal.returns-then-ends_with
returns-then-ends_with c loads is = c.lay_load.ensures loads c.args.h c.args.con1 c.start_at-odd.ensures.value c.start_at-even.ensures.value is

pub returns-else-ends_with : goal.returns-else-ends_with
returns-else-ends_with c loads is = c.lay_over.ensures loads c.args.h c.args.con1 c.start_at-odd.ensures.value c.start_at-even.ensures.value is
