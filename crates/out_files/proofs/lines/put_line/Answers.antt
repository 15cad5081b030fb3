-- The line is its start, and the clock with what stands behind it.
use Rattle.std.proofs.Common.{◌≡◌, take, length, ap, sym, ◌∙◌, ◌++◌}
use Rattle.ocs_io.proofs.MapLaws.{on_err}
use Rattle.serial_model.specs.TraceText.{line_text}
use Rattle.out_files.proofs.LinesLaws.{wrote, peeked, taken, stays_so, begins_so, begins_first, begins_on, begins_still}
use Rattle.out_files.proofs.lines.put_line.Goals as goal

pub returns-in_ok-put_access-in-Wrote-clause-ok : goal.returns-in_ok-put_access-in-Wrote-clause-ok
returns-in_ok-put_access-in-Wrote-clause-ok c =
    wrote c.args.text.now.items c.put.new.into.items c.put_access.new.text.items c.in-Wrote.beam c.in-Wrote.reg c.in-Wrote.word c.in-Wrote.by
    c.in_ok-put-in-Wrote.ensures.ok c.in_ok-put_access-in-Wrote.ensures.ok
    ∙ ap (λ line. c.args.text.now.items ++ line_text line) (sym c.in-Wrote.is)

pub returns-in_ok-put_access-in-Peeked-clause-ok : goal.returns-in_ok-put_access-in-Peeked-clause-ok
returns-in_ok-put_access-in-Peeked-clause-ok c =
    peeked c.args.text.now.items c.put-in-Peeked.new.into.items c.put_access-in-Peeked.new.text.items c.in-Peeked.beam c.in-Peeked.reg c.in-Peeked.word
    c.in-Peeked.by c.in_ok-put-in-Peeked.ensures.ok c.in_ok-put_access-in-Peeked.ensures.ok
    ∙ ap (λ line. c.args.text.now.items ++ line_text line) (sym c.in-Peeked.is)

pub returns-in_err-put-in-Wrote-clause-refused : goal.returns-in_err-put-in-Wrote-clause-refused
returns-in_err-put-in-Wrote-clause-refused c =
    on_err c.from_residual.result (take (length c.args.text.now.items) c.put.new.into.items ≡ c.args.text.now.items)
    (stays_so c.args.text.now.items c.put.new.into.items c.in_err-put-in-Wrote.ensures.refused)

pub returns-in_err-put_access-in-Wrote-clause-refused : goal.returns-in_err-put_access-in-Wrote-clause-refused
returns-in_err-put_access-in-Wrote-clause-refused c =
    on_err c.from_residual-in_err-put_access-in-Wrote.result (take (length c.args.text.now.items) c.put_access.new.text.items ≡ c.args.text.now.items)
    (begins_so c.args.text.now.items _ c.put_access.new.text.items (c.in_err-put_access-in-Wrote.ensures.refused ∙ c.in_ok-put-in-Wrote.ensures.ok))

pub returns-in_err-put-in-Peeked-clause-refused : goal.returns-in_err-put-in-Peeked-clause-refused
returns-in_err-put-in-Peeked-clause-refused c =
    on_err c.from_residual-in_err-put-in-Peeked.result (take (length c.args.text.now.items) c.put-in-Peeked.new.into.items ≡ c.args.text.now.items)
    (stays_so c.args.text.now.items c.put-in-Peeked.new.into.items c.in_err-put-in-Peeked.ensures.refused)

pub returns-in_err-put_access-in-Peeked-clause-refused : goal.returns-in_err-put_access-in-Peeked-clause-refused
returns-in_err-put_access-in-Peeked-clause-refused c =
    on_err c.from_residual-in_err-put_access-in-Peeked.result
    (take (length c.args.text.now.items) c.put_access-in-Peeked.new.text.items ≡ c.args.text.now.items)
    (begins_so c.args.text.now.items _ c.put_access-in-Peeked.new.text.items
    (c.in_err-put_access-in-Peeked.ensures.refused ∙ c.in_ok-put-in-Peeked.ensures.ok))

pub returns-in_err-put-in-Taken-clause-refused : goal.returns-in_err-put-in-Taken-clause-refused
returns-in_err-put-in-Taken-clause-refused c =
    on_err c.from_residual-in_err-put-in-Taken.result (take (length c.args.text.now.items) c.put-in-Taken.new.into.items ≡ c.args.text.now.items)
    (stays_so c.args.text.now.items c.put-in-Taken.new.into.items c.in_err-put-in-Taken.ensures.refused)

pub returns-in_err-put_dec-in-Taken-clause-refused : goal.returns-in_err-put_dec-in-Taken-clause-refused
returns-in_err-put_dec-in-Taken-clause-refused c =
    on_err c.from_residual-in_err-put_dec-in-Taken.result (take (length c.args.text.now.items) c.put_dec.new.into.items ≡ c.args.text.now.items)
    (begins_so c.args.text.now.items _ c.put_dec.new.into.items (c.in_err-put_dec-in-Taken.ensures.refused ∙ c.in_ok-put-in-Taken.ensures.ok))

pub returns-in_err-extend_from_slice-in-Taken-clause-refused : goal.returns-in_err-extend_from_slice-in-Taken-clause-refused
returns-in_err-extend_from_slice-in-Taken-clause-refused c =
    let first = begins_first c.args.text.now.items _ c.put-in-Taken.new.into.items c.in_ok-put-in-Taken.ensures.ok in
    let second = begins_on c.args.text.now.items c.put-in-Taken.new.into.items c.put_dec.new.into.items _ first.0 c.in_ok-put_dec-in-Taken.ensures.ok
    first.1 in
    on_err c.from_residual-in_err-extend_from_slice-in-Taken.result
    (take (length c.args.text.now.items) c.extend_from_slice.new.self.items ≡ c.args.text.now.items)
    (begins_still c.args.text.now.items c.put_dec.new.into.items c.extend_from_slice.new.self.items second.0
    c.in_err-extend_from_slice-in-Taken.ensures.items)

pub returns-in_err-put_dec-in-Taken-2-clause-refused : goal.returns-in_err-put_dec-in-Taken-2-clause-refused
returns-in_err-put_dec-in-Taken-2-clause-refused c =
    let first = begins_first c.args.text.now.items _ c.put-in-Taken.new.into.items c.in_ok-put-in-Taken.ensures.ok in
    let second = begins_on c.args.text.now.items c.put-in-Taken.new.into.items c.put_dec.new.into.items _ first.0 c.in_ok-put_dec-in-Taken.ensures.ok
    first.1 in
    let third = begins_on c.args.text.now.items c.put_dec.new.into.items c.extend_from_slice.new.self.items _ second.0
    c.in_ok-extend_from_slice-in-Taken.ensures.items second.1 in
    on_err c.from_residual-in_err-put_dec-in-Taken-2.result (take (length c.args.text.now.items) c.put_dec-in-Taken.new.into.items ≡ c.args.text.now.items)
    (begins_still c.args.text.now.items c.extend_from_slice.new.self.items c.put_dec-in-Taken.new.into.items third.0
    c.in_err-put_dec-in-Taken-2.ensures.refused)

pub returns-in_err-push-in-Taken-clause-refused : goal.returns-in_err-push-in-Taken-clause-refused
returns-in_err-push-in-Taken-clause-refused c =
    let first = begins_first c.args.text.now.items _ c.put-in-Taken.new.into.items c.in_ok-put-in-Taken.ensures.ok in
    let second = begins_on c.args.text.now.items c.put-in-Taken.new.into.items c.put_dec.new.into.items _ first.0 c.in_ok-put_dec-in-Taken.ensures.ok
    first.1 in
    let third = begins_on c.args.text.now.items c.put_dec.new.into.items c.extend_from_slice.new.self.items _ second.0
    c.in_ok-extend_from_slice-in-Taken.ensures.items second.1 in
    let fourth = begins_on c.args.text.now.items c.extend_from_slice.new.self.items c.put_dec-in-Taken.new.into.items _ third.0
    c.in_ok-put_dec-in-Taken-2.ensures.ok third.1 in
    on_err c.from_residual-in_err-push-in-Taken.result (take (length c.args.text.now.items) c.push.new.self.items ≡ c.args.text.now.items)
    (begins_still c.args.text.now.items c.put_dec-in-Taken.new.into.items c.push.new.self.items fourth.0 c.in_err-push-in-Taken.ensures.items)

pub returns-in_ok-push-in-Taken-clause-ok : goal.returns-in_ok-push-in-Taken-clause-ok
returns-in_ok-push-in-Taken-clause-ok c =
    taken c.args.text.now.items c.put-in-Taken.new.into.items c.put_dec.new.into.items c.extend_from_slice.new.self.items c.put_dec-in-Taken.new.into.items
    c.push.new.self.items
    c.in-Taken.beam c.in-Taken.level c.in_ok-put-in-Taken.ensures.ok c.in_ok-put_dec-in-Taken.ensures.ok c.in_ok-extend_from_slice-in-Taken.ensures.items
    c.in_ok-put_dec-in-Taken-2.ensures.ok c.in_ok-push-in-Taken.ensures.items
    ∙ ap (λ line. c.args.text.now.items ++ line_text line) (sym c.in-Taken.is)
