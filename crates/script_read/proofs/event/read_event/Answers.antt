use Rattle.std.proofs.Common.{true, false, sym, ◌∙◌}
use Rattle.script_read.specs.code.Cut.{words_left}
use Rattle.script_read.proofs.EventLaws.{event-words}
use Rattle.script_read.proofs.event.read_event.Goals as goal

pub returns-then-same_text : goal.returns-then-same_text
returns-then-same_text c = let words = c.in_ok-words.words in
    c.event_at.ensures ∙ event-words c.args.system c.args.frames c.args.line.now words.at.now words.frame.now words.v.now words.h.now words.verb.now
    (words_left words.args) true c.in_ok-words.ensures (sym c.same_text.ensures ∙ c.if-same_text.true)

pub returns-else-same_text : goal.returns-else-same_text
returns-else-same_text c = let words = c.in_ok-words.words in
    event-words c.args.system c.args.frames c.args.line.now words.at.now words.frame.now words.v.now words.h.now words.verb.now
    (words_left words.args) false c.in_ok-words.ensures (sym c.same_text.ensures ∙ c.if-same_text.false)
