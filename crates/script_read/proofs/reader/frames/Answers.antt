use Rattle.std.proofs.Common.{sym, ◌∙◌}
use Rattle.script_read.specs.Split.{words_of}
use Rattle.script_read.proofs.FrameLaws.{frames-no}
use Rattle.script_read.proofs.reader.frames.Goals as goal

pub returns-else-same_text : goal.returns-else-same_text
returns-else-same_text c =
    sym (frames-no (words_of c.args.line.now) c.in_ok-words.words.first.now c.in_ok-words.words.second.now c.in_ok-words.ensures
    (sym c.same_text.ensures ∙ c.if-same_text.false))
