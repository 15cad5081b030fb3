use Rattle.std.proofs.Common.{Some, None, refl, ◌∙◌}
use Rattle.script_read.specs.code.Cut.{words_left}
use Rattle.script_read.specs.Words.{hex_number}
use Rattle.script_read.proofs.EventLaws.{poke-read}
use Rattle.script_read.proofs.event.read_poke.Goals as goal

pub returns-in_err-reg : goal.returns-in_err-reg
returns-in_err-reg c = c.from_residual-in_err-reg.ensures
    ∙ poke-read (words_left c.args.args) c.in_ok-words.words.first.now c.in_ok-words.words.second.now None
    (hex_number 4 c.in_ok-words.words.second.now) c.in_ok-words.ensures c.in_err-reg.ensures refl

pub returns-in_err-word : goal.returns-in_err-word
returns-in_err-word c = c.from_residual-in_err-word.ensures
    ∙ poke-read (words_left c.args.args) c.in_ok-words.words.first.now c.in_ok-words.words.second.now
    (Some c.in_ok-reg.reg) None c.in_ok-words.ensures c.in_ok-reg.ensures c.in_err-word.ensures.value

pub returns : goal.returns
returns c = poke-read (words_left c.args.args) c.in_ok-words.words.first.now c.in_ok-words.words.second.now (Some c.in_ok-reg.reg)
    (Some c.in_ok-word.word) c.in_ok-words.ensures c.in_ok-reg.ensures c.in_ok-word.ensures.value
