use Rattle.std.proofs.Common.{◌++◌, sym, ap, ◌∙◌, append-nil, arith}
use Rattle.scene_gen.proofs.Growth.{next_word, bytes_of-nil}
use Rattle.scene_gen.proofs.image.push_words.Goals as goal

pub loop-word-init : goal.loop-word-init
loop-word-init c = sym (ap (λ bytes. c.args.image.now.items ++ bytes) bytes_of-nil ∙ append-nil c.args.image.now.items)

pub loop-word-preserved : goal.loop-word-preserved
loop-word-preserved c =
    next_word c.args.words.now c.args.image.now.items c.loop-word.image.items c.extend_from_slice.new.self.items c.loop-word.word-index
    (omega arith) c.loop-word.invariant
    (c.in_ok-extend_from_slice.ensures.items ∙ ap (λ bytes. c.loop-word.image.items ++ bytes) c.to_be_bytes.ensures)
