use Rattle.scene_gen.proofs.Growth.{end_after}
use Rattle.scene_gen.proofs.image.place.Goals as goal

pub returns-clause-end : goal.returns-clause-end
returns-clause-end c =
    end_after c.push_words.result c.args.address c.args.image.now.items c.push_zeros.new.image.items c.push_words.new.image.items
    c.args.words.now c.requires c.in_ok-push_zeros.ensures c.push_words.ensures
