use Rattle.std.proofs.Common.{◌≡◌, ◌+◌, ◌%◌, ◌++◌, ◌∷◌, [], replicate, ap, ◌∙◌, arith}
use Rattle.std.specs.List.{concat}
use Rattle.scene_gen.specs.Scene.{sprite_list}
use Rattle.scene_gen.proofs.Growth.{next_copy}
use Rattle.scene_gen.proofs.image.make_sprite_list.Goals as goal

pub loop-preserved : goal.loop-preserved
loop-preserved c =
    next_copy (0xffff ∷ 0x0f0f ∷ []) c.loop.counter ((0x3c40 + c.args.n % 64) ∷ 0x4c00 ∷ []) c.loop.words.items
    c.extend_from_slice-in-loop.new.self.items c.loop.invariant c.in_ok-extend_from_slice-2.ensures.items

pub returns-clause-words : goal.returns-clause-words
unfolding sprite_list
returns-clause-words c =
    let all : c.loop.counter ≡ 16 = omega arith in
    c.in_ok-extend_from_slice-3.ensures.items
    ∙ ap (λ words. words ++ 0 ∷ 0 ∷ [])
    (c.loop.invariant ∙ ap (λ k. (0x3c40 + c.args.n % 64) ∷ 0x4c00 ∷ concat (replicate k (0xffff ∷ 0x0f0f ∷ []))) all)
