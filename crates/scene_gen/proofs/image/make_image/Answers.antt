use Rattle.std.proofs.Common.{◌∙◌}
use Rattle.scene_gen.proofs.ImageLaws.{scene_image-is}
use Rattle.scene_gen.proofs.image.make_image.Goals as goal

pub returns : goal.returns
returns c =
    scene_image-is c.args.n c.deref.result.now c.deref-2.result.now c.new-image.result.items c.place.new.image.items c.place-2.new.image.items
    c.place-3.new.image.items c.place-4.new.image.items c.place-5.new.image.items c.place-6.new.image.items c.push_zeros.new.image.items
    c.push_planes.new.image.items (c.deref.ensures.value ∙ c.in_ok-make_sprite_list.ensures.words)
    (c.deref-2.ensures.value ∙ c.in_ok-make_copper_list.ensures.words) c.new-image.ensures.items c.in_ok-place.ensures.placed
    c.in_ok-place-2.ensures.placed c.in_ok-place-3.ensures.placed c.in_ok-place-4.ensures.placed c.in_ok-place-5.ensures.placed
    c.in_ok-place-6.ensures.placed c.in_ok-push_zeros.ensures c.in_ok-push_planes.ensures
