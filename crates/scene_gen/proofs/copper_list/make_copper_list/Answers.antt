use Rattle.scene_gen.proofs.ImageLaws.{copper_list-is}
use Rattle.scene_gen.proofs.copper_list.make_copper_list.Goals as goal

pub returns-clause-words : goal.returns-clause-words
returns-clause-words c =
    copper_list-is c.args.n c.new-list.result.items c.push_sprite_pointers.new.list.items c.push_plane_pointers.new.list.items
    c.push_colour_changes.new.list.items c.extend_from_slice.new.self.items c.new-list.ensures.items c.in_ok-push_sprite_pointers.ensures
    c.in_ok-push_plane_pointers.ensures c.in_ok-push_colour_changes.ensures c.in_ok-extend_from_slice.ensures.items
