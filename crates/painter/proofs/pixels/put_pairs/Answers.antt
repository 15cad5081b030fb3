use Rattle.std.proofs.Common.{◌∙◌, ◌++◌, ◌+◌, ℕ, List, flat_map, refl, take, ap}
use Rattle.serial_model.specs.Picture.{colour_bytes}
use Rattle.painter.specs.code.Pixels.{ink_at}
use Rattle.painter.proofs.Pairs.{ink_pairs}
use Rattle.painter.proofs.Wide.{pairs_put}
use Rattle.painter.proofs.pixels.put_pairs.Goals as goal

pub returns-clause-bytes : goal.returns-clause-bytes
returns-clause-bytes c =
    let inks = c.args.inks.now in
    let line = c.args.line.now in
    let x = c.args.x in
    pairs_put c.args.at (ink_at inks line x) (ink_at inks line (x + 2)) c.args.room.now c.put_eight.new.room c.put_eight-2.new.room
    c.two_inks.result c.two_inks-2.result c.two_inks.ensures c.two_inks-2.ensures c.put_eight.ensures.six c.put_eight-2.ensures.six
    ∙ ap (λ (l : List (List ℕ)). take c.args.at c.args.room.now ++ flat_map (λ (k : List ℕ). k) l)
    (ink_pairs inks line x (colour_bytes (ink_at inks line x)) (colour_bytes (ink_at inks line (x + 2))) c.requires.pairs refl refl)
