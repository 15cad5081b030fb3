use Rattle.std.proofs.Common.{◌≡◌, ◌+◌, ◌-◌, ◌++◌, ◌∷◌, [], sym, ap, ◌∙◌, append-nil, arith}
use Rattle.scene_gen.specs.Blocks.{bytes_by}
use Rattle.scene_gen.specs.Scene.{pattern_byte}
use Rattle.scene_gen.proofs.Growth.{next_byte, bytes_by-none}
use Rattle.scene_gen.proofs.image.push_planes.Goals as goal

pub loop-address-init : goal.loop-address-init
loop-address-init c =
    sym (ap (λ bytes. c.args.image.now.items ++ bytes) (bytes_by-none (pattern_byte c.args.n) 0x4000) ∙ append-nil c.args.image.now.items)

pub loop-address-preserved : goal.loop-address-preserved
loop-address-preserved c =
    let address = c.loop-address.address in
    let at : 0x4000 + (address - 0x4000) ≡ address = omega arith in
    let more : address - 0x4000 + 1 ≡ address + 1 - 0x4000 = omega arith in
    next_byte (pattern_byte c.args.n) 0x4000 (address - 0x4000) (address + 1 - 0x4000) address c.args.image.now.items
    c.loop-address.image.items c.push.new.self.items at more c.loop-address.invariant
    (c.in_ok-push.ensures.items ∙ ap (λ byte. c.loop-address.image.items ++ byte ∷ []) c.pattern_byte_at.ensures)

pub returns : goal.returns
returns c =
    let all : c.loop-address.address - 0x4000 ≡ 0x8000 = omega arith in
    c.loop-address.invariant ∙ ap (λ n. c.args.image.now.items ++ bytes_by (pattern_byte c.args.n) 0x4000 n) all
