use Rattle.std.proofs.Common.{◌≡◌, List, get_or, subst, ◌∙◌, sym, arith}
use Rattle.serial_model.specs.declared.fetch.SpriteKind.{SpriteKind}
use Rattle.serial_model.specs.declared.fetch.SpriteKind.TheVariants.{Nothing}
use Rattle.serial_model.specs.SpriteFetch.{sprite_of}
use Rattle.sprite_dma.proofs.Quiet.{quiet_second, quiet_first, quiet_later_second}
use Rattle.sprite_dma.proofs.SpriteDma.is_idle_slot.Goals as goal

pub returns-then-beam-eq3 : goal.returns-then-beam-eq3
returns-then-beam-eq3 c =
    let nothing : get_or c.args.self.now (sprite_of c.args.beam.now.h) Nothing ≡ Nothing =
    subst (λ (kinds : List SpriteKind). get_or kinds (sprite_of c.args.beam.now.h) Nothing ≡ Nothing) c.self.view_is
    (c.is_nothing.ensures c.if-not-is_nothing.false) in record {
      here = λ is. quiet_second c.args.beam.now c.args.regs.now c.args.self.now c.requires nothing c.if-beam-eq3.true;
      second = λ is first. absurd (omega arith);
    }

pub returns-else-beam-eq3 : goal.returns-else-beam-eq3
returns-else-beam-eq3 c =
    let nothing : get_or c.args.self.now (sprite_of c.args.beam.now.h) Nothing ≡ Nothing =
    subst (λ (kinds : List SpriteKind). get_or kinds (sprite_of c.args.beam.now.h) Nothing ≡ Nothing) c.self.view_is
    (c.is_nothing.ensures c.if-not-is_nothing.false) in record {
      here = λ is. quiet_first c.args.beam.now c.args.regs.now c.args.self.now c.requires nothing
          (sym c.kind.ensures ∙ c.is_nothing-else-beam-eq3.ensures is);
      second = λ is first. quiet_later_second c.args.beam.now c.args.regs.now c.args.self.now c.requires nothing first;
    }
