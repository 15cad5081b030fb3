use Rattle.std.proofs.Common.{◌≡◌, subst, sym}
use Rattle.serial_model.specs.Side.{IsInTime}
use Rattle.serial_model.specs.declared.bus.Ask.TheVariants as A
use Rattle.serial_model.specs.declared.bus.SideAsk.TheVariants as S
use Rattle.cpu_bus.specs.Bus.{wish_shown}
use Rattle.chip_set.specs.Chips.{plain_chips, kept_wish, ask_with}
use Rattle.chip_set.proofs.AskLaws.{disk_has, audio_has}
use Rattle.chip_set.proofs.chips.Chips.owner_ask.Goals as goal

pub returns-in-Disk : goal.returns-in-Disk
returns-in-Disk c =
    subst (λ side. A.Side (S.Disk c.in-Disk.at c.in-Disk.word) ≡ ask_with side c.args.beam.now c.args.plane c.args.sprite (kept_wish c.args.self.now)
    (wish_shown c.args.self.now.processor) (plain_chips c.args.self.now)) (sym c.in-Disk.is)
    (disk_has c.args.beam.now c.in-Disk.at c.in-Disk.word c.args.plane c.args.sprite (kept_wish c.args.self.now)
    (wish_shown c.args.self.now.processor) (plain_chips c.args.self.now) (subst (IsInTime c.args.beam.now) c.in-Disk.is c.requires))

pub returns-in-Audio : goal.returns-in-Audio
returns-in-Audio c =
    subst (λ side. A.Side (S.Audio c.in-Audio.channel c.in-Audio.at) ≡ ask_with side c.args.beam.now c.args.plane c.args.sprite
    (kept_wish c.args.self.now) (wish_shown c.args.self.now.processor) (plain_chips c.args.self.now)) (sym c.in-Audio.is)
    (audio_has c.args.beam.now c.in-Audio.channel c.in-Audio.at c.args.plane c.args.sprite (kept_wish c.args.self.now)
    (wish_shown c.args.self.now.processor) (plain_chips c.args.self.now) (subst (IsInTime c.args.beam.now) c.in-Audio.is c.requires))
