use Rattle.machine.specs.Machine.{machine_over}
use Rattle.std.proofs.Common.{refl, sym, ◌∙◌}
use Rattle.serial_model.specs.declared.registers.Effect.TheVariants.{Lof}
use Rattle.machine.proofs.StepLaws.{WritesRegister-by, other_lof}
use Rattle.machine.proofs.machine.Machine.write_register.Goals as goal

pub returns-in-Lof : goal.returns-in-Lof
returns-in-Lof g c =
    WritesRegister-by c.args.reg c.args.word _ (machine_over g.S.Side.seen c.args.self.now) _ (Lof c.in-Lof.long)
    (sym c.in-Lof.is ∙ c.poke-effect.ensures.effect)
    refl c.poke.ensures refl c.poke-effect.ensures.chips

pub returns-in_default : goal.returns-in_default
returns-in_default g c =
    WritesRegister-by c.args.reg c.args.word _ (machine_over g.S.Side.seen c.args.self.now) _ c.poke-effect.result
    c.poke-effect.ensures.effect refl c.poke.ensures (other_lof c.poke-effect.result c.args.self.now.beam c.in_default.not-Lof) c.poke-effect.ensures.chips
