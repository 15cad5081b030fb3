use Rattle.std.proofs.Common.{refl, sym}
use Rattle.cpu_bus.proofs.BusCpu.reset.Goals as goal

pub returns : goal.returns
returns c = record {
  chip = refl;
  on = refl;
  stands = c.reset-cpu.ensures;
  wait = sym (c.look_ahead.ensures _ _ _ c.reset-cpu.ensures);
  spent = refl;
  given = refl;
}
