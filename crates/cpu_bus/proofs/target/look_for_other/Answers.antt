use Rattle.std.proofs.Common.{sym, ◌∙◌, ap}
use Rattle.m68k_decode.specs.Walk.{next}
use Rattle.cpu_bus.specs.Bus.{wait_by}
use Rattle.cpu_bus.proofs.BusLaws.{wait_is}
use Rattle.cpu_bus.proofs.target.look_for_other.Goals as goal

pub returns : goal.returns
returns c r u ws s =
    c.wait_for.ensures ∙ ap (wait_by c.args.chip) (c.ask.ensures.next r u ws s) ∙ sym (wait_is c.args.chip (next r u ws))
