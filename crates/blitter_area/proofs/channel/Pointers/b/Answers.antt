use Rattle.std.proofs.Common.{refl}
use Rattle.ocs_base.proofs.Addresses.{same_addr}
use Rattle.blitter_area.proofs.channel.Pointers.b.Goals as goal

pub returns : goal.returns
returns c = same_addr _ _ refl refl
