use Rattle.std.proofs.Common.{refl}
use Rattle.ocs_base.proofs.Addresses.{same_addr}
use Rattle.blitter_area.proofs.channel.Pointers.d.Goals as goal

pub returns : goal.returns
returns c = same_addr _ _ refl refl
