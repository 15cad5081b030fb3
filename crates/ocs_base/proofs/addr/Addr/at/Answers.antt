use Rattle.std.specs.Prelude.{refl}
use Rattle.ocs_base.proofs.Masks.{even_address_masked}
use Rattle.ocs_base.proofs.Addresses.{same_addr}
use Rattle.ocs_base.proofs.addr.Addr.at.Goals as goal

pub returns-clause-named : goal.returns-clause-named
returns-clause-named c = same_addr _ _ (even_address_masked c.args.raw) refl
