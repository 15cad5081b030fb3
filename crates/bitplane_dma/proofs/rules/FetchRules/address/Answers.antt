use Rattle.std.proofs.Common.{refl}
use Rattle.ocs_base.proofs.Addresses.{same_addr}
use Rattle.bitplane_dma.proofs.Addresses.{masked_as, even_masked, below_masked}
use Rattle.bitplane_dma.proofs.rules.FetchRules.address.Goals as goal

pub invariant_of-result : goal.invariant_of-result
invariant_of-result c = record {
  even = even_masked c.args.self.now.size c.args.self.now.mask c.args.raw c.requires;
  below = below_masked c.args.self.now.size c.args.self.now.mask c.args.raw c.requires;
}

pub returns : goal.returns
returns c = same_addr _ _ (masked_as c.args.self.now.size c.args.self.now.mask c.args.raw c.requires) refl
