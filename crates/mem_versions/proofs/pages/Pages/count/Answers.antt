-- Each group has 32 pages of 256 words.
use Rattle.std.proofs.Common.{length, ap, arith}
use Rattle.std.specs.Arc.{arc_value}
use Rattle.mem_versions.proofs.PagesLaws.{length-joined}
use Rattle.mem_versions.proofs.pages.Pages.count.Goals as goal

pub returns-clause-size : goal.returns-clause-size
returns-clause-size c =
    omega (arith, ap length c.self.view_is, length-joined 8192 arc_value c.self.inside.groups.items c.self.invariant.1)
