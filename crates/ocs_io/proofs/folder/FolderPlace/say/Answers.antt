use Rattle.std.proofs.Common.{refl}
use Rattle.ocs_io.proofs.FolderLaws.{say_refused, refused_says, say_rose, no_say}
use Rattle.ocs_io.proofs.folder.FolderPlace.say.Goals as goal

pub returns-then-is_err-clause-counts : goal.returns-then-is_err-clause-counts
returns-then-is_err-clause-counts g c =
    say_refused c.self.inside.read_faults c.self.inside.write_faults c.self.inside.say_faults c.saturating_add-self-inside.result c.args.self.now
    c.self.view_is
    c.saturating_add-self-inside.ensures

pub returns-then-is_err-clause-kept : goal.returns-then-is_err-clause-kept
returns-then-is_err-clause-kept g c =
    refused_says c.self.inside.read_faults c.self.inside.write_faults c.self.inside.say_faults c.saturating_add-self-inside.result c.args.self.now
    c.self.view_is
    c.saturating_add-self-inside.ensures c.self.invariant.says

pub returns-then-is_err-clause-cause : goal.returns-then-is_err-clause-cause
returns-then-is_err-clause-cause g c failed =
    say_rose c.self.inside.read_faults c.self.inside.write_faults c.self.inside.say_faults c.saturating_add-self-inside.result c.args.self.now
    c.self.view_is
    c.saturating_add-self-inside.ensures

pub returns-clause-counts : goal.returns-clause-counts
returns-clause-counts g c = refl

pub returns-clause-kept : goal.returns-clause-kept
returns-clause-kept g c = no_say c.args.self.now
