use Rattle.std.proofs.Common.{[], ap, inl, refl}
use Rattle.ocs_io.proofs.FolderLaws.{untold-with_file, write_refused, refused_writes, write_rose, no_write}
use Rattle.ocs_io.proofs.folder.FolderPlace.create.Goals as goal

pub returns-clause-answer : goal.returns-clause-answer
returns-clause-answer g c = untold-with_file c.args.self.now.files c.args.name.now [] (ap (λ f. f.files) c.self.view_is)

pub returns-then-is_err-clause-counts : goal.returns-then-is_err-clause-counts
returns-then-is_err-clause-counts g c =
    write_refused c.self.inside.read_faults c.self.inside.write_faults c.self.inside.say_faults c.saturating_add-self-inside.result c.args.self.now
    c.self.view_is
    c.saturating_add-self-inside.ensures

pub returns-then-is_err-clause-kept : goal.returns-then-is_err-clause-kept
returns-then-is_err-clause-kept g c =
    refused_writes c.self.inside.read_faults c.self.inside.write_faults c.self.inside.say_faults c.saturating_add-self-inside.result c.args.self.now
    c.self.view_is
    c.saturating_add-self-inside.ensures c.self.invariant.writes

pub returns-then-is_err-clause-cause : goal.returns-then-is_err-clause-cause
returns-then-is_err-clause-cause g c failed =
    write_rose c.self.inside.read_faults c.self.inside.write_faults c.self.inside.say_faults c.saturating_add-self-inside.result c.args.self.now
    c.self.view_is
    c.saturating_add-self-inside.ensures

pub returns-clause-counts : goal.returns-clause-counts
returns-clause-counts g c = refl

pub returns-clause-kept : goal.returns-clause-kept
returns-clause-kept g c = no_write c.args.self.now

pub returns-then-is_err-clause-answer : goal.returns-then-is_err-clause-answer
returns-then-is_err-clause-answer g c = inl (ap (λ f. f.files) c.self.view_is)
