use Rattle.std.proofs.Common.{ap}
use Rattle.ocs_io.specs.code.KeptFiles.{files_of}
use Rattle.ocs_io.proofs.files.FilesInMemory.new.Goals as goal

pub returns : goal.returns
unfolding files_of
returns c = ap files_of c.new.ensures.items
