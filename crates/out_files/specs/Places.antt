-- What the calls that write leave of a place.
use Rattle.std.specs.Prelude.{ℕ, List, Result, IfErr}
use Rattle.ocs_io.specs.Place.{Outside, Rose, OnlyWrites, KeepsNames}
use Rattle.out_files.specs.Answers.{NamesFile}
use Rattle.out_files.specs.declared.fault.WriteFault.{WriteFault}

-- What is seen of the outside has changed in this way, and names that may be read or grown stay so.
pub record LeavesPlace {P : Type 0} (Changes : Outside → Outside → Type 0) (outside : P → Outside) (readable growable : P → List ℕ → Type 0)
    (old new : P) : Type 0 where
  pub seen : Changes (outside old) (outside new)
  pub names : KeepsNames (readable old) (growable old) (readable new) (growable new)

-- Output files were only written, and a fault that names one has its cause there.
pub record WritesFiles (result : Result (Unit {0}) WriteFault) (old new : Outside) : Type 0 where
  pub kept : OnlyWrites old new
  pub cause : IfErr result (λ fault. NamesFile fault → Rose old.write_faults new.write_faults)
