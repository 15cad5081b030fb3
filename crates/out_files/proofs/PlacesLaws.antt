-- What two calls that write leave of a place, one after the other.
use Rattle.std.proofs.Common.{◌≡◌, ℕ, ◌≤◌, List, Result, Ok, Err, sym, ◌∙◌, subst, arith}
use Rattle.ocs_io.specs.Place.{Outside, Rose, OnlyWrites}
use Rattle.out_files.specs.declared.fault.WriteFault.{WriteFault}
use Rattle.out_files.specs.Places.{LeavesPlace, WritesFiles}

writes_on : (old mid new : Outside) → OnlyWrites old mid → OnlyWrites mid new → OnlyWrites old new
writes_on old mid new first second = record {
  said = second.said ∙ first.said;
  read_faults = second.read_faults ∙ first.read_faults;
  write_faults = omega (arith, first.write_faults, second.write_faults);
  say_faults = second.say_faults ∙ first.say_faults;
}

rose_on : (old mid new : ℕ) → old ≤ mid → Rose mid new → Rose old new
rose_on old mid new first second = omega (arith, first, second)

files_on : (first second : Result (Unit {0}) WriteFault) (old mid new : Outside) → WritesFiles first old mid → WritesFiles second mid new
    → WritesFiles second old new
files_on first (Ok done) old mid new was is = record { kept = writes_on old mid new was.kept is.kept; cause = tt }
files_on first (Err fault) old mid new was is = record {
  kept = writes_on old mid new was.kept is.kept;
  cause = λ named. rose_on old.write_faults mid.write_faults new.write_faults was.kept.write_faults (is.cause named);
}

module _ {P : Type 0} (outside : P → Outside) (readable growable : P → List ℕ → Type 0) where
  pub leaves_on : (first second : Result (Unit {0}) WriteFault) (old mid new : P) → LeavesPlace (WritesFiles first) outside readable growable old mid
      → LeavesPlace (WritesFiles second) outside readable growable mid new → LeavesPlace (WritesFiles second) outside readable growable old new
  leaves_on first second old mid new was is = record {
    seen = files_on first second (outside old) (outside mid) (outside new) was.seen is.seen;
    names = record {
      read = λ name may. is.names.read name (was.names.read name may);
      grow = λ name may. is.names.grow name (was.names.grow name may);
    };
  }

  -- the call gives back the refusal of the last one
  pub leaves_refused : (returned : Result (Unit {0}) WriteFault) (fault : WriteFault) (old new : P) → returned ≡ Err fault
      → LeavesPlace (WritesFiles (Err fault)) outside readable growable old new → LeavesPlace (WritesFiles returned) outside readable growable old new
  leaves_refused returned fault old new same is =
      subst (λ (r : Result (Unit {0}) WriteFault). LeavesPlace (WritesFiles r) outside readable growable old new) (sym same) is
