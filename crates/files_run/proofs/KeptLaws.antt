-- What calls of a place leave, one after another.
use Rattle.std.proofs.Common.{◌≡◌, ℕ, List, Result, Ok, Err, IsErrAnd, ◌∙◌, arith, refl, subst, sym}
use Rattle.ocs_io.specs.Place.{Outside, Rose, OnlyWrites, KeepsNames}
use Rattle.out_files.specs.Answers.{AreGrowable, NamesFile}
use Rattle.out_files.specs.OutFiles.{OutNames}
use Rattle.out_files.specs.declared.fault.WriteFault.{WriteFault}
use Rattle.out_files.specs.Places.{WritesFiles}

pub OnlyWrites-more : (a b c : Outside) → OnlyWrites a b → OnlyWrites b c → OnlyWrites a c
OnlyWrites-more a b c first second = record {
  said = second.said ∙ first.said;
  read_faults = second.read_faults ∙ first.read_faults;
  write_faults = omega (arith, first.write_faults, second.write_faults);
  say_faults = second.say_faults ∙ first.say_faults;
}

pub OnlyWrites-none : (a : Outside) → OnlyWrites a a
OnlyWrites-none a = record { said = refl; read_faults = refl; write_faults = omega arith; say_faults = refl }

-- a fault of the last call is one of all of them
pub WritesFiles-err : (r : Result (Unit {0}) WriteFault) (a b c : Outside) (f : WriteFault) → IsErrAnd r (λ x. x ≡ f) → OnlyWrites a b
    → WritesFiles (Err f) b c → WritesFiles r a c
WritesFiles-err (Ok done) a b c f is first second = record { kept = OnlyWrites-more a b c first second.kept; cause = tt }
WritesFiles-err (Err x) a b c f is first second = record {
  kept = OnlyWrites-more a b c first second.kept;
  cause = λ names.
      let rose : Rose b.write_faults c.write_faults = second.cause (subst NamesFile is names) in
      omega (arith, first.write_faults, rose);
}

pub KeepsNames-more : (r g r1 g1 r2 g2 : List ℕ → Type 0) → KeepsNames r g r1 g1 → KeepsNames r1 g1 r2 g2 → KeepsNames r g r2 g2
KeepsNames-more r g r1 g1 r2 g2 first second = record {
  read = λ name h. second.read name (first.read name h);
  grow = λ name h. second.grow name (first.grow name h);
}

pub AreGrowable-kept : (growable after : List ℕ → Type 0) (names now : OutNames) → AreGrowable growable names → ((name : List ℕ) → growable name → after name)
    → now ≡ names → AreGrowable after now
AreGrowable-kept growable after names now is kept same =
    subst (λ ns. AreGrowable after ns) (sym same) (record {
      frames = kept names.frames is.frames;
      trace = kept names.trace is.trace;
      memory = kept names.memory is.memory;
    })
