-- The faults of a run, from those of its calls.
use Rattle.std.proofs.Common.{◌≡◌, ℕ, ◌≤◌, List, Option, Some, None, Result, Ok, Err, IfErr, IsErrAnd, arith, subst, sym}
use Rattle.ocs_io.specs.Place.{Outside, OnlyWrites, Rose}
use Rattle.out_files.specs.Answers.{NamesFile}
use Rattle.out_files.specs.declared.fault.WriteFault.{WriteFault}
use Rattle.out_files.specs.declared.fault.WriteFault.TheVariants.{Failed, OutOfMemory as NoRoomToWrite}
use Rattle.files_run.specs.Audio.{IsAudioGrowable}
use Rattle.ocs_words.specs.Fault.{IsRunFault, of_write}
use Rattle.out_files.specs.Places.{WritesFiles}
use Rattle.files_run.specs.Place.{WritesRun}
use Rattle.ocs_words.specs.declared.fault.Fault.{Fault}
use Rattle.ocs_words.specs.declared.fault.Fault.TheVariants.{Usage, Inputs, BadTrack, UnreadTrack, Unwritten, Unsaid, OutOfMemory}
use Rattle.files_run.proofs.KeptLaws.{OnlyWrites-more}

rose_since : (a b c : ℕ) → a ≤ b → Rose b c → Rose a c
rose_since a b c le rose = omega (arith, le, rose)

-- a fault of writing is one of the run
run_fault_of : (audio : Option (List ℕ)) (old new : Outside) (fault : WriteFault) → (NamesFile fault → Rose old.write_faults new.write_faults)
    → IsRunFault audio old new (of_write fault)
run_fault_of audio old new (Failed file) cause = (cause tt, tt)
run_fault_of audio old new NoRoomToWrite cause = tt

-- a fault of a later call is one of all
pub fault_since : (audio : Option (List ℕ)) (a b c : Outside) (fault : Fault) → a.write_faults ≤ b.write_faults → IsRunFault audio b c fault
    → IsRunFault audio a c fault
fault_since audio a b c Usage le is = absurd is
fault_since audio a b c (Inputs fault) le is = absurd is
fault_since audio a b c BadTrack le is = absurd is
fault_since audio a b c UnreadTrack le is = absurd is
fault_since audio a b c (Unwritten output) le is = (rose_since a.write_faults b.write_faults c.write_faults le is.0, is.1)
fault_since audio a b c Unsaid le is = absurd is
fault_since audio a b c OutOfMemory le is = tt

pub WritesRun-err : (audio : Option (List ℕ)) (r : Result (Unit {0}) Fault) (a b c : Outside) (f : WriteFault) → IsErrAnd r (λ x. x ≡ of_write f)
    → OnlyWrites a b → WritesFiles (Err f) b c → WritesRun audio r a c
WritesRun-err audio (Ok done) a b c f is first second = record { kept = OnlyWrites-more a b c first second.kept; cause = tt }
WritesRun-err audio (Err x) a b c f is first second = record {
  kept = OnlyWrites-more a b c first second.kept;
  cause = subst (λ (fault : Fault). IsRunFault audio a c fault) (sym is)
      (fault_since audio a b c (of_write f) first.write_faults (run_fault_of audio b c f second.cause));
}

pub WritesRun-again : (audio : Option (List ℕ)) (r : Result (Unit {0}) Fault) (a b c : Outside) (x : Fault) → IsErrAnd r (λ y. y ≡ x)
    → OnlyWrites a b → WritesRun audio (Err x) b c → WritesRun audio r a c
WritesRun-again audio (Ok done) a b c x is first second = record { kept = OnlyWrites-more a b c first second.kept; cause = tt }
WritesRun-again audio (Err y) a b c x is first second = record {
  kept = OnlyWrites-more a b c first second.kept;
  cause = subst (λ (fault : Fault). IsRunFault audio a c fault) (sym is) (fault_since audio a b c x first.write_faults second.cause);
}

pub fault_of_all : {T : Type 0} (audio : Option (List ℕ)) (r : Result T Fault) (a b c : Outside) → OnlyWrites a b → IfErr r (IsRunFault audio b c)
    → IfErr r (IsRunFault audio a c)
fault_of_all audio (Ok v) a b c kept is = tt
fault_of_all audio (Err x) a b c kept is = fault_since audio a b c x kept.write_faults is

-- a name that may be grown stays so
pub IsAudioGrowable-kept : (growable after : List ℕ → Type 0) (audio : Option (List ℕ)) → IsAudioGrowable growable audio
    → ((name : List ℕ) → growable name → after name) → IsAudioGrowable after audio
IsAudioGrowable-kept growable after None is kept = tt
IsAudioGrowable-kept growable after (Some name) is kept = kept name is
