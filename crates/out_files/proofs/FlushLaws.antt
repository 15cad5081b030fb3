-- The answer of a flush, by what the appends of the two files answered.
use Rattle.std.proofs.Common.{◌≡◌, ℕ, List, [], take, Option, Result, Ok, Err, inl, inr, ap, ◌∙◌, subst}
use Rattle.ocs_io.specs.Place.{Files, Outside, grown}
use Rattle.out_files.specs.declared.fault.OutFile.TheVariants.{Frames, Trace, Memory}
use Rattle.out_files.specs.declared.fault.WriteFault.{WriteFault}
use Rattle.out_files.specs.declared.fault.WriteFault.TheVariants.{Failed, OutOfMemory}
use Rattle.out_files.specs.OutFiles.{OutFilesValue}
use Rattle.out_files.specs.Answers.{appended, FlushAnswers}
use Rattle.out_files.specs.code.Pieces.{Gave, GiveAnswers}

first_at : (was : OutFilesValue) (frames : List ℕ) (old new : Outside) (fault : WriteFault) →
    GiveAnswers was.names.frames Frames was.frames frames old new (Err fault) → FlushAnswers was (record was { frames = frames }) old new (Err fault)
first_at was frames old new (Failed Frames) some =
    record {
      pending = some.pending;
      count = some.count;
      files = some.files;
      kept = ap (λ (bytes : List ℕ). let o : OutFilesValue = record was { frames = bytes } in o) some.rest;
    }
first_at was frames old new (Failed Trace) some = absurd (cc some.right)
first_at was frames old new (Failed Memory) some = absurd (cc some.right)
first_at was frames old new OutOfMemory none =
    inl (record { files = none.files; kept = ap (λ (bytes : List ℕ). let o : OutFilesValue = record was { frames = bytes } in o) none.rest })

second_at : (was : OutFilesValue) (frames trace : List ℕ) (old mid new : Outside) (r : Result (Unit {0}) WriteFault)
    → Gave was.names.frames was.frames frames old mid →
    GiveAnswers was.names.trace Trace was.trace trace mid new r → FlushAnswers was (record was { frames = frames; trace = trace }) old new r
second_at was frames trace old mid new (Ok done) first all =
    record {
      files = all.files ∙ ap (λ (files : Option Files). appended files was.names.trace was.trace) first.files;
      kept =
          ap (λ (bytes : List ℕ). let o : OutFilesValue = record was { frames = bytes; trace = trace } in o) first.rest
          ∙ ap (λ (bytes : List ℕ). let o : OutFilesValue = record was { frames = []; trace = bytes } in o) all.rest;
    }
second_at was frames trace old mid new (Err (Failed Frames)) first some = absurd (cc some.right)
second_at was frames trace old mid new (Err (Failed Memory)) first some = absurd (cc some.right)
second_at was frames trace old mid new (Err (Failed Trace)) first some =
    record {
      pending = some.pending;
      count = some.count;
      files = some.files ∙ ap (λ (files : Option Files). grown files was.names.trace (take some.count was.trace)) first.files;
      kept =
          ap (λ (bytes : List ℕ). let o : OutFilesValue = record was { frames = bytes; trace = trace } in o) first.rest
          ∙ ap (λ (bytes : List ℕ). let o : OutFilesValue = record was { frames = []; trace = bytes } in o) some.rest;
    }
second_at was frames trace old mid new (Err OutOfMemory) first none =
    inr (record {
      files = none.files ∙ first.files;
      kept =
          ap (λ (bytes : List ℕ). let o : OutFilesValue = record was { frames = bytes; trace = trace } in o) first.rest
          ∙ ap (λ (bytes : List ℕ). let o : OutFilesValue = record was { frames = []; trace = bytes } in o) none.rest;
    })

-- the append to the frames file was refused
pub first_refused : (was v : OutFilesValue) (name frames : List ℕ) (old new : Outside) (fault : WriteFault) → v ≡ was → name ≡ v.names.frames →
    GiveAnswers name Frames v.frames frames old new (Err fault) → FlushAnswers was (record v { frames = frames }) old new (Err fault)
first_refused was v name frames old new fault same named answer =
    subst (λ (o : OutFilesValue). FlushAnswers o (record v { frames = frames }) old new (Err fault)) same
    (first_at v frames old new fault (subst (λ (at : List ℕ). GiveAnswers at Frames v.frames frames old new (Err fault)) named answer))

-- the append to the trace ended the flush, whatever its answer
pub second_answered : (was v : OutFilesValue) (name next frames trace : List ℕ) (old mid new : Outside) (r : Result (Unit {0}) WriteFault) → v ≡ was →
    name ≡ v.names.frames → next ≡ v.names.trace → Gave name v.frames frames old mid → GiveAnswers next Trace v.trace trace mid new r →
    FlushAnswers was (record v { frames = frames; trace = trace }) old new r
second_answered was v name next frames trace old mid new r same named next_named first answer =
    subst (λ (o : OutFilesValue). FlushAnswers o (record v { frames = frames; trace = trace }) old new r) same
    (second_at v frames trace old mid new r (subst (λ (at : List ℕ). Gave at v.frames frames old mid) named first)
    (subst (λ (at : List ℕ). GiveAnswers at Trace v.trace trace mid new r) next_named answer))
