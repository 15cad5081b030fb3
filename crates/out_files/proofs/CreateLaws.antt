-- What a refused create leaves of the three files.
use Rattle.std.proofs.Common.{◌≡◌, [], Result, Ok, Err, inl, inr, arith, ap, ◌∙◌}
use Rattle.ocs_io.specs.Place.{Outside, with_file}
use Rattle.out_files.specs.declared.fault.OutFile.TheVariants.{Frames, Trace, Memory}
use Rattle.out_files.specs.declared.fault.WriteFault.{WriteFault}
use Rattle.out_files.specs.declared.fault.WriteFault.TheVariants.{Failed, OutOfMemory}
use Rattle.out_files.specs.OutFiles.{OutNames}
use Rattle.out_files.specs.Answers.{CreateAnswers}
use Rattle.out_files.specs.code.Pieces.{MakeAnswers}

-- the second create was refused
pub second_refused : (names : OutNames) (old mid new : Outside) (fault : WriteFault) → mid.files ≡ with_file old.files names.frames [] →
    MakeAnswers names.trace Trace mid new (Err fault) → CreateAnswers names old new (Err fault)
second_refused names old mid new (Failed Frames) made answer = absurd (cc answer.0)
second_refused names old mid new (Failed Memory) made answer = absurd (cc answer.0)
second_refused names old mid new (Failed Trace) made answer =
    elim answer.1 [
      | inl same ↦ (1, omega arith, omega arith, same ∙ made)
      | inr empty ↦ (2, omega arith, omega arith, empty ∙ ap (λ files. with_file files names.trace []) made)
    ]
second_refused names old mid new OutOfMemory made same = (1, same ∙ made)

-- the third create ended the call, whatever its answer
pub third_answered : (names : OutNames) (old mid last new : Outside) (r : Result (Unit {0}) WriteFault) →
    mid.files ≡ with_file old.files names.frames [] → last.files ≡ with_file mid.files names.trace [] →
    MakeAnswers names.memory Memory last new r → CreateAnswers names old new r
third_answered names old mid last new (Ok done) made more answer =
    answer ∙ ap (λ files. with_file files names.memory []) (more ∙ ap (λ files. with_file files names.trace []) made)
third_answered names old mid last new (Err (Failed Frames)) made more answer = absurd (cc answer.0)
third_answered names old mid last new (Err (Failed Trace)) made more answer = absurd (cc answer.0)
third_answered names old mid last new (Err (Failed Memory)) made more answer =
    let two = more ∙ ap (λ files. with_file files names.trace []) made in
    elim answer.1 [
      | inl same ↦ (2, omega arith, omega arith, same ∙ two)
      | inr empty ↦ (3, omega arith, omega arith, empty ∙ ap (λ files. with_file files names.memory []) two)
    ]
third_answered names old mid last new (Err OutOfMemory) made more same =
    (2, same ∙ (more ∙ ap (λ files. with_file files names.trace []) made))
