use Rattle.std.proofs.Common.{inl}
use Rattle.std.specs.Prelude.{option_map}
use Rattle.files_run.proofs.FaultLaws.{WritesRun-err, fault_of_all}
use Rattle.files_run.proofs.KeptLaws.{OnlyWrites-none, OnlyWrites-more}
use Rattle.files_run.proofs.RunLaws.{on_err}
use Rattle.files_run.proofs.AudioLaws.{WritesRest-grown, WritesPart-grown}
use Rattle.files_run.proofs.run.write_rest.Goals as goal

pub returns-in_err-write_memory-clause-stopped : goal.returns-in_err-write_memory-clause-stopped
returns-in_err-write_memory-clause-stopped g c = on_err _ _ (inl c.in_err-write_memory.ensures.parts)

pub returns-in_err-write_memory-clause-place : goal.returns-in_err-write_memory-clause-place
returns-in_err-write_memory-clause-place g c =
    WritesRun-err _ _ _ _ _ _ c.from_residual.ensures.1 (OnlyWrites-none (g.P.Place.outside c.args.place.now))
    c.in_err-write_memory.ensures.place.seen

pub returns-clause-done : goal.returns-clause-done
returns-clause-done g c = WritesRest-grown _ _ _ _ _ _ _ _ c.in_ok-write_memory.ensures.whole c.write_audio.ensures.done

pub returns-clause-stopped : goal.returns-clause-stopped
returns-clause-stopped g c = WritesPart-grown _ _ _ _ _ _ _ _ c.in_ok-write_memory.ensures.whole c.write_audio.ensures.stopped

pub returns-clause-place : goal.returns-clause-place
returns-clause-place g c =
    let old = g.P.Place.outside c.args.place.now in
    let mid = g.P.Place.outside c.write_memory.new.place in
    let new = g.P.Place.outside c.write_audio.new.place in
    record {
      kept = OnlyWrites-more old mid new c.write_memory.ensures.place.seen.kept c.write_audio.ensures.place.kept;
      cause = fault_of_all (option_map (λ n. n.now) c.args.audio) c.write_audio.result old mid new c.write_memory.ensures.place.seen.kept
          c.write_audio.ensures.place.cause;
    }
