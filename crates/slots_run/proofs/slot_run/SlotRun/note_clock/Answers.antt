use Rattle.std.proofs.Common.{◌≡◌, ◌++◌, ℕ, List, ap, sym, ◌∙◌, arith}
use Rattle.ocs_base.specs.declared.beam.Beam.{Beam}
use Rattle.serial_bands.specs.Run.{RunValue, beam_at, run_memory}
use Rattle.serial_model.specs.declared.bus.Ask.{Ask}
use Rattle.serial_model.specs.Tick.{ask_of, answer_of}
use Rattle.serial_model.specs.State.{State}
use Rattle.slot_log.specs.Record.{record_bytes}
use Rattle.slots_run.specs.Log.{access_state}
use Rattle.slots_run.specs.code.SlotRun.{run_in, answer_after}
use Rattle.slots_run.proofs.AnswerLaws.{slot_answer}
use Rattle.slots_run.proofs.SlotRunLaws.{goes_one}
use Rattle.slots_run.proofs.slot_run.SlotRun.note_clock.Goals as goal

pub put_record-requires : goal.put_record-requires
put_record-requires c =
    let on = c.requires.stands.stands.screen.clock in
    let same : c.beam-beam.result.h ≡ c.args.self.now.fore.machine.beam.h = ap (λ (b : Beam). b.h) c.beam-beam.ensures in
    omega (arith, on, same)

pub returns-clause-goes : goal.returns-clause-goes
returns-clause-goes c =
    let after = c.answer_to-answer.ensures in
    goes_one _ _ c.requires.stands after.stands (after.run ∙ c.in_ok-slot.ensures.run) (after.clock ∙ c.in_ok-slot.ensures.count)

pub returns-clause-noted : goal.returns-clause-noted
returns-clause-noted c =
    let went = c.in_ok-slot.ensures in
    let so = went.clock c.requires.stands.first c.requires.stands.stands in
    let run : RunValue = run_in c.args.self.now in
    let t : ℕ = c.args.self.now.fore.machine.t in
    let later : ℕ = c.advance.new.self.machine.t in
    let s : State = access_state run.image run.script t in
    let text : List ℕ = c.args.text.now.items in
    let beam_is : c.beam-beam.result ≡ beam_at run t = c.beam-beam.ensures ∙ sym c.requires.stands.stands.at.machine.beam in
    let memory_is : c.advance.new.self.machine.chip.words ≡ run_memory run later =
    sym so.stands.at.machine.memory ∙ ap (λ (r : RunValue). run_memory r later) went.run in
    let answer_is : c.answer_to-answer.result ≡ answer_of s =
    c.answer_to-answer.ensures.answer
    ∙ ap (λ words. answer_after words c.in_ok-slot.slot) memory_is
    ∙ slot_answer run t later c.in_ok-slot.slot went.count went.slot in
    c.in_ok-put_record.ensures
    ∙ ap (λ (b : Beam). text ++ record_bytes (record { beam = b; ask = c.in_ok-slot.slot.ask; answer = c.answer_to-answer.result })) beam_is
    ∙ ap (λ (ask : Ask). text ++ record_bytes (record { beam = beam_at run t; ask = ask; answer = c.answer_to-answer.result })) went.slot.ask
    ∙ ap (λ answer. text ++ record_bytes (record { beam = beam_at run t; ask = ask_of s; answer = answer })) answer_is
