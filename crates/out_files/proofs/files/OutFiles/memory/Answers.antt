-- The text of the memory is appended in one piece.
use Rattle.std.proofs.Common.{◌≡◌, ℕ, List, ◌++◌, ap, refl, ◌∙◌}
use Rattle.ocs_io.proofs.MapLaws.{on_err}
use Rattle.serial_model.specs.MemoryText.{memory_text}
use Rattle.out_files.specs.declared.fault.WriteFault.TheVariants.{OutOfMemory}
use Rattle.out_files.specs.OutFiles.{OutFilesValue}
use Rattle.out_files.specs.Together.{LeavesParts}
use Rattle.out_files.proofs.TogetherLaws.{memory_refused, append_refused, append_completes}
use Rattle.out_files.proofs.files.OutFiles.memory.Goals as goal

pub returns-in_err-put_memory-clause-parts : goal.returns-in_err-put_memory-clause-parts
returns-in_err-put_memory-clause-parts g c =
    let old = g.P.Place.outside c.args.place.now in
    let memory = memory_text c.args.chip.now.words in
    on_err c.from_residual.result (LeavesParts c.args.self.now old.files old.files memory) (memory_refused c.args.self.now old old memory OutOfMemory refl)

pub returns-in-Ok-clause-whole : goal.returns-in-Ok-clause-whole
returns-in-Ok-clause-whole g c =
    let outside = g.P.Place.outside in
    let memory = memory_text c.args.chip.now.words in
    let name : c.as_str.result.now ≡ c.args.self.now.names.memory = c.as_str.ensures.value ∙ ap (λ (v : OutFilesValue). v.names.memory) c.self.view_is in
    let text : c.as_slice.result.now ≡ memory =
    c.as_slice.ensures.value ∙ c.in_ok-put_memory.ensures.text ∙ ap (λ (before : List ℕ). before ++ memory) c.new-text.ensures.items
    in
    append_completes c.args.self.now c.as_str.result.now c.as_slice.result.now memory (outside c.args.place.now)
    (outside c.append.new.self) name text c.in-Ok.ensures.answer

pub returns-clause-parts : goal.returns-clause-parts
returns-clause-parts g c =
    let outside = g.P.Place.outside in
    let memory = memory_text c.args.chip.now.words in
    let name : c.as_str.result.now ≡ c.args.self.now.names.memory = c.as_str.ensures.value ∙ ap (λ (v : OutFilesValue). v.names.memory) c.self.view_is in
    let text : c.as_slice.result.now ≡ memory =
    c.as_slice.ensures.value ∙ c.in_ok-put_memory.ensures.text ∙ ap (λ (before : List ℕ). before ++ memory) c.new-text.ensures.items
    in
    append_refused c.args.self.now c.as_str.result.now c.as_slice.result.now memory (outside c.args.place.now)
    (outside c.append.new.self) c.in-Err.refusal name text c.in-Err.ensures.answer
