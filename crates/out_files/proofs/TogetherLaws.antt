-- The files and what is pending stay together the texts of what was given.
use Rattle.std.proofs.Common.{◌≡◌, ℕ, ◌+◌, ◌%◌, List, [], ◌∷◌, ◌++◌, length, take, drop, Option, Result, Ok, Err}
use Rattle.std.proofs.Common.{OnOk, OnErr, inl, inr, refl, sym, ap, ◌∙◌, append_assoc, length-append, subst, arith}
use Rattle.std.proofs.lemmas.List.{append-nil, take-append-drop}
use Rattle.ocs_io.specs.Place.{Files, Outside, grown}
use Rattle.ocs_io.specs.Answers.{AppendAnswers}
use Rattle.ocs_io.specs.declared.place.WriteRefusal.{WriteRefusal}
use Rattle.ocs_io.specs.declared.place.WriteRefusal.TheVariants.{Failed as Refused, OutOfMemory as NoRoom}
use Rattle.ocs_base.specs.Systems.{frame_bytes}
use Rattle.ocs_base.specs.declared.system.System.{System}
use Rattle.ocs_base.specs.declared.system.System.TheVariants.{Pal, Ntsc}
use Rattle.serial_model.specs.Outputs.{with_headings, frames_text}
use Rattle.serial_model.specs.TraceText.{line_text, trace_text}
use Rattle.serial_model.specs.declared.trace.TraceLine.{TraceLine}
use Rattle.serial_model.proofs.HeadingLaws.{with_headings-append, with_headings-place}
use Rattle.out_files.specs.declared.fault.OutFile.TheVariants.{Frames, Trace, Memory}
use Rattle.out_files.specs.declared.fault.WriteFault.{WriteFault}
use Rattle.out_files.specs.declared.fault.WriteFault.TheVariants.{Failed, OutOfMemory}
use Rattle.out_files.specs.OutFiles.{OutFilesValue, with_pixels, with_line}
use Rattle.out_files.specs.Answers.{CreateAnswers, in_order, with_empty, appended, GivesAll, FlushAnswers, MemoryAnswers}
use Rattle.out_files.specs.Together.{AreDifferent, AreTogether, three_files, Begins, AddsPixels, AddsLine, StayTogether, LeavesParts, Completes}
use Rattle.out_files.proofs.PixelsLaws.{place_after, place_of_place}
use Rattle.out_files.proofs.FilesLaws.{grown-frames, grown-trace, grown-memory, appended-frames, appended-trace}

first_place : (system : System) → 0 ≡ 0 % frame_bytes system
first_place Pal = refl
first_place Ntsc = refl

-- from the creates on
pub begins : (out : OutFilesValue) (base files : Option Files) → files ≡ with_empty (in_order out.names) base → Begins out base files
unfolding with_headings trace_text Begins
begins out base files created frames trace given =
    record {
      kind = refl;
      frames = [];
      trace = [];
      held = created;
      pixels_given = frames;
      lines_given = trace;
      place = given ∙ first_place out.system;
    }

-- the place in the frame, as the files count it
same_place : (system : System) (given size : ℕ) → given ≡ size % frame_bytes system → given % frame_bytes system ≡ size % frame_bytes system
same_place system given size place = ap (λ k. k % frame_bytes system) place ∙ place_of_place system size

-- the frames file and what is pending for it, with a piece more
pixels_more : (system : System) (frames pending pixels piece : List ℕ) (given : ℕ) → frames ++ pending ≡ frames_text system pixels
    → given ≡ length pixels % frame_bytes system
    → frames ++ (pending ++ with_headings system given piece) ≡ frames_text system (pixels ++ piece)
pixels_more system frames pending pixels piece given so_far place =
    let first : length pixels ≡ 0 + length pixels = omega arith in
    sym (append_assoc frames pending (with_headings system given piece))
    ∙ ap (λ (bytes : List ℕ). bytes ++ with_headings system given piece) so_far
    ∙ ap (λ (bytes : List ℕ). frames_text system pixels ++ bytes)
    (with_headings-place system given (0 + length pixels) piece (same_place system given (length pixels) place ∙ ap (λ k. k % frame_bytes system) first))
    ∙ sym (with_headings-append system 0 pixels piece)

-- and the place after it
place_more : (system : System) (pixels piece : List ℕ) (given : ℕ) → given ≡ length pixels % frame_bytes system
    → (given + length piece) % frame_bytes system ≡ length (pixels ++ piece) % frame_bytes system
place_more system pixels piece given place =
    place_after system given (length pixels) (length piece) (same_place system given (length pixels) place)
    ∙ ap (λ k. k % frame_bytes system) (sym (length-append pixels piece))

pub adds_pixels : (was now : OutFilesValue) (piece : List ℕ) → now ≡ with_pixels was piece → AddsPixels was now piece
unfolding AddsPixels
adds_pixels was now piece added system base files pixels lines so_far =
    subst (λ (o : OutFilesValue). AreTogether system o base files (pixels ++ piece) lines) (sym added) (record {
      kind = so_far.kind;
      frames = so_far.frames;
      trace = so_far.trace;
      held = so_far.held;
      pixels_given =
          ap (λ of_system. so_far.frames ++ (was.frames ++ with_headings of_system was.given piece)) so_far.kind
          ∙ pixels_more system so_far.frames was.frames pixels piece was.given so_far.pixels_given so_far.place;
      lines_given = so_far.lines_given;
      place =
          ap (λ of_system. (was.given + length piece) % frame_bytes of_system) so_far.kind
          ∙ place_more system pixels piece was.given so_far.place;
    })

trace_text-append : (lines more : List TraceLine) → trace_text (lines ++ more) ≡ trace_text lines ++ trace_text more
unfolding trace_text
trace_text-append [] more = refl
trace_text-append (line ∷ lines) more =
    ap (λ (text : List ℕ). line_text line ++ text) (trace_text-append lines more)
    ∙ sym (append_assoc (line_text line) (trace_text lines) (trace_text more))

trace_text-one : (line : TraceLine) → trace_text (line ∷ []) ≡ line_text line
unfolding trace_text
trace_text-one line = append-nil (line_text line)

pub adds_line : (was now : OutFilesValue) (line : TraceLine) → now ≡ with_line was line → AddsLine was now line
unfolding AddsLine
adds_line was now line added system base files pixels lines so_far =
    subst (λ (o : OutFilesValue). AreTogether system o base files pixels (lines ++ line ∷ [])) (sym added) (record {
      kind = so_far.kind;
      frames = so_far.frames;
      trace = so_far.trace;
      held = so_far.held;
      pixels_given = so_far.pixels_given;
      lines_given =
          sym (append_assoc so_far.trace was.trace (line_text line))
          ∙ ap (λ (bytes : List ℕ). bytes ++ line_text line) so_far.lines_given
          ∙ ap (λ (bytes : List ℕ). trace_text lines ++ bytes) (sym (trace_text-one line))
          ∙ sym (trace_text-append lines (line ∷ []));
      place = so_far.place;
    })

-- the frames file with all that was pending for it
frames_appended : (system : System) (was : OutFilesValue) (base old : Option Files) (pixels : List ℕ) (lines : List TraceLine)
    (so_far : AreTogether system was base old pixels lines)
    → AreDifferent was.names →
    appended old was.names.frames was.frames ≡ three_files was.names base (so_far.frames ++ was.frames) so_far.trace []
frames_appended system was base old pixels lines so_far different =
    ap (λ (files : Option Files). appended files was.names.frames was.frames) so_far.held
    ∙ appended-frames was.names base so_far.frames so_far.trace [] was.frames different

pub flushed : (was now : OutFilesValue) (old new : Outside) → AreDifferent was.names → GivesAll was now old new → StayTogether was now old.files new.files
unfolding StayTogether
flushed was now old new different all system base pixels lines so_far =
    subst (λ (o : OutFilesValue). AreTogether system o base new.files pixels lines) (sym all.kept) (record {
      kind = so_far.kind;
      frames = so_far.frames ++ was.frames;
      trace = so_far.trace ++ was.trace;
      held =
          all.files
          ∙ ap (λ (files : Option Files). appended files was.names.trace was.trace) (frames_appended system was base old.files pixels lines so_far different)
          ∙ appended-trace was.names base (so_far.frames ++ was.frames) so_far.trace [] was.trace different;
      pixels_given = append-nil (so_far.frames ++ was.frames) ∙ so_far.pixels_given;
      lines_given = append-nil (so_far.trace ++ was.trace) ∙ so_far.lines_given;
      place = so_far.place;
    })

-- a part of a part
part-more : (front back whole : List ℕ) (count : ℕ) → front ++ back ≡ whole → (front ++ take count back) ++ drop count back ≡ whole
part-more front back whole count e =
    append_assoc front (take count back) (drop count back)
    ∙ ap (λ (bytes : List ℕ). front ++ bytes) (take-append-drop count back)
    ∙ e

-- a refused flush leaves a part of each text
pub flush_refused : (was now : OutFilesValue) (old new : Outside) (fault : WriteFault) → AreDifferent was.names →
    FlushAnswers was now old new (Err fault) → LeavesParts was old.files new.files []
unfolding LeavesParts
flush_refused was now old new (Failed Frames) different failed system base pixels lines so_far =
    record {
      frames = so_far.frames ++ take failed.count was.frames;
      trace = so_far.trace;
      bytes = [];
      frames_rest = drop failed.count was.frames;
      trace_rest = was.trace;
      bytes_rest = [];
      held =
          failed.files
          ∙ ap (λ (files : Option Files). grown files was.names.frames (take failed.count was.frames)) so_far.held
          ∙ grown-frames was.names base so_far.frames so_far.trace [] (take failed.count was.frames) different;
      frames_part = part-more so_far.frames was.frames (frames_text system pixels) failed.count so_far.pixels_given;
      trace_part = so_far.lines_given;
      bytes_part = refl;
    }
flush_refused was now old new (Failed Trace) different failed system base pixels lines so_far =
    record {
      frames = so_far.frames ++ was.frames;
      trace = so_far.trace ++ take failed.count was.trace;
      bytes = [];
      frames_rest = [];
      trace_rest = drop failed.count was.trace;
      bytes_rest = [];
      held =
          failed.files
          ∙ ap (λ (files : Option Files). grown files was.names.trace (take failed.count was.trace))
          (frames_appended system was base old.files pixels lines so_far different)
          ∙ grown-trace was.names base (so_far.frames ++ was.frames) so_far.trace [] (take failed.count was.trace) different;
      frames_part = append-nil (so_far.frames ++ was.frames) ∙ so_far.pixels_given;
      trace_part = part-more so_far.trace was.trace (trace_text lines) failed.count so_far.lines_given;
      bytes_part = refl;
    }
flush_refused was now old new (Failed Memory) different failed system base pixels lines so_far = absurd failed
flush_refused was now old new OutOfMemory different failed system base pixels lines so_far =
    elim failed [
      | inl kept ↦ record {
        frames = so_far.frames;
        trace = so_far.trace;
        bytes = [];
        frames_rest = was.frames;
        trace_rest = was.trace;
        bytes_rest = [];
        held = kept.files ∙ so_far.held;
        frames_part = so_far.pixels_given;
        trace_part = so_far.lines_given;
        bytes_part = refl;
      }
      | inr gave ↦ record {
        frames = so_far.frames ++ was.frames;
        trace = so_far.trace;
        bytes = [];
        frames_rest = [];
        trace_rest = was.trace;
        bytes_rest = [];
        held = gave.files ∙ frames_appended system was base old.files pixels lines so_far different;
        frames_part = append-nil (so_far.frames ++ was.frames) ∙ so_far.pixels_given;
        trace_part = so_far.lines_given;
        bytes_part = refl;
      }
    ]

-- the memory file, appended where nothing else is pending, completes the outputs
pub completes : (was : OutFilesValue) (old new : Outside) (memory : List ℕ) → new.files ≡ grown old.files was.names.memory memory
    → Completes was old.files new.files memory
unfolding Completes
completes was old new memory appended system base pixels lines no_frames no_trace so_far =
    let frames : so_far.frames ≡ frames_text system pixels =
    sym (append-nil so_far.frames) ∙ ap (λ (bytes : List ℕ). so_far.frames ++ bytes) (sym no_frames) ∙ so_far.pixels_given
    in
    let trace : so_far.trace ≡ trace_text lines =
    sym (append-nil so_far.trace) ∙ ap (λ (bytes : List ℕ). so_far.trace ++ bytes) (sym no_trace) ∙ so_far.lines_given
    in
    appended
    ∙ ap (λ (files : Option Files). grown files was.names.memory memory) so_far.held
    ∙ grown-memory was.names base so_far.frames so_far.trace [] memory
    ∙ ap (λ (bytes : List ℕ). three_files was.names base bytes so_far.trace memory) frames
    ∙ ap (λ (bytes : List ℕ). three_files was.names base (frames_text system pixels) bytes memory) trace

pub memory_refused : (was : OutFilesValue) (old new : Outside) (memory : List ℕ) (fault : WriteFault) →
    MemoryAnswers was.names.memory memory old new (Err fault) → LeavesParts was old.files new.files memory
unfolding LeavesParts
memory_refused was old new memory (Failed Frames) failed system base pixels lines so_far = absurd failed
memory_refused was old new memory (Failed Trace) failed system base pixels lines so_far = absurd failed
memory_refused was old new memory (Failed Memory) failed system base pixels lines so_far =
    record {
      frames = so_far.frames;
      trace = so_far.trace;
      bytes = take failed.0 memory;
      frames_rest = was.frames;
      trace_rest = was.trace;
      bytes_rest = drop failed.0 memory;
      held =
          failed.1
          ∙ ap (λ (files : Option Files). grown files was.names.memory (take failed.0 memory)) so_far.held
          ∙ grown-memory was.names base so_far.frames so_far.trace [] (take failed.0 memory);
      frames_part = so_far.pixels_given;
      trace_part = so_far.lines_given;
      bytes_part = take-append-drop failed.0 memory;
    }
memory_refused was old new memory OutOfMemory same system base pixels lines so_far =
    record {
      frames = so_far.frames;
      trace = so_far.trace;
      bytes = [];
      frames_rest = was.frames;
      trace_rest = was.trace;
      bytes_rest = memory;
      held = same ∙ so_far.held;
      frames_part = so_far.pixels_given;
      trace_part = so_far.lines_given;
      bytes_part = refl;
    }

-- the same, by the answer of a call
pub created_begins : (out : OutFilesValue) (old new : Outside) (r : Result (Unit {0}) WriteFault) → CreateAnswers out.names old new r
    → OnOk r (Begins out old.files new.files)
created_begins out old new (Ok done) created = begins out old.files new.files created
created_begins out old new (Err fault) created = tt

pub flush_keeps : (was now : OutFilesValue) (old new : Outside) (r : Result (Unit {0}) WriteFault) → AreDifferent was.names →
    FlushAnswers was now old new r → OnOk r (StayTogether was now old.files new.files)
flush_keeps was now old new (Ok done) different all = flushed was now old new different all
flush_keeps was now old new (Err fault) different failed = tt

pub flush_leaves : (was now : OutFilesValue) (old new : Outside) (r : Result (Unit {0}) WriteFault) → AreDifferent was.names →
    FlushAnswers was now old new r → OnErr r (LeavesParts was old.files new.files [])
flush_leaves was now old new (Ok done) different all = tt
flush_leaves was now old new (Err fault) different failed = flush_refused was now old new fault different failed

-- the same, where the append itself was refused
pub append_refused : (was : OutFilesValue) (name piece memory : List ℕ) (old new : Outside) (refusal : WriteRefusal) → name ≡ was.names.memory
    → piece ≡ memory →
    AppendAnswers old new name piece (Err refusal) → LeavesParts was old.files new.files memory
append_refused was name piece memory old new Refused same whole failed =
    memory_refused was old new memory (Failed Memory) (
      failed.0,
      failed.1 ∙ ap (λ (at : List ℕ). grown old.files at (take failed.0 piece)) same
          ∙ ap (λ (bytes : List ℕ). grown old.files was.names.memory (take failed.0 bytes)) whole,
    )
append_refused was name piece memory old new NoRoom same whole kept = memory_refused was old new memory OutOfMemory kept

pub append_completes : (was : OutFilesValue) (name piece memory : List ℕ) (old new : Outside) → name ≡ was.names.memory → piece ≡ memory →
    new.files ≡ grown old.files name piece → Completes was old.files new.files memory
append_completes was name piece memory old new same whole done =
    completes was old new memory
    (done ∙ ap (λ (at : List ℕ). grown old.files at piece) same ∙ ap (λ (bytes : List ℕ). grown old.files was.names.memory bytes) whole)
