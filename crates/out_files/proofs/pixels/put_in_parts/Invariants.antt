-- What is appended, and what the rest will append, are together the text of the piece.
use Rattle.std.proofs.Common.{◌≡◌, ◌+◌, ◌%◌, ◌<◌, ◌≤◌, ◌++◌, length, take}
use Rattle.ocs_base.specs.Systems.{frame_bytes}
use Rattle.serial_model.specs.Outputs.{with_headings}
use Rattle.out_files.proofs.pixels.put_in_parts.Given as goal

abbrev pub invariant-loop-rest : goal.invariant-loop-rest
invariant-loop-rest l =
    record {
      within : l.given < frame_bytes l.fn.system;
      text : l.text.items ++ with_headings l.fn.system l.given l.rest ≡ l.initial.text.items ++ with_headings l.fn.system l.fn.given l.piece;
      count : (l.given + length l.rest) % frame_bytes l.fn.system ≡ (l.fn.given + length l.piece) % frame_bytes l.fn.system;
      kept : take (length l.initial.text.items) l.text.items ≡ l.initial.text.items;
      longer : length l.initial.text.items ≤ length l.text.items;
    }

abbrev pub decreases-loop-rest : goal.decreases-loop-rest
decreases-loop-rest l = length l.rest
