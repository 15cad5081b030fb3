-- What is appended, one piece after another, is the heading.
use Rattle.std.proofs.Common.{append_assoc}
use Rattle.slot_log.proofs.heading.put_heading.Goals as goal

pub returns : goal.returns
returns c =
    rw (
      c.in_ok-extend_from_slice-2.ensures.items,
      c.in_ok-put_number-3.ensures,
      c.in_ok-put_number-2.ensures,
      c.in_ok-put_number.ensures,
      c.in_ok-put_name.ensures,
      c.in_ok-extend_from_slice.ensures.items,
    ) (simp append_assoc)
