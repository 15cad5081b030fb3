-- The order of places: each next place is later, and at most in the next frame.
use Rattle.std.proofs.Common.{◌+◌, ◌<◌, ◌≤◌, Bool, arith}
use Rattle.std.proofs.lemmas.Bool.Decides.{nat_tests}
use Rattle.ocs_base.specs.declared.beam.Beam.{Beam}
use Rattle.ocs_base.specs.declared.system.System.{System}
use Rattle.ocs_base.specs.declared.system.System.TheVariants.{Pal, Ntsc}
use Rattle.serial_model.specs.Beam.{next_place, place_of, IsOnScreen}

pub record IsNext (b next : Beam) : Type 0 where
  pub later : place_of b < place_of next
  pub frame : b.frame ≤ next.frame
  pub one : next.frame ≤ b.frame + 1
  pub screen : IsOnScreen next

pub next_place-IsNext : (system : System) (lace : Bool) (b : Beam) → IsOnScreen b → IsNext b (next_place system lace b)
next_place-IsNext Pal lace b on = record {
  later = grind (arith, nat_tests, on.line, on.clock);
  frame = grind (arith, nat_tests);
  one = grind (arith, nat_tests);
  screen = record { line = grind (arith, nat_tests, on.line, on.clock); clock = grind (arith, nat_tests, on.line, on.clock) };
}
next_place-IsNext Ntsc lace b on = record {
  later = grind (arith, nat_tests, on.line, on.clock);
  frame = grind (arith, nat_tests);
  one = grind (arith, nat_tests);
  screen = record { line = grind (arith, nat_tests, on.line, on.clock); clock = grind (arith, nat_tests, on.line, on.clock) };
}
