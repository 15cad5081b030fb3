-- What the words of the command line and the files come to.
use Rattle.std.specs.Prelude.{ℕ, List, Option, Some, None}
use Rattle.ocs_io.specs.Place.{Files}
use Rattle.run_inputs.specs.Verdict.{InputsVerdict, inputs_verdict}
use Rattle.slots_run.specs.Order.{SlotsOrderValue, order_of}

pub data Verdict : Type 0 where
  -- the words are not of the form
  Usage : Verdict
  -- they ask for this, and the two inputs come to that
  Asked : SlotsOrderValue → InputsVerdict → Verdict

abbrev pub of_order : SlotsOrderValue → Files → Verdict
of_order order files = Asked order (inputs_verdict order.image order.script files)

abbrev pub of_asked : Option SlotsOrderValue → Files → Verdict
of_asked None files = Usage
of_asked (Some order) files = of_order order files

abbrev pub of_words : List (List ℕ) → Files → Verdict
of_words words files = of_asked (order_of words) files
