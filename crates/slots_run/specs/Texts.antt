-- What each status says.
use Rattle.std.specs.Prelude.{ℕ, List, [], ◌++◌, codes, Option, Some, None}
use Rattle.run_inputs.specs.Texts.{input_fault_text}
use Rattle.slots_run.specs.Order.{SlotsOrderValue, order_of}
use Rattle.slots_run.specs.declared.fault.SlotsFault.{SlotsFault}
use Rattle.slots_run.specs.declared.fault.SlotsFault.TheVariants.{Usage, Inputs, Unwritten, OutOfMemory}

-- the form of the words
abbrev pub usage_text : List ℕ
usage_text = codes "usage: ocs-slots IMAGE SCRIPT FROM TO OUT\n"

-- that the file of this name could not be written
unfoldable pub unwritten_text : List ℕ → List ℕ
unwritten_text name = codes "cannot write " ++ name ++ codes "\n"

-- the text of a fault of what was ordered
unfoldable pub fault_text : SlotsOrderValue → SlotsFault → List ℕ
fault_text order Usage = usage_text
fault_text order (Inputs fault) = input_fault_text order.image order.script fault
fault_text order Unwritten = unwritten_text order.out
fault_text order OutOfMemory = codes "out of memory\n"

-- an order without names, for words that are of none: their only fault looks at no name
abbrev pub order_or_none : Option SlotsOrderValue → SlotsOrderValue
order_or_none None = record { image = []; script = []; from = 0; to = 0; out = [] }
order_or_none (Some order) = order

abbrev pub text_of : List (List ℕ) → SlotsFault → List ℕ
text_of words fault = fault_text (order_or_none (order_of words)) fault
