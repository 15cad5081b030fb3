-- What the reader of the command line answers.
use Rattle.std.specs.Prelude.{◌≡◌, Option, Some, None}
use Rattle.slots_run.specs.Order.{SlotsOrderValue}
use Rattle.slots_run.specs.declared.order.SlotsOrder.{SlotsOrder}

-- the order as a value
abbrev pub value_of : SlotsOrder → SlotsOrderValue
value_of o = record { image = o.image.now; script = o.script.now; from = o.from; to = o.to; out = o.out.now }

abbrev pub IsOrder : Option SlotsOrderValue → Option SlotsOrder → Type 0
IsOrder order None = order ≡ None
IsOrder order (Some o) = order ≡ Some (value_of o)
