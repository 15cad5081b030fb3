use Rattle.std.proofs.Common.{◌≡◌, ◌++◌, take, flat_map}
use Rattle.script_read.specs.Canonical.{event_text, AllHaveWords}
use Rattle.script_read.proofs.printer.put_events.Given as goal

abbrev pub invariant-loop-at : goal.invariant-loop-at
invariant-loop-at l = record {
  text : l.into.items ≡ l.initial.into.items ++ flat_map event_text (take l.at-index l.events);
  words : AllHaveWords (take l.at-index l.events);
}
