use Rattle.std.proofs.Common.{◌≡◌, ◌<◌, ◌≤◌, ◌+◌, ◌-◌, ◌%◌, ℕ}
use Rattle.serial_model.specs.Beam.{later_beam}
use Rattle.sprite_dma.specs.Quiet.{ReadsNothing}
use Rattle.sprite_dma.proofs.SpriteDma.before_read.Given as goal

-- in the clocks passed no sprite reads anything; the next one is a slot, or behind the last one
abbrev pub invariant-loop-clocks : goal.invariant-loop-clocks
invariant-loop-clocks l = record {
  few : l.beam.h + l.clocks ≤ 0x35;
  slot : (l.beam.h + l.clocks) % 2 ≡ 1;
  first : 0x15 ≤ l.beam.h + l.clocks;
  quiet : (k : ℕ) → k < l.clocks → ReadsNothing (later_beam k l.beam) l.regs l.self;
}

abbrev pub decreases-loop-clocks : goal.decreases-loop-clocks
decreases-loop-clocks l = l.most - l.clocks
