use Rattle.std.proofs.Common.{◌≡◌, ◌<◌, ◌≤◌, ◌+◌, ◌-◌, ℕ, false}
use Rattle.serial_model.specs.PlaneFetch.{fetches_plane, slot_plane, high_resolution}
use Rattle.bitplane_dma.proofs.before_fetch.Given as goal

-- the slots passed fetch no plane
abbrev pub invariant-loop-clocks : goal.invariant-loop-clocks
invariant-loop-clocks l = record {
  most : l.clocks ≤ l.most;
  within : l.slot + l.clocks ≤ 8;
  none : (k : ℕ) → k < l.clocks → fetches_plane l.regs (slot_plane (high_resolution l.regs) (l.slot + k)) ≡ false;
}

abbrev pub decreases-loop-clocks : goal.decreases-loop-clocks
decreases-loop-clocks l = l.most - l.clocks
