-- Clocks in which a disk does nothing on the bus.
use Rattle.std.proofs.Common.{◌≡◌, ◌<◌, ◌≤◌, ℕ, zero, suc, ◌+◌, Bool, true, false, ◌&&◌, if◌then◌else◌, List, []}
use Rattle.std.proofs.Common.{arith, refl, ap, ◌∙◌, sym}
use Rattle.std.proofs.lemmas.Bool.Decides.{nat_tests}
use Rattle.disk_dma.specs.Disk.{DiskValue, is_arrival, after_arrival, is_sync_next, disk_tick, disk_bits}
use Rattle.disk_dma.specs.Disk.{is_disk_clock, has_disk_dma, ask_first, disk_ask, disk_side}
use Rattle.ocs_base.specs.declared.addr.Addr.{Addr}
use Rattle.ocs_base.specs.declared.beam.Beam.{Beam}
use Rattle.serial_model.specs.Beam.{later_beam}
use Rattle.serial_model.specs.Registers.{bit_worth}
use Rattle.serial_model.specs.Side.{SideValue, tick_side, later_side, bits_of_side, ask_of_side, IsQuietSide}
use Rattle.serial_model.specs.declared.bus.SideAsk.TheVariants as S

pub not_arriving : (h : ℕ) → (h ≡ 6 → ⊥) → (h ≡ 120 → ⊥) → is_arrival h ≡ false
not_arriving h first second = grind (arith, nat_tests, first, second)

tick_stays : (b : Beam) (d : DiskValue) → d.due ≡ false → is_arrival b.h ≡ false → disk_tick b d ≡ d
tick_stays b d due none =
    ap (λ arrives. if arrives then after_arrival (record d { due = false }) else record d { due = false }) none
    ∙ ap (λ x. record d { due = x }) (sym due)

abbrev NoneArrives : Beam → ℕ → Type 0
NoneArrives b n = (k : ℕ) → k < n → is_arrival (b.h + k) ≡ false

later_stays : (k n : ℕ) (b : Beam) (dmacon : ℕ) (d : DiskValue) → k ≤ n → d.due ≡ false → NoneArrives b n
    → later_side k b dmacon (disk_side d) ≡ disk_side d
unfolding later_side
later_stays zero n b dmacon d low due none = refl
later_stays (suc k) n b dmacon d low due none =
    ap (λ (side : SideValue). tick_side (later_beam k b) dmacon side) (later_stays k n b dmacon d (omega (arith, low)) due none)
    ∙ ap (λ (x : DiskValue). disk_side x) (tick_stays (later_beam k b) d due (none k (omega (arith, low))))

no_bits : (b : Beam) (d : DiskValue) → d.due ≡ false → is_arrival b.h ≡ false → disk_bits b d ≡ 0
no_bits b d due none =
    ap (λ x. bit_worth (x && is_sync_next d) 0x1000 + bit_worth d.due 0x2) none
    ∙ ap (λ x. bit_worth false 0x1000 + bit_worth x 0x2) due

-- no word waits, or its three clocks are over
ask_of_none : (ask dma : Bool) (queue : List ℕ) (at : Addr) → queue ≡ [] → (if ask && dma then ask_first queue at else S.Nothing) ≡ S.Nothing
ask_of_none true true queue at none = ap (λ words. ask_first words at) none
ask_of_none true false queue at none = refl
ask_of_none false dma queue at none = refl

over : (h : ℕ) → 11 < h → is_disk_clock h ≡ false
over h behind = grind (arith, nat_tests, behind)

record IsStill (b : Beam) (n : ℕ) (d : DiskValue) : Type 0 where
  due : d.due ≡ false
  none : NoneArrives b n
  ask : (dmacon k : ℕ) → disk_ask (later_beam k b) dmacon d ≡ S.Nothing

still_quiet : (b : Beam) (dmacon n : ℕ) (d : DiskValue) → IsStill b n d → IsQuietSide b dmacon n (disk_side d)
still_quiet b dmacon n d is = record {
  bits = λ k low. ap (λ (side : SideValue). bits_of_side (later_beam k b) dmacon side)
      (later_stays k n b dmacon d (omega (arith, low)) is.due is.none) ∙ no_bits (later_beam k b) d is.due (is.none k low);
  ask = λ k low. ap (λ (side : SideValue). ask_of_side (later_beam k b) dmacon side)
      (later_stays (suc k) n b dmacon d (omega (arith, low)) is.due is.none) ∙ is.ask dmacon k;
}

pub quiet_empty : (b : Beam) (dmacon n : ℕ) (d : DiskValue) → d.due ≡ false → NoneArrives b n → d.queue ≡ []
    → IsQuietSide b dmacon n (disk_side d)
quiet_empty b dmacon n d due none empty = still_quiet b dmacon n d (record {
  due = due;
  none = none;
  ask = λ word k. ask_of_none (is_disk_clock (b.h + k)) (has_disk_dma word) d.queue d.at empty;
})

pub quiet_behind : (b : Beam) (dmacon n : ℕ) (d : DiskValue) → d.due ≡ false → NoneArrives b n → 11 < b.h
    → IsQuietSide b dmacon n (disk_side d)
quiet_behind b dmacon n d due none behind = still_quiet b dmacon n d (record {
  due = due;
  none = none;
  ask = λ word k. ap (λ at. if at && has_disk_dma word then ask_first d.queue d.at else S.Nothing) (over (b.h + k) (omega (arith, behind)));
})

pub quiet_for_none : (b : Beam) (dmacon : ℕ) (side : SideValue) → IsQuietSide b dmacon 0 side
quiet_for_none b dmacon side = record {
  bits = λ k low. absurd (omega (arith, low));
  ask = λ k low. absurd (omega (arith, low));
}
