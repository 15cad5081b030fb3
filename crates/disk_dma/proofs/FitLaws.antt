-- A disk fits the chip memory that its pointer is an address of.
use Rattle.std.proofs.Common.{◌≡◌, refl, sym, ap, subst, ◌∙◌, ℕ, Bool, true, false, ◌&&◌, nat_lt, if◌then◌else◌, List, [], ◌∷◌, ◌++◌, ◌%◌, ◌-◌}
use Rattle.std.proofs.Common.{length as length_of}
use Rattle.disk_dma.specs.Disk.{DiskValue, new_disk, after_length, with_high_half}
use Rattle.disk_dma.specs.Disk.{with_low_half, disk_write, is_arrival, after_arrival, disk_tick}
use Rattle.disk_dma.specs.Disk.{with_control, after_last, after_one}
use Rattle.disk_dma.specs.Disk.{ask_first, disk_ask, with_queue}
use Rattle.disk_dma.specs.Disk.{after_leave, disk_after, disk_side}
use Rattle.disk_dma.specs.Track.{track_word}
use Rattle.disk_dma.specs.code.Disk.{ends_transfer, after_end, after_begin, wants_word, join_if_wanted}
use Rattle.ocs_base.specs.Sizes.{bytes_of, size_of_bytes}
use Rattle.ocs_base.specs.declared.addr.Addr.{Addr}
use Rattle.ocs_base.specs.declared.beam.Beam.{Beam}
use Rattle.ocs_base.specs.declared.chip_size.ChipSize.{ChipSize}
use Rattle.ocs_base.specs.declared.reg.Reg.{Reg}
use Rattle.serial_model.specs.Side.{Happening, Poked, Ticked, Given, after_all, IsBelow, FitsSide}
use Rattle.serial_model.specs.declared.bus.SideAsk.{SideAsk}
use Rattle.serial_model.specs.declared.bus.SideAsk.TheVariants as S

record HasSize (size : ChipSize) (d : DiskValue) : Type 0 where
  is : d.at.size ≡ size

same : (d : DiskValue) → HasSize d.at.size d
same d = record { is = refl }

either : {size : ChipSize} (b : Bool) (x y : DiskValue) → HasSize size x → HasSize size y → HasSize size (if b then x else y)
either true x y first second = first
either false x y first second = second

length_keeps : (word : ℕ) (d : DiskValue) → HasSize d.at.size (after_length word d)
length_keeps word d =
    let written : DiskValue = record d { length = word } in
    either (ends_transfer word) _ _ (same (after_end written))
    (either d.armed _ _ (same (after_begin (word % 0x4000) written)) (same (record written { armed = true })))

write_keeps : (reg : Reg) (word : ℕ) (d : DiskValue) → HasSize d.at.size (disk_write reg word d)
write_keeps reg word d =
    either _ _ _ (same (with_high_half word d))
    (either _ _ _ (same (with_low_half word d))
    (either _ _ _ (length_keeps word d)
    (either _ _ _ (same (record d { sync = word })) (either _ _ _ (same (with_control word d)) (same d)))))

tick_keeps : (b : Beam) (d : DiskValue) → HasSize d.at.size (disk_tick b d)
tick_keeps b d =
    let ticked : DiskValue = record d { due = false } in
    either (is_arrival b.h) (after_arrival ticked) ticked (same (after_arrival ticked)) (same ticked)

leave_keeps : (words : List ℕ) (d : DiskValue) → HasSize d.at.size (after_leave words d)
leave_keeps [] d = same d
leave_keeps (word ∷ words) d = either _ _ _ (same (after_last (with_queue words d))) (same (after_one (with_queue words d)))

step_keeps : (happening : Happening) (d : DiskValue) → HasSize d.at.size (disk_after happening d)
step_keeps (Poked reg word) d = write_keeps reg word d
step_keeps (Ticked b dmacon) d = tick_keeps b d
step_keeps (Given word) d = leave_keeps d.queue d

all_keep : (later : List Happening) (d : DiskValue) → (after_all disk_after later d).at.size ≡ d.at.size
all_keep [] d = refl
all_keep (happening ∷ later) d = all_keep later (disk_after happening d) ∙ (step_keeps happening d).is

below_if : (size : ℕ) (b : Bool) (ask : SideAsk) → IsBelow size ask → IsBelow size (if b then ask else S.Nothing)
below_if size true ask below = below
below_if size false ask below = tt

first_below : (words : List ℕ) (at : Addr) → IsBelow (bytes_of at.size) (ask_first words at)
first_below [] at = tt
first_below (word ∷ words) at = at.below

ask_below : (b : Beam) (dmacon : ℕ) (d : DiskValue) → IsBelow (bytes_of d.at.size) (disk_ask b dmacon d)
ask_below b dmacon d = below_if _ _ (ask_first d.queue d.at) (first_below d.queue d.at)

pub disk_fits : (d : DiskValue) → FitsSide (bytes_of d.at.size) (disk_side d)
disk_fits d later b dmacon =
    subst (λ size. IsBelow (bytes_of size) (disk_ask b dmacon (after_all disk_after later d))) (all_keep later d)
    (ask_below b dmacon (after_all disk_after later d))

pub new_fits : (track : List ℕ) (size : ChipSize) (chip : ℕ) → size ≡ size_of_bytes chip → bytes_of size ≡ chip →
    FitsSide chip (disk_side (new_disk track (size_of_bytes chip)))
new_fits track size chip is bytes =
    subst (λ n. FitsSide n (disk_side (new_disk track (size_of_bytes chip)))) (ap bytes_of (sym is) ∙ bytes)
    (disk_fits (new_disk track (size_of_bytes chip)))
