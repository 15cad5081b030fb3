-- The owner of a slot for which nobody before the blitter asks.
use Rattle.std.proofs.Common.{◌≡◌, ◌≢◌, Bool, true, false, if◌then◌else◌, ◌++◌, None, refl}
use Rattle.serial_model.specs.declared.bus.Ask.TheVariants as A
use Rattle.serial_model.specs.declared.slots.Owner.{Owner}
use Rattle.serial_model.specs.declared.slots.Owner.TheVariants as O
use Rattle.serial_model.specs.declared.slots.SlotState.{SlotState}
use Rattle.serial_model.specs.Bus.{Wishes, owner_ask}
use Rattle.serial_model.specs.Owner.{owner_of, is_refresh, if_asking, by_channel, first_asker, processor_first}

-- refresh, the blitter, the processor or nobody
abbrev pub IsLate : Owner → Type 0
IsLate O.Refresh = Unit {0}
IsLate O.Disk = ⊥
IsLate (O.Audio channel) = ⊥
IsLate (O.Plane plane) = ⊥
IsLate (O.Sprite sprite) = ⊥
IsLate O.Copper = ⊥
IsLate O.Blitter = Unit {0}
IsLate O.Processor = Unit {0}
IsLate O.Free = Unit {0}

late_by : (refresh first blitter processor : Bool) → IsLate (first_asker (if_asking refresh O.Refresh ++ if_asking false O.Disk
    ++ by_channel (λ n. O.Audio n) None ++ by_channel (λ n. O.Plane n) None ++ by_channel (λ n. O.Sprite n) None ++ if_asking false O.Copper
    ++ (if first then if_asking processor O.Processor ++ if_asking blitter O.Blitter else if_asking blitter O.Blitter ++ if_asking processor O.Processor)))
late_by true first blitter processor = tt
late_by false true blitter true = tt
late_by false true true false = tt
late_by false true false false = tt
late_by false false true processor = tt
late_by false false false true = tt
late_by false false false false = tt

-- a slot for which neither the side nor a plane, a sprite or the Copper asks
pub late_owner : (s : SlotState) (blitter processor : Bool)
    → IsLate (owner_of (record s { disk = false; audio = None; plane = None; sprite = None; copper = false; blitter = blitter; processor = processor }))
unfolding owner_of
late_owner s blitter processor =
    late_by (is_refresh s.h)
    (processor_first (record s { disk = false; audio = None; plane = None; sprite = None; copper = false; blitter = blitter; processor = processor }))
    blitter processor

-- where it is neither the blitter's nor the processor's it is free
pub late_free : (owner : Owner) (w : Wishes) → IsLate owner → owner ≢ O.Blitter → owner ≢ O.Processor → A.Free ≡ owner_ask owner w
late_free O.Refresh w late blitter processor = refl
late_free O.Disk w late blitter processor = absurd late
late_free (O.Audio channel) w late blitter processor = absurd late
late_free (O.Plane plane) w late blitter processor = absurd late
late_free (O.Sprite sprite) w late blitter processor = absurd late
late_free O.Copper w late blitter processor = absurd late
late_free O.Blitter w late blitter processor = absurd (blitter refl)
late_free O.Processor w late blitter processor = absurd (processor refl)
late_free O.Free w late blitter processor = refl
