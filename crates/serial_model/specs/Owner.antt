-- The owner of a slot: the first that asks.
use Rattle.std.specs.Prelude.{ℕ, Bool, not, ◌&&◌, ◌||◌, ◌==◌, nat_le, if◌then◌else◌, List, [], ◌∷◌, ◌++◌, Option, Some, None}
use Rattle.serial_model.specs.declared.slots.Owner.{Owner}
use Rattle.serial_model.specs.declared.slots.Owner.TheVariants.{Refresh, Disk, Audio, Plane, Sprite, Copper, Blitter, Processor, Free}
use Rattle.serial_model.specs.declared.slots.SlotState.{SlotState}

-- refresh takes clocks 1, 3, 5 and 225 of every line (profile)
abbrev pub is_refresh : ℕ → Bool
is_refresh h = (h == 1) || (h == 3) || (h == 5) || (h == 225)

abbrev pub if_asking : Bool → Owner → List Owner
if_asking asks owner = if asks then owner ∷ [] else []

-- a channel asks with its number
abbrev pub by_channel : (ℕ → Owner) → Option ℕ → List Owner
by_channel owner None = []
by_channel owner (Some n) = owner n ∷ []

-- the processor comes before the blitter where BLTPRI is clear and it has missed three clocks or more
abbrev pub processor_first : SlotState → Bool
processor_first s = not s.nasty && nat_le 3 s.missed

abbrev pub blitter_and_processor : SlotState → List Owner
blitter_and_processor s =
    if processor_first s
    then if_asking s.processor Processor ++ if_asking s.blitter Blitter
    else if_asking s.blitter Blitter ++ if_asking s.processor Processor

-- all that ask, in their order
abbrev pub askers : SlotState → List Owner
askers s =
    if_asking (is_refresh s.h) Refresh ++ if_asking s.disk Disk ++ by_channel (λ n. Audio n) s.audio ++ by_channel (λ n. Plane n) s.plane
    ++ by_channel (λ n. Sprite n) s.sprite ++ if_asking s.copper Copper ++ blitter_and_processor s

abbrev pub first_asker : List Owner → Owner
first_asker [] = Free
first_asker (owner ∷ others) = owner

-- the owner of a slot that nobody before the blitter asks for
abbrev pub last_owner : SlotState → Owner
last_owner s = first_asker (blitter_and_processor s)

-- the owner of a slot; it is free where nobody asks
unfoldable pub owner_of : SlotState → Owner
owner_of s = first_asker (askers s)
