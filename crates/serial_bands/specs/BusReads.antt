-- How often chip memory is read: by accesses, and for words that a band's end needs.
use Rattle.std.specs.Prelude.{ℕ, Bool, true, false, ◌==◌, if◌then◌else◌, List, [], ◌∷◌, count_by, map, ◌++◌}
use Rattle.serial_model.specs.Bus.{reads_of_ask}
use Rattle.serial_model.specs.Picture.{plane_latch, sprite_data, all_sprites}
use Rattle.serial_bands.specs.declared.event.Event.{Event}
use Rattle.serial_bands.specs.declared.event.Event.TheVariants.{Set, Plane, Sprite}
use Rattle.serial_bands.specs.Run.{RunValue}
use Rattle.serial_bands.specs.Clock.{access_at}
use Rattle.serial_bands.specs.OpenBand.{waiting_events}
use Rattle.serial_bands.specs.RightJob.{events_in}

-- how many words of chip memory the access of a clock reads while the clock runs
abbrev pub bus_reads : RunValue → ℕ → ℕ
bus_reads run c = reads_of_ask (access_at run c)

-- the registers of the six plane latches and of the sixteen words of the sprites
abbrev pub all_planes : List ℕ
all_planes = 1 ∷ 2 ∷ 3 ∷ 4 ∷ 5 ∷ 6 ∷ []

abbrev pub word_registers : List ℕ
word_registers =
    map plane_latch all_planes
    ++ (map (λ sprite. sprite_data sprite false) all_sprites ++ map (λ sprite. sprite_data sprite true) all_sprites)

-- the register that an event fills, and whether a fetch fills it
abbrev pub filled_register : Event → ℕ
filled_register (Set at reg word) = reg.offset
filled_register (Plane at plane addr) = plane_latch plane
filled_register (Sprite at sprite second addr) = sprite_data sprite second

abbrev pub is_fetch : Event → Bool
is_fetch (Set at reg word) = false
is_fetch (Plane at plane addr) = true
is_fetch (Sprite at sprite second addr) = true

-- whether a register's last filling is a fetch, once these events came after one that was or was not
unfoldable pub is_fetched : ℕ → Bool → List Event → Bool
is_fetched register last [] = last
is_fetched register last (event ∷ events) =
    is_fetched register (if filled_register event == register then is_fetch event else last) events

-- how many of the registers of words have a fetch as their last filling by these events
abbrev pub fetched_count : List Event → ℕ
fetched_count events = count_by (λ register. is_fetched register false events) word_registers

-- and in the clocks from one up to another, of which a write of the last clock's access is a filling too
abbrev pub latched_words : RunValue → ℕ → ℕ → ℕ
latched_words run from to =
    fetched_count (events_in run from to ++ waiting_events run to)
