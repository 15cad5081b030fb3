-- An audio channel: what its registers, the ticks and the words that it is given make of it.
use Rattle.std.specs.Prelude.{ℕ, ◌+◌, ◌-◌, ◌*◌, ◌/◌, ◌%◌, Bool, true, false, not, ◌&&◌, ◌||◌, ◌==◌, if◌then◌else◌, Option, None, Some, is_none}
use Rattle.ocs_base.specs.AddressOf.{addr_at}
use Rattle.ocs_base.specs.declared.chip_size.ChipSize.{ChipSize}
use Rattle.paula_audio.specs.declared.channel.Channel.{Channel}
use Rattle.serial_model.specs.Copper.{bytes_after}

-- what LEN and PER say: 0 means 65,536 (profile)
abbrev pub or_most : ℕ → ℕ
or_most n = if n == 0 then 65536 else n

-- at reset: off and silent, and all else 0 (profile)
abbrev pub reset_channel : ChipSize → Channel
reset_channel size = record {
  on = false;
  at = addr_at size 0;
  left = 0;
  held = None;
  word = 0;
  second = false;
  counter = 0;
  sample = 0;
  high = 0;
  low = 0;
  length = 0;
  period = 0;
  volume = 0;
  due = false;
}

-- the pointer is LC again, and so many words are left as LEN says
abbrev pub after_load : Channel → Channel
after_load c = record c { at = addr_at c.at.size (65536 * c.high + c.low); left = or_most c.length }

-- where its bits of DMACON are set, a channel that is off becomes on; where one is clear, it becomes off and silent
abbrev pub after_start : Channel → Channel
after_start c = record (after_load c) { on = true; held = None; second = false; counter = 0 }

abbrev pub after_stop : Channel → Channel
after_stop c = record c { on = false; sample = 0 }

abbrev pub after_switch : Bool → Channel → Channel
after_switch dma c = if dma then (if c.on then c else after_start c) else after_stop c

-- the first half of a word that is held, its high byte, begins; where none is held, nothing does
abbrev pub first_half : Option ℕ → Channel → Channel
first_half None c = c
first_half (Some word) c =
    record c { word = word; held = None; sample = word / 256; second = true; counter = or_most c.period }

-- the second half of the present word, its low byte, begins
abbrev pub second_half : Channel → Channel
second_half c = record c { sample = c.word % 256; second = false; counter = or_most c.period }

abbrev pub next_half : Channel → Channel
next_half c = if c.second then second_half c else first_half c.held c

abbrev pub next_half_at_zero : Channel → Channel
next_half_at_zero c = if c.counter == 0 then next_half c else c

-- a counter above 0 falls by one, and where it is 0 then, the next half begins
abbrev pub after_count : Channel → Channel
after_count c = next_half_at_zero (record c { counter = c.counter - 1 })

abbrev pub count_if_on : Channel → Channel
count_if_on c = if c.on then after_count c else c

-- a tick: on or off first, and then the count
abbrev pub after_tick : Bool → Channel → Channel
after_tick dma c = count_if_on (after_switch dma (record c { due = false }))

-- it requests its interrupt at a tick that makes it on, and at the tick behind the last word
abbrev pub is_requested : Bool → Channel → Bool
is_requested dma c = c.due || (dma && not c.on)

-- it asks for a word while it is on and holds none
abbrev pub wants_word : Bool → Channel → Bool
wants_word dma c = c.on && is_none c.held && dma

-- a word was fetched: the pointer moves by 2 and one word less is left; at the last it begins anew
abbrev pub after_fetch : Channel → Channel
after_fetch c =
    if c.left - 1 == 0 then record (after_load c) { due = true } else record c { at = bytes_after c.at 2; left = c.left - 1 }

-- it is given a word
abbrev pub after_word : ℕ → Channel → Channel
after_word word c = if c.on && is_none c.held then record (after_fetch c) { held = Some word } else c

-- a register of the channel was written, by its place among them: AUDxLCH, AUDxLCL, AUDxLEN, AUDxPER, AUDxVOL
abbrev pub after_write : ℕ → ℕ → Channel → Channel
after_write place word c =
    if place == 0 then record c { high = word }
    else (if place == 2 then record c { low = word }
    else (if place == 4 then record c { length = word }
    else (if place == 6 then record c { period = word }
    else (if place == 8 then record c { volume = word }
    else c))))
