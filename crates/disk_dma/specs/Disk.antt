-- The disk's reading of a track, and the side that it is.
use Rattle.std.specs.Prelude.{ℕ, ◌+◌, ◌-◌, ◌*◌, ◌/◌, ◌%◌, Bool, true, false, not, ◌&&◌, ◌||◌, ◌==◌, nat_le, nat_lt}
use Rattle.std.specs.Prelude.{if◌then◌else◌, List, [], ◌∷◌, ◌++◌, length as length_of}
use Rattle.disk_dma.specs.Track.{track_word, next_place}
use Rattle.irq_cia.specs.Bits.{has_bits, set_or_clear}
use Rattle.ocs_base.specs.AddressOf.{addr_at}
use Rattle.ocs_base.specs.declared.addr.Addr.{Addr}
use Rattle.ocs_base.specs.declared.beam.Beam.{Beam}
use Rattle.ocs_base.specs.declared.chip_size.ChipSize.{ChipSize}
use Rattle.ocs_base.specs.declared.reg.Reg.{Reg}
use Rattle.serial_model.specs.Copper.{bytes_after}
use Rattle.serial_model.specs.Registers.{bit_worth}
use Rattle.serial_model.specs.Side.{Happening, Poked, Ticked, Given, SideRules, SideValue, side_over}
use Rattle.serial_model.specs.declared.bus.SideAsk.{SideAsk}
use Rattle.serial_model.specs.declared.bus.SideAsk.TheVariants as S

-- The bytes of the track and the place in it; whether the next write of DSKLEN starts, whether a transfer is running and whether
-- it has met the word of DSKSYNC; how many words it still wants of the track, and how many are still to be stored; the words that
-- wait for a slot; the pointer; the kept words of DSKLEN, DSKSYNC and ADKCON; and whether the next tick requests DSKBLK.
pub record DiskValue : Type 0 where
  pub track : List ℕ
  pub place : ℕ
  pub armed : Bool
  pub running : Bool
  pub synced : Bool
  pub wanted : ℕ
  pub stored : ℕ
  pub queue : List ℕ
  pub at : Addr
  pub length : ℕ
  pub sync : ℕ
  pub control : ℕ
  pub due : Bool

-- at reset, at the track's first word and with a chip memory of this size: all else is 0 (profile)
abbrev pub new_disk : List ℕ → ChipSize → DiskValue
new_disk track size = record {
  track = track;
  place = 0;
  armed = false;
  running = false;
  synced = false;
  wanted = 0;
  stored = 0;
  queue = [];
  at = addr_at size 0;
  length = 0;
  sync = 0;
  control = 0;
  due = false;
}

-- A write of DSKLEN. Where its bit 15 is clear, or bit 14, that of writing to the disk, is set, nothing is armed and nothing runs.
-- Else the first of two writes arms, and the second starts a transfer of as many words as bits 13 to 0 say: one of no words is
-- over at the next tick.
abbrev pub after_length : ℕ → DiskValue → DiskValue
after_length word d =
    let count = word % 0x4000 in
    if nat_lt word 0x8000 || nat_le 0xc000 word
    then record d { length = word; armed = false; running = false; queue = [] }
    else (if d.armed
    then record d {
      length = word;
      armed = false;
      running = not (count == 0);
      synced = false;
      wanted = count;
      stored = count;
      queue = [];
      due = d.due || (count == 0);
    }
    else record d { length = word; armed = true })

-- a write of one half of the pointer leaves the other half as it is by then
abbrev pub with_high_half : ℕ → DiskValue → DiskValue
with_high_half word d = record d { at = addr_at d.at.size (65536 * word + d.at.value % 65536) }

abbrev pub with_low_half : ℕ → DiskValue → DiskValue
with_low_half word d = record d { at = addr_at d.at.size (d.at.value / 65536 * 65536 + word) }

-- ADKCON: bit 15 says whether the other 1 bits are set or cleared
abbrev pub with_control : ℕ → DiskValue → DiskValue
with_control word d = record d { control = set_or_clear 0x7fff d.control word }

-- a register was written: DSKPTH, DSKPTL, DSKLEN, DSKSYNC, ADKCON
abbrev pub disk_write : Reg → ℕ → DiskValue → DiskValue
disk_write reg word d =
    if reg.offset == 0x020 then with_high_half word d
    else (if reg.offset == 0x022 then with_low_half word d
    else (if reg.offset == 0x024 then after_length word d
    else (if reg.offset == 0x07e then record d { sync = word }
    else (if reg.offset == 0x09e then with_control word d
    else d))))

-- at two clocks of a line a word arrives (profile)
abbrev pub is_arrival : ℕ → Bool
is_arrival h = (h == 6) || (h == 120)

-- whether the word that arrives next is that of DSKSYNC
abbrev pub is_sync_next : DiskValue → Bool
is_sync_next d = track_word d.track d.place == d.sync

-- A word arrives. A running transfer wants it, once WORDSYNC, bit 10 of ADKCON, is clear or the word of DSKSYNC has passed. It joins
-- the queue where fewer than three wait: else it is lost, and still wanted. And then it has passed.
abbrev pub after_arrival : DiskValue → DiskValue
after_arrival d =
    let wants = d.running && not (d.wanted == 0) && (not (has_bits d.control 0x400) || d.synced) in
    let joins = wants && nat_lt (length_of d.queue) 3 in
    record d {
      queue = if joins then d.queue ++ track_word d.track d.place ∷ [] else d.queue;
      wanted = if joins then d.wanted - 1 else d.wanted;
      place = next_place d.track d.place;
      synced = d.synced || is_sync_next d;
    }

-- a tick: what was due is requested by now
abbrev pub disk_tick : Beam → DiskValue → DiskValue
disk_tick b d =
    let ticked = record d { due = false } in
    if is_arrival b.h then after_arrival ticked else ticked

-- the bits of INTREQ that a tick requests: DSKSYN, bit 12, and DSKBLK, bit 1
abbrev pub disk_bits : Beam → DiskValue → ℕ
disk_bits b d = bit_worth (is_arrival b.h && is_sync_next d) 0x1000 + bit_worth d.due 0x2

-- the three clocks of a line that are the disk's
abbrev pub is_disk_clock : ℕ → Bool
is_disk_clock h = (h == 7) || (h == 9) || (h == 11)

-- DMAEN and DSKEN of DMACON are both set
abbrev pub has_disk_dma : ℕ → Bool
has_disk_dma dmacon = has_bits dmacon 0x210

abbrev pub ask_first : List ℕ → Addr → SideAsk
ask_first [] at = S.Nothing
ask_first (word ∷ words) at = S.Disk at word

abbrev pub disk_ask : Beam → ℕ → DiskValue → SideAsk
disk_ask b dmacon d = if is_disk_clock b.h && has_disk_dma dmacon then ask_first d.queue d.at else S.Nothing

-- a word was stored: the pointer moves by 2 and one less is to be stored; at the last the transfer is over
abbrev pub after_one : DiskValue → DiskValue
after_one d = record d { at = bytes_after d.at 2; stored = d.stored - 1 }

abbrev pub after_last : DiskValue → DiskValue
after_last d = record (after_one d) { running = false; due = true }

abbrev pub after_store : DiskValue → DiskValue
after_store d = if d.stored - 1 == 0 then after_last d else after_one d

abbrev pub with_queue : List ℕ → DiskValue → DiskValue
with_queue words d = record d { queue = words }

-- the queue's first word leaves it; where there is none, nothing changes
abbrev pub after_leave : List ℕ → DiskValue → DiskValue
after_leave [] d = d
after_leave (word ∷ words) d = after_store (with_queue words d)

abbrev pub disk_given : DiskValue → DiskValue
disk_given d = after_leave d.queue d

abbrev pub disk_after : Happening → DiskValue → DiskValue
disk_after (Poked reg word) d = disk_write reg word d
disk_after (Ticked b dmacon) d = disk_tick b d
disk_after (Given word) d = disk_given d

abbrev pub disk_rules : SideRules DiskValue
disk_rules = record {
  after = disk_after;
  bits = λ b dmacon d. disk_bits b d;
  ask = disk_ask;
  shows = λ d. [];
}

-- the side: it shows nothing
abbrev pub disk_side : DiskValue → SideValue
disk_side d = side_over disk_rules d
