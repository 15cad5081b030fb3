-- The parts of a write of DSKLEN and of a word's arrival, as the disk makes them.
use Rattle.std.specs.Prelude.{ℕ, ◌-◌, Bool, false, not, ◌&&◌, ◌||◌, ◌==◌, nat_le, nat_lt, if◌then◌else◌, [], ◌∷◌, ◌++◌}
use Rattle.std.specs.Prelude.{length as length_of}
use Rattle.disk_dma.specs.Disk.{DiskValue}
use Rattle.irq_cia.specs.Bits.{has_bits}

-- a word of DSKLEN that ends what is armed and what runs
abbrev pub ends_transfer : ℕ → Bool
ends_transfer word = nat_lt word 0x8000 || nat_le 0xc000 word

abbrev pub after_end : DiskValue → DiskValue
after_end d = record d { armed = false; running = false; queue = [] }

-- a transfer of so many words begins
abbrev pub after_begin : ℕ → DiskValue → DiskValue
after_begin count d = record d {
  armed = false;
  running = not (count == 0);
  synced = false;
  wanted = count;
  stored = count;
  queue = [];
  due = d.due || (count == 0);
}

-- a running transfer wants the word that arrives
abbrev pub wants_word : DiskValue → Bool
wants_word d = d.running && not (d.wanted == 0) && (not (has_bits d.control 0x400) || d.synced)

-- it joins the queue where it is wanted and there is room
abbrev pub join_if_wanted : ℕ → DiskValue → DiskValue
join_if_wanted word d =
    let joins = wants_word d && nat_lt (length_of d.queue) 3 in
    record d { queue = if joins then d.queue ++ word ∷ [] else d.queue; wanted = if joins then d.wanted - 1 else d.wanted }
