-- The interrupt control register of a CIA: its flags and its mask, of bits 4 to 0.
use Rattle.std.specs.Prelude.{ℕ, ◌-◌, ◌^◌, Bool, not, ◌==◌, nat_le, if◌then◌else◌, bit_and, bit_or}
use Rattle.irq_cia.specs.declared.icr.Icr.{Icr}

abbrev pub reset_icr : Icr
reset_icr = record {
  flags = 0;
  mask = 0;
}

-- an event sets its flag: 0 timer A, 1 timer B, 2 alarm, 3 serial
abbrev pub with_flag : Bool → ℕ → Icr → Icr
with_flag happened bit i = if happened then record i { flags = bit_or i.flags (2 ^ bit) } else i

-- some flag is set that the mask has
abbrev pub is_active : Icr → Bool
is_active i = not (bit_and i.flags i.mask == 0)

-- a read gives the flags and, as bit 7, whether the line is active
abbrev pub icr_read : Icr → ℕ
icr_read i = if is_active i then bit_or i.flags 128 else i.flags

abbrev pub after_icr_read : Icr → Icr
after_icr_read i = record i { flags = 0 }

-- bit 7 of a written byte says whether its 1 bits of 4 to 0 are set or cleared in the mask
abbrev pub mask_after : ℕ → ℕ → ℕ
mask_after byte mask =
    if nat_le 128 byte then bit_or mask (bit_and byte 31) else bit_and mask (255 - bit_and byte 31)

abbrev pub after_icr_write : ℕ → Icr → Icr
after_icr_write byte i = record i { mask = mask_after byte i.mask }
