-- What the channels sound: the level of each, and the left and the right byte.
use Rattle.std.specs.Prelude.{ℕ, ◌-◌, ◌%◌, min, nat_lt, if◌then◌else◌, ℤ, pos, neg_ℤ, ◌+ℤ◌, ◌*ℤ◌, unsigned_abs}
use Rattle.std.specs.Int.{int_div_euclid, int_rem_euclid}
use Rattle.paula_audio.specs.declared.channel.Channel.{Channel}

-- a byte in two's complement
abbrev pub signed_byte : ℕ → ℤ
signed_byte byte = if nat_lt byte 128 then pos byte else neg_ℤ (pos (256 - byte))

-- bits 6 to 0 of AUDxVOL, of which those above 64 count as 64
abbrev pub volume_of : Channel → ℕ
volume_of c = min (c.volume % 128) 64

-- the sample times a 64th of the volume, rounded down (profile)
abbrev pub level_of : Channel → ℤ
level_of c = int_div_euclid (signed_byte c.sample *ℤ pos (volume_of c)) (pos 64)

-- half the sum of two levels, rounded down
abbrev pub half_sum : Channel → Channel → ℤ
half_sum c d = int_div_euclid (level_of c +ℤ level_of d) (pos 2)

-- a number of at least -128 and at most 127 as a byte in two's complement
abbrev pub byte_of : ℤ → ℕ
byte_of z = unsigned_abs (int_rem_euclid z (pos 256))

abbrev pub side_byte : Channel → Channel → ℕ
side_byte c d = byte_of (half_sum c d)
