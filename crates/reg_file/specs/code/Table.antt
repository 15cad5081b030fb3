-- Which registers are words of a pointer, and the bits that registers keep of a written word.
use Rattle.std.specs.Prelude.{ℕ, ◌%◌, Bool, ◌&&◌, ◌||◌, ◌==◌, nat_le, if◌then◌else◌}
use Rattle.serial_model.specs.declared.registers.Writing.{Writing}
use Rattle.serial_model.specs.declared.registers.Writing.TheVariants.{Ignored, Plain, PointerHigh, SetOrClear, Jump, Blit, Picture, Interrupt, Field}

abbrev pub is_within : ℕ → ℕ → ℕ → Bool
is_within low high n = nat_le low n && nat_le n high

-- the pointers of the blitter, the Copper, the bitplanes and the sprites
abbrev pub is_pointer_word : ℕ → Bool
is_pointer_word n = is_within 0x048 0x056 n || is_within 0x080 0x086 n || is_within 0x0e0 0x0f6 n || is_within 0x120 0x13e n

-- a pointer's high word lies at a multiple of 4
abbrev pub pointer_writing : ℕ → Writing
pointer_writing n = if n % 4 == 0 then PointerHigh else Plain

-- all sixteen of a register that holds a word as it is written, else none
abbrev pub whole_word_in : Writing → ℕ
whole_word_in Ignored = 0
whole_word_in Plain = 65535
whole_word_in PointerHigh = 0
whole_word_in SetOrClear = 0
whole_word_in (Jump list) = 65535
whole_word_in Blit = 65535
whole_word_in Picture = 65535
whole_word_in Interrupt = 0
whole_word_in Field = 65535
