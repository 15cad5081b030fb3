-- Memory as a table of blocks: an address and the bytes that stand there, one after another. Between the blocks memory is zero.
use Rattle.std.specs.Prelude.{ℕ, ◌+◌, ◌-◌, Bool, ◌&&◌, nat_lt, nat_le, if◌then◌else◌, List, [], ◌∷◌, map, length, flat_map, slice_index}
use Rattle.std.specs.List.{range_with_len}
use Rattle.std.specs.Int.{w16, to_be_bytes}

pub record Block : Type 0 where
  pub address : ℕ
  pub bytes : List ℕ

-- the bytes of words, the high byte of each first
unfoldable pub bytes_of : List ℕ → List ℕ
bytes_of words = flat_map (to_be_bytes w16) words

-- so many bytes from an address on, where a rule says which byte stands at an address
unfoldable pub bytes_by : (ℕ → ℕ) → ℕ → ℕ → List ℕ
bytes_by byte address count = map byte (range_with_len address count)

abbrev pub is_in : Block → ℕ → Bool
is_in block a = nat_le block.address a && nat_lt a (block.address + length block.bytes)

-- the byte at an address: that of the block there, and 0 where no block is
unfoldable pub byte_at : List Block → ℕ → ℕ
byte_at [] a = 0
byte_at (block ∷ blocks) a = if is_in block a then slice_index block.bytes (a - block.address) else byte_at blocks a
