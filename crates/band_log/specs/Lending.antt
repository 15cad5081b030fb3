-- What a room is once its pixels, which it lent, are given back.
use Rattle.std.specs.Prelude.{ℕ, List, ◌++◌, length, take, drop}
use Rattle.std.specs.Borrow.{Lends, MutBor, Fml, Array, u8}
use Rattle.band_log.specs.contracts.room.Room.{the_row}

-- the bytes of a room with what was written over them: all of it, since as many bytes are given back as were lent
abbrev pub written_over : List ℕ → List ℕ → List ℕ
written_over old bytes = take (length old) (bytes ++ drop (length bytes) old)

abbrev pub LendsPixels : MutBor (List ℕ) → MutBor (List ℕ) → Fml
LendsPixels room pixels = Lends the_row (Array u8 0) room pixels (written_over room.now)
