-- INTENA and INTREQ: which interrupts there are, what a write does, and the level that the two words make.
use Rattle.std.specs.Prelude.{ℕ, ◌^◌, Bool, max, if◌then◌else◌, List, [], ◌∷◌, bit_and, bit_or}
use Rattle.irq_cia.specs.Bits.{has_bits, set_or_clear}

-- the kept words: INTREQ has bits 13 to 0, INTENA bits 14 to 0
pub record Interrupts : Type 0 where
  pub req : ℕ
  pub ena : ℕ

abbrev pub is_set : ℕ → ℕ → Bool
is_set word bit = has_bits word (2 ^ bit)

-- an interrupt: its bit in both words, and its level
pub record Row : Type 0 where
  pub bit : ℕ
  pub level : ℕ

abbrev pub entry : ℕ → ℕ → Row
entry bit level = record {
  bit = bit;
  level = level;
}

-- the table: EXTER; DSKSYN and RBF; AUD3 to AUD0; BLIT, VERTB and COPER; PORTS; SOFT, DSKBLK and TBE
abbrev pub rows : List Row
rows =
    entry 13 6
    ∷ entry 12 5
    ∷ entry 11 5
    ∷ entry 10 4
    ∷ entry 9 4
    ∷ entry 8 4
    ∷ entry 7 4
    ∷ entry 6 3
    ∷ entry 5 3
    ∷ entry 4 3
    ∷ entry 3 2
    ∷ entry 2 1
    ∷ entry 1 1
    ∷ entry 0 1
    ∷ []

-- the greatest level of a row whose bit is set in the word, 0 where there is none
abbrev pub greatest_level : List Row → ℕ → ℕ
greatest_level [] word = 0
greatest_level (row ∷ rest) word =
    max (if is_set word row.bit then row.level else 0) (greatest_level rest word)

unfoldable pub level_in : ℕ → ℕ
level_in word = greatest_level rows word

-- the level of the bits that are set in both words, 0 where INTEN, bit 14 of INTENA, is clear
abbrev pub level_of : Interrupts → ℕ
level_of i = if is_set i.ena 14 then level_in (bit_and i.req i.ena) else 0

abbrev pub no_interrupts : Interrupts
no_interrupts = record {
  req = 0;
  ena = 0;
}

-- the chips request these bits of INTREQ
abbrev pub after_request : ℕ → Interrupts → Interrupts
after_request bits i = record i { req = bit_or i.req (bit_and bits 0x3fff) }

abbrev pub after_req_write : ℕ → Interrupts → Interrupts
after_req_write word i = record i { req = set_or_clear 0x3fff i.req word }

abbrev pub after_ena_write : ℕ → Interrupts → Interrupts
after_ena_write word i = record i { ena = set_or_clear 0x7fff i.ena word }
