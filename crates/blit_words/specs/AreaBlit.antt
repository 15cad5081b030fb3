-- The asks of an area blit, by position: word c of row r.
--
-- A blit is its registers at the start and the answers to its asks so far. The answer to a read is the word that was read;
-- any other ask has an answer too, which does not count. Words are taken row by row: word j of the blit is word j mod w of
-- row j / w, where w is the width.
use Rattle.std.specs.Prelude.{ℕ, zero, suc, ◌+◌, ◌*◌, ◌/◌, ◌%◌, Bool, true, false, ◌&&◌, ◌||◌, ◌==◌, nat_lt, if◌then◌else◌, List, []}
use Rattle.std.specs.Prelude.{◌∷◌, length, slice_index, slice_index_or, Option, Some, None, ℤ, pos, ◌+ℤ◌, ◌-ℤ◌, ◌*ℤ◌, count_ones}
use Rattle.std.specs.List.{position}
use Rattle.ocs_base.specs.AddressOf.{addr_at}
use Rattle.ocs_base.specs.declared.addr.Addr.{Addr}
use Rattle.ocs_base.specs.declared.chip_size.ChipSize.TheVariants.{Kib512}
use Rattle.blit_words.specs.declared.blit.BlitRegs.{BlitRegs}
use Rattle.blit_words.specs.declared.blit.SlotAsk.{SlotAsk}
use Rattle.blit_words.specs.declared.blit.SlotAsk.TheVariants as S
use Rattle.blit_words.specs.declared.blit.WordAsk.{WordAsk}
use Rattle.blit_words.specs.declared.blit.WordAsk.TheVariants.{A, B, C, D, Rest}
use Rattle.blit_words.specs.BlitWords.{is_set, one_if, minterm_of, shifted_input, masked_word, filled_word}
use Rattle.blit_words.specs.Blit.{height_of, width_of, shift_of_a, shift_of_b, minterms_of, even_part, address_on}

-- The asks of a word, by the code 8 USEA + 4 USEB + 2 USEC + USED (profile). At a rest the blitter takes the slot and makes
-- no access.
abbrev pub ask_rows : List (List WordAsk)
ask_rows =
    (Rest ∷ Rest ∷ [])
    ∷ (Rest ∷ D ∷ [])
    ∷ (Rest ∷ C ∷ [])
    ∷ (Rest ∷ C ∷ D ∷ [])
    ∷ (Rest ∷ B ∷ Rest ∷ [])
    ∷ (Rest ∷ B ∷ D ∷ [])
    ∷ (Rest ∷ B ∷ C ∷ [])
    ∷ (Rest ∷ B ∷ C ∷ D ∷ [])
    ∷ (A ∷ Rest ∷ [])
    ∷ (A ∷ D ∷ [])
    ∷ (A ∷ C ∷ [])
    ∷ (A ∷ C ∷ D ∷ [])
    ∷ (A ∷ B ∷ Rest ∷ [])
    ∷ (A ∷ B ∷ D ∷ [])
    ∷ (A ∷ B ∷ C ∷ [])
    ∷ (A ∷ B ∷ C ∷ D ∷ [])
    ∷ []

abbrev pub code_of : BlitRegs → ℕ
code_of s = s.con0 / 256 % 16

unfoldable pub asks_in : ℕ → List WordAsk
asks_in code = slice_index_or ask_rows code []

-- how many asks a word has, and which stands at a place, from 0
unfoldable pub asks_per_word : BlitRegs → ℕ
asks_per_word s = length (asks_in (code_of s))

unfoldable pub word_ask : BlitRegs → ℕ → WordAsk
word_ask s place = slice_index_or (asks_in (code_of s)) place Rest

-- USEA, USEB, USEC and USED
abbrev pub is_used : BlitRegs → WordAsk → Bool
is_used s A = is_set s.con0 11
is_used s B = is_set s.con0 10
is_used s C = is_set s.con0 9
is_used s D = is_set s.con0 8
is_used s Rest = false

abbrev pub is_descending : BlitRegs → Bool
is_descending s = is_set s.con1 1

-- ---- addresses

-- the pointer with which a channel starts, whose span its addresses keep; a rest has no address
abbrev pub pointer_of : BlitRegs → WordAsk → Addr
pointer_of s A = s.apt
pointer_of s B = s.bpt
pointer_of s C = s.cpt
pointer_of s D = s.dpt
pointer_of s Rest = addr_at Kib512 0

abbrev pub modulo_of : BlitRegs → WordAsk → ℤ
modulo_of s A = s.amod
modulo_of s B = s.bmod
modulo_of s C = s.cmod
modulo_of s D = s.dmod
modulo_of s Rest = pos 0

-- a channel goes the opposite way in descending mode
abbrev pub opposite_if : Bool → ℤ → ℤ
opposite_if descending z = if descending then pos 0 -ℤ z else z

-- the way of a channel from its pointer to word c of row r: two bytes a word, and the modulo after each row
abbrev pub way_to : BlitRegs → WordAsk → ℕ → ℕ → ℤ
way_to s x r c =
    opposite_if (is_descending s) (pos (2 * (r * width_of s + c)) +ℤ pos r *ℤ even_part (modulo_of s x))

-- the address of a channel at word c of row r; an unused channel does not move
unfoldable pub address_of : BlitRegs → WordAsk → ℕ → ℕ → Addr
address_of s x r c = if is_used s x then address_on (pointer_of s x) (way_to s x r c) else pointer_of s x

-- ---- the words of the three inputs

abbrev pub is_same : WordAsk → WordAsk → Bool
is_same A A = true
is_same B B = true
is_same C C = true
is_same D D = true
is_same _ _ = false

-- the place of a channel's ask among those of a word; an unused channel has none
unfoldable pub place_of : BlitRegs → WordAsk → Option ℕ
place_of s x = position (is_same x) (asks_in (code_of s))

abbrev pub data_register : BlitRegs → WordAsk → ℕ
data_register s A = s.adat
data_register s B = s.bdat
data_register s C = s.cdat
data_register s D = 0
data_register s Rest = 0

abbrev pub word_at_place : BlitRegs → List ℕ → WordAsk → ℕ → Option ℕ → ℕ
word_at_place s ws x j None = data_register s x
word_at_place s ws x j (Some place) = slice_index ws (j * asks_per_word s + place)

-- the word of a channel at word j of the blit: the answer to its ask; an unused channel gives its data register
unfoldable pub channel_word : BlitRegs → List ℕ → WordAsk → ℕ → ℕ
channel_word s ws x j = word_at_place s ws x j (place_of s x)

-- A is masked in the first and in the last word of each row
unfoldable pub masked_a : BlitRegs → List ℕ → ℕ → ℕ
masked_a s ws j = masked_word s.afwm s.alwm (width_of s) (j % width_of s) (channel_word s ws A j)

-- the word before it in the blit, 0 for the blit's first (also over the edge of rows)
unfoldable pub previous_a : BlitRegs → List ℕ → ℕ → ℕ
previous_a s ws zero = 0
previous_a s ws (suc j) = masked_a s ws j

unfoldable pub previous_b : BlitRegs → List ℕ → ℕ → ℕ
previous_b s ws zero = 0
previous_b s ws (suc j) = channel_word s ws B j

-- A and B are shifted (profile for an unused B), C is not
abbrev pub input_a : BlitRegs → List ℕ → ℕ → ℕ
input_a s ws j = shifted_input (is_descending s) (shift_of_a s) (previous_a s ws j) (masked_a s ws j)

abbrev pub input_b : BlitRegs → List ℕ → ℕ → ℕ
input_b s ws j = shifted_input (is_descending s) (shift_of_b s) (previous_b s ws j) (channel_word s ws B j)

-- ---- the results

-- the minterm of word j of the blit
unfoldable pub joined_word : BlitRegs → List ℕ → ℕ → ℕ
joined_word s ws j = minterm_of (minterms_of s) (input_a s ws j) (input_b s ws j) (channel_word s ws C j)

-- BLTCON1: 4 EFE, exclusive fill, 3 IFE, inclusive fill, 2 FCI. Fill acts in descending mode alone (profile)
abbrev pub is_exclusive : BlitRegs → Bool
is_exclusive s = is_set s.con1 4

abbrev pub is_filling : BlitRegs → Bool
is_filling s = is_descending s && (is_exclusive s || is_set s.con1 3)

-- FCI plus the number of 1 bits in the first c words of row r, which are those to the right of the next
unfoldable pub ones_in_row : BlitRegs → List ℕ → ℕ → ℕ → ℕ
ones_in_row s ws r zero = one_if (is_set s.con1 2)
ones_in_row s ws r (suc c) = ones_in_row s ws r c + count_ones (joined_word s ws (r * width_of s + c))

-- the result of word j of the blit
unfoldable pub result_word : BlitRegs → List ℕ → ℕ → ℕ
result_word s ws j =
    if is_filling s
    then filled_word (is_exclusive s) (ones_in_row s ws (j / width_of s) (j % width_of s)) (joined_word s ws j)
    else joined_word s ws j

-- ---- the asks

abbrev pub ask_of : BlitRegs → List ℕ → ℕ → ℕ → WordAsk → SlotAsk
ask_of s ws r c A = S.Read (address_of s A r c)
ask_of s ws r c B = S.Read (address_of s B r c)
ask_of s ws r c C = S.Read (address_of s C r c)
ask_of s ws r c D = S.Write (address_of s D r c) (result_word s ws (r * width_of s + c))
ask_of s ws r c Rest = S.Rest

-- the ask at a place of word c of row r; below the last row the blit is done
unfoldable pub ask_at : BlitRegs → List ℕ → ℕ → ℕ → ℕ → SlotAsk
ask_at s ws r c place = if nat_lt r (height_of s) then ask_of s ws r c (word_ask s place) else S.Done

-- how many words have all their answers
abbrev pub words_done : BlitRegs → List ℕ → ℕ
words_done s ws = length ws / asks_per_word s

-- the ask after these answers
unfoldable pub area_ask : BlitRegs → List ℕ → SlotAsk
area_ask s ws =
    ask_at s ws (words_done s ws / width_of s) (words_done s ws % width_of s) (length ws % asks_per_word s)

-- ---- BZERO and the registers

-- whether the results of the first j words are all 0
unfoldable pub are_zero : BlitRegs → List ℕ → ℕ → Bool
are_zero s ws zero = true
are_zero s ws (suc j) = are_zero s ws j && (result_word s ws j == 0)

-- BZERO: it becomes 0 with the last ask of a word whose result, after fill, is not 0, also where D is unused
unfoldable pub area_zero : BlitRegs → List ℕ → Bool
area_zero s ws = are_zero s ws (words_done s ws)

abbrev pub is_before : Option ℕ → ℕ → Bool
is_before None place = false
is_before (Some of_channel) place = nat_lt of_channel place

-- what the data register of a channel holds before word j: the word that it read last
unfoldable pub word_held_before : BlitRegs → List ℕ → WordAsk → ℕ → ℕ
word_held_before s ws x zero = data_register s x
word_held_before s ws x (suc j) = channel_word s ws x j

-- and before the ask at a place of word j
unfoldable pub held_word : BlitRegs → List ℕ → WordAsk → ℕ → ℕ → ℕ
held_word s ws x j place =
    if is_before (place_of s x) place then channel_word s ws x j else word_held_before s ws x j

-- a pointer before word j
abbrev pub pointer_before : BlitRegs → WordAsk → ℕ → Addr
pointer_before s x j = address_of s x (j / width_of s) (j % width_of s)

-- The registers after these answers; at the end these stay. BLTAPTL keeps all its bits where A is unused.
unfoldable pub area_end : BlitRegs → List ℕ → BlitRegs
area_end s ws =
    let j = words_done s ws in
    let place = length ws % asks_per_word s in
    record s {
      apt = pointer_before s A j;
      bpt = pointer_before s B j;
      cpt = pointer_before s C j;
      dpt = pointer_before s D j;
      aptl = if is_used s A then (pointer_before s A j).value % 65536 else s.aptl;
      adat = held_word s ws A j place;
      bdat = held_word s ws B j place;
      cdat = held_word s ws C j place;
    }
