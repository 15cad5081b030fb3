-- What an area blit under way stands for: its registers at the start and the answers so far.
use Rattle.std.specs.Prelude.{◌≡◌, ◌≢◌, ◌==◌, ℕ, ◌+◌, ◌*◌, ◌%◌, ◌<◌, ◌≤◌, ◌↔◌, true, false, nat_lt, if◌then◌else◌, List, length}
use Rattle.blit_words.specs.declared.blit.BlitRegs.{BlitRegs}
use Rattle.blit_words.specs.declared.blit.SlotAsk.{SlotAsk}
use Rattle.blit_words.specs.declared.blit.SlotAsk.TheVariants as S
use Rattle.blit_words.specs.declared.blit.WordAsk.{WordAsk}
use Rattle.blit_words.specs.declared.blit.WordAsk.TheVariants.{A, B, C, D, Rest}
use Rattle.blit_words.specs.BlitWords.{is_set}
use Rattle.blit_words.specs.Blit.{is_line, height_of, width_of, minterms_of}
use Rattle.blit_words.specs.AreaBlit.{asks_per_word, word_ask, is_used, is_filling, previous_a, previous_b, ones_in_row, are_zero, held_word}
use Rattle.blit_words.specs.Parity.{is_carry}
use Rattle.blitter_area.specs.declared.area.AreaBlit.{AreaBlit}
use Rattle.blitter_area.specs.declared.data_path.Words.{Words}
use Rattle.blitter_area.specs.declared.data_path.Past.{Past}
use Rattle.blitter_area.specs.declared.data_path.Outcome.{Outcome}
use Rattle.blitter_area.specs.Pointing.{AreAt, AllStepRow, lane_a, lane_b, lane_c, lane_d}
use Rattle.blitter_area.specs.Data.{outcome_of}

-- the data registers when so many asks of word j have answers
pub record Holds (w : Words) (s : BlitRegs) (ws : List ℕ) (j place : ℕ) : Type 0 where
  pub of_a : w.a ≡ held_word s ws A j place
  pub of_b : w.b ≡ held_word s ws B j place
  pub of_c : w.c ≡ held_word s ws C j place

-- what the word before word c of row r left; its B does not count where the minterm is A
pub record IsPast (p : Past) (s : BlitRegs) (ws : List ℕ) (r c : ℕ) : Type 0 where
  pub of_a : p.a ≡ previous_a s ws (r * width_of s + c)
  pub of_b : minterms_of s ≢ 240 → p.b ≡ previous_b s ws (r * width_of s + c)
  pub carry : is_filling s ≡ true → p.carry ≡ is_carry (ones_in_row s ws r c)

-- so many asks of the present word have answers, perhaps all
pub record Walks (b : AreaBlit) (s : BlitRegs) (ws : List ℕ) (place : ℕ) : Type 0 where
  pub start : b.start ≡ s
  pub area : is_line s ≡ false
  pub count : length ws ≡ (b.row * width_of s + b.column) * asks_per_word s + place
  pub pointers : AreAt b.pointers s b.row b.column
  pub words : Holds b.words s ws (b.row * width_of s + b.column) place
  pub past : IsPast b.past s ws b.row b.column
  pub zero : (b.results == 0) ≡ are_zero s ws (b.row * width_of s + b.column)

pub record Stands (b : AreaBlit) (s : BlitRegs) (ws : List ℕ) : Type 0 where
  pub walks : Walks b s ws b.place
  pub place : b.place < asks_per_word s

-- the result of the present word, and what it leaves for the next
abbrev pub outcome_now : AreaBlit → Outcome
outcome_now b = outcome_of b.start b.past b.column b.words

abbrev pub shown_ask : AreaBlit → BlitRegs → WordAsk → SlotAsk
shown_ask b s A = S.Read (lane_a b.pointers).at
shown_ask b s B = S.Read (lane_b b.pointers).at
shown_ask b s C = S.Read (lane_c b.pointers).at
shown_ask b s D = S.Write (lane_d b.pointers).at (outcome_of s b.past b.column b.words).word
shown_ask b s Rest = S.Rest

abbrev pub shown_by : AreaBlit → BlitRegs → SlotAsk
shown_by b s = if nat_lt b.row (height_of s) then shown_ask b s (word_ask s b.place) else S.Done

-- the ask that an area blit shows
unfoldable pub shown : AreaBlit → SlotAsk
shown b = shown_by b b.start

abbrev pub aptl_now : AreaBlit → ℕ
aptl_now b = if is_used b.start A then (lane_a b.pointers).at.value % 65536 else b.start.aptl

-- Done comes exactly where each ask of each word has an answer
abbrev pub IsDoneAfterAll : SlotAsk → BlitRegs → List ℕ → Type 0
IsDoneAfterAll ask s ws = (ask ≡ S.Done) ↔ (height_of s * width_of s * asks_per_word s ≤ length ws)

-- a fact about whatever a blit stands for
abbrev pub ForWhatItStands : AreaBlit → (BlitRegs → List ℕ → Type 0) → Type 0
ForWhatItStands b P = (s : BlitRegs) (ws : List ℕ) → Stands b s ws → P s ws

-- what it makes of a blit that all inputs of its word have answers: it stands at the write, or at the next word
abbrev pub EndsInputs : AreaBlit → AreaBlit → Type 0
EndsInputs old new = (s : BlitRegs) (ws : List ℕ) → Walks old s ws (old.place + 1) → old.place < asks_per_word s → Stands new s ws

-- the next row begins behind the last word of one
pub record BeginsRow (old new : AreaBlit) : Type 0 where
  pub start : new.start ≡ old.start
  pub words : new.words ≡ old.words
  pub place : new.place ≡ old.place
  pub results : new.results ≡ old.results
  pub past : new.past ≡ record old.past { carry = is_set old.start.con1 2 }
  pub row : new.row ≡ old.row + 1
  pub column : new.column ≡ 0
  pub pointers : AllStepRow old.pointers new.pointers

-- what the end of a word makes of a blit: with all answers of its word it stands at the next
abbrev pub EndsWord : AreaBlit → AreaBlit → Type 0
EndsWord old new = (s : BlitRegs) (ws : List ℕ) → Walks old s ws (asks_per_word s) → Stands new s ws
