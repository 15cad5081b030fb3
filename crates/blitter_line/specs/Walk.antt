-- What a line blit under way stands for: its registers at the start and the answers so far.
use Rattle.std.specs.Prelude.{◌≡◌, ℕ, ◌+◌, ◌*◌, ◌/◌, ◌<◌, ◌≤◌, ◌↔◌, Bool, true, ◌&&◌, ◌==◌, nat_lt, if◌then◌else◌, List, length}
use Rattle.blit_words.specs.declared.blit.BlitRegs.{BlitRegs}
use Rattle.blit_words.specs.declared.blit.SlotAsk.{SlotAsk}
use Rattle.blit_words.specs.declared.blit.SlotAsk.TheVariants as S
use Rattle.blit_words.specs.BlitWords.{minterm_of}
use Rattle.blit_words.specs.Blit.{is_line, height_of, minterms_of}
use Rattle.blit_words.specs.LineBlit.{uses_source, uses_target, line_point, dot_of, texture_of, source_after, points_are_zero}
use Rattle.blitter_line.specs.declared.line.LineBlit.{LineBlit}

-- so many asks of the present point have answers, perhaps all four
pub record Walks (b : LineBlit) (s : BlitRegs) (ws : List ℕ) (place : ℕ) : Type 0 where
  pub start : b.start ≡ s
  pub line : is_line s ≡ true
  pub count : length ws ≡ 4 * b.count + place
  pub point : b.point ≡ line_point s b.count
  pub source : b.source ≡ source_after s ws ((length ws + 2) / 4)
  pub zero : b.zero ≡ points_are_zero s ws b.count

pub record Stands (b : LineBlit) (s : BlitRegs) (ws : List ℕ) : Type 0 where
  pub walks : Walks b s ws b.place
  pub place : b.place < 4

-- whether the ask at a place reads C
abbrev pub reads_source : BlitRegs → ℕ → Bool
reads_source s place = (place == 1) && uses_source s

-- BLTCDAT after the ask at a place, where a word answers it
abbrev pub source_with : BlitRegs → ℕ → ℕ → ℕ → ℕ
source_with s place word source = if reads_source s place then word else source

-- the result of the present point
abbrev pub word_now : LineBlit → BlitRegs → ℕ
word_now b s = minterm_of (minterms_of s) (dot_of s b.point) (texture_of s b.count) b.source

abbrev pub shown_ask : LineBlit → BlitRegs → SlotAsk
shown_ask b s =
    if reads_source s b.place
    then S.Read b.point.at
    else (if (b.place == 3) && uses_target s then S.Write b.point.at (word_now b s) else S.Rest)

abbrev pub shown_by : LineBlit → BlitRegs → SlotAsk
shown_by b s = if nat_lt b.count (height_of s) then shown_ask b s else S.Done

-- the ask that a line blit shows
unfoldable pub shown : LineBlit → SlotAsk
shown b = shown_by b b.start

-- Done comes exactly where each ask of each point has an answer
abbrev pub IsDoneAfterAll : SlotAsk → BlitRegs → List ℕ → Type 0
IsDoneAfterAll ask s ws = (ask ≡ S.Done) ↔ (4 * height_of s ≤ length ws)

-- a fact about whatever a blit stands for
abbrev pub ForWhatItStands : LineBlit → (BlitRegs → List ℕ → Type 0) → Type 0
ForWhatItStands b P = (s : BlitRegs) (ws : List ℕ) → Stands b s ws → P s ws

-- what the end of a point makes of a blit: with all answers of its point it stands at the next
abbrev pub EndsPoint : LineBlit → LineBlit → Type 0
EndsPoint old new = (s : BlitRegs) (ws : List ℕ) → Walks old s ws 4 → Stands new s ws
