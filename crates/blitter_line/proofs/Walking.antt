-- What a line blit stands for, from ask to ask.
use Rattle.std.proofs.Common.{arith, ◌≡◌, ◌≢◌, inl, inr, ℕ, zero, suc, ◌+◌, ◌*◌, ◌/◌, ◌%◌, ◌<◌, ◌≤◌, Bool, true, false, if◌then◌else◌}
use Rattle.std.proofs.Common.{◌&&◌, nat_eq, nat_lt, nat_le, ◌==◌, List, [], ◌∷◌, ◌++◌, length, get_or, sym, ap, subst, ◌∙◌, refl}
use Rattle.std.proofs.lemmas.Bool.{cases_lt, le-leb, lt-leb}
use Rattle.std.proofs.lemmas.List.{length_push, get_or_append_left, get_or_push}
use Rattle.std.specs.Int.{w16, cast_unsigned}
use Rattle.blit_words.specs.declared.blit.BlitRegs.{BlitRegs}
use Rattle.blit_words.specs.declared.blit.LinePoint.{LinePoint}
use Rattle.blit_words.specs.declared.blit.SlotAsk.{SlotAsk}
use Rattle.blit_words.specs.declared.blit.SlotAsk.TheVariants as S
use Rattle.blit_words.specs.BlitWords.{minterm_of}
use Rattle.blit_words.specs.Blit.{is_line, height_of, minterms_of}
use Rattle.blit_words.specs.AreaBlit.{area_ask, area_zero, area_end}
use Rattle.blit_words.specs.LineBlit.{uses_source, uses_target, first_point, line_point, point_after, dot_of, texture_of}
use Rattle.blit_words.specs.LineBlit.{source_after, point_word, points_are_zero, point_ask, line_ask, line_zero, line_end}
use Rattle.blit_words.specs.Blitter.{blit_ask, is_done, blit_zero, blit_end}
use Rattle.blitter_line.specs.declared.line.LineBlit.{LineBlit}
use Rattle.blitter_line.specs.Walk.{Walks, Stands, IsDoneAfterAll, reads_source, source_with, word_now, shown_ask, shown_by, shown}

lt_true : (a b : ℕ) → a < b → nat_lt a b ≡ true
lt_true a b h = grind arith

lt_false : (a b : ℕ) → b ≤ a → nat_lt a b ≡ false
lt_false a b h = grind arith

-- ---- later answers

source_kept : (s : BlitRegs) (ws : List ℕ) (w k : ℕ) → 4 * k ≤ length ws + 2 → source_after s (ws ++ w ∷ []) k ≡ source_after s ws k
unfolding source_after
source_kept s ws w zero whole = refl
source_kept s ws w (suc k) whole =
    let kept = get_or_append_left ws (w ∷ []) 0 (4 * k + 1) (omega arith) in
    ap (λ (n : ℕ). if uses_source s then n else s.cdat) kept

word_kept : (s : BlitRegs) (ws : List ℕ) (w k : ℕ) → 4 * suc k ≤ length ws → point_word s (ws ++ w ∷ []) k ≡ point_word s ws k
unfolding point_word
word_kept s ws w k whole =
    ap (minterm_of (minterms_of s) (dot_of s (line_point s k)) (texture_of s k)) (source_kept s ws w (suc k) (omega arith))

zero_kept : (s : BlitRegs) (ws : List ℕ) (w k : ℕ) → 4 * k ≤ length ws → points_are_zero s (ws ++ w ∷ []) k ≡ points_are_zero s ws k
unfolding points_are_zero
zero_kept s ws w zero whole = refl
zero_kept s ws w (suc k) whole =
    let own = word_kept s ws w k whole in
    let others = zero_kept s ws w k (omega arith) in
    cc

-- ---- BLTCDAT from ask to ask

-- without USEC it never changes
source_unused : (s : BlitRegs) (ws : List ℕ) (k : ℕ) → uses_source s ≡ false → source_after s ws k ≡ s.cdat
unfolding source_after
source_unused s ws zero unused = refl
source_unused s ws (suc k) unused = ap (λ (u : Bool). if u then get_or ws (4 * k + 1) 0 else s.cdat) unused

source_read : (s : BlitRegs) (ws : List ℕ) (w k : ℕ) → length ws ≡ 4 * k + 1
    → (if uses_source s then w else source_after s ws k) ≡ source_after s (ws ++ w ∷ []) (suc k)
unfolding source_after
source_read s ws w k count =
    let new = get_or_push ws w 0 (4 * k + 1) count in
    elim (uses_source s) as (λ (u : Bool). (u ≡ false → source_after s ws k ≡ s.cdat)
    → (if u then w else source_after s ws k) ≡ (if u then get_or (ws ++ w ∷ []) (4 * k + 1) 0 else s.cdat)) [
      | true ↦ (λ h. sym new)
      | false ↦ (λ h. h refl)
    ] (source_unused s ws k)

source_next : (s : BlitRegs) (ws : List ℕ) (w k p : ℕ) → p < 4 → length ws ≡ 4 * k + p
    → source_with s p w (source_after s ws ((length ws + 2) / 4)) ≡ source_after s (ws ++ w ∷ []) ((length (ws ++ w ∷ []) + 2) / 4)
source_next s ws w k zero low count =
    let pushed = length_push ws w in
    let old : (length ws + 2) / 4 ≡ k = omega arith in
    let new : (length (ws ++ w ∷ []) + 2) / 4 ≡ k = omega (arith, pushed) in
    ap (source_after s ws) old ∙ sym (source_kept s ws w k (omega arith)) ∙ ap (source_after s (ws ++ w ∷ [])) (sym new)
source_next s ws w k (suc zero) low count =
    let pushed = length_push ws w in
    let old : (length ws + 2) / 4 ≡ k = omega arith in
    let new : (length (ws ++ w ∷ []) + 2) / 4 ≡ suc k = omega (arith, pushed) in
    ap (λ (n : ℕ). if uses_source s then w else source_after s ws n) old
    ∙ source_read s ws w k (omega arith)
    ∙ ap (source_after s (ws ++ w ∷ [])) (sym new)
source_next s ws w k (suc (suc zero)) low count =
    let pushed = length_push ws w in
    let old : (length ws + 2) / 4 ≡ suc k = omega arith in
    let new : (length (ws ++ w ∷ []) + 2) / 4 ≡ suc k = omega (arith, pushed) in
    ap (source_after s ws) old ∙ sym (source_kept s ws w (suc k) (omega arith)) ∙ ap (source_after s (ws ++ w ∷ [])) (sym new)
source_next s ws w k (suc (suc (suc zero))) low count =
    let pushed = length_push ws w in
    let old : (length ws + 2) / 4 ≡ suc k = omega arith in
    let new : (length (ws ++ w ∷ []) + 2) / 4 ≡ suc k = omega (arith, pushed) in
    ap (source_after s ws) old ∙ sym (source_kept s ws w (suc k) (omega arith)) ∙ ap (source_after s (ws ++ w ∷ [])) (sym new)
source_next s ws w k (suc (suc (suc (suc p)))) low count = absurd (omega arith)

-- ---- the ask

pub going : (b : LineBlit) → shown b ≢ S.Done → b.count < height_of b.start
unfolding shown
going b more = elim (cases_lt b.count (height_of b.start)) [
  | inl below ↦ below
  | inr above ↦ absurd (more (ap (λ (t : Bool). if t then shown_ask b b.start else S.Done) (lt_false b.count (height_of b.start) above)))
]

pub shown_done : (b : LineBlit) → height_of b.start ≤ b.count → S.Done ≡ shown b
unfolding shown
shown_done b over = sym (ap (λ (t : Bool). if t then shown_ask b b.start else S.Done) (lt_false b.count (height_of b.start) over))

pub shown_going : (b : LineBlit) → b.count < height_of b.start → shown_ask b b.start ≡ shown b
unfolding shown
shown_going b below = sym (ap (λ (t : Bool). if t then shown_ask b b.start else S.Done) (lt_true b.count (height_of b.start) below))

points_are : (b : LineBlit) (s : BlitRegs) (ws : List ℕ) → Stands b s ws → length ws / 4 ≡ b.count
points_are b s ws h = omega (arith, h.walks.count, h.place)

place_is : (b : LineBlit) (s : BlitRegs) (ws : List ℕ) → Stands b s ws → length ws % 4 ≡ b.place
place_is b s ws h = omega (arith, h.walks.count, h.place)

-- once C was read, the result is that of the point
word_is : (b : LineBlit) (s : BlitRegs) (ws : List ℕ) (p : ℕ) → Walks b s ws p → 2 ≤ p → p < 5 → word_now b s ≡ point_word s ws b.count
unfolding point_word
word_is b s ws p h read low =
    let n : (length ws + 2) / 4 ≡ suc b.count = omega (arith, h.count) in
    ap (λ (x : LinePoint). minterm_of (minterms_of s) (dot_of s x) (texture_of s b.count) b.source) h.point
    ∙ ap (minterm_of (minterms_of s) (dot_of s (line_point s b.count)) (texture_of s b.count)) (h.source ∙ ap (source_after s ws) n)

same_ask : (b : LineBlit) (s : BlitRegs) (ws : List ℕ) → Walks b s ws b.place → (p : ℕ) → b.place ≡ p → p < 4
    → (if nat_eq p 1 && uses_source s
    then S.Read b.point.at
    else (if nat_eq p 3 && uses_target s then S.Write b.point.at (word_now b s) else S.Rest))
    ≡ point_ask s ws b.count p
same_ask b s ws h zero is low = refl
same_ask b s ws h (suc zero) is low = ap (λ (x : LinePoint). if uses_source s then S.Read x.at else S.Rest) h.point
same_ask b s ws h (suc (suc zero)) is low = refl
same_ask b s ws h (suc (suc (suc zero))) is low =
    ap (λ (x : LinePoint). if uses_target s then S.Write x.at (word_now b s) else S.Rest) h.point
    ∙ ap (λ (n : ℕ). if uses_target s then S.Write (line_point s b.count).at n else S.Rest) (word_is b s ws b.place h (omega arith) (omega arith))
same_ask b s ws h (suc (suc (suc (suc p)))) is low = absurd (omega arith)

line_asks : (s : BlitRegs) (ws : List ℕ) → is_line s ≡ true → blit_ask s ws ≡ line_ask s ws
unfolding blit_ask
line_asks s ws line = ap (λ (l : Bool). if l then line_ask s ws else area_ask s ws) line

pub shows : (b : LineBlit) (s : BlitRegs) (ws : List ℕ) → Stands b s ws → shown b ≡ blit_ask s ws
unfolding shown line_ask
shows b s ws h =
    ap (shown_by b) h.walks.start
    ∙ ap (λ (a : SlotAsk). if nat_lt b.count (height_of s) then a else S.Done) (same_ask b s ws h.walks b.place refl h.place)
    ∙ ap (λ (n : ℕ). if nat_lt n (height_of s) then point_ask s ws n b.place else S.Done) (sym (points_are b s ws h))
    ∙ ap (λ (p : ℕ). if nat_lt (length ws / 4) (height_of s) then point_ask s ws (length ws / 4) p else S.Done) (sym (place_is b s ws h))
    ∙ sym (line_asks s ws h.walks.line)

-- ---- BZERO and the registers

pub zero_is : (b : LineBlit) (s : BlitRegs) (ws : List ℕ) → Stands b s ws → b.zero ≡ blit_zero s ws
unfolding blit_zero line_zero
zero_is b s ws h =
    h.walks.zero
    ∙ ap (points_are_zero s ws) (sym (points_are b s ws h))
    ∙ sym (ap (λ (l : Bool). if l then line_zero s ws else area_zero s ws) h.walks.line)

abbrev pub left : BlitRegs → LinePoint → ℕ → BlitRegs
left s p source = record s { cpt = p.at; dpt = p.at; aptl = cast_unsigned w16 p.sum; cdat = source }

pub end_is : (b : LineBlit) (s : BlitRegs) (ws : List ℕ) → Stands b s ws → left b.start b.point b.source ≡ blit_end s ws
unfolding blit_end line_end
end_is b s ws h =
    ap (λ (r : BlitRegs). left r b.point b.source) h.walks.start
    ∙ ap (λ (p : LinePoint). left s p b.source) h.walks.point
    ∙ ap (λ (k : ℕ). left s (line_point s k) b.source) (sym (points_are b s ws h))
    ∙ ap (left s (line_point s (length ws / 4))) h.walks.source
    ∙ sym (ap (λ (l : Bool). if l then line_end s ws else area_end s ws) h.walks.line)

-- ---- an answer

-- a blit that took an answer, of which BLTCDAT alone is new
pub record HasTaken (b b' : LineBlit) (w : ℕ) : Type 0 where
  pub start : b'.start ≡ b.start
  pub point : b'.point ≡ b.point
  pub count : b'.count ≡ b.count
  pub zero : b'.zero ≡ b.zero
  pub source : b'.source ≡ source_with b.start b.place w b.source

pub answered : (b b' : LineBlit) (s : BlitRegs) (ws : List ℕ) (w : ℕ) → Stands b s ws → HasTaken b b' w → Walks b' s (ws ++ w ∷ []) (b.place + 1)
answered b b' s ws w h taken =
    let count = h.walks.count in
    record {
      start = taken.start ∙ h.walks.start;
      line = h.walks.line;
      count = omega (arith, length_push ws w, count, taken.count);
      point = taken.point ∙ h.walks.point ∙ ap (line_point s) (sym taken.count);
      source =
          taken.source
          ∙ ap (λ (r : BlitRegs). source_with r b.place w b.source) h.walks.start
          ∙ ap (source_with s b.place w) h.walks.source
          ∙ source_next s ws w b.count b.place h.place count;
      zero =
          taken.zero ∙ h.walks.zero ∙ sym (zero_kept s ws w b.count (omega arith))
          ∙ ap (points_are_zero s (ws ++ w ∷ [])) (sym taken.count);
    }

pub answered_all : (b b' : LineBlit) (s : BlitRegs) (ws : List ℕ) (w : ℕ) → Stands b s ws → HasTaken b b' w → 3 ≤ b.place → Walks b' s (ws ++ w ∷ []) 4
answered_all b b' s ws w h taken last =
    let e : b.place + 1 ≡ 4 = omega (arith, h.place) in
    subst (λ (p : ℕ). Walks b' s (ws ++ w ∷ []) p) e (answered b b' s ws w h taken)

-- ---- the end of a point

pub record HasEnded (b b' : LineBlit) : Type 0 where
  pub start : b'.start ≡ b.start
  pub source : b'.source ≡ b.source
  pub place : b'.place ≡ 0
  pub count : b'.count ≡ b.count + 1
  pub zero : b'.zero ≡ (b.zero && word_now b b.start == 0)
  pub point : b'.point ≡ point_after b.start b.point

pub ended : (b b' : LineBlit) (s : BlitRegs) (ws : List ℕ) → Walks b s ws 4 → HasEnded b b' → Stands b' s ws
unfolding points_are_zero line_point
ended b b' s ws h e =
    let next : b'.count ≡ suc b.count = omega (arith, e.count) in
    let word : word_now b b.start ≡ point_word s ws b.count = ap (word_now b) h.start ∙ word_is b s ws 4 h (omega arith) (omega arith) in
    record {
      walks = record {
        start = e.start ∙ h.start;
        line = h.line;
        count = omega (arith, h.count, next, e.place);
        point =
            e.point ∙ ap (λ (r : BlitRegs). point_after r b.point) h.start ∙ ap (point_after s) h.point
            ∙ ap (line_point s) (sym next);
        source = e.source ∙ h.source;
        zero =
            e.zero ∙ ap (λ (z : Bool). z && word_now b b.start == 0) h.zero
            ∙ ap (λ (x : ℕ). points_are_zero s ws b.count && x == 0) word
            ∙ ap (points_are_zero s ws) (sym next);
      };
      place = omega (arith, e.place);
    }

-- ---- the begin

pub begun : (b : LineBlit) → is_line b.start ≡ true → b.point ≡ first_point b.start → b.source ≡ b.start.cdat → b.zero ≡ true → b.count ≡ 0 → b.place ≡ 0
    → Stands b b.start []
unfolding line_point source_after points_are_zero
begun b line point source all_zero count place = record {
  walks = record {
    start = refl;
    line = line;
    count = omega (arith, count, place);
    point = point ∙ ap (line_point b.start) (sym count);
    source = source;
    zero = all_zero ∙ ap (points_are_zero b.start []) (sym count);
  };
  place = omega (arith, place);
}

-- ---- the end of all points

not_done : (b : LineBlit) (s : BlitRegs) → shown_ask b s ≡ S.Done → ⊥
not_done b s h = elim ((b.place == 1) && uses_source s) as (λ (t : Bool).
    (if t
    then S.Read b.point.at
    else (if (b.place == 3) && uses_target s then S.Write b.point.at (word_now b s) else S.Rest)) ≡ S.Done → ⊥) [
      | true ↦ (λ e. cc)
      | false ↦
          (elim ((b.place == 3) && uses_target s) as (λ (t : Bool). (if t then S.Write b.point.at (word_now b s) else S.Rest) ≡ S.Done → ⊥) [
            | true ↦ (λ e. cc)
            | false ↦ (λ e. cc)
          ])
    ] h

done_count : (b : LineBlit) → shown b ≡ S.Done → height_of b.start ≤ b.count
done_count b done = elim (cases_lt b.count (height_of b.start)) [
  | inl below ↦ absurd (not_done b b.start (shown_going b below ∙ done))
  | inr above ↦ above
]

pub done_after_all : (b : LineBlit) (s : BlitRegs) (ws : List ℕ) → Stands b s ws → IsDoneAfterAll (shown b) s ws
done_after_all b s ws h =
    let count = h.walks.count in
    let place = h.place in
    let height : height_of b.start ≡ height_of s = ap height_of h.walks.start in
    record {
      0 = λ done. let over = done_count b done in omega (arith, over, height, count);
      1 = λ all.
          let over : height_of b.start ≤ b.count = omega (arith, all, height, count, place) in
          sym (shown_done b over);
    }

-- ---- whether the blit has ended

asks_on : (b : LineBlit) (s : BlitRegs) → is_done (shown_ask b s) ≡ false
asks_on b s = elim (reads_source s b.place) as (λ (t : Bool).
    is_done (if t
    then S.Read b.point.at
    else (if (b.place == 3) && uses_target s then S.Write b.point.at (word_now b s) else S.Rest)) ≡ false) [
      | true ↦ refl
      | false ↦
          (elim ((b.place == 3) && uses_target s) as (λ (t : Bool). is_done (if t then S.Write b.point.at (word_now b s) else S.Rest) ≡ false) [
            | true ↦ refl
            | false ↦ refl
          ])
    ]

-- before its last point's end it goes on
pub goes_on : (b : LineBlit) → b.count < height_of b.start → false ≡ is_done (shown b)
goes_on b below = sym (asks_on b b.start) ∙ ap is_done (shown_going b below)

-- it has ended exactly where the count is at the height
pub done_is : (b : LineBlit) (h : ℕ) → h ≡ height_of b.start → nat_le h b.count ≡ is_done (shown b)
done_is b h height = elim (cases_lt b.count h) [
  | inl below ↦
      let left : b.count < height_of b.start = omega (arith, below, height) in
      lt-leb h b.count below ∙ sym (asks_on b b.start) ∙ ap is_done (shown_going b left)
  | inr above ↦
      let over : height_of b.start ≤ b.count = omega (arith, above, height) in
      le-leb h b.count above ∙ ap is_done (shown_done b over)
]

pub height_most : (s : BlitRegs) → s.size < 65536 → height_of s ≤ 1024
unfolding height_of
height_most s low = grind arith
