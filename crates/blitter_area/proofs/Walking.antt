-- What an area blit stands for, from ask to ask.
use Rattle.std.proofs.Common.{arith, ◌≡◌, ◌≢◌, inl, inr, ℕ, zero, suc, bit_or, ◌+◌, ◌*◌, ◌/◌, ◌%◌, ◌<◌, ◌≤◌, Bool, true, false, if◌then◌else◌}
use Rattle.std.proofs.Common.{◌&&◌, nat_lt, nat_le, ◌==◌, List, [], ◌∷◌, ◌++◌, length, sym, ap, subst, ◌∙◌, refl}
use Rattle.std.proofs.Math.Nat.{mul-le-mul_right}
use Rattle.std.proofs.lemmas.Bool.{cases_lt, cases_eq, le-leb, lt-leb}
use Rattle.std.proofs.lemmas.List.{length_push}
use Rattle.std.proofs.lemmas.Nat.{div-mul-add, mod-mul-add, le_or_l}
use Rattle.std.proofs.lemmas.Bool.Decides.{nat_tests}
use Rattle.ocs_base.specs.declared.addr.Addr.{Addr}
use Rattle.blit_words.specs.declared.blit.BlitRegs.{BlitRegs}
use Rattle.blit_words.specs.declared.blit.SlotAsk.{SlotAsk}
use Rattle.blit_words.specs.declared.blit.SlotAsk.TheVariants as S
use Rattle.blit_words.specs.declared.blit.WordAsk.{WordAsk}
use Rattle.blit_words.specs.declared.blit.WordAsk.TheVariants.{A, B, C, D, Rest}
use Rattle.blit_words.specs.BlitWords.{is_set}
use Rattle.blit_words.specs.Blit.{is_line, height_of, width_of, minterms_of}
use Rattle.blit_words.specs.AreaBlit.{asks_per_word, word_ask, code_of, is_same, is_used, is_filling, previous_a, previous_b, ones_in_row}
use Rattle.blit_words.specs.AreaBlit.{are_zero, ask_of, ask_at, area_ask, area_zero, area_end, held_word, address_of}
use Rattle.blit_words.specs.LineBlit.{line_ask, line_zero, line_end}
use Rattle.blit_words.specs.Blitter.{blit_ask, is_done, blit_zero, blit_end}
use Rattle.blit_words.specs.Parity.{is_carry}
use Rattle.blitter_area.specs.declared.area.AreaBlit.{AreaBlit}
use Rattle.blitter_area.specs.declared.data_path.Words.{Words}
use Rattle.blitter_area.specs.declared.data_path.Past.{Past}
use Rattle.blitter_area.specs.declared.data_path.Outcome.{Outcome}
use Rattle.blitter_area.specs.declared.channel.Pointers.{Pointers}
use Rattle.blitter_area.specs.Pointing.{AreAt, lane_a, lane_b, lane_c, lane_d}
use Rattle.blitter_area.specs.Data.{words_with, outcome_of, past_after}
use Rattle.blitter_area.specs.Path.{outcome_with}
use Rattle.blitter_area.specs.Row.{ask_in_row}
use Rattle.blitter_area.specs.Walk.{Holds, IsPast, Walks, Stands, shown, IsDoneAfterAll, shown_by, shown_ask, outcome_now, aptl_now}
use Rattle.blitter_area.proofs.Moves.{address_at}
use Rattle.blitter_area.proofs.Rows.{place_within, writes_last, some_asks, copied_asks, copied_write}
use Rattle.blitter_area.proofs.Held.{held_next, held_read, held_first, held_begin, previous_a_kept, previous_b_kept, ones_kept, zero_kept, lt_false, lt_true}
use Rattle.blitter_area.proofs.Results.{AreInputs, outcome_word, outcome_a, outcome_b, outcome_carry, first_carry, ready_outcome}
use Rattle.blitter_area.proofs.Copies.{copied_alike}

-- ---- where a blit stands

column_below : (b : AreaBlit) (s : BlitRegs) → b.start ≡ s → b.column < width_of s
column_below b s start = subst (λ (r : BlitRegs). b.column < width_of r) start b.column_inside

pub words_are : (b : AreaBlit) (s : BlitRegs) (ws : List ℕ) → Stands b s ws → length ws / asks_per_word s ≡ b.row * width_of s + b.column
words_are b s ws h =
    ap (λ (n : ℕ). n / asks_per_word s) h.walks.count ∙ div-mul-add (b.row * width_of s + b.column) (asks_per_word s) b.place h.place

pub place_is : (b : AreaBlit) (s : BlitRegs) (ws : List ℕ) → Stands b s ws → length ws % asks_per_word s ≡ b.place
place_is b s ws h =
    ap (λ (n : ℕ). n % asks_per_word s) h.walks.count ∙ mod-mul-add (b.row * width_of s + b.column) (asks_per_word s) b.place h.place

pub row_is : (b : AreaBlit) (s : BlitRegs) (ws : List ℕ) → Stands b s ws → length ws / asks_per_word s / width_of s ≡ b.row
row_is b s ws h =
    ap (λ (n : ℕ). n / width_of s) (words_are b s ws h) ∙ div-mul-add b.row (width_of s) b.column (column_below b s h.walks.start)

pub column_is : (b : AreaBlit) (s : BlitRegs) (ws : List ℕ) → Stands b s ws → length ws / asks_per_word s % width_of s ≡ b.column
column_is b s ws h =
    ap (λ (n : ℕ). n % width_of s) (words_are b s ws h) ∙ mod-mul-add b.row (width_of s) b.column (column_below b s h.walks.start)

-- ---- the ask

pub going : (b : AreaBlit) → shown b ≢ S.Done → b.row < height_of b.start
unfolding shown
going b more = elim (cases_lt b.row (height_of b.start)) [
  | inl below ↦ below
  | inr above ↦
      absurd (more (ap (λ (t : Bool). if t then shown_ask b b.start (word_ask b.start b.place) else S.Done)
      (lt_false b.row (height_of b.start) above)))
]

inputs_at : (b : AreaBlit) (s : BlitRegs) (ws : List ℕ) (place : ℕ) → Walks b s ws place → place < asks_per_word s → word_ask s place ≡ D
    → AreInputs b.words s ws (b.row * width_of s + b.column)
inputs_at b s ws place h low writes =
    let j : ℕ = b.row * width_of s + b.column in
    record {
      of_a = h.words.of_a ∙ held_read s ws A j place (writes_last s A place refl low writes);
      of_b = h.words.of_b ∙ held_read s ws B j place (writes_last s B place refl low writes);
      of_c = h.words.of_c ∙ held_read s ws C j place (writes_last s C place refl low writes);
    }

same_ask : (b : AreaBlit) (s : BlitRegs) (ws : List ℕ) → Stands b s ws → (k : WordAsk) → word_ask s b.place ≡ k
    → shown_ask b s k ≡ ask_of s ws b.row b.column k
same_ask b s ws h A is = ap S.Read (address_at s A b.row b.column (lane_a b.pointers) h.walks.pointers.of_a)
same_ask b s ws h B is = ap S.Read (address_at s B b.row b.column (lane_b b.pointers) h.walks.pointers.of_b)
same_ask b s ws h C is = ap S.Read (address_at s C b.row b.column (lane_c b.pointers) h.walks.pointers.of_c)
same_ask b s ws h D is =
    let inside = column_below b s h.walks.start in
    let inputs = inputs_at b s ws b.place h.walks h.place is in
    ap (λ (a : Addr). S.Write a (outcome_of s b.past b.column b.words).word) (address_at s D b.row b.column (lane_d b.pointers) h.walks.pointers.of_d)
    ∙ ap (λ (n : ℕ). S.Write (address_of s D b.row b.column) n) (outcome_word s ws b.row b.column b.words b.past inside inputs h.walks.past)
same_ask b s ws h Rest is = refl

shows_at : (b : AreaBlit) (s : BlitRegs) (ws : List ℕ) → Stands b s ws → shown_by b s ≡ ask_at s ws b.row b.column b.place
unfolding ask_at
shows_at b s ws h =
    ap (λ (a : SlotAsk). if nat_lt b.row (height_of s) then a else S.Done) (same_ask b s ws h (word_ask s b.place) refl)

area_asks : (s : BlitRegs) (ws : List ℕ) → is_line s ≡ false → blit_ask s ws ≡ area_ask s ws
unfolding blit_ask
area_asks s ws area = ap (λ (l : Bool). if l then line_ask s ws else area_ask s ws) area

pub shows : (b : AreaBlit) (s : BlitRegs) (ws : List ℕ) → Stands b s ws → shown b ≡ blit_ask s ws
unfolding shown area_ask
shows b s ws h =
    let r = row_is b s ws h in
    let c = column_is b s ws h in
    let p = place_is b s ws h in
    ap (shown_by b) h.walks.start
    ∙ shows_at b s ws h
    ∙ ap (λ (n : ℕ). ask_at s ws n b.column b.place) (sym r)
    ∙ ap (λ (n : ℕ). ask_at s ws (length ws / asks_per_word s / width_of s) n b.place) (sym c)
    ∙ ap (λ (n : ℕ). ask_at s ws (length ws / asks_per_word s / width_of s) (length ws / asks_per_word s % width_of s) n) (sym p)
    ∙ sym (area_asks s ws h.walks.area)

-- ---- BZERO and the registers

pub zero_is : (b : AreaBlit) (s : BlitRegs) (ws : List ℕ) → Stands b s ws → (b.results == 0) ≡ blit_zero s ws
unfolding blit_zero area_zero
zero_is b s ws h =
    h.walks.zero
    ∙ ap (are_zero s ws) (sym (words_are b s ws h))
    ∙ sym (ap (λ (l : Bool). if l then line_zero s ws else area_zero s ws) h.walks.area)

abbrev pub left : BlitRegs → Words → Addr → Addr → Addr → Addr → ℕ → BlitRegs
left s w a b c d aptl = record s { apt = a; bpt = b; cpt = c; dpt = d; aptl = aptl; adat = w.a; bdat = w.b; cdat = w.c }

abbrev end_at : BlitRegs → List ℕ → ℕ → ℕ → ℕ → ℕ → BlitRegs
end_at s ws j p r c =
    left s (record { a = held_word s ws A j p; b = held_word s ws B j p; c = held_word s ws C j p }) (address_of s A r c) (address_of s B r c)
    (address_of s C r c) (address_of s D r c) (if is_used s A then (address_of s A r c).value % 65536 else s.aptl)

end_here : (b : AreaBlit) (s : BlitRegs) (ws : List ℕ) → Stands b s ws
    → area_end s ws ≡ end_at s ws (b.row * width_of s + b.column) b.place b.row b.column
unfolding area_end
end_here b s ws h =
    let n : ℕ = length ws / asks_per_word s in
    ap (λ (x : ℕ). end_at s ws n (length ws % asks_per_word s) x (n % width_of s)) (row_is b s ws h)
    ∙ ap (λ (x : ℕ). end_at s ws n (length ws % asks_per_word s) b.row x) (column_is b s ws h)
    ∙ ap (λ (x : ℕ). end_at s ws n x b.row b.column) (place_is b s ws h)
    ∙ ap (λ (x : ℕ). end_at s ws x b.place b.row b.column) (words_are b s ws h)

left_here : (b : AreaBlit) (s : BlitRegs) (ws : List ℕ) → Stands b s ws
    → left b.start b.words (lane_a b.pointers).at (lane_b b.pointers).at (lane_c b.pointers).at (lane_d b.pointers).at (aptl_now b)
    ≡ end_at s ws (b.row * width_of s + b.column) b.place b.row b.column
left_here b s ws h =
    let x = b.pointers in
    let j : ℕ = b.row * width_of s + b.column in
    let held : Words = record { a = held_word s ws A j b.place; b = held_word s ws B j b.place; c = held_word s ws C j b.place } in
    let words : b.words ≡ held = λ i. record { a = h.walks.words.of_a i; b = h.walks.words.of_b i; c = h.walks.words.of_c i } in
    let low : BlitRegs → Addr → ℕ = λ r a. if is_used r A then a.value % 65536 else r.aptl in
    ap (λ (r : BlitRegs). left r b.words (lane_a x).at (lane_b x).at (lane_c x).at (lane_d x).at (low r (lane_a x).at)) h.walks.start
    ∙ ap (λ (w : Words). left s w (lane_a x).at (lane_b x).at (lane_c x).at (lane_d x).at (low s (lane_a x).at)) words
    ∙ ap (λ (a : Addr). left s held a (lane_b x).at (lane_c x).at (lane_d x).at (low s a)) (address_at s A b.row b.column (lane_a x) h.walks.pointers.of_a)
    ∙ ap (λ (a : Addr). left s held (address_of s A b.row b.column) a (lane_c x).at (lane_d x).at (low s (address_of s A b.row b.column)))
    (address_at s B b.row b.column (lane_b x) h.walks.pointers.of_b)
    ∙ ap (λ (a : Addr). left s held (address_of s A b.row b.column) (address_of s B b.row b.column) a (lane_d x).at (low s (address_of s A b.row b.column)))
    (address_at s C b.row b.column (lane_c x) h.walks.pointers.of_c)
    ∙ ap (λ (a : Addr).
    left s held (address_of s A b.row b.column) (address_of s B b.row b.column) (address_of s C b.row b.column) a
    (low s (address_of s A b.row b.column)))
    (address_at s D b.row b.column (lane_d x) h.walks.pointers.of_d)

pub end_is : (b : AreaBlit) (s : BlitRegs) (ws : List ℕ) → Stands b s ws
    → left b.start b.words (lane_a b.pointers).at (lane_b b.pointers).at (lane_c b.pointers).at (lane_d b.pointers).at (aptl_now b) ≡ blit_end s ws
unfolding blit_end
end_is b s ws h =
    left_here b s ws h
    ∙ sym (end_here b s ws h)
    ∙ sym (ap (λ (l : Bool). if l then line_end s ws else area_end s ws) h.walks.area)

-- ---- an answer

-- a blit that took an answer, of which the data registers alone are new
pub record HasTaken (b b' : AreaBlit) (w : ℕ) : Type 0 where
  pub start : b'.start ≡ b.start
  pub row : b'.row ≡ b.row
  pub column : b'.column ≡ b.column
  pub pointers : b'.pointers ≡ b.pointers
  pub past : b'.past ≡ b.past
  pub results : b'.results ≡ b.results
  pub words : b'.words ≡ words_with (word_ask b.start b.place) w b.words

taken_a : (k : WordAsk) (w : ℕ) (old : Words) → (words_with k w old).a ≡ (if is_same A k then w else old.a)
taken_a A w old = refl
taken_a B w old = refl
taken_a C w old = refl
taken_a D w old = refl
taken_a Rest w old = refl

taken_b : (k : WordAsk) (w : ℕ) (old : Words) → (words_with k w old).b ≡ (if is_same B k then w else old.b)
taken_b A w old = refl
taken_b B w old = refl
taken_b C w old = refl
taken_b D w old = refl
taken_b Rest w old = refl

taken_c : (k : WordAsk) (w : ℕ) (old : Words) → (words_with k w old).c ≡ (if is_same C k then w else old.c)
taken_c A w old = refl
taken_c B w old = refl
taken_c C w old = refl
taken_c D w old = refl
taken_c Rest w old = refl

holds_next : (s : BlitRegs) (ws : List ℕ) (w : ℕ) (old : Words) (j p : ℕ) → p < asks_per_word s → length ws ≡ j * asks_per_word s + p
    → Holds old s ws j p
    → Holds (words_with (word_ask s p) w old) s (ws ++ w ∷ []) j (p + 1)
holds_next s ws w old j p low count h =
    let k = word_ask s p in
    record {
      of_a =
          taken_a k w old ∙ ap (λ (n : ℕ). if is_same A k then w else n) h.of_a
          ∙ held_next s ws w A j p low count;
      of_b =
          taken_b k w old ∙ ap (λ (n : ℕ). if is_same B k then w else n) h.of_b
          ∙ held_next s ws w B j p low count;
      of_c =
          taken_c k w old ∙ ap (λ (n : ℕ). if is_same C k then w else n) h.of_c
          ∙ held_next s ws w C j p low count;
    }

-- all but the data registers is as it was
pub answered : (b b' : AreaBlit) (s : BlitRegs) (ws : List ℕ) (w : ℕ) → Stands b s ws → HasTaken b b' w → Walks b' s (ws ++ w ∷ []) (b.place + 1)
answered b b' s ws w h taken =
    let at : ℕ → ℕ → ℕ = λ r c. r * width_of s + c in
    let j : ℕ = b.row * width_of s + b.column in
    let count = h.walks.count in
    let before : j * asks_per_word s ≤ length ws = omega arith in
    let j' : b'.row * width_of s + b'.column ≡ j =
    ap (λ (r : ℕ). r * width_of s + b'.column) taken.row ∙ ap (λ (c : ℕ). b.row * width_of s + c) taken.column in
    record {
      start = taken.start ∙ h.walks.start;
      area = h.walks.area;
      count =
          length_push ws w
          ∙ let n : (b'.row * width_of s + b'.column) * asks_per_word s ≡ j * asks_per_word s = ap (λ (x : ℕ). x * asks_per_word s) j' in omega arith;
      pointers =
          subst (λ (r : ℕ). AreAt b'.pointers s r b'.column) (sym taken.row)
          (subst (λ (c : ℕ). AreAt b'.pointers s b.row c) (sym taken.column)
          (subst (λ (x : Pointers). AreAt x s b.row b.column) (sym taken.pointers) h.walks.pointers));
      words =
          subst (λ (n : ℕ). Holds b'.words s (ws ++ w ∷ []) n (b.place + 1)) (sym j')
          (subst (λ (x : Words). Holds x s (ws ++ w ∷ []) j (b.place + 1)) (sym taken.words)
          (subst (λ (r : BlitRegs). Holds (words_with (word_ask r b.place) w b.words) s (ws ++ w ∷ []) j (b.place + 1)) (sym h.walks.start)
          (holds_next s ws w b.words j b.place h.place count h.walks.words)));
      past =
          subst (λ (r : ℕ). IsPast b'.past s (ws ++ w ∷ []) r b'.column) (sym taken.row)
          (subst (λ (c : ℕ). IsPast b'.past s (ws ++ w ∷ []) b.row c) (sym taken.column)
          (subst (λ (x : Past). IsPast x s (ws ++ w ∷ []) b.row b.column) (sym taken.past) (record {
            of_a = h.walks.past.of_a ∙ sym (previous_a_kept s ws w j before);
            of_b = λ other. h.walks.past.of_b other ∙ sym (previous_b_kept s ws w j before);
            carry = λ fills. h.walks.past.carry fills ∙ ap is_carry (sym (ones_kept s ws w b.row b.column before));
          })));
      zero =
          ap (λ (n : ℕ). n == 0) taken.results ∙ h.walks.zero ∙ sym (zero_kept s ws w j before)
          ∙ ap (are_zero s (ws ++ w ∷ [])) (sym j');
    }

pub not_both : true ≡ false → ⊥
not_both h = cc

-- above its last row's end the present ask is that of its place
pub asked : (s : BlitRegs) (row place : ℕ) → row < height_of s → ask_in_row s row place ≡ word_ask s place
asked s row place below = ap (λ (t : Bool). if t then word_ask s place else Rest) (lt_true row (height_of s) below)

pub asked_is : (b : AreaBlit) → b.row < height_of b.start → b.ask ≡ word_ask b.start b.place
asked_is b below = b.ask_is ∙ asked b.start b.row b.place below

-- an ask of a copy that is not its write is the first
pub copied_place : (b : AreaBlit) (s : BlitRegs) (ws : List ℕ) → Stands b s ws → code_of b.start ≡ 9 → b.row < height_of b.start → b.ask ≢ D
    → b.place ≡ 0
copied_place b s ws h code below reads =
    let asks : asks_per_word s ≡ 2 = sym (ap asks_per_word h.walks.start) ∙ copied_asks b.start code in
    let low = h.place in
    elim (cases_eq b.place 1) [
      | inl second ↦ absurd (reads (asked_is b below ∙ ap (word_ask b.start) second ∙ copied_write b.start code))
      | inr other ↦ omega (arith, asks, low, other)
    ]

-- with its word the copy stands at its write
pub copied_on : (b b' : AreaBlit) (s : BlitRegs) (ws : List ℕ) (w : ℕ) → Stands b s ws → code_of b.start ≡ 9 → b.row < height_of b.start → b.ask ≢ D
    → (b.place ≡ 0 → HasTaken b b' w)
    → b'.place ≡ 1
    → Stands b' s (ws ++ w ∷ [])
copied_on b b' s ws w h code below reads taken second =
    let first = copied_place b s ws h code below reads in
    let asks : asks_per_word s ≡ 2 = sym (ap asks_per_word h.walks.start) ∙ copied_asks b.start code in
    let next : b.place + 1 ≡ b'.place = omega (arith, first, second) in
    record {
      walks = subst (λ (p : ℕ). Walks b' s (ws ++ w ∷ []) p) next (answered b b' s ws w h (taken first));
      place = omega (arith, asks, second);
    }

-- ---- the end of a word

zero_or : (m n : ℕ) → (bit_or m n == 0) ≡ ((m == 0) && (n == 0))
zero_or zero n = refl
zero_or (suc m) n = let low = le_or_l (suc m) n in grind (arith, nat_tests)

all_inputs : (b : AreaBlit) (s : BlitRegs) (ws : List ℕ) → Walks b s ws (asks_per_word s) → AreInputs b.words s ws (b.row * width_of s + b.column)
all_inputs b s ws h =
    let j : ℕ = b.row * width_of s + b.column in
    record {
      of_a = h.words.of_a ∙ held_read s ws A j (asks_per_word s) (place_within s A);
      of_b = h.words.of_b ∙ held_read s ws B j (asks_per_word s) (place_within s B);
      of_c = h.words.of_c ∙ held_read s ws C j (asks_per_word s) (place_within s C);
    }

-- a blit that ended a word, and now stands at one in another place
pub record HasEnded (b b' : AreaBlit) : Type 0 where
  pub start : b'.start ≡ b.start
  pub words : b'.words ≡ b.words
  pub place : b'.place ≡ 0
  pub results : b'.results ≡ bit_or b.results (outcome_now b).word
  pub past_a : b'.past.a ≡ (outcome_now b).past.a
  pub past_b : minterms_of b.start ≢ 240 → b'.past.b ≡ (outcome_now b).past.b

next_holds : (b : AreaBlit) (s : BlitRegs) (ws : List ℕ) → Walks b s ws (asks_per_word s) → Holds b.words s ws (suc (b.row * width_of s + b.column)) 0
next_holds b s ws h =
    let j : ℕ = b.row * width_of s + b.column in
    let inputs = all_inputs b s ws h in
    record {
      of_a = inputs.of_a ∙ sym (held_first s ws A j);
      of_b = inputs.of_b ∙ sym (held_first s ws B j);
      of_c = inputs.of_c ∙ sym (held_first s ws C j);
    }

-- what the code leaves of a word, of which the result is ready, and where it was not copied what it leaves
pub record IsReady (b : AreaBlit) : Type 0 where
  pub word : b.ready.word ≡ (outcome_now b).word
  pub past : b.path.copies ≡ false → b.ready.past ≡ (outcome_now b).past

abbrev left_of : AreaBlit → Bool → Past
left_of b copies = past_after copies b.past b.ready

pub left_a : (b : AreaBlit) → IsReady b → b.past.a < 65536 → b.words.a < 65536 → (left_of b b.path.copies).a ≡ (outcome_now b).past.a
left_a b is before_low low = elim b.path.copies as (λ (k : Bool). b.path.copies ≡ k → (left_of b k).a ≡ (outcome_now b).past.a) [
  | true ↦ (λ copies.
      let alike = copied_alike b.path b.past b.column b.words copies before_low low in
      let made : outcome_with b.path b.past b.column b.words ≡ outcome_now b = ready_outcome b.path b.start b.past b.column b.words b.path_is in
      is.word ∙ sym (ap (λ (o : Outcome). o.word) made) ∙ alike.0 ∙ sym alike.1 ∙ ap (λ (o : Outcome). o.past.a) made)
  | false ↦ (λ mixes. ap (λ (p : Past). p.a) (is.past mixes))
] refl

pub left_b : (b : AreaBlit) → IsReady b → minterms_of b.start ≢ 240 → (left_of b b.path.copies).b ≡ (outcome_now b).past.b
left_b b is other = elim b.path.copies as (λ (k : Bool). b.path.copies ≡ k → (left_of b k).b ≡ (outcome_now b).past.b) [
  | true ↦ (λ copies. absurd (other (sym b.path_is.minterms ∙ (b.path.copies_is copies).minterm)))
  | false ↦ (λ mixes. ap (λ (p : Past). p.b) (is.past mixes))
] refl

pub left_carry : (b : AreaBlit) → IsReady b → is_filling b.start ≡ true → (left_of b b.path.copies).carry ≡ (outcome_now b).past.carry
left_carry b is fills = elim b.path.copies as (λ (k : Bool). b.path.copies ≡ k → (left_of b k).carry ≡ (outcome_now b).past.carry) [
  | true ↦ (λ copies. absurd (not_both (sym fills ∙ sym b.path_is.fills ∙ b.path.copies_plain copies)))
  | false ↦ (λ mixes. ap (λ (p : Past). p.carry) (is.past mixes))
] refl

-- where the next word is word c of row r, the blit stands there
pub ended_at : (b b' : AreaBlit) (s : BlitRegs) (ws : List ℕ) → Walks b s ws (asks_per_word s) → HasEnded b b'
    → b'.row * width_of s + b'.column ≡ suc (b.row * width_of s + b.column)
    → AreAt b'.pointers s b'.row b'.column
    → (is_filling s ≡ true → b'.past.carry ≡ is_carry (ones_in_row s ws b'.row b'.column))
    → Stands b' s ws
unfolding are_zero previous_a previous_b
ended_at b b' s ws h ended next pointers carry =
    let j : ℕ = b.row * width_of s + b.column in
    let inside = column_below b s h.start in
    let inputs = all_inputs b s ws h in
    let by_s : outcome_now b ≡ outcome_of s b.past b.column b.words = ap (λ (r : BlitRegs). outcome_of r b.past b.column b.words) h.start in
    let word = ap (λ (o : Outcome). o.word) by_s ∙ outcome_word s ws b.row b.column b.words b.past inside inputs h.past in
    let a = ap (λ (o : Outcome). o.past.a) by_s ∙ outcome_a s ws b.row b.column b.words b.past inside inputs in
    let b_ = ap (λ (o : Outcome). o.past.b) by_s ∙ outcome_b s ws b.row b.column b.words b.past inputs in
    let counted = h.count in
    let n : (b'.row * width_of s + b'.column) * asks_per_word s ≡ suc j * asks_per_word s = ap (λ (x : ℕ). x * asks_per_word s) next in
    let zero : (b'.results == 0) ≡ are_zero s ws (suc j) =
    ap (λ (n : ℕ). n == 0) ended.results
    ∙ zero_or b.results (outcome_now b).word
    ∙ ap (λ (z : Bool). z && (outcome_now b).word == 0) h.zero ∙ ap (λ (x : ℕ). are_zero s ws j && x == 0) word in
    record {
      walks = record {
        start = ended.start ∙ h.start;
        area = h.area;
        count = omega (arith, counted, n, ended.place);
        pointers = pointers;
        words =
            subst (λ (p : ℕ). Holds b'.words s ws (b'.row * width_of s + b'.column) p) (sym ended.place)
            (subst (λ (x : ℕ). Holds b'.words s ws x 0) (sym next)
            (subst (λ (x : Words). Holds x s ws (suc j) 0) (sym ended.words) (next_holds b s ws h)));
        past = record {
          of_a = ended.past_a ∙ a ∙ ap (previous_a s ws) (sym next);
          of_b = λ other. ended.past_b (subst (λ (r : BlitRegs). minterms_of r ≢ 240) (sym h.start) other) ∙ b_ ∙ ap (previous_b s ws) (sym next);
          carry = carry;
        };
        zero = zero ∙ ap (are_zero s ws) (sym next);
      };
      place = subst (λ (p : ℕ). p < asks_per_word s) (sym ended.place) (some_asks s);
    }

pub ended_within : (b b' : AreaBlit) (s : BlitRegs) (ws : List ℕ) → Walks b s ws (asks_per_word s) → HasEnded b b'
    → b'.row ≡ b.row
    → b'.column ≡ b.column + 1
    → AreAt b'.pointers s b.row (b.column + 1)
    → (is_filling b.start ≡ true → b'.past.carry ≡ (outcome_now b).past.carry)
    → Stands b' s ws
ended_within b b' s ws h ended row column pointers carry =
    let inside = column_below b s h.start in
    let inputs = all_inputs b s ws h in
    let by_s : outcome_now b ≡ outcome_of s b.past b.column b.words = ap (λ (r : BlitRegs). outcome_of r b.past b.column b.words) h.start in
    let c : b'.column ≡ suc b.column = omega arith in
    let r : b'.row * width_of s ≡ b.row * width_of s = ap (λ (x : ℕ). x * width_of s) row in
    ended_at b b' s ws h ended (omega arith)
    (subst (λ (x : ℕ). AreAt b'.pointers s x b'.column) (sym row) (subst (λ (x : ℕ). AreAt b'.pointers s b.row x) (sym column) pointers))
    (λ fills.
    carry (ap is_filling h.start ∙ fills) ∙ ap (λ (o : Outcome). o.past.carry) by_s
    ∙ outcome_carry s ws b.row b.column b.words b.past inside inputs h.past fills
    ∙ ap (λ (x : ℕ). is_carry (ones_in_row s ws x (suc b.column))) (sym row)
    ∙ ap (λ (x : ℕ). is_carry (ones_in_row s ws b'.row x)) (sym c))

pub ended_over : (b b' : AreaBlit) (s : BlitRegs) (ws : List ℕ) → Walks b s ws (asks_per_word s) → HasEnded b b'
    → b.column + 1 ≡ width_of s
    → b'.row ≡ b.row + 1
    → b'.column ≡ 0
    → AreAt b'.pointers s (b.row + 1) 0
    → b'.past.carry ≡ is_set b.start.con1 2
    → Stands b' s ws
unfolding ones_in_row
ended_over b b' s ws h ended last row column pointers carry =
    let r : b'.row * width_of s ≡ (b.row + 1) * width_of s = ap (λ (x : ℕ). x * width_of s) row in
    let fci : b'.past.carry ≡ is_set s.con1 2 = carry ∙ ap (λ (x : BlitRegs). is_set x.con1 2) h.start in
    ended_at b b' s ws h ended (omega arith)
    (subst (λ (x : ℕ). AreAt b'.pointers s x b'.column) (sym row) (subst (λ (x : ℕ). AreAt b'.pointers s (b.row + 1) x) (sym column) pointers))
    (λ fills. fci ∙ first_carry (is_set s.con1 2) ∙ ap (λ (x : ℕ). is_carry (ones_in_row s ws b'.row x)) (sym column))

-- ---- the begin

pub begun : (b : AreaBlit) → is_line b.start ≡ false
    → b.row ≡ 0
    → b.column ≡ 0
    → b.place ≡ 0
    → b.results ≡ 0
    → b.words ≡ record { a = b.start.adat; b = b.start.bdat; c = b.start.cdat }
    → b.past.a ≡ 0
    → b.past.b ≡ 0
    → b.past.carry ≡ is_set b.start.con1 2
    → AreAt b.pointers b.start 0 0
    → Stands b b.start []
unfolding are_zero previous_a previous_b ones_in_row
begun b area row column place no_results words a b_ carry pointers =
    let s = b.start in
    let r : b.row * width_of s ≡ 0 * width_of s = ap (λ (x : ℕ). x * width_of s) row in
    let j : b.row * width_of s + b.column ≡ 0 = omega arith in
    let n : (b.row * width_of s + b.column) * asks_per_word s ≡ 0 * asks_per_word s = ap (λ (x : ℕ). x * asks_per_word s) j in
    record {
      walks = record {
        start = refl;
        area = area;
        count = omega (arith, n, place);
        pointers =
            subst (λ (x : ℕ). AreAt b.pointers s x b.column) (sym row) (subst (λ (x : ℕ). AreAt b.pointers s 0 x) (sym column) pointers);
        words =
            subst (λ (x : ℕ). Holds b.words s [] (b.row * width_of s + b.column) x) (sym place)
            (subst (λ (x : ℕ). Holds b.words s [] x 0) (sym j)
            (subst (λ (x : Words). Holds x s [] 0 0) (sym words) (record {
              of_a = sym (held_begin s A);
              of_b = sym (held_begin s B);
              of_c = sym (held_begin s C);
            })));
        past = record {
          of_a = a ∙ ap (previous_a s []) (sym j);
          of_b = λ other. b_ ∙ ap (previous_b s []) (sym j);
          carry = λ fills.
              carry ∙ first_carry (is_set s.con1 2)
              ∙ ap (λ (x : ℕ). is_carry (ones_in_row s [] b.row x)) (sym column);
        };
        zero = ap (λ (n : ℕ). n == 0) no_results ∙ ap (are_zero s []) (sym j);
      };
      place = subst (λ (p : ℕ). p < asks_per_word s) (sym place) (some_asks s);
    }

-- ---- what the code's branches know

pub shown_done : (b : AreaBlit) → height_of b.start ≤ b.row → S.Done ≡ shown b
unfolding shown
shown_done b over =
    sym (ap (λ (t : Bool). if t then shown_ask b b.start (word_ask b.start b.place) else S.Done) (lt_false b.row (height_of b.start) over))

pub shown_going : (b : AreaBlit) → b.row < height_of b.start → shown_ask b b.start (word_ask b.start b.place) ≡ shown b
unfolding shown
shown_going b below =
    sym (ap (λ (t : Bool). if t then shown_ask b b.start (word_ask b.start b.place) else S.Done) (lt_true b.row (height_of b.start) below))

abbrev is_access : WordAsk → Bool
is_access A = true
is_access B = true
is_access C = true
is_access D = true
is_access Rest = false

-- an ask that makes an access is what it shows, as a rest comes behind the last row
pub shown_now : (b : AreaBlit) (k : WordAsk) → b.ask ≡ k → is_access k ≡ true → shown_ask b b.start k ≡ shown b
shown_now b k is access = elim (cases_lt b.row (height_of b.start)) [
  | inl below ↦ ap (shown_ask b b.start) (sym is ∙ asked_is b below) ∙ shown_going b below
  | inr above ↦
      let rests : b.ask ≡ Rest =
      b.ask_is ∙ ap (λ (t : Bool). if t then word_ask b.start b.place else Rest) (lt_false b.row (height_of b.start) above) in
      absurd (not_both (sym access ∙ ap is_access (sym is ∙ rests)))
]

-- with no row left an ask becomes a rest, which writes nothing
pub before_writes : (ask : WordAsk) (more : Bool) → (if more then ask else Rest) ≡ D → ask ≡ D
before_writes ask true h = h
before_writes ask false h = cc

pub some_height : (s : BlitRegs) → 0 < height_of s
unfolding height_of
some_height s = grind arith

pub answered_all : (b b' : AreaBlit) (s : BlitRegs) (ws : List ℕ) (w : ℕ) → Stands b s ws → HasTaken b b' w → b.place + 1 ≡ asks_per_word b.start
    → Walks b' s (ws ++ w ∷ []) (asks_per_word s)
answered_all b b' s ws w h taken last =
    subst (λ (p : ℕ). Walks b' s (ws ++ w ∷ []) p) (last ∙ ap asks_per_word h.walks.start) (answered b b' s ws w h taken)

pub height_most : (s : BlitRegs) → s.size < 65536 → height_of s ≤ 1024
unfolding height_of
height_most s low = grind arith

pub some_width : (s : BlitRegs) → 0 < width_of s
unfolding width_of
some_width s = grind arith

-- ---- the end of all words

not_done : (b : AreaBlit) (s : BlitRegs) (k : WordAsk) → shown_ask b s k ≡ S.Done → ⊥
not_done b s A h = cc
not_done b s B h = cc
not_done b s C h = cc
not_done b s D h = cc
not_done b s Rest h = cc

done_row : (b : AreaBlit) → shown b ≡ S.Done → height_of b.start ≤ b.row
done_row b done = elim (cases_lt b.row (height_of b.start)) [
  | inl below ↦ absurd (not_done b b.start (word_ask b.start b.place) (shown_going b below ∙ done))
  | inr above ↦ above
]

-- below row h of w words each there are h rows, or else the place is one of theirs
rows_passed : (h w n r c p : ℕ) → h ≤ r → h * w * n ≤ (r * w + c) * n + p
rows_passed h w n r c p passed =
    let words : h * w ≤ r * w = mul-le-mul_right w passed in
    let more : h * w ≤ r * w + c = omega arith in
    let asks : h * w * n ≤ (r * w + c) * n = mul-le-mul_right n more in
    omega arith

rows_left : (h w n r c p : ℕ) → r < h → c < w → p < n → (r * w + c) * n + p < h * w * n
rows_left h w n r c p below inside low =
    let rows : r + 1 ≤ h = omega arith in
    let words : (r + 1) * w ≤ h * w = mul-le-mul_right w rows in
    let more : r * w + c + 1 ≤ h * w = omega (arith, words, inside) in
    let asks : (r * w + c + 1) * n ≤ h * w * n = mul-le-mul_right n more in
    omega (arith, asks, low)

pub done_after_all : (b : AreaBlit) (s : BlitRegs) (ws : List ℕ) → Stands b s ws → IsDoneAfterAll (shown b) s ws
done_after_all b s ws h =
    let count = h.walks.count in
    let height : height_of b.start ≡ height_of s = ap height_of h.walks.start in
    let inside = column_below b s h.walks.start in
    record {
      0 = λ done.
          let over = done_row b done in
          let row : height_of s ≤ b.row = omega (arith, over, height) in
          let passed = rows_passed (height_of s) (width_of s) (asks_per_word s) b.row b.column b.place row in
          omega (arith, passed, count);
      1 = λ all. elim (cases_lt b.row (height_of s)) [
        | inl below ↦
            let left = rows_left (height_of s) (width_of s) (asks_per_word s) b.row b.column b.place below inside h.place in
            absurd (omega (arith, left, count, all))
        | inr above ↦
            let over : height_of b.start ≤ b.row = omega (arith, above, height) in
            sym (shown_done b over)
      ];
    }

-- ---- whether the blit has ended

asks_on : (b : AreaBlit) (s : BlitRegs) (k : WordAsk) → is_done (shown_ask b s k) ≡ false
asks_on b s A = refl
asks_on b s B = refl
asks_on b s C = refl
asks_on b s D = refl
asks_on b s Rest = refl

-- above its last row's end it goes on
pub goes_on : (b : AreaBlit) → b.row < height_of b.start → false ≡ is_done (shown b)
goes_on b below = sym (asks_on b b.start (word_ask b.start b.place)) ∙ ap is_done (shown_going b below)

-- it has ended exactly where the row is at the height
pub done_is : (b : AreaBlit) (h : ℕ) → h ≡ height_of b.start → nat_le h b.row ≡ is_done (shown b)
done_is b h height = elim (cases_lt b.row h) [
  | inl below ↦
      let left : b.row < height_of b.start = omega (arith, below, height) in
      lt-leb h b.row below ∙ sym (asks_on b b.start (word_ask b.start b.place)) ∙ ap is_done (shown_going b left)
  | inr above ↦
      let over : height_of b.start ≤ b.row = omega (arith, above, height) in
      le-leb h b.row above ∙ ap is_done (shown_done b over)
]
