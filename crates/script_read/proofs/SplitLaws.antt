-- The lines and words of a text, cut at the first line feed or space.
use Rattle.std.proofs.Common.{◌≡◌, ℕ, suc, ◌+◌, ◌-◌, ◌<◌, ◌≤◌, Bool, true, false, not, ◌==◌, cond, List, [], ◌∷◌}
use Rattle.std.proofs.Common.{length, take, drop, refl, sym, ap, ◌∙◌, Some, None, arith, nat_lt, length-drop}
use Rattle.std.proofs.lemmas.List.{take_all}
use Rattle.std.specs.List.{position, position_or_len, slice_split, onto_first}
use Rattle.std.proofs.lemmas.List.Splits.{slice_split_first, length-slice_split}
use Rattle.script_read.specs.Split.{kept_before, without_empty_last, lines_of, words_of}
use borrow.Author.Tests.{ltb-true, ltb-false, ne_eqb}

chosen : (b : Bool) (n at : ℕ) → cond b (Some n) None ≡ Some at → (b ≡ true) × (n ≡ at)
chosen true n at h = (refl, cc)
chosen false n at h = (absurd (cc h), absurd (cc h))

unchosen : (b : Bool) (n : ℕ) → cond b (Some n) None ≡ None → b ≡ false
unchosen true n h = absurd (cc h)
unchosen false n h = refl

-- at the first byte that passes, or nowhere
split-some : (p : ℕ → Bool) (text : List ℕ) (at : ℕ) → Some at ≡ position p text → slice_split p text ≡ take at text ∷ slice_split p (drop (at + 1) text)
split-some p text at e =
    let is = chosen (nat_lt (position_or_len p text) (length text)) (position_or_len p text) at (sym e) in
    slice_split_first p text 0 (ltb-true (position_or_len p text) (length text) is.0) ∙ ap (λ n. take n text ∷ slice_split p (drop (n + 1) text)) is.1

split_whole : (p : ℕ → Bool) (text : List ℕ) → length text ≤ position_or_len p text → slice_split p text ≡ text ∷ []
split_whole p [] le = refl
split_whole p (b ∷ text) le = step (p b) (split_whole p text) le
  where
    step : (t : Bool) → (length text ≤ position_or_len p text → slice_split p text ≡ text ∷ [])
        → suc (length text) ≤ cond (not t) (1 + position_or_len p text) 0
        → cond t ([] ∷ slice_split p text) (onto_first b (slice_split p text)) ≡ (b ∷ text) ∷ []
    step true more le = absurd (omega arith)
    step false more le = ap (onto_first b) (more (omega arith))

split-none : (p : ℕ → Bool) (text : List ℕ) → None ≡ position p text → slice_split p text ≡ text ∷ []
split-none p text e = split_whole p text
    (ltb-false (position_or_len p text) (length text) (unchosen (nat_lt (position_or_len p text) (length text)) (position_or_len p text) (sym e)))

pub words-some : (line : List ℕ) (at : ℕ) → Some at ≡ position (λ b. b == 32) line → words_of line ≡ take at line ∷ words_of (drop (at + 1) line)
unfolding words_of
words-some line at e = split-some (λ b. b == 32) line at e

pub words-none : (line : List ℕ) → None ≡ position (λ b. b == 32) line → words_of line ≡ line ∷ []
unfolding words_of
words-none line e = split-none (λ b. b == 32) line e

pub kept-more : (line : List ℕ) (lines kept : List (List ℕ)) → 0 < length lines → kept_before line lines kept ≡ line ∷ kept
kept-more line [] kept some = absurd (omega arith)
kept-more line (next ∷ lines) kept some = refl

kept-last : (line : List ℕ) → 0 < length line → kept_before line [] [] ≡ line ∷ []
kept-last [] some = absurd (omega arith)
kept-last (b ∷ line) some = ap (λ t. cond t [] ((b ∷ line) ∷ [])) (ne_eqb (suc (length line)) 0 (λ e. omega arith))

pub lines-empty : lines_of [] ≡ []
unfolding lines_of without_empty_last
lines-empty = refl

pub lines-some : (text : List ℕ) (at : ℕ) → Some at ≡ position (λ b. b == 10) text → lines_of text ≡ take at text ∷ lines_of (drop (at + 1) text)
unfolding lines_of without_empty_last
lines-some text at e =
    let rest = slice_split (λ b. b == 10) (drop (at + 1) text) in
    ap without_empty_last (split-some (λ b. b == 10) text at e)
    ∙ kept-more (take at text) rest (without_empty_last rest) (omega (arith, length-slice_split (λ b. b == 10) (drop (at + 1) text)))

pub lines-none : (text : List ℕ) → 0 < length text → None ≡ position (λ b. b == 10) text → lines_of text ≡ text ∷ lines_of []
unfolding lines_of without_empty_last
lines-none text some e = ap without_empty_last (split-none (λ b. b == 10) text e) ∙ kept-last text some

-- the slice after the first line feed is what is left of the text
after_cut : (text : List ℕ) (at : ℕ) → take (length text - (at + 1)) (drop (at + 1) text) ≡ drop (at + 1) text
after_cut text at = take_all (length text - (at + 1)) (drop (at + 1) text) (omega (arith, length-drop (at + 1) text))

pub next-line : (text : List ℕ) (at : ℕ) → at < length text → Some at ≡ position (λ b. b == 10) text
    → (lines_of text ≡ take at text ∷ lines_of (take (length text - (at + 1)) (drop (at + 1) text))) ×
    (length (take (length text - (at + 1)) (drop (at + 1) text)) < length text)
next-line text at within e = (
  lines-some text at e ∙ ap (λ rest. take at text ∷ lines_of rest) (sym (after_cut text at)),
  omega (arith, ap length (after_cut text at), length-drop (at + 1) text),
)

pub next-word : (line : List ℕ) (at : ℕ) → Some at ≡ position (λ b. b == 32) line
    → words_of line ≡ take at line ∷ words_of (take (length line - (at + 1)) (drop (at + 1) line))
next-word line at e = words-some line at e ∙ ap (λ rest. take at line ∷ words_of rest) (sym (after_cut line at))

pub no-line : (text : List ℕ) → length text ≡ 0 → lines_of text ≡ []
no-line [] e = lines-empty
no-line (b ∷ text) e = absurd (omega arith)

pub ruleset line_laws = (no-line, next-line, lines-empty, lines-none)

pub ruleset word_laws = (next-word, words-none)
