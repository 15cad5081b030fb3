-- What runs of a sprite is what began last on the line: position by position.
use Rattle.std.proofs.Common.{◌≡◌, ◌≤◌, ◌<◌, ℕ, zero, suc, ◌+◌, ◌*◌, ◌/◌, Bool, true, false, nat_eq, List}
use Rattle.std.proofs.Common.{Option, Some, None, replicate, slice_index_or, refl, sym, ◌∙◌, ap, subst, arith}
use Rattle.std.specs.Bool.{if◌then◌else◌}
use Rattle.std.proofs.lemmas.Bool.Decides.{nat_tests}
use Rattle.sprites.specs.declared.runs.Start.{Start}
use Rattle.serial_model.specs.declared.picture.Denise.{Denise}
use Rattle.serial_model.specs.Picture.{run_at, runs_at, runs_after}
use Rattle.sprite_rows.proofs.Values.{kept-none}
use Rattle.painter.specs.RunningWords.{IsLine, begins_at, words_at, IsGreatestBegin, IsLastBegin, LastBeginRuns}

-- one position more at which nothing begins
none_more : (line : ℕ → Denise) (s n x : ℕ) → begins_at line s n ≡ false → x < n + 1 → (x < n → begins_at line s x ≡ false) →
    (t : Bool) → nat_eq x n ≡ t → begins_at line s x ≡ false
none_more line s n x is lt before true here =
    let same : n ≡ x = grind (arith, nat_tests) in
    subst (λ (y : ℕ). begins_at line s y ≡ false) same is
none_more line s n x is lt before false here =
    let less : x < n = grind (arith, nat_tests) in
    before less

-- one position more
position_more : (line : ℕ → Denise) (s n : ℕ) (runs : Option Start) (b : Bool) → begins_at line s n ≡ b → IsLastBegin line s n runs →
    IsLastBegin line s (n + 1) (if b then Some (words_at line s n) else runs)
position_more line s n runs true is before = record {
  nothing = λ none (x : ℕ) lt. let no : Some (words_at line s n) ≡ None = none in cc;
  begun = λ (start : Start) some.
      let new_one : Some (words_at line s n) ≡ Some start = some in
      let same : words_at line s n ≡ start = cc in
      let less : n < n + 1 = omega arith in
      let new : IsGreatestBegin line s (n + 1) (words_at line s n) = record {
        within = less;
        begins = is;
        words = refl;
        greatest = λ (x : ℕ) more lt. let after : n < x = more in absurd (omega arith);
      } in
      subst (IsGreatestBegin line s (n + 1)) same new;
}
position_more line s n runs false is before = record {
  nothing = λ none (x : ℕ) lt. none_more line s n x is lt (before.nothing none x) (nat_eq x n) refl;
  begun = λ (start : Start) some.
      let old : IsGreatestBegin line s n start = before.begun start some in
      record {
        within = omega (arith, old.within);
        begins = old.begins;
        words = old.words;
        greatest = λ (x : ℕ) more lt. none_more line s n x is lt (old.greatest x more) (nat_eq x n) refl;
      };
}

-- what runs of each sprite, in the list of all
each_at : (x s : ℕ) (p : Denise) (runs : List (Option Start)) → s < 8 → slice_index_or (runs_at x p runs) s None ≡ run_at x p runs s
each_at x zero p runs lt = refl
each_at x (suc zero) p runs lt = refl
each_at x (suc (suc zero)) p runs lt = refl
each_at x (suc (suc (suc zero))) p runs lt = refl
each_at x (suc (suc (suc (suc zero)))) p runs lt = refl
each_at x (suc (suc (suc (suc (suc zero))))) p runs lt = refl
each_at x (suc (suc (suc (suc (suc (suc zero)))))) p runs lt = refl
each_at x (suc (suc (suc (suc (suc (suc (suc zero))))))) p runs lt = refl
each_at x (suc (suc (suc (suc (suc (suc (suc (suc s)))))))) p runs lt = absurd (omega arith)

-- one position of a clock more
step_more : (line : ℕ → Denise) (h n s : ℕ) (runs : List (Option Start)) → n < 2 → s < 8 →
    IsLastBegin line s (2 * h + n) (slice_index_or runs s None) →
    IsLastBegin line s (2 * h + n + 1) (slice_index_or (runs_at (2 * h + n) (line h) runs) s None)
step_more line h n s runs lt sprite before =
    let clock : (2 * h + n) / 2 ≡ h = omega arith in
    let more = position_more line s (2 * h + n) (slice_index_or runs s None) (begins_at line s (2 * h + n)) refl before in
    let is : (if begins_at line s (2 * h + n) then Some (words_at line s (2 * h + n)) else slice_index_or runs s None)
    ≡ slice_index_or (runs_at (2 * h + n) (line h) runs) s None =
    ap (λ (k : ℕ). run_at (2 * h + n) (line k) runs s) clock ∙ sym (each_at (2 * h + n) s (line h) runs sprite) in
    subst (IsLastBegin line s (2 * h + n + 1)) is more

-- the positions of a clock, where what runs before them is what began last
clock_more : (line : ℕ → Denise) (h n s : ℕ) → n ≤ 2 → s < 8 → IsLastBegin line s (2 * h) (slice_index_or (line h).runs s None) →
    IsLastBegin line s (2 * h + n) (slice_index_or (runs_after h n (line h)) s None)
unfolding runs_after
clock_more line h zero s le sprite before =
    let same : 2 * h ≡ 2 * h + 0 = omega arith in
    subst (λ (k : ℕ). IsLastBegin line s k (slice_index_or (line h).runs s None)) same before
clock_more line h (suc n) s le sprite before =
    let within : n < 2 = omega arith in
    let fewer : n ≤ 2 = omega arith in
    let same : 2 * h + n + 1 ≡ 2 * h + suc n = omega arith in
    subst (λ (k : ℕ). IsLastBegin line s k (slice_index_or (runs_at (2 * h + n) (line h) (runs_after h n (line h))) s None)) same
    (step_more line h n s (runs_after h n (line h)) within sprite (clock_more line h n s fewer sprite before))

-- nothing runs at the start
at_start : (line : ℕ → Denise) (s : ℕ) → s < 8 → (line 0).runs ≡ replicate 8 None → IsLastBegin line s 0 (slice_index_or (line 0).runs s None)
at_start line s sprite start =
    let none : slice_index_or (line 0).runs s None ≡ None = ap (λ (l : List (Option Start)). slice_index_or l s None) start ∙ kept-none s in
    record {
      nothing = λ is (x : ℕ) lt. absurd (omega arith);
      begun = λ (begin : Start) some. absurd (let no : None ≡ Some begin = sym none ∙ some in cc);
    }

-- every clock of a line
line_more : (line : ℕ → Denise) → IsLine line → (h s : ℕ) → s < 8 → IsLastBegin line s (2 * h) (slice_index_or (line h).runs s None)
line_more line is zero s sprite = at_start line s sprite is.start
line_more line is (suc h) s sprite =
    let all : 2 ≤ 2 = omega arith in
    let before : IsLastBegin line s (2 * h + 2) (slice_index_or (runs_after h 2 (line h)) s None) =
    clock_more line h 2 s all sprite (line_more line is h s sprite) in
    let clock : h + 1 ≡ suc h = omega arith in
    let place : 2 * h + 2 ≡ 2 * suc h = omega arith in
    let runs : slice_index_or (runs_after h 2 (line h)) s None ≡ slice_index_or (line (suc h)).runs s None =
    ap (λ (l : List (Option Start)). slice_index_or l s None) (sym (is.next h) ∙ ap (λ (k : ℕ). (line k).runs) clock) in
    subst (λ (k : ℕ). IsLastBegin line s k (slice_index_or (line (suc h)).runs s None)) place
    (subst (IsLastBegin line s (2 * h + 2)) runs before)

pub last_begin_runs : LastBeginRuns
last_begin_runs line is h n sprite le lt = clock_more line h n sprite le lt (line_more line is h sprite lt)
