-- What runs of the sprites over many clocks of a line.
use Rattle.std.proofs.Common.{◌≡◌, ◌<◌, ℕ, zero, suc, ◌+◌, ◌*◌, Bool, true, false, ◌&&◌, ◌==◌, nat_le, nat_lt, if◌then◌else◌}
use Rattle.std.proofs.Common.{length, map, slice_index, slice_index_or, Option, Some, None, refl, ap, ◌∙◌, sym, arith}
use Rattle.std.proofs.lemmas.Bool.Decides.{nat_tests}
use Rattle.ocs_base.specs.declared.system.System.{System}
use Rattle.sprites.specs.declared.runs.Start.{Start}
use Rattle.serial_model.specs.declared.picture.Denise.{Denise}
use Rattle.serial_model.specs.Picture.{PictureStep, all_sprites, is_armed, sprite_column, run_at, runs_at, runs_after, step_of}
use Rattle.serial_model.specs.Spans.{after_shows}
use Rattle.painter.specs.Runs.{begun_of, begun_in, RunsOfSpan, RunsInSpan}
use Rattle.painter.proofs.Beginning.{same_eight}

-- tests of a column against the positions
is_there : (column x n : ℕ) → column ≡ x + n → (nat_le x column && nat_lt column (x + (n + 1))) ≡ true
is_there column x n is = grind (arith, nat_tests)

is_elsewhere : (column x n : ℕ) → (column == x + n) ≡ false → nat_lt column (x + n) ≡ nat_lt column (x + (n + 1))
is_elsewhere column x n is = grind (arith, nat_tests)

is_nowhere : (column x : ℕ) → (nat_le x column && nat_lt column (x + 0)) ≡ false
is_nowhere column x = grind (arith, nat_tests)

same_place : (column x : ℕ) → (column == x) ≡ true → column ≡ x
same_place column x is = grind (arith, nat_tests)

-- one position more, of a sprite that is armed or not
position_more : (armed : Bool) (column x n : ℕ) (words : ℕ → Option Start) (before : Option Start) (here : Bool)
    → (column == x + n) ≡ here
    → (if armed && here then words (x + n) else if armed && (nat_le x column && nat_lt column (x + n)) then words column else before)
    ≡ (if armed && (nat_le x column && nat_lt column (x + (n + 1))) then words column else before)
position_more false column x n words before here is = refl
position_more true column x n words before true is =
    let place : column ≡ x + n = same_place column (x + n) is in
    ap words (sym place)
    ∙ ap (λ (there : Bool). if there then words column else before) (sym (is_there column x n place))
position_more true column x n words before false is =
    ap (λ (less : Bool). if nat_le x column && less then words column else before) (is_elsewhere column x n is)

-- what runs of each sprite, in the list of all
each_of : (f : ℕ → Option Start) (s : ℕ) → s < 8 → f s ≡ slice_index_or (map f all_sprites) s None
each_of f zero few = refl
each_of f (suc zero) few = refl
each_of f (suc (suc zero)) few = refl
each_of f (suc (suc (suc zero))) few = refl
each_of f (suc (suc (suc (suc zero)))) few = refl
each_of f (suc (suc (suc (suc (suc zero))))) few = refl
each_of f (suc (suc (suc (suc (suc (suc zero)))))) few = refl
each_of f (suc (suc (suc (suc (suc (suc (suc zero))))))) few = refl
each_of f (suc (suc (suc (suc (suc (suc (suc (suc s)))))))) few = absurd (omega arith)

begun_more : (x n : ℕ) (p : Denise) (s : ℕ) → s < 8 → run_at (x + n) p (begun_in x n p) s ≡ begun_of x (n + 1) p s
begun_more x n p s few =
    let words : ℕ → Option Start =
    λ at. Some (record { x = at; word_a = slice_index p.words_a s; word_b = slice_index p.words_b s }) in
    let column : ℕ = sprite_column s p in
    ap (λ before. if is_armed s p && (column == x + n) then words (x + n) else before) (sym (each_of (begun_of x n p) s few))
    ∙ position_more (is_armed s p) column x n words (slice_index_or p.runs s None) (column == x + n) refl

all_more : (x n : ℕ) (p : Denise) → runs_at (x + n) p (begun_in x n p) ≡ begun_in x (n + 1) p
all_more x n p =
    same_eight (run_at (x + n) p (begun_in x n p)) (begun_in x (n + 1) p) refl
    (λ s few. begun_more x n p s few ∙ each_of (begun_of x (n + 1) p) s few)

-- at no position nothing begins
none_of : (x : ℕ) (p : Denise) (s : ℕ) (armed : Bool) → (start : Option Start)
    → (if armed && (nat_le x (sprite_column s p) && nat_lt (sprite_column s p) (x + 0)) then start else slice_index_or p.runs s None)
    ≡ slice_index_or p.runs s None
none_of x p s false start = refl
none_of x p s true start =
    ap (λ (there : Bool). if there then start else slice_index_or p.runs s None) (is_nowhere (sprite_column s p) x)

none_begun : (x : ℕ) (p : Denise) → length p.runs ≡ 8 → begun_in x 0 p ≡ p.runs
none_begun x p eight = same_eight (begun_of x 0 p) p.runs eight (λ s few. none_of x p s (is_armed s p) _)

-- the positions of a clock, whatever colour is held
no_more : (n : ℕ) → n ≡ n + 0
no_more n = omega arith

next_place : (h n m : ℕ) → 2 * (h + n) + m ≡ 2 * h + (2 * n + m)
next_place h n m = omega arith

one_more : (n m : ℕ) → n + m + 1 ≡ n + suc m
one_more n m = omega arith

abbrev stepped : ℕ → ℕ → Denise → Denise → Denise
stepped h n q p = record p { held = q.held; runs = begun_in (2 * h) (2 * n) p }

in_clock : (h n m : ℕ) (q p : Denise) → runs_after (h + n) m (stepped h n q p) ≡ begun_in (2 * h) (2 * n + m) p
unfolding runs_after
in_clock h n zero q p = ap (λ k. begun_in (2 * h) k p) (no_more (2 * n))
in_clock h n (suc m) q p =
    ap (λ runs. runs_at (2 * (h + n) + m) p runs) (in_clock h n m q p)
    ∙ ap (λ x. runs_at x p (begun_in (2 * h) (2 * n + m) p)) (next_place h n m)
    ∙ all_more (2 * h) (2 * n + m) p
    ∙ ap (λ k. begun_in (2 * h) k p) (one_more (2 * n) m)

-- clock by clock
runs_of_step : (system : System) (v h : ℕ) (p : Denise) → (step_of system v h p).runs ≡ runs_after h 2 p
unfolding step_of
runs_of_step system v h p = refl

two_more : (n : ℕ) → 2 * n + 2 ≡ 2 * suc n
two_more n = omega arith

clock_more : (system : System) (v h n : ℕ) (before p : Denise) → before ≡ stepped h n before p
    → (step_of system v (h + n) before).runs ≡ begun_in (2 * h) (2 * suc n) p
clock_more system v h n before p is =
    runs_of_step system v (h + n) before
    ∙ ap (λ q. runs_after (h + n) 2 q) is
    ∙ in_clock h n 2 before p
    ∙ ap (λ k. begun_in (2 * h) k p) (two_more n)

pub runs_of_span : RunsOfSpan
unfolding after_shows
runs_of_span system v h zero p eight = ap (λ runs. record p { runs = runs }) (sym (none_begun (2 * h) p eight))
runs_of_span system v h (suc n) p eight =
    let before : Denise = after_shows system v h n p in
    let step : PictureStep = step_of system v (h + n) before in
    let is : before ≡ stepped h n before p = runs_of_span system v h n p eight in
    ap (λ (q : Denise). record q { held = step.held; runs = step.runs }) is
    ∙ ap (λ runs. record p { held = step.held; runs = runs }) (clock_more system v h n before p is)

pub runs_in_span : RunsInSpan
runs_in_span system v h n position p eight =
    let before : Denise = after_shows system v h n p in
    ap (λ q. runs_after (h + n) position q) (runs_of_span system v h n p eight) ∙ in_clock h n position before p
