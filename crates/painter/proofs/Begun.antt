-- Words that begin at the first column of a clock, begun before the clock is shown.
use Rattle.std.proofs.Common.{◌≡◌, ℕ, zero, suc, ◌+◌, ◌*◌, ◌≤◌, ◌<◌, ◌&&◌, ◌==◌, Bool, true, false, List, [], ◌++◌, slice_index_or}
use Rattle.std.proofs.Common.{bit_or, Option, None, refl, sym, ◌∙◌, ap, subst, arith}
use Rattle.std.specs.Bool.{if◌then◌else◌}
use Rattle.ocs_base.specs.declared.system.System.{System}
use Rattle.ocs_base.specs.Systems.{is_visible}
use Rattle.sprites.specs.declared.runs.Start.{Start}
use Rattle.serial_model.specs.declared.picture.Denise.{Denise}
use Rattle.serial_model.specs.Picture.{PictureStep, colour_bytes, pixel_colour, shown_at, collisions_at, sprite_values}
use Rattle.serial_model.specs.Picture.{is_armed, sprite_column, held_after, run_at, runs_at, runs_after, step_of, after_step}
use Rattle.serial_model.specs.Spans.{after_shows, shown_bytes, shown_clx}
use Rattle.painter.specs.declared.painter.Painter.{Painter}
use Rattle.painter.specs.code.Overlay.{with_runs}
use Rattle.painter.specs.Painter.{IsPainterOf}
use Rattle.painter.specs.Span.{IsSpan}
use Rattle.painter.specs.code.SpriteState.{SpriteRegisters, begins_at, run_in, runs_in, words_begun}
use Rattle.painter.proofs.Beginning.{same_eight}

-- what has begun at a position begins there once more with the same words
once_more : (b : Bool) (new old : Option Start) → (if b then new else if b then new else old) ≡ (if b then new else old)
once_more true new old = refl
once_more false new old = refl

run_again : (x : ℕ) (s : SpriteRegisters) (n : ℕ) → n < 8 → run_in x (words_begun x s) n ≡ slice_index_or (runs_in x s) n None
run_again x s zero few = once_more (begins_at x s 0) _ _
run_again x s (suc zero) few = once_more (begins_at x s 1) _ _
run_again x s (suc (suc zero)) few = once_more (begins_at x s 2) _ _
run_again x s (suc (suc (suc zero))) few = once_more (begins_at x s 3) _ _
run_again x s (suc (suc (suc (suc zero)))) few = once_more (begins_at x s 4) _ _
run_again x s (suc (suc (suc (suc (suc zero))))) few = once_more (begins_at x s 5) _ _
run_again x s (suc (suc (suc (suc (suc (suc zero)))))) few = once_more (begins_at x s 6) _ _
run_again x s (suc (suc (suc (suc (suc (suc (suc zero))))))) few = once_more (begins_at x s 7) _ _
run_again x s (suc (suc (suc (suc (suc (suc (suc (suc n)))))))) few = absurd (omega arith)

pub begun_again : (x : ℕ) (old new : SpriteRegisters) → new ≡ words_begun x old → runs_in x new ≡ new.runs
begun_again x old new is =
    ap (λ (s : SpriteRegisters). runs_in x s) is
    ∙ same_eight (run_in x (words_begun x old)) (runs_in x old) refl (run_again x old)
    ∙ sym (ap (λ (s : SpriteRegisters). s.runs) is)

-- the same of a picture state
abbrev pub begun : ℕ → Denise → Denise
begun x p = with_runs (runs_at x p p.runs) p

at_again : (x : ℕ) (p : Denise) (n : ℕ) → n < 8 → run_at x (begun x p) (runs_at x p p.runs) n ≡ slice_index_or (runs_at x p p.runs) n None
at_again x p zero few = once_more (is_armed 0 p && (sprite_column 0 p == x)) _ _
at_again x p (suc zero) few = once_more (is_armed 1 p && (sprite_column 1 p == x)) _ _
at_again x p (suc (suc zero)) few = once_more (is_armed 2 p && (sprite_column 2 p == x)) _ _
at_again x p (suc (suc (suc zero))) few = once_more (is_armed 3 p && (sprite_column 3 p == x)) _ _
at_again x p (suc (suc (suc (suc zero)))) few = once_more (is_armed 4 p && (sprite_column 4 p == x)) _ _
at_again x p (suc (suc (suc (suc (suc zero))))) few = once_more (is_armed 5 p && (sprite_column 5 p == x)) _ _
at_again x p (suc (suc (suc (suc (suc (suc zero)))))) few = once_more (is_armed 6 p && (sprite_column 6 p == x)) _ _
at_again x p (suc (suc (suc (suc (suc (suc (suc zero))))))) few = once_more (is_armed 7 p && (sprite_column 7 p == x)) _ _
at_again x p (suc (suc (suc (suc (suc (suc (suc (suc n)))))))) few = absurd (omega arith)

runs_again : (x : ℕ) (p : Denise) → runs_at x (begun x p) (runs_at x p p.runs) ≡ runs_at x p p.runs
runs_again x p = same_eight (run_at x (begun x p) (runs_at x p p.runs)) (runs_at x p p.runs) refl (at_again x p)

-- a picture step, by what runs behind its first column and behind both
step_by : System → ℕ → ℕ → Denise → List (Option Start) → List (Option Start) → PictureStep
step_by system v h p one both = record {
  held = record { 0 = held_after v h 4 p };
  runs = both;
  bytes =
      if is_visible system v h
      then colour_bytes (shown_at v (4 * h + 0) (sprite_values (2 * h + 0) one) (held_after v h 0 p) p)
      ++ (colour_bytes (shown_at v (4 * h + 1) (sprite_values (2 * h + 0) one) (held_after v h 1 p) p)
      ++ (colour_bytes (shown_at v (4 * h + 2) (sprite_values (2 * h + 1) both) (held_after v h 2 p) p)
      ++ colour_bytes (shown_at v (4 * h + 3) (sprite_values (2 * h + 1) both) (held_after v h 3 p) p)))
      else [];
  clx =
      bit_or (bit_or (collisions_at v (4 * h + 0) (sprite_values (2 * h + 0) one) p) (collisions_at v (4 * h + 1) (sprite_values (2 * h + 0) one) p))
      (bit_or (collisions_at v (4 * h + 2) (sprite_values (2 * h + 1) both) p) (collisions_at v (4 * h + 3) (sprite_values (2 * h + 1) both) p));
}

is_by : (system : System) (v h : ℕ) (p : Denise) → step_of system v h p ≡ step_by system v h p (runs_after h 1 p) (runs_after h 2 p)
unfolding step_of step_by
is_by system v h p = refl

same_by : (system : System) (v h : ℕ) (p : Denise) (runs one both : List (Option Start)) →
    step_by system v h (with_runs runs p) one both ≡ step_by system v h p one both
unfolding step_by held_after pixel_colour shown_at collisions_at
same_by system v h p runs one both = refl

first_again : (h : ℕ) (p : Denise) → runs_after h 1 (begun (2 * h) p) ≡ runs_after h 1 p
unfolding runs_after
first_again h p =
    let here : 2 * h + 0 ≡ 2 * h = omega arith in
    ap (λ (x : ℕ). runs_at x (begun (2 * h) p) (runs_at (2 * h) p p.runs)) here
    ∙ runs_again (2 * h) p
    ∙ sym (ap (λ (x : ℕ). runs_at x p p.runs) here)

both_again : (h : ℕ) (p : Denise) → runs_after h 2 (begun (2 * h) p) ≡ runs_after h 2 p
unfolding runs_after
both_again h p = ap (λ (runs : List (Option Start)). runs_at (2 * h + 1) p runs) (first_again h p)

step_again : (system : System) (v h : ℕ) (p : Denise) → step_of system v h (begun (2 * h) p) ≡ step_of system v h p
step_again system v h p =
    is_by system v h (begun (2 * h) p)
    ∙ same_by system v h p (runs_at (2 * h) p p.runs) (runs_after h 1 (begun (2 * h) p)) (runs_after h 2 (begun (2 * h) p))
    ∙ ap (λ (runs : List (Option Start)). step_by system v h p runs (runs_after h 2 (begun (2 * h) p))) (first_again h p)
    ∙ ap (λ (runs : List (Option Start)). step_by system v h p (runs_after h 1 p) runs) (both_again h p)
    ∙ sym (is_by system v h p)

-- and so many picture steps, at least one
zeroth_again : (system : System) (v h : ℕ) (p : Denise) → step_of system v (h + 0) (begun (2 * h) p) ≡ step_of system v (h + 0) p
zeroth_again system v h p =
    let here : h + 0 ≡ h = omega arith in
    ap (λ (k : ℕ). step_of system v k (begun (2 * h) p)) here ∙ step_again system v h p ∙ sym (ap (λ (k : ℕ). step_of system v k p) here)

after_again : (system : System) (v h n : ℕ) (p : Denise) → after_shows system v h (suc n) (begun (2 * h) p) ≡ after_shows system v h (suc n) p
unfolding after_shows
after_again system v h zero p = ap (λ (step : PictureStep). after_step step p) (zeroth_again system v h p)
after_again system v h (suc n) p =
    ap (λ (q : Denise). after_step (step_of system v (h + suc n) q) q) (after_again system v h n p)

bytes_again : (system : System) (v h n : ℕ) (p : Denise) → shown_bytes system v h (suc n) (begun (2 * h) p) ≡ shown_bytes system v h (suc n) p
unfolding shown_bytes after_shows
bytes_again system v h zero p = ap (λ (step : PictureStep). [] ++ step.bytes) (zeroth_again system v h p)
bytes_again system v h (suc n) p =
    ap (λ (l : List ℕ). l ++ (step_of system v (h + suc n) (after_shows system v h (suc n) (begun (2 * h) p))).bytes) (bytes_again system v h n p)
    ∙ ap (λ (q : Denise). shown_bytes system v h (suc n) p ++ (step_of system v (h + suc n) q).bytes) (after_again system v h n p)

clx_again : (system : System) (v h n : ℕ) (p : Denise) → shown_clx system v h (suc n) (begun (2 * h) p) ≡ shown_clx system v h (suc n) p
unfolding shown_clx after_shows
clx_again system v h zero p = ap (λ (step : PictureStep). bit_or 0 step.clx) (zeroth_again system v h p)
clx_again system v h (suc n) p =
    ap (λ (b : ℕ). bit_or b (step_of system v (h + suc n) (after_shows system v h (suc n) (begun (2 * h) p))).clx) (clx_again system v h n p)
    ∙ ap (λ (q : Denise). bit_or (shown_clx system v h (suc n) p) (step_of system v (h + suc n) q).clx) (after_again system v h n p)

pub begun_span : (system : System) (v h n : ℕ) (p : Denise) (new : Painter) (before after : List ℕ) (old clx : ℕ) → 1 ≤ n →
    IsSpan system v h n (begun (2 * h) p) new before after old clx → IsSpan system v h n p new before after old clx
begun_span system v h zero p new before after old clx some is = absurd (omega arith)
begun_span system v h (suc n) p new before after old clx some is = record {
  painted = subst (λ (q : Denise). IsPainterOf new q) (after_again system v h n p) is.painted;
  bytes = is.bytes ∙ ap (λ (l : List ℕ). before ++ l) (bytes_again system v h n p);
  bits = is.bits ∙ ap (bit_or old) (clx_again system v h n p);
}
