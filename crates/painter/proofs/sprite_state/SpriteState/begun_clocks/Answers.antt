use Rattle.std.proofs.Common.{◌≡◌, ◌<◌, ◌+◌, ◌*◌, ℕ, zero, suc, List, Option, length, sym, ap, subst, arith, ◌∙◌}
use Rattle.sprites.specs.declared.runs.Start.{Start}
use Rattle.painter.specs.code.SpriteState.{SpriteRegisters}
use Rattle.painter.specs.code.Starts.{IsSteady}
use Rattle.painter.proofs.Beginning.{none_begun, none_starts, none_there_at}
use Rattle.painter.proofs.sprite_state.SpriteState.begun_clocks.Goals as goal

-- the first of them, and those behind it
each_steady : (h count : ℕ) (now : SpriteRegisters) → IsSteady h now → ((k : ℕ) → k + 1 < count → IsSteady (h + 1 + k) now) →
    (k : ℕ) → k < count → IsSteady (h + k) now
each_steady h count now first later zero lt =
    let here : h ≡ h + 0 = omega arith in
    subst (λ (n : ℕ). IsSteady n now) here first
each_steady h count now first later (suc k) lt =
    let there : h + 1 + k ≡ h + suc k = omega arith in
    subst (λ (n : ℕ). IsSteady n now) there (later k (omega arith))

pub returns-clause-steady : goal.returns-clause-steady
returns-clause-steady c =
    let now = c.args.self.now in
    let h = c.args.h in
    let eight : length c.args.self.now.runs ≡ 8 = ap (λ (l : List (Option Start)). length l) (sym c.requires.begun) in
    each_steady h (1 + c.clocks_before_start.result) now
    (record {
      first = c.requires.begun;
      second = none_begun (2 * h + 1) now eight (none_there_at (2 * h + 1) now (sym c.may_begin_at.ensures ∙ c.if-may_begin_at.false));
    })
    (λ k lt. record {
      first = none_begun (2 * (c.args.h + 1 + k)) now eight
          (none_starts (2 * (c.args.h + 1 + k)) (c.args.h + 1 + k) now (omega arith)
          (λ n few. c.clocks_before_start.ensures.before n k few (omega (arith, lt))));
      second = none_begun (2 * (c.args.h + 1 + k) + 1) now eight
          (none_starts (2 * (c.args.h + 1 + k) + 1) (c.args.h + 1 + k) now (omega arith)
          (λ n few. c.clocks_before_start.ensures.before n k few (omega (arith, lt))));
    })
