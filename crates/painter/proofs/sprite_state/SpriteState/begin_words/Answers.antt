use Rattle.std.proofs.Common.{◌≡◌, ◌∙◌, ℕ, List, Option, length, slice_index, sym, ap, subst, arith}
use Rattle.sprites.specs.declared.runs.Start.{Start}
use Rattle.painter.specs.code.SpriteState.{SpriteRegisters, first_quiet, first_begun}
use Rattle.painter.proofs.Beginning.{NoneBegins, none_armed, none_there_at, none_begun_at_all, none_more, one_more, all_begun, none_of_one}
use Rattle.painter.proofs.sprite_state.SpriteState.begin_words.Goals as goal
use Rattle.painter.proofs.sprite_state.SpriteState.begin_words.Goals.{then-self-eq0-via-then-self-eq0, then-self-eq0-via-else-self-eq0+then-not-may_begin_at}
use Rattle.painter.proofs.sprite_state.SpriteState.begin_words.Goals.{then-starts-sprite, else-starts-sprite}

pub returns-then-self-eq0 : goal.returns-then-self-eq0
returns-then-self-eq0 c =
    let eight : length c.args.self.now.runs ≡ 8 = subst (λ (s : SpriteRegisters). length s.runs ≡ 8) c.self.view_is c.self.invariant.still.eight in
    let none : NoneBegins c.args.column c.args.self.now =
    elim c.then-self-eq0.branch [
      | then-self-eq0-via-then-self-eq0 w ↦
          none_armed c.args.column c.args.self.now (ap (λ (s : SpriteRegisters). s.armed) (sym c.self.view_is) ∙ w.if-self-eq0.true)
      | then-self-eq0-via-else-self-eq0+then-not-may_begin_at w ↦
          none_there_at c.args.column c.args.self.now (sym w.may_begin_at.ensures ∙ w.if-not-may_begin_at.true)
    ] in
    none_begun_at_all c.args.column c.args.self.now eight none

pub loop-sprite-init : goal.loop-sprite-init
loop-sprite-init c = none_more c.args.column c.args.self.now

pub loop-sprite-preserved : goal.loop-sprite-preserved
loop-sprite-preserved c =
    elim c.if-starts-sprite.branch [
      | then-starts-sprite w ↦
          one_more c.args.column c.args.self.now c.loop-sprite.self c.if-starts-sprite.self c.loop-sprite.sprite
          c.loop-sprite.invariant (w.self-is ∙ w.begin_words_of.ensures)
      | else-starts-sprite w ↦
          none_of_one c.args.column c.args.self.now c.loop-sprite.self c.if-starts-sprite.self c.loop-sprite.sprite c.loop-sprite-test.true
          c.loop-sprite.invariant w.self-is
          (λ e. w.if-starts-sprite.false (ap (λ (l : List ℕ). slice_index l c.loop-sprite.sprite) c.starts-starts.ensures ∙ e))
    ]

pub returns : goal.returns
returns c =
    let eight : length c.args.self.now.runs ≡ 8 = subst (λ (s : SpriteRegisters). length s.runs ≡ 8) c.self.view_is c.self.invariant.still.eight in
    let all : c.loop-sprite.sprite ≡ 8 = omega arith in
    c.loop-sprite.invariant
    ∙ ap (λ (n : ℕ). first_begun c.args.column c.args.self.now n) all
    ∙ ap (λ (l : List (Option Start)). record c.args.self.now { runs = l; quiet_from = first_quiet c.args.column c.args.self.now 8 })
    (all_begun c.args.column c.args.self.now eight)
