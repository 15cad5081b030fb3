-- The start that is kept has the value; by the law on the last start so have all the line's starts.
use Rattle.std.proofs.Common.{rules, ◌≡◌, ◌∙◌, ℕ, Option, None, Some, List, sym, ap}
use Rattle.std.specs.Prelude.{slice_index_or}
use Rattle.std.specs.Option.{option_to_list}
use Rattle.sprites.specs.declared.runs.Start.{Start}
use Rattle.sprites.specs.SpriteValue.{sprite_value, kept_start}
use Rattle.sprites.proofs.Running.{value_on_line}
use Rattle.sprites.proofs.runs.Runs.value.Goals as goal

pub returns-in-Some-clause-line : goal.returns-in-Some-clause-line
returns-in-Some-clause-line c =
    let x : ℕ = c.args.x in
    let kept : List Start = kept_start c.args.self.now c.args.sprite in
    let here : slice_index_or c.args.self.now c.args.sprite None ≡ Some c.in-Some.start = search rules in
    let value : c.value.result ≡ sprite_value x kept =
    c.value.ensures.value ∙ sym (ap (λ (o : Option Start). sprite_value x (option_to_list o)) here) in
    value_on_line x kept c.value.result value
