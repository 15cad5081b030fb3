-- A turn adds the page of the next 256 words.
use Rattle.std.proofs.Common.{◌≡◌, ℕ, ◌+◌, [], ◌∷◌, ◌++◌, length, ap, ◌∙◌, length-append}
use Rattle.std.specs.Arc.{arc_value}
use Rattle.std.specs.List.{flat_map}
use Rattle.std.proofs.lemmas.List.Elements.{All-push, All-same}
use Rattle.mem_versions.proofs.PagesLaws.{joined-push}
use Rattle.mem_versions.proofs.group.page_list.Goals as goal

pub loop-number-preserved : goal.loop-number-preserved
loop-number-preserved c =
    let n = c.loop-number.number in
    let before = c.loop-number.list.items in
    let page = c.in_ok-new.field-0 in
    let value : arc_value page ≡ c.page_of.result = c.in_ok-new.ensures.ok in
    let grown : c.push.new.self.items ≡ before ++ page ∷ [] = c.in_ok-push.ensures.items in
    record {
      words =
          ap (flat_map arc_value) grown
          ∙ joined-push 256 arc_value before page c.args.words.now n c.loop-number.invariant.words (value ∙ c.page_of.ensures.words);
      count = ap length grown ∙ length-append before (page ∷ []) ∙ ap (λ (k : ℕ). k + 1) c.loop-number.invariant.count;
      size =
          All-same (λ p. length (arc_value p) ≡ 256) c.push.new.self.items (before ++ page ∷ []) grown
          (All-push (λ p. length (arc_value p) ≡ 256) before page c.loop-number.invariant.size (ap length value ∙ c.page_of.ensures.size));
    }
