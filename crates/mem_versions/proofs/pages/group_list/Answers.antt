-- A turn adds the group of the next 8192 words.
use Rattle.std.proofs.Common.{◌≡◌, ℕ, ◌+◌, ◌-◌, ◌*◌, [], ◌∷◌, ◌++◌, take, drop, length, ap, ◌∙◌, arith, length-append, length-take, length-drop}
use Rattle.std.specs.Arc.{arc_value}
use Rattle.std.specs.List.{flat_map}
use Rattle.std.proofs.lemmas.List.Elements.{All-push, All-same}
use Rattle.mem_versions.proofs.PagesLaws.{joined-push}
use Rattle.mem_versions.proofs.pages.group_list.Goals as goal

pub loop-number-preserved : goal.loop-number-preserved
loop-number-preserved c =
    let n = c.loop-number.number in
    let words = c.args.words.now in
    let before = c.loop-number.list.items in
    let group = c.in_ok-new.field-0 in
    let first : n * 8192 ≡ 8192 * n = omega arith in
    let count : n * 8192 + 8192 - n * 8192 ≡ 8192 = omega arith in
    let value : arc_value group ≡ take 8192 (drop (8192 * n) words) =
    c.in_ok-new.ensures.ok ∙ c.in_ok-group.ensures
    ∙ ap (λ (k : ℕ). take (n * 8192 + 8192 - n * 8192) (drop k words)) first
    ∙ ap (λ (k : ℕ). take k (drop (8192 * n) words)) count in
    let size : length (take 8192 (drop (8192 * n) words)) ≡ 8192 =
    omega (arith, length-take 8192 (drop (8192 * n) words), length-drop (8192 * n) words) in
    let grown : c.push.new.self.items ≡ before ++ group ∷ [] = c.in_ok-push.ensures.items in
    record {
      words = ap (flat_map arc_value) grown ∙ joined-push 8192 arc_value before group words n c.loop-number.invariant.words value;
      count = ap length grown ∙ length-append before (group ∷ []) ∙ ap (λ (k : ℕ). k + 1) c.loop-number.invariant.count;
      size =
          All-same (λ p. length (arc_value p) ≡ 8192) c.push.new.self.items (before ++ group ∷ []) grown
          (All-push (λ p. length (arc_value p) ≡ 8192) before group c.loop-number.invariant.size (ap length value ∙ size));
    }
