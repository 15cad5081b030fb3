-- The words of the image, filled up with zeros, are its memory.
use Rattle.std.proofs.Common.{◌≡◌, ℕ, ◌-◌, ◌/◌, List, ◌++◌, length, take, replicate, ap, ◌∙◌}
use Rattle.ocs_base.specs.Memory.{words}
use Rattle.mem_versions.proofs.WordsLaws.{memory_of-filled}
use Rattle.mem_versions.proofs.chip.image_words.Goals as goal

pub returns : goal.returns
returns c =
    let image = c.args.image.now in
    let count : ℕ = c.bytes.result / 2 in
    let pushed : c.push_words.new.into.items ≡ words image =
    c.in_ok-push_words.ensures ∙ ap (λ (before : List ℕ). before ++ words image) c.in_ok-list.ensures.items
    in
    let filled : c.resize.new.self.items ≡ take count c.push_words.new.into.items ++ replicate (count - length c.push_words.new.into.items) 0 =
    c.in_ok-resize.ensures.items ∙ ap (λ (n : ℕ). take count c.push_words.new.into.items ++ replicate (count - n) 0) c.push_words.new.into.ok.0
    in
    filled ∙ ap (λ (xs : List ℕ). take count xs ++ replicate (count - length xs) 0) pushed
    ∙ memory_of-filled c.args.size image count c.requires (ap (λ (n : ℕ). n / 2) c.bytes.ensures)
