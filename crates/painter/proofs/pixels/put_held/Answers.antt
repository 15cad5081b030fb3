use Rattle.std.proofs.Common.{◌≡◌, ◌∙◌, ◌+◌, ◌++◌, refl, ℕ, List, take, flat_map, ap, w64}
use Rattle.std.specs.Int.{to_le_bytes}
use Rattle.priority_ham.specs.PixelColour.{modified}
use Rattle.painter.specs.Inks.{ink_number}
use Rattle.painter.specs.code.Held.{colour_word}
use Rattle.painter.specs.code.Pixels.{modified_at}
use Rattle.painter.proofs.HeldWords.{word_bytes}
use Rattle.painter.proofs.Modifying.{paired_along, paired_modified}
use Rattle.painter.proofs.Wide.{pairs_put}
use Rattle.painter.proofs.pixels.put_held.Goals as goal

pub returns-clause-held : goal.returns-clause-held
unfolding modified_at
returns-clause-held c colour is =
    let inks = c.args.painter.now.inks in
    let line = c.args.painter.now.line in
    let x = c.args.x in
    let one : ℕ = modified_at c.args.painter.now.inks c.args.painter.now.line c.args.x colour in
    let two : ℕ = modified_at c.args.painter.now.inks c.args.painter.now.line (c.args.x + 2) one in
    let first : c.modify_word-first.result ≡ colour_word one =
    c.modify_word-first.ensures colour is
    ∙ ap (λ (n : ℕ). colour_word (modified n colour inks.palette)) (c.name.ensures.value ∙ ap (ink_number inks.con0 inks.con2) c.bits.ensures.value) in
    c.modify_word-second.ensures one first
    ∙ ap (λ (n : ℕ). colour_word (modified n one inks.palette)) (c.name-2.ensures.value ∙ ap (ink_number inks.con0 inks.con2) c.bits-2.ensures.value)
    ∙ ap (λ (n : ℕ). colour_word n) (paired_along inks line x colour one two c.requires.pairs refl refl)

pub returns-clause-bytes : goal.returns-clause-bytes
unfolding modified_at
returns-clause-bytes c colour is =
    let inks = c.args.painter.now.inks in
    let line = c.args.painter.now.line in
    let x = c.args.x in
    let one : ℕ = modified_at c.args.painter.now.inks c.args.painter.now.line c.args.x colour in
    let two : ℕ = modified_at c.args.painter.now.inks c.args.painter.now.line (c.args.x + 2) one in
    let first : c.modify_word-first.result ≡ colour_word one =
    c.modify_word-first.ensures colour is
    ∙ ap (λ (n : ℕ). colour_word (modified n colour inks.palette)) (c.name.ensures.value ∙ ap (ink_number inks.con0 inks.con2) c.bits.ensures.value) in
    let second : c.modify_word-second.result ≡ colour_word two =
    c.modify_word-second.ensures one first
    ∙ ap (λ (n : ℕ). colour_word (modified n one inks.palette)) (c.name-2.ensures.value ∙ ap (ink_number inks.con0 inks.con2) c.bits-2.ensures.value) in
    pairs_put c.args.at one two c.args.room.now c.put_eight.new.room c.put_eight-2.new.room _ _
    (c.to_le_bytes.ensures ∙ ap (to_le_bytes w64) first ∙ word_bytes one) (c.to_le_bytes-2.ensures ∙ ap (to_le_bytes w64) second ∙ word_bytes two)
    c.put_eight.ensures.six c.put_eight-2.ensures.six
    ∙ ap (λ (l : List (List ℕ)). take c.args.at c.args.room.now ++ flat_map (λ (k : List ℕ). k) l)
    (paired_modified inks line x colour one two c.requires.pairs refl refl)
