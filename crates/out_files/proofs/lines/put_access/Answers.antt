-- The bytes from the clock's first digit on are those of the line's text.
use Rattle.std.proofs.Common.{◌++◌, ◌∷◌, [], List, ℕ, ap, ◌∙◌}
use Rattle.out_files.specs.code.Lines.{access_text}
use Rattle.out_files.proofs.LinesLaws.{clock_first, access_bytes}
use Rattle.out_files.proofs.lines.put_access.Goals as goal

pub returns-clause-ok : goal.returns-clause-ok
returns-clause-ok c =
    let behind : List ℕ = 32 ∷ c.args.kind ∷ 32 ∷ c.character.result ∷ c.character-2.result ∷ c.character-3.result ∷ 32 ∷ c.character-4.result
    ∷ c.character-5.result ∷ c.character-6.result ∷ c.character-7.result ∷ 32 ∷ c.letter.result ∷ 10 ∷ [] in
    c.in_ok-extend_from_slice.ensures.items
    ∙ ap (λ (bytes : List ℕ). c.args.text.now.items ++ bytes)
    (clock_first c.zeros_before.result c.args.h c.decimal_digit.result c.decimal_digit-2.result c.decimal_digit-3.result behind
    (access_text c.args.kind c.args.reg.offset c.args.word c.args.by) c.zeros_before.ensures.few c.zeros_before.ensures.rest c.decimal_digit.ensures
    c.decimal_digit-2.ensures c.decimal_digit-3.ensures
    (access_bytes c.args.kind c.args.reg.offset c.raw-offset.result c.args.word c.args.by c.raw-offset.ensures c.character.ensures c.character-2.ensures
    c.character-3.ensures c.character-4.ensures c.character-5.ensures c.character-6.ensures c.character-7.ensures c.letter.ensures))
