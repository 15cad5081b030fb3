-- One turn moves one word over; at the end fewer than two bytes are left, which make none.
use Rattle.std.proofs.Common.{◌≡◌, ℕ, ◌+◌, ◌-◌, ◌*◌, List, [], ◌∷◌, ◌++◌, length, take, drop, get_or, ap, sym, ◌∙◌, arith}
use Rattle.ocs_base.specs.Memory.{words}
use Rattle.mem_versions.proofs.WordsLaws.{words-more, words-end}
use Rattle.mem_versions.proofs.chip.push_words.Goals as goal

pub loop-rest-preserved : goal.loop-rest-preserved
loop-rest-preserved c =
    let rest = c.loop-rest.rest.now in
    let into = c.loop-rest.into.items in
    let word : c.from_be_bytes.result ≡ 256 * get_or rest 0 0 + get_or rest 1 0 = omega (arith, c.from_be_bytes.ensures) in
    let pushed : c.push.new.self.items ≡ into ++ (256 * get_or rest 0 0 + get_or rest 1 0) ∷ [] =
    c.in_ok-push.ensures.items ∙ ap (λ (w : ℕ). into ++ w ∷ []) word
    in
    ap (λ (items : List ℕ). items ++ words (take (length rest - 2) (drop 2 rest))) pushed ∙ words-more into rest c.in-len2-up.len_at_least
    ∙ c.loop-rest.invariant

pub returns : goal.returns
returns c =
    sym (words-end c.loop-rest.into.items c.loop-rest.rest.now c.in_default.len_below) ∙ c.loop-rest.invariant
