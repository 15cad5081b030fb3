use Rattle.std.proofs.Common.{◌<◌, ◌++◌, List, length, map, set, take, drop, slice_index_or, ap, ◌∙◌, sym, arith, add-one}
use Rattle.serial_bands.specs.declared.shadow.Filling.{Filling}
use Rattle.serial_bands.specs.declared.shadow.Filling.TheVariants as F
use Rattle.picture_log.proofs.Fillings.{map_into}
use Rattle.picture_log.proofs.shadow.fill.Goals as goal

pub loop-i-preserved : goal.loop-i-preserved
loop-i-preserved c =
    let i = c.loop-i.i in
    let words = c.args.words.now in
    let old = c.args.fillings.now in
    let within : i < length words = omega (arith, c.requires) in
    ap (λ (l : List Filling). set l i (F.Word (slice_index_or words i 0))) c.loop-i.invariant
    ∙ map_into (λ word. F.Word word) words old i 0 within c.requires
    ∙ ap (λ k. map (λ word. F.Word word) (take k words) ++ drop k old) (sym (add-one i))
