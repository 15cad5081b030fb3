-- Above the pages there is no word.
use Rattle.std.proofs.Common.{◌≡◌, None, slice_get, sym, ◌∙◌}
use Rattle.std.proofs.lemmas.List.{get_or_past}
use Rattle.mem_versions.proofs.PagesLaws.{ended}
use Rattle.mem_versions.proofs.replayed.word_of.Goals as goal

pub returns-in-None : goal.returns-in-None
returns-in-None c =
    let missed : slice_get c.args.pages.now c.args.place ≡ None = sym c.get.ensures ∙ c.in-None.is in
    sym (get_or_past c.args.pages.now c.args.place 0 (ended c.args.pages.now c.args.place missed))
