use Rattle.serial_bands.specs.Run.{run_over}
use Rattle.std.proofs.Common.{◌≡◌, ap, ◌∙◌, sym, subst, arith}
use Rattle.std.specs.Arc.{arc_value}
use Rattle.mem_versions.specs.Chip.{ChipValue, after_reads}
use Rattle.mem_versions.specs.MemoryAt.{memory_at}
use Rattle.mem_versions.specs.MemView.{word_then}
use Rattle.serial_bands.specs.Shadows.{found_shadow, line_opening}
use Rattle.serial_bands.specs.Fetches.{fetches_in}
use Rattle.picture_log.specs.declared.log.Log.{Log}
use Rattle.picture_log.specs.Log.{IsLogOf}
use Rattle.picture_log.proofs.Beginning.{all_found, line_begins, with_opening}
use Rattle.picture_log.proofs.log.Log.cut_line.Goals as goal

pub find_words-requires-clause-behind : goal.find_words-requires-clause-behind
find_words-requires-clause-behind g c =
    let view = c.in_ok-job.job.view in
    let is = c.in_ok-job.ensures.view in
    ap (λ (chip : ChipValue). chip.base) c.in_ok-job.ensures.chip
    ∙ sym (is.memory c.args.to (omega arith))
    ∙ ap (λ k. memory_at k view.base view.writes) (sym is.to)

pub opening-requires : goal.opening-requires
opening-requires g c =
    let log = c.args.self.now in
    let found = word_then c.in_ok-job.job.view in
    ap fetches_in c.find_words.ensures.words
    ∙ ap (λ (l : Log). fetches_in (found_shadow found l.shadow)) c.in_ok-job.ensures.log
    ∙ all_found found _ log.shadow c.requires.log.left

pub returns-clause-log : goal.returns-clause-log
returns-clause-log g c =
    let run = run_over g.S.Side.seen (arc_value c.args.run.now) in
    let log = c.args.self.now in
    let cut = c.close.new.self in
    let view = c.in_ok-job.job.view in
    let same : c.find_words.new.shadow ≡ found_shadow (word_then view) log.shadow =
    c.find_words.ensures.words ∙ ap (λ (l : Log). found_shadow (word_then view) l.shadow) c.in_ok-job.ensures.log in
    subst (λ chip. IsLogOf run c.args.to (with_opening c.set.new.self c.find_words.new.shadow cut) chip)
    (sym c.find_words.ensures.reads)
    (subst (λ s. IsLogOf run c.args.to (with_opening c.set.new.self s cut) (after_reads c.close.new.chip (fetches_in cut.shadow))) (sym same)
    (line_begins run c.args.to log cut c.args.chip.now c.close.new.chip (fetches_in cut.shadow) view c.set.new.self
    c.requires.log c.requires.before c.requires.line c.in_ok-job.ensures.cut c.in_ok-job.ensures.view
    (c.set.ensures ∙ c.opening.ensures run ∙ ap (line_opening run) same)))
