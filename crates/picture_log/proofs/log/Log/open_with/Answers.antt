use Rattle.std.proofs.Common.{◌≡◌, length, ap, ◌∙◌, sym, subst}
use Rattle.serial_bands.specs.declared.shadow.Shadow.{Shadow}
use Rattle.serial_bands.specs.Shadows.{shadow_of}
use Rattle.picture_log.specs.Log.{IsLogOf}
use Rattle.picture_log.proofs.Beginning.{log_opens, with_opening}
use Rattle.picture_log.proofs.log.Log.open_with.Goals as goal

pub returns-clause-log : goal.returns-clause-log
returns-clause-log c = λ run to chip has stands place.
    let log = c.args.self.now in
    let opening = c.make_write.new.picture in
    let shadow : c.shadow_of-self.result ≡ shadow_of opening = c.shadow_of-self.ensures.shadow ∙ ap shadow_of c.state.ensures in
    subst (λ s. IsLogOf run to (with_opening opening s log) chip) (sym shadow)
    (log_opens run to c.args.h log chip c.args.closing opening has stands place c.make_write.ensures
    (sym (ap (λ (s : Shadow). length s.latches) shadow) ∙ c.shadow_of-self.ensures.planes)
    (sym (ap (λ (s : Shadow). length s.words_a) shadow) ∙ c.shadow_of-self.ensures.first)
    (sym (ap (λ (s : Shadow). length s.words_b) shadow) ∙ c.shadow_of-self.ensures.second))
