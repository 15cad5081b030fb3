use Rattle.std.proofs.Common.{ap, refl, sym, ◌∙◌}
use Rattle.ocs_base.specs.declared.addr.Addr.{Addr}
use Rattle.blit_words.specs.declared.blit.SlotAsk.TheVariants as S
use Rattle.blit_words.specs.declared.blit.WordAsk.TheVariants.{D}
use Rattle.blitter_area.specs.Pointing.{lane_d}
use Rattle.blitter_area.proofs.Walking.{shown_now}
use Rattle.blitter_area.proofs.area.AreaBlit.write_ask.Goals as goal

pub returns-in-D : goal.returns-in-D
returns-in-D c =
    let b = c.args.self.now in
    sym (ap (λ (x : Addr). S.Write x b.ready.word) c.d.ensures
    ∙ ap (S.Write (lane_d b.pointers).at) (b.word_is c.in-D.is)
    ∙ shown_now b D c.in-D.is refl)
