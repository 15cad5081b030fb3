use Rattle.std.proofs.Common.{ap, refl, ◌∙◌}
use Rattle.ocs_base.specs.declared.addr.Addr.{Addr}
use Rattle.blit_words.specs.declared.blit.SlotAsk.TheVariants as S
use Rattle.blit_words.specs.declared.blit.WordAsk.TheVariants.{A, B, C, D}
use Rattle.blitter_area.specs.Pointing.{lane_d}
use Rattle.blitter_area.proofs.Walking.{shown_now}
use Rattle.blitter_area.proofs.area.AreaBlit.slot_now.Goals as goal

pub returns-in-A : goal.returns-in-A
returns-in-A c = ap S.Read c.a.ensures ∙ shown_now c.args.self.now A c.in-A.is refl

pub returns-in-B : goal.returns-in-B
returns-in-B c = ap S.Read c.b.ensures ∙ shown_now c.args.self.now B c.in-B.is refl

pub returns-in-C : goal.returns-in-C
returns-in-C c = ap S.Read c.c.ensures ∙ shown_now c.args.self.now C c.in-C.is refl

pub returns-in-D : goal.returns-in-D
returns-in-D c =
    let b = c.args.self.now in
    ap (λ (x : Addr). S.Write x b.ready.word) c.d.ensures
    ∙ ap (S.Write (lane_d b.pointers).at) (b.word_is c.in-D.is)
    ∙ shown_now b D c.in-D.is refl
