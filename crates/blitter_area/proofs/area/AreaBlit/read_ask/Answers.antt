use Rattle.std.proofs.Common.{ap, refl, sym, ◌∙◌}
use Rattle.blit_words.specs.declared.blit.SlotAsk.TheVariants as S
use Rattle.blit_words.specs.declared.blit.WordAsk.TheVariants.{A, B, C}
use Rattle.blitter_area.proofs.Walking.{shown_now}
use Rattle.blitter_area.proofs.area.AreaBlit.read_ask.Goals as goal

pub returns-in-A : goal.returns-in-A
returns-in-A c = sym (ap S.Read c.a.ensures ∙ shown_now c.args.self.now A c.in-A.is refl)

pub returns-in-B : goal.returns-in-B
returns-in-B c = sym (ap S.Read c.b.ensures ∙ shown_now c.args.self.now B c.in-B.is refl)

pub returns-in-C : goal.returns-in-C
returns-in-C c = sym (ap S.Read c.c.ensures ∙ shown_now c.args.self.now C c.in-C.is refl)
