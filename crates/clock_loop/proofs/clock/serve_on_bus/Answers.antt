use Rattle.std.proofs.Common.{ap, sym, ◌∙◌}
use Rattle.foreground.specs.Fore.{over}
use Rattle.machine.proofs.BusLaws.{no_clx}
use Rattle.picture_log.specs.declared.log.Log.{Log}
use Rattle.clock_loop.proofs.BusLaws.{blits_on, stays_view, none_waits}
use Rattle.foreground.proofs.ScriptLaws.{lines_same}
use Rattle.foreground.proofs.MadeLaws.{some_state_asked, lines_of_access, makes_quietly_of, quiet_part, on_err}
use Rattle.clock_loop.proofs.clock.serve_on_bus.Goals as goal

pub answer_on_bus-requires-clause-asked : goal.answer_on_bus-requires-clause-asked
answer_on_bus-requires-clause-asked g c = some_state_asked _ _ c.args.ask.now (ap (over g.S.Side.seen) c.fore.view_is) c.requires.can.1.asked

pub returns-in_err-made-clause-part : goal.returns-in_err-made-clause-part
returns-in_err-made-clause-part g c =
    on_err c.from_residual.result (λ seen. quiet_part (over g.S.Side.seen c.args.fore.now) seen _ _ (lines_same _ _ c.in_err-made.ensures.refused))

pub returns-in_err-note_touch-clause-part : goal.returns-in_err-note_touch-clause-part
returns-in_err-note_touch-clause-part g c =
    on_err c.from_residual-in_err-note_touch.result
    (λ seen. quiet_part (over g.S.Side.seen c.args.fore.now) seen _ _ (lines_of_access _ _ _ c.args.ask.now _ _ _
    (ap (over g.S.Side.seen) c.fore.view_is) c.requires.can.1.asked (no_clx c.args.ask.now c.requires.bus) c.in_ok-made.ensures.access))

pub returns-clause-makes : goal.returns-clause-makes
returns-clause-makes g c seen =
    makes_quietly_of _ _ c.args.ask.now _ _ _ _ seen _ _ (ap (over g.S.Side.seen) c.fore.view_is)
    c.requires.can.1.asked (no_clx c.args.ask.now c.requires.bus) c.in_ok-made.ensures.access c.in_ok-made.ensures.able c.in_ok-made.ensures.place
    c.in_ok-made.ensures.memory c.touch_of.ensures.touch c.touch_of.ensures.range c.in_ok-note_touch.ensures

pub returns-clause-bus : goal.returns-clause-bus
returns-clause-bus g c same =
    stays_view g.S.Side.seen _ c.args.fore.now _ c.fore.view_is (record {
      chips = c.in_ok-made.ensures.bus
          (blits_on _ _ c.is_blitting-busy.result c.is_blitting.result c.is_blitting-busy.ensures c.is_blitting.ensures
          (sym c.made_access.ensures.stays ∙ same));
      waits = ap (λ (l : Log). l.waiting) c.in_ok-note_touch.ensures
          ∙ none_waits _ _ _ c.touch_of.ensures.touch c.in_ok-made.ensures.made;
      from = ap (λ (l : Log). l.band.from) c.in_ok-note_touch.ensures;
      side = c.in_ok-made.ensures.side;
    })
