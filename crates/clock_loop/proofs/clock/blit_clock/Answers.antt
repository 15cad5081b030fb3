use Rattle.std.proofs.Common.{◌<◌, ◌+◌, arith, ap, refl, rules, sym, ◌∙◌}
use Rattle.blit_words.specs.declared.blit.SlotAsk.TheVariants as S
use Rattle.serial_model.specs.Bus.{blit_owner_ask}
use Rattle.serial_model.specs.declared.bus.Ask.TheVariants as A
use Rattle.serial_model.specs.declared.bus.Half.TheVariants.{Both}
use Rattle.serial_model.specs.declared.bus.Made.TheVariants as M
use Rattle.machine.specs.Machine.{machine_over}
use Rattle.chip_set.specs.Chips.{kept_wish}
use Rattle.foreground.specs.Fore.{ForeOf, over}
use Rattle.clock_loop.proofs.EndLaws.{waits_asked, line_asked, served_view, served_time, served_line, no_files}
use Rattle.clock_loop.proofs.EndLaws.{ends_as, blit_served, blit_ends, blit_rest, busy_as_asked, wanted_refused}
use Rattle.clock_loop.proofs.clock.blit_clock.Goals as goal

pub returns-in_err-waited-clause-ends : goal.returns-in_err-waited-clause-ends
returns-in_err-waited-clause-ends g c =
    let of = over g.S.Side.seen in
    let f1 = of c.args.fore.now in
    let asked = c.requires.asked in
    let ask = A.Blit (S.Write c.in-Some.at c.in-Some.word) in
    let made = M.Stored c.in-Some.at Both c.in-Some.word in
    let is = sym (ap (λ (f : ForeOf _). blit_owner_ask (kept_wish f.machine.chips)) c.fore.view_is) ∙ c.in-Some.ensures in
    ends_as _ ask f1 _ _ _ c.from_residual.result is
    (wanted_refused ask f1 _ _ _ c.from_residual.result c.from_residual.ensures.0
    (c.in_err-waited.ensures.reads ∙ ap (λ (f : ForeOf _). f.machine.chip.reads) c.fore.view_is) refl (ap (λ f. (of f).run) c.fore.view_is))

pub end_blit-requires-clause-line : goal.end_blit-requires-clause-line
end_blit-requires-clause-line g c =
    let of = over g.S.Side.seen in
    let f1 = of c.args.fore.now in
    let asked = c.requires.asked in
    let ask = A.Blit (S.Write c.in-Some.at c.in-Some.word) in
    let made = M.Stored c.in-Some.at Both c.in-Some.word in
    let is = sym (ap (λ (f : ForeOf _). blit_owner_ask (kept_wish f.machine.chips)) c.fore.view_is) ∙ c.in-Some.ensures in
    let waits = ap (λ (f : ForeOf _). f.log.waiting) c.fore.view_is ∙ waits_asked _ asked.0 f1 asked.1 asked.2 asked.3 in
    let served = served_view ask made c.in_ok-waited.waited _ f1 _ (ap of c.fore.view_is)
    (blit_served ask made c.in_ok-waited.waited _ (machine_over g.S.Side.seen c.write_for_blit.new.self) refl waits c.in_ok-waited.ensures.waits
    c.in_ok-waited.ensures.left) in
    let here = served_line ask made c.in_ok-waited.waited f1 _ no_files served in
    let low = line_asked _ asked.0 f1 asked.1 asked.2 asked.3 in
    omega (arith, here, low)

pub end_blit-requires-clause-count : goal.end_blit-requires-clause-count
end_blit-requires-clause-count g c =
    let of = over g.S.Side.seen in
    let f1 = of c.args.fore.now in
    let asked = c.requires.asked in
    let ask = A.Blit (S.Write c.in-Some.at c.in-Some.word) in
    let made = M.Stored c.in-Some.at Both c.in-Some.word in
    let is = sym (ap (λ (f : ForeOf _). blit_owner_ask (kept_wish f.machine.chips)) c.fore.view_is) ∙ c.in-Some.ensures in
    let waits = ap (λ (f : ForeOf _). f.log.waiting) c.fore.view_is ∙ waits_asked _ asked.0 f1 asked.1 asked.2 asked.3 in
    let served = served_view ask made c.in_ok-waited.waited _ f1 _ (ap of c.fore.view_is)
    (blit_served ask made c.in_ok-waited.waited _ (machine_over g.S.Side.seen c.write_for_blit.new.self) refl waits c.in_ok-waited.ensures.waits
    c.in_ok-waited.ensures.left) in
    let here = served_time ask made c.in_ok-waited.waited f1 _ no_files served in
    let room : c.args.fore.now.machine.t + 1 < 18446744073709551616 = search rules in
    omega (arith, here, room)

pub returns-in-Some-clause-ends : goal.returns-in-Some-clause-ends
returns-in-Some-clause-ends g c =
    let of = over g.S.Side.seen in
    let f1 = of c.args.fore.now in
    let asked = c.requires.asked in
    let ask = A.Blit (S.Write c.in-Some.at c.in-Some.word) in
    let made = M.Stored c.in-Some.at Both c.in-Some.word in
    let is = sym (ap (λ (f : ForeOf _). blit_owner_ask (kept_wish f.machine.chips)) c.fore.view_is) ∙ c.in-Some.ensures in
    let waits = ap (λ (f : ForeOf _). f.log.waiting) c.fore.view_is ∙ waits_asked _ asked.0 f1 asked.1 asked.2 asked.3 in
    let served = served_view ask made c.in_ok-waited.waited _ f1 _ (ap of c.fore.view_is)
    (blit_served ask made c.in_ok-waited.waited _ (machine_over g.S.Side.seen c.write_for_blit.new.self) refl waits c.in_ok-waited.ensures.waits
    c.in_ok-waited.ensures.left) in
    let made_it = c.end_blit.ensures in
    ends_as _ ask f1 (of c.end_blit.new.fore) _ _ c.end_blit.result is
    (blit_ends ask made c.in_ok-waited.waited f1 _ (of c.end_blit.new.fore) _ _ c.end_blit.result served
    (busy_as_asked c.args.fore.now.machine.chips c.requires.asks)
    made_it.ends (ap of made_it.same) made_it.chip made_it.left made_it.refused made_it.made made_it.stays)

pub returns-in-Some-clause-rest : goal.returns-in-Some-clause-rest
returns-in-Some-clause-rest g c =
    let of = over g.S.Side.seen in
    let f1 = of c.args.fore.now in
    let asked = c.requires.asked in
    let ask = A.Blit (S.Write c.in-Some.at c.in-Some.word) in
    let made = M.Stored c.in-Some.at Both c.in-Some.word in
    let is = sym (ap (λ (f : ForeOf _). blit_owner_ask (kept_wish f.machine.chips)) c.fore.view_is) ∙ c.in-Some.ensures in
    let waits = ap (λ (f : ForeOf _). f.log.waiting) c.fore.view_is ∙ waits_asked _ asked.0 f1 asked.1 asked.2 asked.3 in
    let served = served_view ask made c.in_ok-waited.waited _ f1 _ (ap of c.fore.view_is)
    (blit_served ask made c.in_ok-waited.waited _ (machine_over g.S.Side.seen c.write_for_blit.new.self) refl waits c.in_ok-waited.ensures.waits
    c.in_ok-waited.ensures.left) in
    let made_it = c.end_blit.ensures in
    blit_rest ask made c.in_ok-waited.waited _ _ f1 _ (of c.end_blit.new.fore) _ _ c.end_blit.result served
    (busy_as_asked c.args.fore.now.machine.chips c.requires.asks)
    made_it.ends made_it.stays made_it.rest

pub end_blit-requires-in-Some-blit_read_in_turn-clause-line : goal.end_blit-requires-in-Some-blit_read_in_turn-clause-line
end_blit-requires-in-Some-blit_read_in_turn-clause-line g c =
    let of = over g.S.Side.seen in
    let f1 = of c.args.fore.now in
    let asked = c.requires.asked in
    let ask = A.Blit (S.Read c.in-Some-blit_read_in_turn.at) in
    let made = M.Nothing in
    let is = sym (ap (λ (f : ForeOf _). blit_owner_ask (kept_wish f.machine.chips)) c.fore.view_is) ∙ c.in-Some-blit_read_in_turn.ensures in
    let waits = ap (λ (f : ForeOf _). f.log.waiting) c.fore.view_is ∙ waits_asked _ asked.0 f1 asked.1 asked.2 asked.3 in
    let served = served_view ask made c.read_for_blit-waited.result _ f1 _ (ap of c.fore.view_is)
    (blit_served ask made c.read_for_blit-waited.result _ (machine_over g.S.Side.seen c.read_for_blit-waited.new.self) refl waits
    c.read_for_blit-waited.ensures.waits c.read_for_blit-waited.ensures.left) in
    let here = served_line ask made c.read_for_blit-waited.result f1 _ no_files served in
    let low = line_asked _ asked.0 f1 asked.1 asked.2 asked.3 in
    omega (arith, here, low)

pub end_blit-requires-in-Some-blit_read_in_turn-clause-count : goal.end_blit-requires-in-Some-blit_read_in_turn-clause-count
end_blit-requires-in-Some-blit_read_in_turn-clause-count g c =
    let of = over g.S.Side.seen in
    let f1 = of c.args.fore.now in
    let asked = c.requires.asked in
    let ask = A.Blit (S.Read c.in-Some-blit_read_in_turn.at) in
    let made = M.Nothing in
    let is = sym (ap (λ (f : ForeOf _). blit_owner_ask (kept_wish f.machine.chips)) c.fore.view_is) ∙ c.in-Some-blit_read_in_turn.ensures in
    let waits = ap (λ (f : ForeOf _). f.log.waiting) c.fore.view_is ∙ waits_asked _ asked.0 f1 asked.1 asked.2 asked.3 in
    let served = served_view ask made c.read_for_blit-waited.result _ f1 _ (ap of c.fore.view_is)
    (blit_served ask made c.read_for_blit-waited.result _ (machine_over g.S.Side.seen c.read_for_blit-waited.new.self) refl waits
    c.read_for_blit-waited.ensures.waits c.read_for_blit-waited.ensures.left) in
    let here = served_time ask made c.read_for_blit-waited.result f1 _ no_files served in
    let room : c.args.fore.now.machine.t + 1 < 18446744073709551616 = search rules in
    omega (arith, here, room)

pub returns-in-Some-blit_read_in_turn-clause-ends : goal.returns-in-Some-blit_read_in_turn-clause-ends
returns-in-Some-blit_read_in_turn-clause-ends g c =
    let of = over g.S.Side.seen in
    let f1 = of c.args.fore.now in
    let asked = c.requires.asked in
    let ask = A.Blit (S.Read c.in-Some-blit_read_in_turn.at) in
    let made = M.Nothing in
    let is = sym (ap (λ (f : ForeOf _). blit_owner_ask (kept_wish f.machine.chips)) c.fore.view_is) ∙ c.in-Some-blit_read_in_turn.ensures in
    let waits = ap (λ (f : ForeOf _). f.log.waiting) c.fore.view_is ∙ waits_asked _ asked.0 f1 asked.1 asked.2 asked.3 in
    let served = served_view ask made c.read_for_blit-waited.result _ f1 _ (ap of c.fore.view_is)
    (blit_served ask made c.read_for_blit-waited.result _ (machine_over g.S.Side.seen c.read_for_blit-waited.new.self) refl waits
    c.read_for_blit-waited.ensures.waits c.read_for_blit-waited.ensures.left) in
    let made_it = c.end_blit-in-Some-blit_read_in_turn.ensures in
    ends_as _ ask f1 (of c.end_blit-in-Some-blit_read_in_turn.new.fore) _ _ c.end_blit-in-Some-blit_read_in_turn.result is
    (blit_ends ask made c.read_for_blit-waited.result f1 _ (of c.end_blit-in-Some-blit_read_in_turn.new.fore) _ _
    c.end_blit-in-Some-blit_read_in_turn.result served (busy_as_asked c.args.fore.now.machine.chips c.requires.asks)
    made_it.ends (ap of made_it.same) made_it.chip made_it.left made_it.refused made_it.made made_it.stays)

pub returns-in-Some-blit_read_in_turn-clause-rest : goal.returns-in-Some-blit_read_in_turn-clause-rest
returns-in-Some-blit_read_in_turn-clause-rest g c =
    let of = over g.S.Side.seen in
    let f1 = of c.args.fore.now in
    let asked = c.requires.asked in
    let ask = A.Blit (S.Read c.in-Some-blit_read_in_turn.at) in
    let made = M.Nothing in
    let is = sym (ap (λ (f : ForeOf _). blit_owner_ask (kept_wish f.machine.chips)) c.fore.view_is) ∙ c.in-Some-blit_read_in_turn.ensures in
    let waits = ap (λ (f : ForeOf _). f.log.waiting) c.fore.view_is ∙ waits_asked _ asked.0 f1 asked.1 asked.2 asked.3 in
    let served = served_view ask made c.read_for_blit-waited.result _ f1 _ (ap of c.fore.view_is)
    (blit_served ask made c.read_for_blit-waited.result _ (machine_over g.S.Side.seen c.read_for_blit-waited.new.self) refl waits
    c.read_for_blit-waited.ensures.waits c.read_for_blit-waited.ensures.left) in
    let made_it = c.end_blit-in-Some-blit_read_in_turn.ensures in
    blit_rest ask made c.read_for_blit-waited.result _ _ f1 _ (of c.end_blit-in-Some-blit_read_in_turn.new.fore) _ _
    c.end_blit-in-Some-blit_read_in_turn.result served (busy_as_asked c.args.fore.now.machine.chips c.requires.asks)
    made_it.ends made_it.stays made_it.rest
