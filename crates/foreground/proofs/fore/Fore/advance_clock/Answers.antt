use Rattle.std.proofs.Common.{ap, refl}
use Rattle.mem_versions.specs.Chip.{ChipValue}
use Rattle.foreground.specs.Fore.{over, looked_up}
use Rattle.foreground.proofs.MadeLaws.{on_err}
use Rattle.foreground.proofs.AskedLaws.{reaches_ask, at_ask, makes_from_ask, part_from_ask, kept_from_ask, rises_from_ask}
use Rattle.foreground.proofs.AdvanceLaws.{advances, part_reaching, part_accessing, part_ending, machine_at_begin}
use Rattle.foreground.proofs.SlotLaws.{slot_from_ask}
use Rattle.foreground.proofs.RefusalLaws.{no_value, not_ok}
use Rattle.foreground.proofs.fore.Fore.advance_clock.Goals as goal

pub run_to_timers-requires-clause-some : goal.run_to_timers-requires-clause-some
run_to_timers-requires-clause-some g c = machine_at_begin _ _ _ _ _ _ _ _ c.requires.underway.1 c.in_ok-clx.ensures.begins

pub returns-in_err-run_to_timers-clause-part : goal.returns-in_err-run_to_timers-clause-part
returns-in_err-run_to_timers-clause-part g c =
    on_err c.from_residual-in_err-run_to_timers.result
    (part_reaching _ _ _ _ _ _ _ _ c.in_ok-clx.ensures.begins c.in_err-run_to_timers.ensures.told)

pub access_with_word-requires-clause-can : goal.access_with_word-requires-clause-can
access_with_word-requires-clause-can g c =
    let at = at_ask _ _ _ _ _ _ _ _ _ _ _ c.requires.underway.1 c.in_ok-clx.ensures.begins
    (reaches_ask _ _ _ _ _ _ _ c.in_ok-run_to_timers.ensures.events c.ask_alone-ask.ensures.asks (ap (over g.S.Side.seen) c.ask_alone-ask.ensures.same)) in
    record { logged = at.1; asked = at.0; able = c.ask_alone-ask.ensures.able; wish = c.ask_alone-ask.ensures.wish }

pub returns-in_err-read-clause-part : goal.returns-in_err-read-clause-part
returns-in_err-read-clause-part g c =
    let reaches = reaches_ask _ _ _ _ _ _ _ c.in_ok-run_to_timers.ensures.events c.ask_alone-ask.ensures.asks
    (ap (over g.S.Side.seen) c.ask_alone-ask.ensures.same) in
    on_err c.from_residual-in_err-read.result
    (part_accessing _ _ _ _ _ _ _ _ _ _ _ c.in_ok-clx.ensures.begins reaches.reaches
    (part_from_ask _ _ _ _ _ _ _ _ _ reaches c.in_err-read.ensures.access.part))

pub returns-in_err-read-clause-few : goal.returns-in_err-read-clause-few
returns-in_err-read-clause-few g c =
    on_err c.from_residual-in_err-read.result (rises_from_ask _ _ _ _ _ _ (looked_up (over g.S.Side.seen c.args.self.now)) _ _ _ _ _ _ _
    c.requires.underway.1 c.in_ok-clx.ensures.begins c.in_ok-clx.ensures.reads
    (reaches_ask _ _ _ _ _ _ _ c.in_ok-run_to_timers.ensures.events c.ask_alone-ask.ensures.asks (ap (over g.S.Side.seen) c.ask_alone-ask.ensures.same))
    c.in_err-read.ensures.access.reads refl).1

pub returns-in_err-end_clock-clause-part : goal.returns-in_err-end_clock-clause-part
returns-in_err-end_clock-clause-part g c =
    let reaches = reaches_ask _ _ _ _ _ _ _ c.in_ok-run_to_timers.ensures.events c.ask_alone-ask.ensures.asks
    (ap (over g.S.Side.seen) c.ask_alone-ask.ensures.same) in
    on_err c.from_residual-in_err-end_clock.result
    (part_ending _ _ _ _ _ _ _ _ _ _ _ _ _ c.in_ok-clx.ensures.begins
    reaches.reaches (makes_from_ask _ _ _ _ _ _ _ _ _ _ reaches c.in_ok-read.ensures.access.makes)
    (kept_from_ask _ _ _ _ _ _ _ reaches c.in_ok-read.ensures.access.kept) c.in_err-end_clock.ensures.refused)

pub returns-in_err-end_clock-clause-few : goal.returns-in_err-end_clock-clause-few
returns-in_err-end_clock-clause-few g c =
    on_err c.from_residual-in_err-end_clock.result (rises_from_ask _ _ _ _ _ _ (looked_up (over g.S.Side.seen c.args.self.now)) _ _ _ _ _ _ _
    c.requires.underway.1 c.in_ok-clx.ensures.begins c.in_ok-clx.ensures.reads
    (reaches_ask _ _ _ _ _ _ _ c.in_ok-run_to_timers.ensures.events c.ask_alone-ask.ensures.asks (ap (over g.S.Side.seen) c.ask_alone-ask.ensures.same))
    c.in_ok-read.ensures.access.reads
    (ap (λ (x : ChipValue). x.reads) c.in_err-end_clock.ensures.chip)).1

pub returns-clause-clock : goal.returns-clause-clock
returns-clause-clock g c =
    let reaches = reaches_ask _ _ _ _ _ _ _ c.in_ok-run_to_timers.ensures.events c.ask_alone-ask.ensures.asks
    (ap (over g.S.Side.seen) c.ask_alone-ask.ensures.same) in
    let place = c.in_ok-end_clock.ensures.place in
    advances _ _ _ _ _ _ place.0 _ _ _ _ _ _ _ _ c.requires.running c.in_ok-clx.ensures.begins
    reaches.reaches (makes_from_ask _ _ _ _ _ _ _ _ _ _ reaches c.in_ok-read.ensures.access.makes)
    (kept_from_ask _ _ _ _ _ _ _ reaches c.in_ok-read.ensures.access.kept) c.in_ok-end_clock.ensures.ends place.1

pub returns-clause-slot : goal.returns-clause-slot
returns-clause-slot g c =
    let reaches = reaches_ask _ _ _ _ _ _ _ c.in_ok-run_to_timers.ensures.events c.ask_alone-ask.ensures.asks
    (ap (over g.S.Side.seen) c.ask_alone-ask.ensures.same) in
    let at = at_ask _ _ _ _ _ _ _ _ _ _ _ c.requires.underway.1 c.in_ok-clx.ensures.begins reaches in
    slot_from_ask _ _ _ _ _ _ _ _ _ _ _ _ c.requires.underway.1 c.in_ok-clx.ensures.begins reaches
    (record { ask = at.0.asks; read = c.in_ok-read.ensures.word })

pub returns-clause-reads : goal.returns-clause-reads
returns-clause-reads g c =
    (rises_from_ask _ _ _ _ _ _ (looked_up (over g.S.Side.seen c.args.self.now)) _ _ _ _ _ _ _
    c.requires.underway.1 c.in_ok-clx.ensures.begins c.in_ok-clx.ensures.reads
    (reaches_ask _ _ _ _ _ _ _ c.in_ok-run_to_timers.ensures.events c.ask_alone-ask.ensures.asks (ap (over g.S.Side.seen) c.ask_alone-ask.ensures.same))
    c.in_ok-read.ensures.access.reads
    (ap (λ (x : ChipValue). x.reads) c.in_ok-end_clock.ensures.chip)).0

pub begin_clock-requires-clause-underway : goal.begin_clock-requires-clause-underway
begin_clock-requires-clause-underway g c = c.requires.underway

pub begin_clock-requires-clause-running : goal.begin_clock-requires-clause-running
begin_clock-requires-clause-running g c = c.requires.running

pub returns-in_err-clx-clause-clock : goal.returns-in_err-clx-clause-clock
returns-in_err-clx-clause-clock g c = not_ok c.from_residual.result _ c.from_residual.ensures.0

pub returns-in_err-clx-clause-slot : goal.returns-in_err-clx-clause-slot
returns-in_err-clx-clause-slot g c = no_value c.from_residual.result _ c.from_residual.ensures.0

pub returns-in_err-clx-clause-count : goal.returns-in_err-clx-clause-count
returns-in_err-clx-clause-count g c = not_ok c.from_residual.result _ c.from_residual.ensures.0

pub returns-in_err-clx-clause-spent : goal.returns-in_err-clx-clause-spent
returns-in_err-clx-clause-spent g c = not_ok c.from_residual.result _ c.from_residual.ensures.0

pub returns-in_err-clx-clause-reads : goal.returns-in_err-clx-clause-reads
returns-in_err-clx-clause-reads g c = not_ok c.from_residual.result _ c.from_residual.ensures.0

pub returns-in_err-run_to_timers-clause-clock : goal.returns-in_err-run_to_timers-clause-clock
returns-in_err-run_to_timers-clause-clock g c = not_ok c.from_residual-in_err-run_to_timers.result _ c.from_residual-in_err-run_to_timers.ensures.0

pub returns-in_err-run_to_timers-clause-slot : goal.returns-in_err-run_to_timers-clause-slot
returns-in_err-run_to_timers-clause-slot g c = no_value c.from_residual-in_err-run_to_timers.result _ c.from_residual-in_err-run_to_timers.ensures.0

pub returns-in_err-run_to_timers-clause-count : goal.returns-in_err-run_to_timers-clause-count
returns-in_err-run_to_timers-clause-count g c = not_ok c.from_residual-in_err-run_to_timers.result _ c.from_residual-in_err-run_to_timers.ensures.0

pub returns-in_err-run_to_timers-clause-spent : goal.returns-in_err-run_to_timers-clause-spent
returns-in_err-run_to_timers-clause-spent g c = not_ok c.from_residual-in_err-run_to_timers.result _ c.from_residual-in_err-run_to_timers.ensures.0

pub returns-in_err-run_to_timers-clause-reads : goal.returns-in_err-run_to_timers-clause-reads
returns-in_err-run_to_timers-clause-reads g c = not_ok c.from_residual-in_err-run_to_timers.result _ c.from_residual-in_err-run_to_timers.ensures.0

pub returns-in_err-read-clause-clock : goal.returns-in_err-read-clause-clock
returns-in_err-read-clause-clock g c = not_ok c.from_residual-in_err-read.result _ c.from_residual-in_err-read.ensures.0

pub returns-in_err-read-clause-slot : goal.returns-in_err-read-clause-slot
returns-in_err-read-clause-slot g c = no_value c.from_residual-in_err-read.result _ c.from_residual-in_err-read.ensures.0

pub returns-in_err-read-clause-count : goal.returns-in_err-read-clause-count
returns-in_err-read-clause-count g c = not_ok c.from_residual-in_err-read.result _ c.from_residual-in_err-read.ensures.0

pub returns-in_err-read-clause-spent : goal.returns-in_err-read-clause-spent
returns-in_err-read-clause-spent g c = not_ok c.from_residual-in_err-read.result _ c.from_residual-in_err-read.ensures.0

pub returns-in_err-read-clause-reads : goal.returns-in_err-read-clause-reads
returns-in_err-read-clause-reads g c = not_ok c.from_residual-in_err-read.result _ c.from_residual-in_err-read.ensures.0

pub returns-in_err-end_clock-clause-clock : goal.returns-in_err-end_clock-clause-clock
returns-in_err-end_clock-clause-clock g c = not_ok c.from_residual-in_err-end_clock.result _ c.from_residual-in_err-end_clock.ensures.0

pub returns-in_err-end_clock-clause-slot : goal.returns-in_err-end_clock-clause-slot
returns-in_err-end_clock-clause-slot g c = no_value c.from_residual-in_err-end_clock.result _ c.from_residual-in_err-end_clock.ensures.0

pub returns-in_err-end_clock-clause-count : goal.returns-in_err-end_clock-clause-count
returns-in_err-end_clock-clause-count g c = not_ok c.from_residual-in_err-end_clock.result _ c.from_residual-in_err-end_clock.ensures.0

pub returns-in_err-end_clock-clause-spent : goal.returns-in_err-end_clock-clause-spent
returns-in_err-end_clock-clause-spent g c = not_ok c.from_residual-in_err-end_clock.result _ c.from_residual-in_err-end_clock.ensures.0

pub returns-in_err-end_clock-clause-reads : goal.returns-in_err-end_clock-clause-reads
returns-in_err-end_clock-clause-reads g c = not_ok c.from_residual-in_err-end_clock.result _ c.from_residual-in_err-end_clock.ensures.0

pub returns-clause-part : goal.returns-clause-part
returns-clause-part g c = tt

pub returns-clause-few : goal.returns-clause-few
returns-clause-few g c = tt
