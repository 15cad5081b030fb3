use Rattle.std.proofs.Common.{◌++◌, refl, ap, ◌∙◌}
use Rattle.crew.specs.Crew.{side_seen}
use Rattle.files_run.specs.Audio.{sampled}
use Rattle.files_run.specs.Underway.{fore_of}
use Rattle.files_run.proofs.AudioLaws.{IsHeard-next}
use Rattle.files_run.proofs.RunLaws.{on_ok, ok_then, later_clock, room_for_clocks, mark_ran, mark_part}
use Rattle.files_run.proofs.run.run_some.Goals as goal

pub next_limit-limit-requires : goal.next_limit-limit-requires
next_limit-limit-requires g c = record { room = room_for_clocks (fore_of c.args.fore.now) _ _ c.requires.able refl c.requires.running }

pub returns-in_err-run_to-clause-mark : goal.returns-in_err-run_to-clause-mark
returns-in_err-run_to-clause-mark g c = mark_part _ _ _ _ _ (c.in_err-run_to.ensures.part c.requires.able.fresh) c.requires.able

pub returns-clause-later : goal.returns-clause-later
returns-clause-later g c =
    on_ok _ _ (later_clock (fore_of c.args.fore.now) (fore_of c.run_to.new.fore) _ _ _ _ _ c.requires.able c.requires.running
    c.in_ok-run_to.ensures.clocks c.in_ok-run_to.ensures.come c.next_limit-limit.ensures.later c.run_to.ensures.run)

pub returns-clause-mark : goal.returns-clause-mark
returns-clause-mark g c = mark_ran _ _ _ _ _ _ c.in_ok-run_to.ensures.clocks c.requires.able

pub returns-clause-heard : goal.returns-clause-heard
returns-clause-heard g c =
    ok_then _ _ _ c.listen.ensures.taken (λ taken.
    IsHeard-next c.args.audio.now c.listen.new.audio (fore_of c.args.fore.now) (fore_of c.run_to.new.fore) _ _ _ _ _ c.requires.able
    c.in_ok-run_to.ensures.clocks c.run_to.ensures.run c.in_ok-run_to.ensures.come
    (later_clock (fore_of c.args.fore.now) (fore_of c.run_to.new.fore) _ _ _ _ _ c.requires.able c.requires.running
    c.in_ok-run_to.ensures.clocks c.in_ok-run_to.ensures.come c.next_limit-limit.ensures.later c.run_to.ensures.run)
    c.next_limit-limit.ensures.sampled c.next_limit-limit.ensures.between
    (λ on. taken on
    ∙ ap (λ b. c.args.audio.now.bytes.items ++ sampled b (side_seen c.side.result.now)) c.beam-beam.ensures
    ∙ ap (λ s. c.args.audio.now.bytes.items ++ sampled c.args.fore.now.machine.beam (side_seen s)) c.side.ensures)
    c.listen.ensures.on c.requires.heard)
