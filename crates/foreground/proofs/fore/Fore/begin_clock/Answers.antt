-- A band begins with a read by the script, with a line, where one has begun already, or none does.
use Rattle.foreground.specs.Fore.{over}
use Rattle.std.proofs.Common.{◌≡◌, ◌∙◌, sym, true, arith, ap}
use Rattle.ocs_io.proofs.MapLaws.{on_err}
use Rattle.serial_bands.specs.Bands.{has_clx_read}
use Rattle.serial_bands.specs.Clock.{due_at}
use Rattle.foreground.specs.Steps.{BeginsPart}
use Rattle.foreground.proofs.BeginLaws.{is_running, reads_there, before_place, begins_within_now, begins_already_now, begins_no_part}
use Rattle.foreground.proofs.RefusalLaws.{no_value}
use Rattle.foreground.proofs.fore.Fore.begin_clock.Goals as goal

pub script_reads-requires : goal.script_reads-requires
script_reads-requires g c = record { script = c.requires.underway.1.script; screen = c.requires.underway.1.screen }

pub begin_at_read-requires : goal.begin_at_read-requires
begin_at_read-requires g c =
    let seen = g.Q.Raster.seen in
    let first = c.requires.underway.0 in
    let read : has_clx_read (due_at (over g.S.Side.seen c.args.self.now).run c.args.self.now.machine.t) ≡ true =
    reads_there (over g.S.Side.seen c.args.self.now) first (seen c.args.raster.now) c.script_reads.result c.requires.underway.1 c.script_reads.ensures
    ∙ c.if-script_reads.true in (
      first,
      c.requires.underway.1,
      read,
      is_running (over g.S.Side.seen c.args.self.now) first (seen c.args.raster.now) c.requires.underway.1
          c.requires.running,
    )

pub begin_at_line-requires : goal.begin_at_line-requires
begin_at_line-requires g c = record {
  underway = c.requires.underway;
  running = c.requires.running;
  before = before_place _ (over g.S.Side.seen c.args.self.now) (ap (over g.S.Side.seen) c.self.view_is) c.if-self.true;
  place = sym c.is_band_place.ensures ∙ c.if-is_band_place.true;
  unread =
      reads_there (over g.S.Side.seen c.args.self.now) c.requires.underway.0 (g.Q.Raster.seen c.args.raster.now) c.script_reads.result c.requires.underway.1
      c.script_reads.ensures ∙ c.if-script_reads.false;
}

pub returns-in_err-take_waiting-clause-part : goal.returns-in_err-take_waiting-clause-part
returns-in_err-take_waiting-clause-part g c =
    let seen = g.Q.Raster.seen in
    on_err c.from_residual.result
    (BeginsPart (over g.S.Side.seen c.args.self.now) (seen c.args.raster.now) (seen c.args.raster.now) c.args.out.now c.args.out.now)
    (begins_no_part (over g.S.Side.seen c.args.self.now) (seen c.args.raster.now) c.args.out.now)

pub returns-then-self-clause-begins : goal.returns-then-self-clause-begins
returns-then-self-clause-begins g c =
    let seen = g.Q.Raster.seen in
    begins_within_now _ (over g.S.Side.seen c.args.self.now) c.take_waiting.new.self (seen c.args.raster.now) c.args.out.now
    (ap (over g.S.Side.seen) c.self.view_is) c.requires.running
    c.if-self.true (sym c.is_band_place.ensures ∙ c.if-is_band_place.false)
    (reads_there (over g.S.Side.seen c.args.self.now) c.requires.underway.0 (seen c.args.raster.now) c.script_reads.result c.requires.underway.1
    c.script_reads.ensures ∙ c.if-script_reads.false) c.in_ok-take_waiting.ensures

pub returns-clause-begins : goal.returns-clause-begins
returns-clause-begins g c =
    let seen = g.Q.Raster.seen in
    begins_already_now _ (over g.S.Side.seen c.args.self.now) (over g.S.Side.seen c.begin_log.new.self) (seen c.args.raster.now) c.args.out.now
    (ap (over g.S.Side.seen) c.self.view_is) c.requires.running
    (omega (arith, c.if-self.false))
    (reads_there (over g.S.Side.seen c.args.self.now) c.requires.underway.0 (seen c.args.raster.now) c.script_reads.result c.requires.underway.1
    c.script_reads.ensures ∙ c.if-script_reads.false) (ap (over g.S.Side.seen) c.begin_log.ensures)

pub returns-then-script_reads-clause-begins : goal.returns-then-script_reads-clause-begins
returns-then-script_reads-clause-begins g c = c.begin_at_read.ensures.begins

pub returns-then-script_reads-clause-part : goal.returns-then-script_reads-clause-part
returns-then-script_reads-clause-part g c = c.begin_at_read.ensures.part

pub returns-then-script_reads-clause-kept : goal.returns-then-script_reads-clause-kept
returns-then-script_reads-clause-kept g c = c.begin_at_read.ensures.kept

pub returns-then-is_band_place-clause-begins : goal.returns-then-is_band_place-clause-begins
returns-then-is_band_place-clause-begins g c = c.begin_at_line.ensures.begins

pub returns-then-is_band_place-clause-part : goal.returns-then-is_band_place-clause-part
returns-then-is_band_place-clause-part g c = c.begin_at_line.ensures.part

pub returns-then-is_band_place-clause-kept : goal.returns-then-is_band_place-clause-kept
returns-then-is_band_place-clause-kept g c = c.begin_at_line.ensures.kept

pub take_waiting-requires : goal.take_waiting-requires
take_waiting-requires g c = tt

pub returns-in_err-take_waiting-clause-begins : goal.returns-in_err-take_waiting-clause-begins
returns-in_err-take_waiting-clause-begins g c = no_value c.from_residual.result _ c.from_residual.ensures.0

pub returns-then-self-clause-part : goal.returns-then-self-clause-part
returns-then-self-clause-part g c = tt

pub returns-clause-part : goal.returns-clause-part
returns-clause-part g c = tt
