-- The run stands where the clock is reached from.
use Rattle.std.proofs.Common.{refl, arith}
use Rattle.rewind_loop.specs.Present.{run_in, fore_of, raster_of}
use Rattle.rewind_loop.proofs.BackLaws.{stays_here, went_back}
use Rattle.rewind_loop.proofs.rewind.Rewind.go_back.Goals as goal

pub returns-then-clocks-clock-clause-run : goal.returns-then-clocks-clock-clause-run
returns-then-clocks-clock-clause-run c = refl

pub returns-then-clocks-clock-clause-every : goal.returns-then-clocks-clock-clause-every
returns-then-clocks-clock-clause-every c = refl

pub returns-then-clocks-clock-clause-back : goal.returns-then-clocks-clock-clause-back
returns-then-clocks-clock-clause-back c keep p is =
    let self = c.args.self.now in
    stays_here (run_in self) keep p (fore_of self.fore) (raster_of self.raster) self.ring is c.args.clock
    (omega (arith, c.clocks.ensures, c.if-clocks-clock.true))

pub load_best-requires-clause-at : goal.load_best-requires-clause-at
load_best-requires-clause-at c = c.requires.at

pub load_best-requires-clause-above : goal.load_best-requires-clause-above
load_best-requires-clause-above c = omega (arith, c.clocks.ensures, c.if-clocks-clock.false)

pub returns-in_err-fore-clause-run : goal.returns-in_err-fore-clause-run
returns-in_err-fore-clause-run c = refl

pub returns-in_err-fore-clause-every : goal.returns-in_err-fore-clause-every
returns-in_err-fore-clause-every c = refl

pub returns-in_err-begin_at-clause-run : goal.returns-in_err-begin_at-clause-run
returns-in_err-begin_at-clause-run c = c.begin_at.ensures.run

pub returns-in_err-begin_at-clause-every : goal.returns-in_err-begin_at-clause-every
returns-in_err-begin_at-clause-every c = c.begin_at.ensures.every

pub returns-clause-run : goal.returns-clause-run
returns-clause-run c = c.begin_at.ensures.run

pub returns-clause-every : goal.returns-clause-every
returns-clause-every c = c.begin_at.ensures.every

pub returns-clause-back : goal.returns-clause-back
returns-clause-back c keep p is =
    went_back c.args.self.now c.begin_at.new.self c.args.clock c.in_ok-fore.band c.in_ok-fore.fore c.cut_after.new.self c.begin_at.ensures.run
    c.begin_at.ensures.ring c.in_ok-begin_at.ensures.fore c.in_ok-begin_at.ensures.raster c.cut_after.ensures c.in_ok-fore.ensures keep p is
