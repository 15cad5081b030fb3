use Rattle.std.proofs.Common.{◌≤◌, ℕ, ◌+◌, ◌-◌, min, arith, subst}
use Rattle.sprite_dma.specs.Quiet.{ReadsNothing}
use Rattle.serial_model.specs.Beam.{later_beam}
use Rattle.chip_set.specs.Chips.{WorkingChips}
use Rattle.chip_set.proofs.BusLaws.{no_refresh}
use Rattle.chip_set.proofs.chips.Chips.clocks_beside_planes.Goals as goal

pub returns-clause-leave : goal.returns-clause-leave
returns-clause-leave c begun k below =
    let h : ℕ = c.args.beam.now.h in
    let copper : c.quiet.result ≤ c.copper_rest-copper.result = c.quiet.ensures.most in
    let line : c.copper_rest-copper.result ≤ min c.args.most (225 - h) =
    subst (λ n. c.copper_rest-copper.result ≤ n) c.min.ensures c.copper_rest-copper.ensures.most in
    record {
      inner = omega (arith, c.requires.inner);
      refresh = no_refresh (h + k) (omega (arith, c.if-beam-lt6.false)) (omega (arith, c.if-beam-ge225.false, copper, line, below));
      unit = begun;
      sprites = subst (λ (now : WorkingChips). ReadsNothing (later_beam k c.args.beam.now) now.registers now.kinds) c.self.view_is
          (c.quiet.ensures.quiet k below);
      copper = c.copper_rest-copper.ensures.idle k (omega (arith, below, copper));
    }
