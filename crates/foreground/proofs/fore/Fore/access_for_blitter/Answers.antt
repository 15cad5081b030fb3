use Rattle.std.proofs.Common.{◌≡◌, sym, subst}
use Rattle.serial_model.specs.Bus.{blit_owner_ask}
use Rattle.chip_set.specs.Chips.{kept_wish}
use Rattle.foreground.specs.Access.{CanAccess}
use Rattle.foreground.specs.Fore.{over}
use Rattle.foreground.proofs.fore.Fore.access_for_blitter.Goals as goal

pub access_by-requires-clause-can : goal.access_by-requires-clause-can
access_by-requires-clause-can g c =
    let asks = subst (λ f. c.blit_ask-ask.result ≡ blit_owner_ask (kept_wish f.machine.chips)) c.self.view_is c.blit_ask-ask.ensures in
    subst (λ a. CanAccess a (over g.S.Side.seen c.args.self.now) (g.Q.Raster.seen c.args.raster.now)) (sym asks) c.requires.can
