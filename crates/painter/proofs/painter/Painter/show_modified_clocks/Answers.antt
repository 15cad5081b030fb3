use Rattle.std.proofs.Common.{◌∙◌, List, ℕ, ap}
use Rattle.painter.specs.code.Held.{IsHeld}
use Rattle.painter.proofs.painter.Painter.show_modified_clocks.Goals as goal

pub returns-clause-given : goal.returns-clause-given
returns-clause-given c colour is =
    let held : IsHeld c.hold-held.result colour = c.hold-held.ensures colour is in
    record {
      painted = ap (λ (l : List ℕ). record c.args.self.now { held = l })
          (c.bytes_of-self.ensures ∙ (c.put_modified-last.ensures.held colour held).bytes);
      bytes = c.put_modified-last.ensures.bytes colour held;
    }
