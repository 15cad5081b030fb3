use Rattle.std.proofs.Common.{ℕ, ap, ◌∙◌}
use Rattle.ocs_base.specs.declared.addr.Addr.{Addr}
use Rattle.blitter_area.specs.Pointing.{lane_a, lane_b, lane_c, lane_d}
use Rattle.blitter_area.proofs.Walking.{end_is, left}
use Rattle.blitter_area.proofs.area.AreaBlit.regs.Goals as goal

pub returns : goal.returns
returns c = λ s ws h.
    let b = c.args.self.now in
    let p = b.pointers in
    let low : ℕ = c.low_pointer.result in
    ap (λ (x : Addr). left b.start b.words x c.b-regs.result c.c-regs.result c.d-regs.result low) c.a-regs.ensures
    ∙ ap (λ (x : Addr). left b.start b.words (lane_a p).at x c.c-regs.result c.d-regs.result low) c.b-regs.ensures
    ∙ ap (λ (x : Addr). left b.start b.words (lane_a p).at (lane_b p).at x c.d-regs.result low) c.c-regs.ensures
    ∙ ap (λ (x : Addr). left b.start b.words (lane_a p).at (lane_b p).at (lane_c p).at x low) c.d-regs.ensures
    ∙ ap (λ (n : ℕ). left b.start b.words (lane_a p).at (lane_b p).at (lane_c p).at (lane_d p).at n) c.low_pointer.ensures
    ∙ end_is b s ws h
